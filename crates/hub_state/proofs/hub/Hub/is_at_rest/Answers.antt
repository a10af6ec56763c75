use Rattle.std.proofs.Common.{◌≡◌, ◌∙◌, ap, refl, subst, sym}
use Rattle.std.proofs.lemmas.Bool.{not-true}
use Rattle.machine.specs.Settle.{settle}
use Rattle.machine.specs.State.{State}
use Rattle.hub_state.specs.HubParts.{state_of}
use Rattle.hub_state.specs.Rest.{has_come}
use Rattle.hub_state.proofs.Resting.{nothing_listed, settled_at_rest}
use Rattle.hub_state.proofs.hub.Hub.is_at_rest.Goals as goal

pub returns : goal.returns
returns c = λ t.
    let hub = c.self.inside in
    let ends = sym c.ends.ensures.list ∙ nothing_listed c.ends.result.now c.is_empty.result c.is_empty.ensures c.if-not-is_empty.false in
    let objects = sym c.objects.ensures.list ∙ nothing_listed c.objects.result.now c.is_empty-2.result c.is_empty-2.ensures c.if-not-is_empty-2.false in
    let made = sym c.made.ensures.list ∙ nothing_listed c.made.result.now c.is_empty-else-not-is_empty-2.result c.is_empty-else-not-is_empty-2.ensures c.if-not-is_empty-3.false in
    let none = ap (has_come hub.base.moment.at) (sym c.least_deadline.ensures.unnumbered) ∙ sym c.has_come.ensures ∙ not-true c.has_come.result t in
    subst (λ (s : State). settle s ≡ s) c.self.view_is (settled_at_rest hub.held hub.touched (state_of hub) refl c.self.invariant.kept (sym c.several.ensures ∙ c.if-several.false) ends objects made none)
