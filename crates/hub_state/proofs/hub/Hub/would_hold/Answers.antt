use Rattle.std.proofs.Common.{ap, sym, ◌∙◌}
use Rattle.machine.specs.Holds.{delivery_holds}
use Rattle.machine.specs.State.{State}
use Rattle.hub_state.specs.HubParts.{state_of}
use Rattle.hub_state.proofs.Classes.{none_before}
use Rattle.hub_state.proofs.hub.Hub.would_hold.Goals as goal

pub returns-in-Wake : goal.returns-in-Wake
returns-in-Wake c = let s = c.args.self.now in c.holds_last.ensures ∙ ap (delivery_holds s s.next_since) (sym c.in-Wake.is)

pub returns-in_default : goal.returns-in_default
returns-in_default c =
    let s = c.args.self.now in
    let t = state_of c.self.inside in
    let d = c.args.delivery.now in
    let n = c.next_since.result in
    c.delivery_holds.ensures c.self.inside.held (none_before t n d c.in_default.not-Wake) ∙ ap (λ (r : State). delivery_holds r n d) c.self.view_is
    ∙ ap (λ m. delivery_holds s m d) (c.next_since.ensures ∙ ap (λ (r : State). r.next_since) c.self.view_is)
