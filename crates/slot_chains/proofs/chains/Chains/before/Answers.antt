use Rattle.std.proofs.Common.{◌≡◌, ◌≤◌, ◌∙◌, sym, ap, get_or, length, List, None}
use Rattle.std.proofs.lemmas.List.{get_or_past}
use Rattle.slot_chains.specs.declared.chains.Neighbours.{Neighbours}
use Rattle.slot_chains.specs.Tables.{SeenChains, neighbours, around_of}
use Rattle.slot_chains.proofs.Chaining.{before_is}
use Rattle.slot_chains.proofs.chains.Chains.before.Goals as goal

pub returns-in-Some : goal.returns-in-Some
returns-in-Some c = λ f key xs ys a e.
    let same : get_or c.deref.result.now c.args.slot (neighbours None None) ≡ around_of c.args.self.now.around c.args.slot =
    ap (λ (t : List Neighbours). around_of t c.args.slot) (c.deref.ensures.value ∙ ap (λ (t : SeenChains). t.around) c.self.view_is) in
    c.slot.ensures ∙ ap (λ (n : Neighbours). n.before) (c.in-Some.ensures.lookup.3.1 (neighbours None None) ∙ same) ∙ before_is c.args.self.now f key c.args.slot xs ys a e

pub returns-in-None : goal.returns-in-None
returns-in-None c = λ f key xs ys a e.
    let past : length c.deref.result.now ≤ c.args.slot = c.in-None.ensures.lookup.3 in
    let same : neighbours None None ≡ around_of c.args.self.now.around c.args.slot =
    sym (get_or_past c.deref.result.now c.args.slot (neighbours None None) past)
    ∙ ap (λ (t : List Neighbours). around_of t c.args.slot) (c.deref.ensures.value ∙ ap (λ (t : SeenChains). t.around) c.self.view_is) in
    ap (λ (n : Neighbours). n.before) same ∙ before_is c.args.self.now f key c.args.slot xs ys a e
