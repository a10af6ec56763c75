use Rattle.std.proofs.Common.{ap, sym, subst, ◌∙◌, ℕ, length}
use Rattle.machine.specs.Holds.{earlier, wait_holds}
use Rattle.machine.specs.State.{State}
use Rattle.held_items.specs.Entries.{flat}
use Rattle.hub_items.specs.Lines.{IsAhead}
use Rattle.hub_state.proofs.hub.Hub.holds_last.Goals as goal

pub returns : goal.returns
returns c =
    let held = c.self.inside.held in
    let objects = c.self.inside.base.objects in
    let w = c.args.waiting.now in
    let before = c.ahead_of_last-before.result in
    let same = c.next_since.ensures in
    let ahead = subst (λ (n : ℕ). IsAhead before (length objects) (λ test. earlier test n (flat held.entries)) w) (sym same) (c.ahead_of_last-before.ensures (length objects)) in
    c.wait_holds.ensures held ahead ∙ ap (λ (s : State). wait_holds s c.next_since.result w) c.self.view_is ∙ ap (λ m. wait_holds c.args.self.now m w) (same ∙ ap (λ (t : State). t.next_since) c.self.view_is)
