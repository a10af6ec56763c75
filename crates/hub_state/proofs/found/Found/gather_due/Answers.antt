use Rattle.std.proofs.Common.{◌≡◌, ◌≤◌, [], length, subst, sym}
use Rattle.hub_state.specs.Found.{SeenFound}
use Rattle.hub_state.proofs.Rooms.{waiting_fit}
use Rattle.hub_state.proofs.found.Found.gather_due.Goals as goal

pub gather_due-requires : goal.gather_due-requires
gather_due-requires c =
    let es = c.args.held.now.entries in
    let none = subst (λ (f : SeenFound). f.gained ≡ []) (sym c.self.view_is) c.requires.none in
    let few = subst (λ (f : SeenFound). length es ≤ f.room) (sym c.self.view_is) c.requires.room in
    waiting_fit es c.self.inside.gained.items c.self.inside.room _ none few c.self.invariant.gained
