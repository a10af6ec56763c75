use Rattle.std.proofs.Common.{◌<◌, length, subst, sym, arith}
use Rattle.hub_state.specs.Found.{SeenFound}
use Rattle.hub_state.proofs.found.Found.note.Goals as goal

pub push_reserved-requires : goal.push_reserved-requires
push_reserved-requires c =
    let h = subst (λ (f : SeenFound). length f.lost < f.room) (sym c.self.view_is) c.requires.lost in
    let r = c.self.invariant.lost in
    omega (arith, h, r)

pub push_reserved-requires-then-holds : goal.push_reserved-requires-then-holds
push_reserved-requires-then-holds c =
    let h = subst (λ (f : SeenFound). length f.gained < f.room) (sym c.self.view_is) c.requires.gained in
    let r = c.self.invariant.gained in
    omega (arith, h, r)
