use Rattle.std.proofs.Common.{◌≡◌, ◌+◌, ◌-◌, ◌≤◌, ◌++◌}
use Rattle.std.specs.Prelude.{vec_len, vec_capacity}
use Rattle.native_board.specs.Passes.{hub_of, finished, SweepsTo}
use Rattle.native_board.proofs.board.Board.sweep.Given as goal

abbrev pub invariant-loop-at : goal.invariant-loop-at
invariant-loop-at l = (l.hub.seat.table_id ≡ l.fn.hub.seat.table_id) × SweepsTo (hub_of l.fn.hub.seat) (hub_of l.hub.seat) l.at
    × (l.out.items ≡ l.fn.out.items ++ finished (hub_of l.fn.hub.seat).cells (hub_of l.hub.seat).seen)
    × (l.at-end ≡ (hub_of l.fn.hub.seat).made) × (vec_len l.out + (l.at-end - l.at) ≤ vec_capacity l.out) × (vec_capacity l.out ≡ vec_capacity l.fn.out)
