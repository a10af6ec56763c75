use Rattle.std.proofs.Common.{◌≡◌, ◌≤◌}
use Rattle.native_board.specs.Boards.{hub_board, hub_view}
use Rattle.native_pool.proofs.pool.wind_down.Given as goal

abbrev pub invariant-loop : goal.invariant-loop
invariant-loop g l = record {
  can : (goal.iterator-loop g).can_next l.iterator';
  finite : (goal.iterator-loop g).is_finite l.iterator';
  board : hub_board l.desk.pass ≡ hub_board l.fn.desk.pass;
  posts : (hub_view l.desk.pass).posts ≡ (hub_view l.fn.desk.pass).posts;
  swept : (hub_view l.fn.desk.pass).sweeps ≤ (hub_view l.desk.pass).sweeps;
  started : l.desk.started.items ≡ l.fn.desk.started.items;
}
