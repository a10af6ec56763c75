use Rattle.std.proofs.Common.{◌≡◌, ℕ, ◌<◌, ◌≤◌}
use Rattle.native_board.specs.declared.views.HubCell.TheVariants.{Stopped}
use Rattle.native_board.specs.Boards.{hub_board, hub_view}
use Rattle.native_board.specs.Rules.{hub_cell}
use Rattle.native_board.specs.Passes.{KnowsFree}
use Rattle.native_pool.proofs.desk.Desk.stop.Given as goal

abbrev pub invariant-loop-cell : goal.invariant-loop-cell
invariant-loop-cell l = let old = hub_view l.fn.self.pass in let new = hub_view l.pass in record {
  board : hub_board l.pass ≡ hub_board l.fn.self.pass;
  sweeps : new.sweeps ≡ old.sweeps;
  posts : new.posts ≡ old.posts;
  made : new.made ≡ old.made;
  stopped : (i : ℕ) → i < l.cell → KnowsFree old i → hub_cell new i ≡ Stopped;
  left : (i : ℕ) → l.cell ≤ i → hub_cell new i ≡ hub_cell old i;
}
