use Rattle.std.proofs.Common.{subst, inl, inr, ℕ}
use Rattle.native_pool.specs.Desks.{CanTake}
use Rattle.native_pool.specs.Views.{desk_view}
use Rattle.native_pool.proofs.DeskSteps.{fills_trans, below_or_here}
use Rattle.native_pool.proofs.desk.Desk.fill.Goals as goal

pub loop-cell-preserved : goal.loop-cell-preserved
loop-cell-preserved c = let more = c.fill_cell.ensures.fills in let was = c.loop-cell.invariant in (
  fills_trans _ _ _ was.0 more,
  λ i l t. elim (below_or_here i c.loop-cell.cell l) [
    | inl below ↦ more.empty (was.1 i below (more.takes i t))
    | inr here ↦ c.fill_cell.ensures.used (subst (λ (m : ℕ). CanTake (desk_view c.fill_cell.new.self) m) here t)
  ],
)
