use Rattle.std.proofs.Common.{◌≡◌, ℕ, ◌<◌, []}
use Rattle.native_pool.specs.Desks.{CanTake, Fills}
use Rattle.native_pool.specs.Views.{desk_view}
use Rattle.native_pool.proofs.desk.Desk.fill.Given as goal

abbrev pub invariant-loop-cell : goal.invariant-loop-cell
invariant-loop-cell l =
    Fills (desk_view l.fn.self) (desk_view l.self) × ((i : ℕ) → i < l.cell → CanTake (desk_view l.self) i → (desk_view l.self).waiting ≡ [])
