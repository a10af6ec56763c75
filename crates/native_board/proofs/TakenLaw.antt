-- The rule of the board lets no job be taken twice.
use Rattle.std.proofs.Common.{◌≡◌, ℕ, ◌+◌, ◌≤◌, sym, subst, arith}
use mathlib.Core.Option.{some}
use lib.ListN.{get_elem?}
use Rattle.native_board.specs.declared.views.CellState.{CellState}
use Rattle.native_board.specs.declared.views.CellState.TheVariants.{Posted}
use Rattle.native_board.specs.declared.views.HubView.{HubView}
use Rattle.native_board.specs.declared.views.WorkerStage.{WorkerStage}
use Rattle.native_board.specs.declared.views.WorkerStage.TheVariants.{Idle, Owes}
use Rattle.native_board.specs.declared.views.View.TheVariants.{Worker}
use Rattle.native_board.specs.Words.{state_in, cell_words}
use Rattle.native_board.specs.Rules.{untaken, posts_at, Kept}
use Rattle.native_board.specs.Taken.{TakenOnce}
use Rattle.native_board.proofs.Moves.{St, hub_there, worker_seat}

one_at_most : (st : CellState) (w : WorkerStage) → untaken st w ≤ 1
one_at_most Posted Idle = omega arith
one_at_most Posted Owes = omega arith
one_at_most Posted w = omega arith
one_at_most st w = omega arith

pub taken_once : (s : St) → Kept s → TakenOnce s
taken_once s r a b h w at_hub at_worker =
    let hub = hub_there s r a h at_hub in
    let seat = worker_seat r.hub r.workers b w (subst (λ vs. get_elem? vs b ≡ some (Worker w)) r.views_are at_worker) in
    let mine = r.started seat.0 w seat.2 in
    let count : posts_at r.hub seat.0 ≡ w.takes + untaken (state_in (cell_words s.words seat.0).state) w.stage = mine.1.2 in
    let few = one_at_most (state_in (cell_words s.words seat.0).state) w.stage in
    subst (λ (z : HubView × ℕ). (w.takes ≤ posts_at z.0 z.1) × (posts_at z.0 z.1 ≤ w.takes + 1)) (λ i. (sym hub.1 i, sym mine.0 i)) (omega arith, omega arith)
