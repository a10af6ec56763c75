-- The rule of the board leaves no result behind a lowered signal.
use Rattle.std.proofs.Common.{◌≡◌, ◌⊎◌, ℕ, ◌≤◌, length, sym, subst}
use mathlib.Core.Option.{some}
use lib.ListN.{get_elem?}
use Rattle.gv_values.specs.declared.job.Job.{Job}
use Rattle.native_board.specs.declared.views.Ended.{Ended}
use Rattle.native_board.specs.declared.views.Signal.{Signal}
use Rattle.native_board.specs.declared.views.Signal.TheVariants.{High}
use Rattle.native_board.specs.declared.views.CellState.{CellState}
use Rattle.native_board.specs.declared.views.CellState.TheVariants.{Done}
use Rattle.native_board.specs.declared.views.HubCell.{HubCell}
use Rattle.native_board.specs.declared.views.HubCell.TheVariants.{Sent}
use Rattle.native_board.specs.declared.views.HubView.{HubView}
use Rattle.native_board.specs.declared.views.WorkerStage.{WorkerStage}
use Rattle.native_board.specs.declared.views.WorkerStage.TheVariants.{Owes}
use Rattle.native_board.specs.declared.views.View.TheVariants.{Worker}
use Rattle.native_board.specs.Words.{CellWords, state_in, cell_words, ended_of, signed_in, value_of}
use Rattle.native_board.specs.Rules.{CellRule, NoLost, hub_cell, signal_of, Kept}
use Rattle.native_board.specs.Lost.{NothingIsLost}
use Rattle.world_rules.specs.Evaluate.{eval}
use Rattle.native_board.proofs.Moves.{St, hub_there, worker_seat}

abbrev Found : Signal → ℕ → ℕ → CellWords → WorkerStage → Job → Ended → Type 0
Found g n i c w j e = ((g ≡ High) ⊎ ((w ≡ Owes) ⊎ (n ≤ i))) × (e ≡ ended_of (eval j)) × (signed_in c.value ≡ value_of (eval j))

in_row : (g : Signal) (n i : ℕ) (c : CellWords) (st : CellState) (x : HubCell) (w : WorkerStage) (k : ℕ) (j : Job) (e : Ended) → x ≡ Sent k j → st ≡ Done e
    → CellRule c st x w → NoLost g n i st x w → Found g n i c w j e
in_row g n i c st x w k j e is_sent is_done row lost =
    let P : CellState → HubCell → Type 0 = λ s y. CellRule c s y w × NoLost g n i s y w in
    let t : CellRule c (Done e) (Sent k j) w × NoLost g n i (Done e) (Sent k j) w = subst (λ y. P (Done e) y) is_sent (subst (λ s. P s x) is_done (row, lost)) in
    (t.1, t.0.1, t.0.2)

pub nothing_lost : (s : St) → Kept s → NothingIsLost s
nothing_lost s r a b h w at_hub at_worker =
    let hub = hub_there s r a h at_hub in
    let seat = worker_seat r.hub r.workers b w (subst (λ vs. get_elem? vs b ≡ some (Worker w)) r.views_are at_worker) in
    let mine = r.started seat.0 w seat.2 in
    subst (λ (z : HubView × ℕ). (k : ℕ) (j : Job) (e : Ended) → hub_cell z.0 z.1 ≡ Sent k j → state_in (cell_words s.words z.1).state ≡ Done e
    → Found (signal_of s.words) (length z.0.seen) z.1 (cell_words s.words z.1) w.stage j e) (λ i. (sym hub.1 i, sym mine.0 i))
    (λ k j e is_sent is_done. in_row (signal_of s.words) (length r.hub.seen) seat.0 (cell_words s.words seat.0) _ _ w.stage k j e is_sent is_done mine.1.0 mine.1.1)
