use Rattle.std.proofs.Common.{rules, arith, ap, length, ◌∙◌, ◌≡◌, ◌+◌, sym, length-append}
use Rattle.std.proofs.lemmas.List.{length-replicate}
use Rattle.std.specs.Prelude.{slice_get}
use Rattle.native_board.specs.Plays.{with_worker, new_worker}
use Rattle.native_board.specs.Boards as boards
use Rattle.native_board.specs.Passes.{worker_in}
use Rattle.native_board.proofs.PassesKeep.{each_snoc}
use Rattle.native_board.specs.Made.{IsFresh}
use Rattle.native_board.specs.declared.views.HubCell.TheVariants.{Vacant}
use Rattle.native_board.proofs.StepsKeep.{opens, splits_worker}
use Rattle.native_board.proofs.board.Board.new.Goals as goal

pub of_words-requires : goal.of_words-requires
of_words-requires c = search (rules, opens c.args.cells)

pub split_seat-worker-requires : goal.split_seat-worker-requires
split_seat-worker-requires c = let i = c.loop-cell.invariant in let len = length-replicate c.args.cells Vacant in let more = c.loop-cell-test.true in
    (i.0, search rules, splits_worker _ _ _ (ap (λ m. m.0) i.1) (omega arith))

pub loop-cell-preserved : goal.loop-cell-preserved
loop-cell-preserved c = let i = c.loop-cell.invariant in let e = c.split_seat-worker.ensures in let items = c.in_ok-push_back.ensures.items in let z = c.in_ok-table.table.shared.table_id in
    let now : c.loop-cell.cell ≡ 0 + length c.loop-cell.passes.items = (let same = i.2 in omega arith) in (
      e.0 ∙ i.0,
      e.2 ∙ (λ k. (with_worker (i.1 k).0, (i.1 k).1)),
      ap length items ∙ (length-append c.loop-cell.passes.items _ ∙ ap (λ n. n + 1) i.2),
      λ k p at. each_snoc (IsFresh z) c.loop-cell.passes.items _ 0 (record { board = e.3 ∙ i.0; view = ap (λ m. worker_in m.0) e.4 ∙ ((λ k. worker_in (new_worker (i.1 k).0)) ∙ (λ k. boards.new_worker (now k))) }) i.3 k p (ap (λ l. slice_get l k) (sym items) ∙ at),
    )
