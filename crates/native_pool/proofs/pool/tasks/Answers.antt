use Rattle.std.proofs.Common.{rules, arith, ◌≡◌, ◌+◌, ap, sym, ◌∙◌}
use Rattle.std.proofs.lemmas.Grind.{common_steps}
use Rattle.native_board.specs.Boards.{worker_view}
use Rattle.native_board.specs.Given.{next_cell}
use Rattle.native_pool.specs.Pools.{numbers_from}
use Rattle.native_pool.proofs.StartSteps.{cells_more}
use Rattle.native_pool.proofs.pool.tasks.Goals as goal

pub loop-pass-preserved : goal.loop-pass-preserved
loop-pass-preserved g c = record {
  board = search rules;
  left = grind (arith, common_steps);
  cells =
      let next : next_cell c.next.new.self ≡ next_cell c.loop-pass.passes + 1 = search rules in
      let one : (worker_view c.new-task.result.pass).cell ≡ next_cell c.loop-pass.passes = c.new-task.ensures ∙ ap (λ v. v.cell) c.in-Some.ensures.pass.view in
      cells_more (λ task. (worker_view task.pass).cell) c.loop-pass.tasks.items c.push.new.self.items c.new-task.result (next_cell c.loop-pass.passes) c.in_ok-push.ensures.items c.loop-pass.invariant.cells one
      ∙ ap (numbers_from 0) (sym next);
  count = grind (arith, common_steps);
}
