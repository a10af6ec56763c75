use Rattle.std.proofs.Common.{rules, arith, ◌≡◌, ◌<◌, ◌∷◌, length}
use Rattle.std.proofs.lemmas.Grind.{common_steps}
use Rattle.native_board.specs.Boards.{worker_view}
use Rattle.native_pool.proofs.StartSteps.{told_more, started_more, risen_more, first_off}
use Rattle.native_pool.proofs.pool.start_all.Goals as goal

pub loop-spawner-preserved : goal.loop-spawner-preserved
loop-spawner-preserved g c =
    let was = c.loop-spawner.invariant in let starts = c.loop-spawner.starts.items in let more = c.push_reserved-in-loop-spawner.new.self.items in
    let start = c.start-start.result in let pushed = c.push_reserved-in-loop-spawner.ensures.items in let told = c.start-start.ensures in
    let some : 0 < length c.loop-spawner.tasks.items = grind (arith, common_steps) in
    let taken : c.loop-spawner.tasks.items ≡ c.remove.result ∷ c.remove.new.self.items =
    first_off c.loop-spawner.tasks.items c.remove.new.self.items c.remove.result some c.remove.ensures.value c.remove.ensures.items in
    let rises = told.count in let count = was.count in record {
      starts = search rules;
      counted = search rules;
      started_fits = search rules;
      cells = told_more g.S.Spawner.running_cell g.S.Spawner.refused_cell starts more start (λ task. (worker_view task.pass).cell) c.loop-spawner.tasks.items c.remove.new.self.items c.remove.result _
          pushed taken told.running told.refused was.cells;
      started = started_more g.S.Spawner.running_cell g.S.Spawner.refused_cell starts more start c.loop-spawner.started.items c.push_reserved.new.self.items pushed (search rules) was.started;
      risen = risen_more g.S.Spawner.running_cell g.S.Spawner.refused_cell starts more start (g.S.Spawner.refusals c.args.spawner.now) (g.S.Spawner.refusals c.loop-spawner.spawner)
          (g.S.Spawner.refusals c.start-start.new.self) pushed count rises told.cause was.risen;
      count = omega (arith, rises, count);
    }
