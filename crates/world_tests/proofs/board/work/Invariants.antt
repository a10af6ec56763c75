use Rattle.std.proofs.Common.{◌≡◌}
use Rattle.native_board.specs.declared.views.WorkerStage.TheVariants.{Idle}
use Rattle.native_board.specs.Boards.{worker_board, worker_view}
use Rattle.world_tests.proofs.board.work.Given as goal

abbrev pub invariant-loop : goal.invariant-loop
invariant-loop g l =
    (goal.iterator-loop g).can_next l.iterator' × (goal.iterator-loop g).is_finite l.iterator' × (worker_board l.pass ≡ worker_board l.fn.pass) × ((worker_view l.pass).stage ≡ Idle)
