use Rattle.std.proofs.Common.{◌≡◌}
use Rattle.native_board.specs.Boards.{hub_board}
use Rattle.world_tests.proofs.board.lead_until_all.Given as goal

abbrev pub invariant-loop : goal.invariant-loop
invariant-loop g l =
    (goal.iterator-loop g).can_next l.iterator' × (goal.iterator-loop g).is_finite l.iterator' × (hub_board l.hub ≡ hub_board l.fn.hub)
