use Rattle.std.proofs.Common.{◌≡◌}
use Rattle.machine.specs.Bodies.{around, goes}
use Rattle.body_frames.specs.Few.{HasFewUnwound}
use Rattle.body_frames.specs.Steady.{HasMove}
use Rattle.body_frames.specs.Standings.{goes_from}
use Rattle.body_frames.proofs.frame.go_on.Given as goal

abbrev pub invariant-moves : goal.invariant-moves
invariant-moves g l = record {
  same :
      goes l.initial.moves (around l.fn.context.code.now (g.L.Look.answers l.fn.context.look.now)) (goes_from l.fn.context.blocks.now l.fn.at l.initial.stack)
      ≡ goes l.moves (around l.fn.context.code.now (g.L.Look.answers l.fn.context.look.now)) (goes_from l.fn.context.blocks.now l.at l.stack);
  steady : HasMove (goes_from l.fn.context.blocks.now l.at l.stack);
  few : HasFewUnwound (goes_from l.fn.context.blocks.now l.at l.stack);
}

abbrev pub decreases-moves : goal.decreases-moves
decreases-moves g l = l.moves
