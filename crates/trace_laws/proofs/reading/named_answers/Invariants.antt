use Rattle.std.proofs.Common.{length}
use Rattle.trace_laws.specs.Reads.{HasRead}
use Rattle.trace_laws.proofs.reading.named_answers.Given as goal

abbrev pub invariant-loop-answers : goal.invariant-loop-answers
invariant-loop-answers l = HasRead l.trace l.rest l.answers.items

abbrev pub decreases-loop-answers : goal.decreases-loop-answers
decreases-loop-answers l = length l.rest
