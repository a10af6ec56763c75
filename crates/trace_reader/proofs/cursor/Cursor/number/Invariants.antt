use Rattle.std.proofs.Common.{◌≡◌, length}
use Rattle.trace_reader.specs.Fronts.{number_on}
use Rattle.trace_reader.proofs.cursor.Cursor.number.Given as goal

abbrev pub invariant-loop-self : goal.invariant-loop-self
invariant-loop-self l = number_on l.number l.self-inside.rest.now ≡ number_on 0 l.fn.self

abbrev pub decreases-loop-self : goal.decreases-loop-self
decreases-loop-self l = length l.self-inside.rest.now
