use Rattle.std.proofs.Common.{◌<◌, length}
use Rattle.trace_laws.specs.Counting.{HasCounted}
use Rattle.trace_laws.proofs.lawful.check_laws.Given as goal

abbrev pub invariant-loop-rest : goal.invariant-loop-rest
invariant-loop-rest l = HasCounted l.trace l.rest l.count l.laws × (length l.trace < 18446744073709551616)

abbrev pub decreases-loop-rest : goal.decreases-loop-rest
decreases-loop-rest l = length l.rest
