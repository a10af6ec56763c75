use Rattle.std.proofs.Common.{take}
use Rattle.scenario_check.specs.Sorting.{IsSortedOf}
use Rattle.scenario_check.proofs.different.sort_names.Given as goal

abbrev pub invariant-loop-named : goal.invariant-loop-named
invariant-loop-named l = IsSortedOf l.sorted (take l.named-index l.list)
