use Rattle.std.proofs.Common.{◌≡◌, ◌-◌}
use Rattle.trace_reader.specs.ValueFronts.{scalars_on, list_front}
use Rattle.trace_reader.specs.Ranges.{ScalarsFit}
use Rattle.trace_reader.proofs.values.read_list.Given as goal
use Rattle.gv_values.specs.declared.limits.TheConstants.{MOST_ELEMENTS}

abbrev pub invariant-loop : goal.invariant-loop
invariant-loop l = (scalars_on l.list (MOST_ELEMENTS - l.counter) l.cursor ≡ list_front l.fn.cursor) × ScalarsFit l.list
