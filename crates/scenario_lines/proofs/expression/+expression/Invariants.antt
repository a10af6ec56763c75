use Rattle.std.proofs.Common.{◌≡◌, ◌+◌, ◌-◌, ◌*◌}
use Rattle.scenario_grammar.specs.Reading.{nested_at, count_at}
use Rattle.scenario_lines.proofs.Counted.{with_front}
use Rattle.scenario_lines.proofs.expression.+expression.Given as goal

abbrev pub decreases-counted : goal.decreases-counted
decreases-counted l = 4 * l.depth + 1

abbrev pub decreases-headed : goal.decreases-headed
decreases-headed l = 4 * l.depth + 3

abbrev pub decreases-of_two : goal.decreases-of_two
decreases-of_two l = 4 * l.depth + 2

abbrev pub decreases-list : goal.decreases-list
decreases-list l = 4 * l.depth + 2

abbrev pub decreases-nested : goal.decreases-nested
decreases-nested l = 4 * l.depth

abbrev pub invariant-counted-loop : goal.invariant-counted-loop
invariant-counted-loop l = with_front l.items (count_at (nested_at l.depth) (l.count - l.counter) l.cursor) ≡ count_at (nested_at l.depth) l.count l.fn.cursor
