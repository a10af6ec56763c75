use Rattle.std.proofs.Common.{◌≡◌, ◌-◌, length}
use Rattle.scenario_grammar.specs.Reading.{expression_at, to_the_end}
use Rattle.scenario_lines.proofs.Counted.{with_front}
use Rattle.scenario_lines.proofs.giving.arguments.Given as goal

abbrev pub invariant-loop : goal.invariant-loop
invariant-loop l = with_front l.arguments (to_the_end expression_at (length l.fn.cursor - l.counter) l.cursor) ≡ to_the_end expression_at (length l.fn.cursor) l.fn.cursor
