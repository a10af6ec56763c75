use Rattle.std.proofs.Common.{◌≡◌, ◌-◌, length}
use Rattle.scenario_grammar.specs.Reading.{name_at, to_the_end}
use Rattle.scenario_lines.proofs.Counted.{with_front}
use Rattle.scenario_lines.proofs.phrase.parameters.Given as goal

abbrev pub invariant-loop : goal.invariant-loop
invariant-loop l = with_front l.parameters (to_the_end name_at (length l.fn.cursor - l.counter) l.cursor) ≡ to_the_end name_at (length l.fn.cursor) l.fn.cursor
