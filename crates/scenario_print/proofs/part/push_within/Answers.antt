use Rattle.scenario_grammar.specs.declared.keyword.Keyword.{Keyword}
use Rattle.scenario_grammar.specs.declared.limits.TheConstants.{MOST_MS}
use Rattle.scenario_print.proofs.Words.{in_range, worded}
use Rattle.scenario_print.proofs.part.push_within.Goals as goal

pub returns : goal.returns
returns c = rw (← c.from.ensures) (worded Keyword.Within c.in_ok-push_fixed.ensures (in_range 0 MOST_MS c.push_number.ensures))
