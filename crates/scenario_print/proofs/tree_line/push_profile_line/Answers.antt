use Rattle.scenario_grammar.specs.declared.phrase.Phrase.TheVariants as phrase
use Rattle.scenario_grammar.specs.Phrase.{phrase_tokens}
use Rattle.scenario_print.proofs.TreeLineLemmas.{outer_line}
use Rattle.scenario_print.proofs.Words.{line}
use Rattle.scenario_print.proofs.tree_line.push_profile_line.Goals as goal

pub returns : goal.returns
unfolding phrase_tokens
returns c = rw (← c.from.ensures) (outer_line (phrase.Profile c.from.result) (line (c.in_ok-start_number.ensures.words 2 3)) c.push_line_end.ensures)
