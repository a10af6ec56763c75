use Rattle.scenario_grammar.specs.declared.phrase.Phrase.TheVariants as phrase
use Rattle.scenario_grammar.specs.Phrase.{phrase_tokens}
use Rattle.scenario_print.proofs.TreeLineLemmas.{outer_line}
use Rattle.scenario_print.proofs.tree_line.push_function_line.Goals as goal

pub returns : goal.returns
unfolding phrase_tokens
returns c = outer_line (phrase.Function c.args.function.now.is_raw c.args.function.now.name c.args.function.now.parameters) (rw (← c.as_slice.ensures) c.in_ok-push_head.ensures) c.push_line_end.ensures
