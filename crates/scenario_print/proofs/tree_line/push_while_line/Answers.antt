use Rattle.scenario_grammar.specs.declared.phrase.Phrase.TheVariants as phrase
use Rattle.scenario_grammar.specs.Phrase.{phrase_tokens}
use Rattle.scenario_print.proofs.TreeLineLemmas.{broken_tree_line, tree_line}
use Rattle.scenario_print.proofs.Words.{line, through}
use Rattle.scenario_print.proofs.tree_line.push_while_line.Goals as goal

pub returns : goal.returns
unfolding phrase_tokens
returns c = tree_line (phrase.While c.args.e.now) c.in_ok-push_indent.ensures (line c.in_ok-start_expression.ensures) c.push_line_end.ensures

pub returns-in_err-push_indent : goal.returns-in_err-push_indent
returns-in_err-push_indent c = broken_tree_line c.from_residual.ensures.0 c.in_err-push_indent.ensures.front

pub returns-in_err-start_expression : goal.returns-in_err-start_expression
returns-in_err-start_expression c = broken_tree_line c.from_residual-in_err-start_expression.ensures.0 (through _ _ _ c.in_err-start_expression.ensures.front c.in_ok-push_indent.ensures.front)
