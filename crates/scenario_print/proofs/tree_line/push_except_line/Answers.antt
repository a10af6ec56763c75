use Rattle.scenario_grammar.specs.declared.phrase.Phrase.TheVariants as phrase
use Rattle.scenario_grammar.specs.Phrase.{phrase_tokens}
use Rattle.scenario_print.proofs.TreeLineLemmas.{broken_tree_line, tree_line}
use Rattle.scenario_print.proofs.Words.{through}
use Rattle.scenario_print.proofs.tree_line.push_except_line.Goals as goal

pub returns : goal.returns
unfolding phrase_tokens
returns c = tree_line (phrase.Except c.args.class c.args.n.now) c.in_ok-push_indent.ensures c.in_ok-push_except.ensures c.push_line_end.ensures

pub returns-in_err-push_indent : goal.returns-in_err-push_indent
returns-in_err-push_indent c = broken_tree_line c.from_residual.ensures.0 c.in_err-push_indent.ensures.front

pub returns-in_err-push_except : goal.returns-in_err-push_except
returns-in_err-push_except c = broken_tree_line c.from_residual-in_err-push_except.ensures.0 (through _ _ _ c.in_err-push_except.ensures.front c.in_ok-push_indent.ensures.front)
