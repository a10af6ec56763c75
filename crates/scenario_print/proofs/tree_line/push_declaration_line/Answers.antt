use Rattle.scenario_grammar.specs.declared.phrase.Phrase.TheVariants as phrase
use Rattle.scenario_grammar.specs.Phrase.{phrase_tokens}
use Rattle.scenario_print.proofs.TreeLineLemmas.{outer_line}
use Rattle.scenario_print.proofs.tree_line.push_declaration_line.Goals as goal

pub returns : goal.returns
unfolding phrase_tokens
returns c = outer_line (phrase.Declaration c.args.declaration.now.name c.args.declaration.now.object) c.in_ok-push_object.ensures c.push_line_end.ensures
