-- Trees that have a text.
use Rattle.std.specs.Prelude.{Bool, IsTrue}
use Rattle.std.specs.List.{list_all}
use Rattle.std.specs.Option.{is_some, IsSomeAnd}
use Rattle.scenario_tree.specs.declared.tree.Scenario.{Scenario}
use Rattle.scenario_grammar.specs.Blocks.{TreeLine, scenario_lines}
use Rattle.scenario_grammar.specs.Phrase.{phrase_tokens}

-- what the line says has words
abbrev pub has_words : TreeLine → Bool
has_words r = is_some (phrase_tokens r.says)

-- Each line of the tree has words, so the tree has a text, however long.
abbrev pub HasText : Scenario → Type 0
HasText s = IsSomeAnd (scenario_lines s) (λ tree_lines. IsTrue (list_all has_words tree_lines))
