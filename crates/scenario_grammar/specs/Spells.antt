-- When bytes are a text of a tree.
use Rattle.std.specs.Prelude.{◌≡◌, ℕ, Bool, ◌&&◌, not, IsTrue, IfSome, List, [], ◌∷◌, map, Some, codes, nat_eq}
use Rattle.std.specs.List.{list_any}
use Rattle.std.specs.Cmp.Lexicographic.{pointwise}
use Rattle.std.specs.Option.{IsSomeAnd}
use Rattle.scenario_tree.specs.declared.tree.Function.{Function}
use Rattle.scenario_tree.specs.declared.tree.Scenario.{Scenario}
use Rattle.scenario_grammar.specs.Layout.{Line, lines, IsText}
use Rattle.scenario_grammar.specs.Token.{token_in}
use Rattle.scenario_grammar.specs.Phrase.{phrase_tokens}
use Rattle.scenario_grammar.specs.Blocks.{TreeLine, scenario_lines}

-- the words say, in this profile, what the tree has there, on the line that the tree keeps
abbrev pub IsTreeLine : ℕ → Line → TreeLine → Type 0
IsTreeLine profile l r = (phrase_tokens r.says ≡ Some (map (token_in profile) l.words)) × IfSome r.at (λ n. l.number ≡ n)

-- line by line
abbrev pub AreTreeLines : ℕ → List Line → List TreeLine → Type 0
AreTreeLines profile [] [] = Unit {0}
AreTreeLines profile [] (r ∷ rs) = ⊥
AreTreeLines profile (l ∷ ls) [] = ⊥
AreTreeLines profile (l ∷ ls) (r ∷ rs) = IsTreeLine profile l r × AreTreeLines profile ls rs

-- a function of the name `main`, not a raw one
abbrev pub is_main : Function → Bool
is_main f = not f.is_raw && pointwise nat_eq f.name (codes "main")

-- The bytes are a text of the tree: line by line they say what it says, in its profile, and there is a `main`. A tree
-- whose profile is none of 1, 2 and 3 has no text.
pub record Spells (s : Scenario) (bytes : List ℕ) : Type 0 where
  pub text : IsText bytes
  pub tree_lines : IsSomeAnd (scenario_lines s) (AreTreeLines s.profile (lines bytes))
  pub has_main : IsTrue (list_any is_main s.functions)
