-- What appended lines are.
use Rattle.std.specs.Prelude.{◌≡◌, ℕ, suc, ◌+◌, ◌*◌, ◌≤◌, List, [], ◌∷◌, ◌++◌, replicate, Some, Result, OnOk, IsTrue}
use Rattle.std.specs.List.{list_all}
use Rattle.std.specs.Option.{IsSome}
use Rattle.gv_values.specs.Fronts.{BeginsWith}
use Rattle.scenario_tree.specs.declared.tree.Except.{Except}
use Rattle.scenario_tree.specs.declared.tree.Scenario.{Scenario}
use Rattle.scenario_tree.specs.declared.tree.Statement.{Statement}
use Rattle.scenario_grammar.specs.declared.keyword.Keyword.{Keyword}
use Rattle.scenario_grammar.specs.declared.phrase.Phrase.{Phrase}
use Rattle.scenario_grammar.specs.Blocks.{TreeLine, block_within, except_lines, statement_lines}
use Rattle.scenario_grammar.specs.declared.limits.TheConstants.{MOST_LEVELS}
use Rattle.scenario_grammar.specs.Keyword.{spelling}
use Rattle.scenario_grammar.specs.Phrase.{phrase_tokens}
use Rattle.scenario_grammar.specs.Printed.{printed, printed_tree_lines, words_of}
use Rattle.scenario_grammar.specs.Token.{Written, each}
use Rattle.scenario_print.specs.Texts.{has_words, HasText}

-- a line with its blanks and its end
abbrev pub line_text : ℕ → List ℕ → List ℕ
line_text level words = replicate (2 * level) 32 ++ words ++ 10 ∷ []

-- the line of this phrase, where it has words
pub record WroteTreeLine {T E : Type 0} (old new : List ℕ) (done : Result T E) (level : ℕ) (p : Phrase) : Type 0 where
  pub text : OnOk done (IsSome (phrase_tokens p) → new ≡ old ++ line_text level (words_of (phrase_tokens p)))
  pub front : BeginsWith new old

-- a line of one fixed word
pub record WroteFixedLine {T E : Type 0} (old new : List ℕ) (done : Result T E) (level : ℕ) (k : Keyword) : Type 0 where
  pub text : OnOk done (new ≡ old ++ line_text level (spelling k))
  pub front : BeginsWith new old

-- What is to be printed behind old is what is left to be printed behind new, where all lines have words.
abbrev pub AreLaid : List ℕ → List ℕ → ℕ → ℕ → Written TreeLine → Type 0
AreLaid old new from to tree_lines = (rs : List TreeLine) → tree_lines ≡ Some rs → IsTrue (list_all has_words rs) → (rest : List TreeLine) → old ++ printed_tree_lines from (rs ++ rest) ≡ new ++ printed_tree_lines to rest

-- the lines of a part of a tree, from one level to another
pub record Laid {T E : Type 0} (old new : List ℕ) (done : Result T E) (from to : ℕ) (tree_lines : Written TreeLine) : Type 0 where
  pub lines : OnOk done (AreLaid old new from to tree_lines)
  pub front : BeginsWith new old

-- the level inside a block on this level; a tree that has a text has `MOST_LEVELS` levels at most
abbrev pub Deeper : ℕ → ℕ → Type 0
Deeper level inner = level ≤ MOST_LEVELS → inner ≡ level + 1

-- the lines of a block on this level
pub record WroteBlock {T E : Type 0} (old new : List ℕ) (done : Result T E) (level : ℕ) (statements : List Statement) : Type 0 where
  pub lines : (levels : ℕ) → level + levels ≤ suc MOST_LEVELS → OnOk done (AreLaid old new level level (block_within levels statements))
  pub front : BeginsWith new old

-- the lines of a statement on this level, which has so many levels below it at most
pub record WroteStatement {T E : Type 0} (old new : List ℕ) (done : Result T E) (level : ℕ) (s : Statement) : Type 0 where
  pub lines : (levels : ℕ) → level + suc levels ≤ suc MOST_LEVELS → OnOk done (AreLaid old new level level (statement_lines (block_within levels) s))
  pub front : BeginsWith new old

-- the excepts of a statement on this level, with their blocks
pub record WroteExcepts {T E : Type 0} (old new : List ℕ) (done : Result T E) (level : ℕ) (excepts : List Except) : Type 0 where
  pub lines : (levels : ℕ) → level + suc levels ≤ suc MOST_LEVELS → OnOk done (AreLaid old new (level + 1) (level + 1) (each (except_lines (block_within levels)) excepts))
  pub front : BeginsWith new old

-- the lines of a tree, from the outermost level to the outermost
pub record WroteScenario {T E : Type 0} (old new : List ℕ) (done : Result T E) (s : Scenario) : Type 0 where
  pub text : OnOk done (HasText s → new ≡ old ++ printed s)
  pub front : BeginsWith new old
