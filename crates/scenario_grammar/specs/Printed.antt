-- The printed form.
use Rattle.std.specs.Prelude.{ℕ, ◌+◌, ◌-◌, ◌*◌, Bool, true, false, if◌then◌else◌, List, [], ◌∷◌, ◌++◌, map, replicate, Option, Some, None}
use Rattle.std.specs.List.{join_with_byte}
use Rattle.scenario_tree.specs.declared.tree.Scenario.{Scenario}
use Rattle.scenario_grammar.specs.declared.phrase.Phrase.{Phrase}
use Rattle.scenario_grammar.specs.declared.phrase.Phrase.TheVariants as phrase
use Rattle.scenario_grammar.specs.declared.token.Token.{Token}
use Rattle.scenario_grammar.specs.Token.{token_word}
use Rattle.scenario_grammar.specs.Phrase.{phrase_tokens}
use Rattle.scenario_grammar.specs.Blocks.{TreeLine, scenario_lines}

-- it closes a block, or the part of a block before it
abbrev pub is_closing : Phrase → Bool
is_closing phrase.Else = true
is_closing (phrase.Except c n) = true
is_closing phrase.Finally = true
is_closing phrase.End = true
is_closing _ = false

-- it opens a block, or a further part of one
abbrev pub is_opening : Phrase → Bool
is_opening (phrase.Function is_raw n parameters) = true
is_opening (phrase.If e) = true
is_opening phrase.Else = true
is_opening (phrase.While e) = true
is_opening phrase.Try = true
is_opening (phrase.Except c n) = true
is_opening phrase.Finally = true
is_opening (phrase.Timeout after silent) = true
is_opening _ = false

-- one level less where it closes
abbrev pub less_if : Bool → ℕ → ℕ
less_if closes level = if closes then level - 1 else level

-- one level more where it opens
abbrev pub more_if : Bool → ℕ → ℕ
more_if opens level = if opens then level + 1 else level

-- the words, with one blank between two
abbrev pub words_of : Option (List Token) → List ℕ
words_of None = []
words_of (Some tokens) = join_with_byte 32 (map token_word tokens)

-- two blanks per open block
abbrev pub printed_tree_lines : ℕ → List TreeLine → List ℕ
printed_tree_lines level [] = []
printed_tree_lines level (r ∷ rs) =
    let here = less_if (is_closing r.says) level in
    replicate (2 * here) 32 ++ words_of (phrase_tokens r.says) ++ 10 ∷ printed_tree_lines (more_if (is_opening r.says) here) rs

-- the tree_lines from the outermost level on
abbrev pub printed_if : Option (List TreeLine) → List ℕ
printed_if None = []
printed_if (Some tree_lines) = printed_tree_lines 0 tree_lines

-- the text of a tree with its own leading blanks, and no line that carries nothing
unfoldable pub printed : Scenario → List ℕ
printed s = printed_if (scenario_lines s)
