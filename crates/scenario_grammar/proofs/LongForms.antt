-- The printed form of a tree of profile 3 may be long.
use Rattle.std.proofs.Common.{◌≡◌, ℕ, ◌≤◌, ◌<◌, ◌+◌, Bool, true, false, nat_eq, List, [], ◌∷◌, ◌++◌, length, take, None, codes, refl, ap, ◌∙◌, arith}
use Rattle.std.specs.List.{slice_split}
use Rattle.std.specs.Cmp.Lexicographic.{pointwise}
use Rattle.std.proofs.lemmas.List.Splits.{length-slice_split}
use Rattle.std.specs.Fmt.{digits}
use Rattle.scenario_grammar.specs.declared.limits.TheConstants.{MOST_LONG_TEXT, MOST_TEXT}
use Rattle.scenario_grammar.specs.declared.phrase.Phrase.TheVariants as phrase
use Rattle.scenario_grammar.specs.Blocks.{TreeLine}
use Rattle.scenario_grammar.specs.Layout.{first_said, is_end, may_be_long, most_bytes, most_of}
use Rattle.scenario_grammar.specs.Phrase.{phrase_tokens}
use Rattle.scenario_grammar.specs.Printed.{printed_tree_lines}

-- a piece with another behind it is a line
said_by : (pieces : List (List ℕ)) → 0 < length pieces → pointwise nat_eq (first_said (codes "profile 3" ∷ pieces)) (codes "profile 3") ≡ true
said_by [] some = absurd (omega (arith, some))
said_by (p ∷ ps) some = refl

long_line : (rest : List ℕ) → may_be_long (codes "profile 3" ++ 10 ∷ rest) ≡ true
long_line rest =
    let pieces = slice_split is_end (take 1048566 rest) in
    said_by pieces (omega (arith, length-slice_split is_end (take 1048566 rest)))

long_form : (rest : List TreeLine) → may_be_long (printed_tree_lines 0 (record { at = None; says = phrase.Profile 3 } ∷ rest)) ≡ true
unfolding phrase_tokens digits
long_form rest = long_line (printed_tree_lines 0 rest)

short_by : (n : ℕ) (long : Bool) → n ≤ MOST_TEXT → n ≤ most_of long
short_by n true h = omega (arith, h)
short_by n false h = h

-- what is no longer than a text of the first two profiles may be is no longer than any
pub within_short : (bytes : List ℕ) → length bytes ≤ MOST_TEXT → length bytes ≤ most_bytes bytes
within_short bytes h = short_by (length bytes) (may_be_long bytes) h

within_long : (n : ℕ) (long : Bool) → long ≡ true → n ≤ MOST_LONG_TEXT → n ≤ most_of long
within_long n true e h = h
within_long n false e h = cc

pub within_form : (bytes : List ℕ) (rest : List TreeLine) → bytes ≡ printed_tree_lines 0 (record { at = None; says = phrase.Profile 3 } ∷ rest) → length bytes ≤ MOST_LONG_TEXT → length bytes ≤ most_bytes bytes
within_form bytes rest form h = within_long (length bytes) (may_be_long bytes) (ap may_be_long form ∙ long_form rest) h
