-- The front of a text, and the tokens of a line's words.
use Rattle.std.specs.Prelude.{ℕ, Bool, ◌&&◌, not, nat_le, if◌then◌else◌, List, map, Option, Some, None, position, slice_index}
use Rattle.std.specs.List.{list_all, slice_split}
use Rattle.scenario_grammar.specs.declared.token.Token.{Token}
use Rattle.scenario_grammar.specs.Layout.{Word, is_blank, is_empty, is_end}
use Rattle.scenario_grammar.specs.Token.{token_in}
use Rattle.scenario_lines.specs.declared.layout.Front.{Front}
use Rattle.scenario_lines.specs.declared.layout.Front.TheVariants as front

-- a text byte that is not LF
abbrev pub is_printable : ℕ → Bool
is_printable b = nat_le 32 b && nat_le b 126

-- up to the first byte that is not printable
abbrev pub front_of : List ℕ → Front
front_of bytes = elim (position (λ b. not (is_printable b)) bytes) [
  | None ↦ front.NotEnded
  | Some at ↦ if is_end (slice_index bytes at) then front.Line at else front.NotPrintable
]

-- what the words are in this profile, none where one is empty
abbrev pub tokens_if_spaced : ℕ → List Word → Option (List Token)
tokens_if_spaced profile words = if list_all (λ word. not (is_empty word)) words then Some (map (token_in profile) words) else None

-- none where a word is empty: two blanks stand between two words, or one at an end
unfoldable pub spaced_tokens : ℕ → List ℕ → Option (List Token)
spaced_tokens profile text = tokens_if_spaced profile (slice_split is_blank text)
