-- The layout of a text: bytes, lines, words.
use Rattle.std.specs.Prelude.{ℕ, ◌+◌, ◌≤◌, Bool, true, false, ◌&&◌, ◌||◌, not, IsTrue, nat_eq, nat_le, nat_lt, ◌==◌, if◌then◌else◌, List, [], ◌∷◌, codes, length, take}
use Rattle.std.specs.List.{list_all, slice_split}
use Rattle.std.specs.Cmp.Lexicographic.{pointwise}
use Rattle.scenario_grammar.specs.declared.limits.TheConstants.{MOST_LONG_TEXT, MOST_TEXT}

-- bytes without a blank
abbrev pub Word : Type 0
Word = List ℕ

-- a line that carries something: its number from 1, and its words
pub record Line : Type 0 where
  pub number : ℕ
  pub words : List Word

-- the one blank
abbrev pub is_blank : ℕ → Bool
is_blank b = b == 32

-- LF
abbrev pub is_end : ℕ → Bool
is_end b = b == 10

-- LF or printable ASCII
abbrev pub is_text_byte : ℕ → Bool
is_text_byte b = b == 10 || nat_le 32 b && nat_le b 126

-- without the leading blanks
abbrev pub drop_blanks : List ℕ → List ℕ
drop_blanks [] = []
drop_blanks (b ∷ bs) = if is_blank b then drop_blanks bs else b ∷ bs

-- What stands past the leading blanks carries something unless it is empty or begins with `#`.
abbrev pub with_line : ℕ → List ℕ → List Line → List Line
with_line n [] rest = rest
with_line n (b ∷ bs) rest = if b == 35 then rest else record { number = n; words = slice_split is_blank (b ∷ bs) } ∷ rest

-- Each piece but the last was ended by LF. What stands behind the last LF is no line.
abbrev pub lines_from : ℕ → List (List ℕ) → List Line
lines_from n [] = []
lines_from n (unended ∷ []) = []
lines_from n (line ∷ next ∷ rest) = with_line n (drop_blanks line) (lines_from (n + 1) (next ∷ rest))

-- the lines that carry something
unfoldable pub lines : List ℕ → List Line
lines bytes = lines_from 1 (slice_split is_end bytes)

-- what a line says past its leading blanks, where it carries something, or else what the lines behind it say first
abbrev pub said_first : List ℕ → List ℕ → List ℕ
said_first [] rest = rest
said_first (b ∷ bs) rest = if b == 35 then rest else b ∷ bs

-- what the first line that carries something says, past its leading blanks
abbrev pub first_said : List (List ℕ) → List ℕ
first_said [] = []
first_said (unended ∷ []) = []
first_said (line ∷ next ∷ rest) = said_first (drop_blanks line) (first_said (next ∷ rest))

-- of the lines that are ended in these bytes, the first that carries something is `profile 3`
abbrev pub says_long : List ℕ → Bool
says_long bytes = pointwise nat_eq (first_said (slice_split is_end bytes)) (codes "profile 3")

-- A text may be long that is of profile 3, as its first `MOST_TEXT` bytes say.
abbrev pub may_be_long : List ℕ → Bool
may_be_long bytes = says_long (take MOST_TEXT bytes)

-- the most bytes of a text that may be long, or may not
abbrev pub most_of : Bool → ℕ
most_of long = if long then MOST_LONG_TEXT else MOST_TEXT

-- the most bytes of this text
abbrev pub most_bytes : List ℕ → ℕ
most_bytes bytes = most_of (may_be_long bytes)

-- the most bytes of a text of this profile
abbrev pub most_of_profile : ℕ → ℕ
most_of_profile profile = most_of (not (nat_lt profile 3))

-- no byte
abbrev pub is_empty : List ℕ → Bool
is_empty [] = true
is_empty (b ∷ bs) = false

-- nothing, or LF as the last byte
abbrev pub is_ended : List ℕ → Bool
is_ended [] = true
is_ended (b ∷ []) = is_end b
is_ended (b ∷ c ∷ bs) = is_ended (c ∷ bs)

-- One blank between two words, and none at the end: then no word is empty.
abbrev pub is_spaced : Line → Bool
is_spaced line = list_all (λ word. not (is_empty word)) line.words

-- what every text is, whatever its words say
pub record IsText (bytes : List ℕ) : Type 0 where
  pub short : length bytes ≤ most_bytes bytes
  pub printable : IsTrue (list_all is_text_byte bytes)
  pub ended : IsTrue (is_ended bytes)
  pub spaced : IsTrue (list_all is_spaced (lines bytes))
