-- Tokens: what the words of a line are, and how the parts of a tree are written.
use Rattle.std.specs.Prelude.{ℕ, ◌^◌, ℤ, pos, negsuc, Bool, true, false, ◌&&◌, ◌||◌, not, nat_le, nat_lt, ◌==◌, if◌then◌else◌, List, [], ◌∷◌, ◌++◌, Option, Some, None}
use Rattle.std.specs.Option.{is_none}
use Rattle.std.specs.Fmt.{signed_decimal}
use Rattle.std.specs.Str.Parse.{signed_digits_value}
use Rattle.gv_values.specs.Digits.{is_plain_number}
use Rattle.gv_values.specs.Name.{is_name, is_digit}
use Rattle.gv_values.specs.declared.name.Name.{Name}
use Rattle.scenario_grammar.specs.declared.keyword.Keyword.{Keyword}
use Rattle.scenario_grammar.specs.declared.token.Token.{Token}
use Rattle.scenario_grammar.specs.declared.token.Token.TheVariants as token
use Rattle.scenario_grammar.specs.Keyword.{spelling, keyword_of, profile_of}
use Rattle.scenario_grammar.specs.Layout.{Word}

-- how a token is written; only those of the first three kinds are
abbrev pub token_word : Token → Word
token_word (token.Fixed k) = spelling k
token_word (token.Name n) = n
token_word (token.Number z) = signed_decimal z
token_word token.Oversized = []
token_word token.Misspelled = []
token_word token.Unknown = []

-- a name that is no fixed word
abbrev pub is_free_name : Word → Bool
is_free_name w = is_name w && is_none (keyword_of w)

-- from -(2 ^ 63) to 2 ^ 63 - 1
abbrev pub in_64_bits : ℤ → Bool
in_64_bits (pos n) = nat_lt n (2 ^ 63)
in_64_bits (negsuc n) = nat_lt n (2 ^ 63)

-- What a part of a tree is written as: a list, or none where it has no text.
abbrev pub Written : Type 0 → Type 0
Written A = Option (List A)

infixl 10 ◌⊕◌
abbrev pub ◌⊕◌ : {A : Type 0} → Written A → Written A → Written A
(Some x) ⊕ (Some y) = Some (x ++ y)
(Some x) ⊕ None = None
None ⊕ y = None

-- one after another
abbrev pub each : {A B : Type 0} → (A → Written B) → List A → Written B
each f [] = Some []
each f (x ∷ xs) = f x ⊕ each f xs

-- nothing, where a part may be left out
abbrev pub perhaps : {A B : Type 0} → (A → Written B) → Option A → Written B
perhaps f None = Some []
perhaps f (Some x) = f x

-- no text where the test fails
abbrev pub only_if : {A : Type 0} → Bool → Written A → Written A
only_if true w = w
only_if false w = None

-- a fixed word alone
abbrev pub fixed : Keyword → Written Token
fixed k = Some (token.Fixed k ∷ [])

-- a fixed word, and what stands behind it
infixr 5 ◌▹◌
abbrev pub ◌▹◌ : Keyword → Written Token → Written Token
k ▹ None = None
k ▹ (Some ts) = Some (token.Fixed k ∷ ts)

-- a NAME
unfoldable pub name : Name → Written Token
name n = only_if (is_free_name n) (Some (token.Name n ∷ []))

-- an integer of 64 bits
abbrev pub integer : ℤ → Written Token
integer z = only_if (in_64_bits z) (Some (token.Number z ∷ []))

-- from least to greatest
abbrev pub number : ℕ → ℕ → ℕ → Written Token
number least greatest n = only_if (nat_le least n && nat_le n greatest) (Some (token.Number (pos n) ∷ []))

abbrev pub begins_with_zero : Word → Bool
begins_with_zero [] = false
begins_with_zero (b ∷ bs) = b == 48

-- `-` and a number that is not 0, or a number
abbrev pub is_integer : Word → Bool
is_integer [] = false
is_integer (b ∷ bs) = if b == 45 then is_plain_number bs && not (begins_with_zero bs) else is_plain_number (b ∷ bs)

-- as a number begins: a digit, or `-` and more
abbrev pub begins_number : Word → Bool
begins_number [] = false
begins_number (b ∷ []) = is_digit b
begins_number (b ∷ c ∷ bs) = is_digit b || b == 45

-- an integer in its one spelling, or none
abbrev pub number_token : Word → Token
number_token w = if is_integer w then (if in_64_bits (signed_digits_value 10 w) then token.Number (signed_digits_value 10 w) else token.Oversized) else token.Misspelled

-- what a word is that is no fixed word
abbrev pub loose_token : Word → Token
loose_token w = if is_name w then token.Name w else (if begins_number w then number_token w else token.Unknown)

-- what a word is by itself, in the profile that knows all words
unfoldable pub token_of : Word → Token
token_of w = elim (keyword_of w) [ Some k ↦ token.Fixed k | None ↦ loose_token w ]

-- a fixed word that this profile has not yet is unknown in it
abbrev pub known_in : ℕ → Token → Token
known_in profile (token.Fixed k) = if nat_le (profile_of k) profile then token.Fixed k else token.Unknown
known_in profile t = t

-- what a word is in a text of this profile
abbrev pub token_in : ℕ → Word → Token
token_in profile w = known_in profile (token_of w)
