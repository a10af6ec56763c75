-- How the front of a text is read: a reader gives what it read and the rest of the text, or nothing.
use Rattle.std.specs.Prelude.{◌==◌, ℕ, ◌+◌, ◌*◌, ◌-◌, ◌^◌, true, false, ◌&&◌, nat_le, nat_lt, if◌then◌else◌, [], ◌∷◌, length, take, drop, Option, Some, None, ℤ, pos, negsuc, codes}
use Rattle.std.specs.Cmp.Lexicographic.{pointwise}
use Rattle.std.specs.Prelude.{nat_eq}
use Rattle.std.specs.List.{position_or_len}
use Rattle.gv_values.specs.Name.{is_digit, is_name}
use Rattle.gv_values.specs.Texts.{Text}

-- what was read, and the rest
abbrev pub Front : Type 0 → Type 0
Front A = Option (A × Text)

-- one reader after another
unfoldable pub and_then : {A B : Type 0} → Front A → (A → Text → Front B) → Front B
and_then None next = None
and_then (Some read) next = next read.0 read.1

-- a reader of what stands behind a word
unfoldable pub after : {B : Type 0} → Option Text → (Text → Front B) → Front B
after None next = None
after (Some rest) next = next rest

-- the first reader, or else the second
unfoldable pub or_else : {B : Type 0} → Option Text → (Text → Front B) → Front B → Front B
or_else None found other = other
or_else (Some rest) found other = found rest

-- what stands behind the word
unfoldable pub strip : Text → Text → Option Text
strip word text = if pointwise nat_eq (take (length word) text) word then Some (drop (length word) text) else None

-- the digits that come next, after a number that was read so far; none past 64 bits
unfoldable pub number_on : ℕ → Text → Front ℕ
number_on n [] = Some (n, [])
number_on n (b ∷ bs) =
    elim (is_digit b) [
      | true ↦ elim (nat_lt (n * 10 + (b - 48)) (2 ^ 64)) [ true ↦ number_on (n * 10 + (b - 48)) bs | false ↦ None ]
      | false ↦ Some (n, b ∷ bs)
    ]

abbrev pub number_front : Text → Front ℕ
number_front = number_on 0

-- a number of 32 bits
unfoldable pub small_front : Text → Front ℕ
small_front text = and_then (number_front text) (λ n rest. if nat_lt n (2 ^ 32) then Some (n, rest) else None)

unfoldable pub greenlet_front : Text → Front ℕ
greenlet_front text = after (strip (codes "g") text) small_front

unfoldable pub job_front : Text → Front ℕ
job_front text = after (strip (codes "j") text) small_front

unfoldable pub below_zero : ℕ → Text → Front ℤ
below_zero n rest = if nat_le 1 n && nat_le n (2 ^ 63) then Some (negsuc (n - 1), rest) else None

unfoldable pub not_below_zero : ℕ → Text → Front ℤ
not_below_zero n rest = if nat_lt n (2 ^ 63) then Some (pos n, rest) else None

-- an integer of 64 bits
unfoldable pub int_front : Text → Front ℤ
int_front text = or_else (strip (codes "-") text) (λ rest. and_then (number_front rest) below_zero) (and_then (number_front text) not_below_zero)

-- how many bytes stand before the first blank
abbrev pub word_length : Text → ℕ
word_length text = position_or_len (λ b. b == 32) text

-- a name, up to a blank or the end
unfoldable pub name_front : Text → Front Text
name_front text =
    if is_name (take (word_length text) text) then Some (take (word_length text) text, drop (word_length text) text) else None
