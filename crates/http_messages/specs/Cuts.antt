-- Reading from the front of the bytes that have come: what is there, what stands after it, and whether
-- the bytes are enough to say so.
use Rattle.std.specs.Prelude.{ℕ, ◌+◌, Bool, ◌&&◌, ◌==◌, nat_lt, nat_le, List, [], ◌∷◌, length, take, drop, Option, Some, None, option_map, Result, Ok, Err, if◌then◌else◌}
use Rattle.http_messages.specs.declared.refusal.Refusal.{Refusal}

-- the bytes don't say yet; they never will, and this is the answer; an A is there, and then these bytes
pub data Cut (A : Type 0) : Type 0 where
  waits : Cut A
  refused : Refusal → Cut A
  whole : A → List ℕ → Cut A

-- what is there, and then what is read from the bytes after it
abbrev pub and_then : {A B : Type 0} → Cut A → (A → List ℕ → Cut B) → Cut B
and_then waits read = waits
and_then (refused reason) read = refused reason
and_then (whole a rest) read = read a rest

-- the value as a reading that takes no bytes
abbrev pub or_refused : {A : Type 0} → Result A Refusal → List ℕ → Cut A
or_refused (Ok a) rest = whole a rest
or_refused (Err reason) rest = refused reason

abbrev pub is_lf : ℕ → Bool
is_lf b = b == 10

-- the length of the empty line at the front, LF or CR LF; 0 where none stands there
abbrev pub empty_line : List ℕ → ℕ
empty_line [] = 0
empty_line (b ∷ []) = if is_lf b then 1 else 0
empty_line (b ∷ c ∷ bytes) = if is_lf b then 1 else if b == 13 && is_lf c then 2 else 0

-- where the first empty line ends; `fresh` says that a line begins here
abbrev pub empty_line_end : Bool → List ℕ → Option ℕ
empty_line_end fresh [] = None
empty_line_end fresh (b ∷ bytes) =
    if fresh && nat_lt 0 (empty_line (b ∷ bytes))
    then Some (empty_line (b ∷ bytes))
    else option_map (λ n. n + 1) (empty_line_end (is_lf b) bytes)

-- where the first line ends
abbrev pub line_end : List ℕ → Option ℕ
line_end [] = None
line_end (b ∷ bytes) = if is_lf b then Some 1 else option_map (λ n. n + 1) (line_end bytes)

-- the bytes up to an end
abbrev pub up_to : Option ℕ → Cut (List ℕ) → List ℕ → Cut (List ℕ)
up_to (Some n) otherwise bytes = whole (take n bytes) (drop n bytes)
up_to None otherwise bytes = otherwise

-- the bytes up to an end within the first `most`; where it isn't among them, refused once there are `enough` bytes
abbrev pub within : (List ℕ → Option ℕ) → ℕ → ℕ → Refusal → List ℕ → Cut (List ℕ)
within end most enough reason bytes =
    up_to (end (take most bytes)) (if nat_le enough (length bytes) then refused reason else waits) bytes

-- the bytes without the empty lines at the front
abbrev pub drop_empty_lines : List ℕ → List ℕ
drop_empty_lines [] = []
drop_empty_lines (b ∷ []) = if is_lf b then [] else b ∷ []
drop_empty_lines (b ∷ c ∷ bytes) =
    if is_lf b then drop_empty_lines (c ∷ bytes)
    else if b == 13 && is_lf c then drop_empty_lines bytes
    else b ∷ c ∷ bytes
