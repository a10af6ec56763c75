-- Names by their numbers.
use Rattle.std.specs.Prelude.{ℕ, ◌+◌, ◌≡◌, true, List, [], ◌∷◌, ◌++◌, Option, Some, None, slice_get, nat_eq, bytes_eq}
use Rattle.gv_values.specs.declared.name.Name.{Name}
use Rattle.gv_values.specs.Name.{is_name}
use Rattle.name_table.specs.Tables.{Holds}
use Rattle.name_table.specs.declared.names.Names.{Names}

-- the name of this number; of a number that there is not, one that no text has
abbrev pub name_of : List Name → ℕ → Name
name_of names n = elim (slice_get names n) [ None ↦ (256 + n) ∷ [] | Some x ↦ x ]

-- the name that may be missing
abbrev pub name_if : List Name → Option ℕ → Option Name
name_if names None = None
name_if names (Some n) = Some (name_of names n)

-- there are more names than before, and no other change
abbrev pub Grows : List Name → List Name → Type 0
Grows old new = (more : List Name) × (new ≡ old ++ more)

-- each name with its number, from this one on
abbrev pub numbered : ℕ → List Name → List (Name × ℕ)
numbered n [] = []
numbered n (x ∷ xs) = (x, n) ∷ numbered (n + 1) xs

-- no name stands twice
abbrev pub AreOnce : List Name → Type 0
AreOnce names = (i j : ℕ) (x : Name) → slice_get names i ≡ Some x → slice_get names j ≡ Some x → i ≡ j

-- each is a name
abbrev pub AreWords : List Name → Type 0
AreWords names = (i : ℕ) (x : Name) → slice_get names i ≡ Some x → is_name x ≡ true

-- the table has each name with its number
abbrev pub IsKept : Names ℕ → List Name → Type 0
IsKept numbers names = Holds numbers (numbered 0 names) × AreOnce names × AreWords names

-- numbers are one exactly where their names are
abbrev pub IsNaming : List Name → Type 0
IsNaming names = (m n : ℕ) → bytes_eq (name_of names m) (name_of names n) ≡ nat_eq m n
