-- Locals by the numbers of their names.
use Rattle.std.specs.Prelude.{ℕ, ◌≡◌, false, List, [], ◌∷◌, ◌++◌, Option, Some, None, map, nat_eq, slice_get, slice_set, slice_index_or, if◌then◌else◌, ⊤}
use Rattle.gv_values.specs.declared.name.Name.{Name}
use Rattle.gv_values.specs.declared.value.Value.{Value}
use Rattle.machine.specs.declared.state.Local.{Local}
use Rattle.body_locals.specs.declared.locals.Bound.{Bound}
use Rattle.body_names.specs.Naming.{name_of}

-- the value of the local of this number; one that has none yet is none
abbrev pub value_of : ℕ → List Bound → Value
value_of n [] = Value.Nothing
value_of n (b ∷ bs) = if nat_eq n b.number then b.value else value_of n bs

-- the locals after it took the value
abbrev pub bind : ℕ → Value → List Bound → List Bound
bind n v [] = record { number = n; value = v } ∷ []
bind n v (b ∷ bs) = if nat_eq n b.number then (record { number = n; value = v } ∷ bs) else (b ∷ bind n v bs)

-- none of them has this number
abbrev pub IsAbsent : ℕ → List Bound → Type 0
IsAbsent n [] = ⊤
IsAbsent n (b ∷ bs) = (nat_eq n b.number ≡ false) × IsAbsent n bs

-- no two have the same number
abbrev pub AreOnce : List Bound → Type 0
AreOnce [] = ⊤
AreOnce (b ∷ bs) = IsAbsent b.number bs × AreOnce bs

-- a local by its name
abbrev pub local_of : List Name → Bound → Local
local_of names b = record { name = name_of names b.number; value = b.value }

-- the locals by their names
abbrev pub locals_of : List Name → List Bound → List Local
locals_of names bs = map (local_of names) bs

-- binding the number changes this place, or adds one at the end
abbrev pub IsPlaceOf : ℕ → List Bound → Option ℕ → Type 0
IsPlaceOf n bs None = (v : Value) → bind n v bs ≡ bs ++ record { number = n; value = v } ∷ []
IsPlaceOf n bs (Some i) = (d : Bound) (v : Value) → bind n v bs ≡ slice_set bs i (record (slice_index_or bs i d) { value = v })

-- one of this number stands at this place
abbrev pub StandsAt : ℕ → ℕ → List Bound → Type 0
StandsAt i n bs = (b : Bound) × (slice_get bs i ≡ Some b) × (b.number ≡ n)
