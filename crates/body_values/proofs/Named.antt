-- Names that no text has are those of no object and no function.
use Rattle.std.proofs.Common.{◌≡◌, refl, ap, sym, subst, ◌∙◌, ℕ, ◌+◌, ◌<◌, Bool, true, false, List, [], ◌∷◌, ◌++◌, length, map, take, get_or, Some, None, slice_get, if◌then◌else◌, arith}
use Rattle.std.proofs.lemmas.Bool.{and_parts}
use Rattle.std.proofs.lemmas.Bool.Decides.{nat_tests}
use Rattle.std.proofs.lemmas.List.{map-append, take_more}
use Rattle.std.proofs.lemmas.Slice.Eq.{bytes_eq-Decides}
use Rattle.std.specs.Prelude.{◌&&◌, nat_le}
use Rattle.gv_values.specs.declared.name.Name.{Name}
use Rattle.gv_values.specs.Name.{is_lower, is_name}
use Rattle.scenario_tree.specs.declared.tree.Declaration.{Declaration}
use Rattle.scenario_tree.specs.declared.tree.Function.{Function}
use Rattle.machine.specs.Expressions.{function_number, name_eq, object_number}
use Rattle.body_names.specs.Naming.{name_of}
use Rattle.body_values.specs.Numbers.{AreNames}

too_large : (n : ℕ) → is_name ((256 + n) ∷ []) ≡ true → ⊥
too_large n h =
    let first = and_parts (is_lower (256 + n) && true) true h in
    let lower = and_parts (is_lower (256 + n)) true first.0 in
    let both = and_parts (nat_le 97 (256 + n)) (nat_le (256 + n) 122) lower.0 in
    let most = both.1 in
    grind (arith, nat_tests, most)

other_name : (n : ℕ) (x : Name) → is_name x ≡ true → name_eq ((256 + n) ∷ []) x ≡ false
other_name n x h = by (name_eq ((256 + n) ∷ []) x) refl
  where
    by : (b : Bool) → name_eq ((256 + n) ∷ []) x ≡ b → b ≡ false
    by false e = refl
    by true e = absurd (too_large n (subst (λ (y : Name). is_name y ≡ true) (sym ((bytes_eq-Decides ((256 + n) ∷ []) x).0 e)) h))

no_object : (n : ℕ) (ds : List Declaration) → AreNames (map (λ d. d.name) ds) → object_number ((256 + n) ∷ []) ds ≡ length ds
no_object n [] h = refl
no_object n (d ∷ ds) h =
    let rest = no_object n ds h.1 in
    ap (λ b. if b then 0 else object_number ((256 + n) ∷ []) ds + 1) (other_name n d.name h.0) ∙ omega (arith, rest)

no_function : (n : ℕ) (fs : List Function) → AreNames (map (λ f. f.name) fs) → function_number ((256 + n) ∷ []) fs ≡ length fs
no_function n [] h = refl
no_function n (f ∷ fs) h =
    let rest = no_function n fs h.1 in
    ap (λ b. if b then 0 else function_number ((256 + n) ∷ []) fs + 1) (other_name n f.name h.0) ∙ omega (arith, rest)

no_name : (names : List Name) (n : ℕ) → slice_get names n ≡ None → name_of names n ≡ (256 + n) ∷ []
no_name names n h = rw (h, name_of) refl

some_name : (names : List Name) (n : ℕ) (x : Name) → slice_get names n ≡ Some x → name_of names n ≡ x
some_name names n x h = rw (h, name_of) refl

-- a number that is no name's
pub object_absent : (names : List Name) (n : ℕ) (ds : List Declaration) → slice_get names n ≡ None → AreNames (map (λ d. d.name) ds) → length ds ≡ object_number (name_of names n) ds
object_absent names n ds h own = sym (ap (λ (x : Name). object_number x ds) (no_name names n h) ∙ no_object n ds own)

pub function_absent : (names : List Name) (n : ℕ) (fs : List Function) → slice_get names n ≡ None → AreNames (map (λ f. f.name) fs) → length fs ≡ function_number (name_of names n) fs
function_absent names n fs h own = sym (ap (λ (x : Name). function_number x fs) (no_name names n h) ∙ no_function n fs own)

-- a number that is this name's
pub object_named : (names : List Name) (n : ℕ) (ds : List Declaration) (x : Name) → slice_get names n ≡ Some x → object_number x ds ≡ object_number (name_of names n) ds
object_named names n ds x h = ap (λ (y : Name). object_number y ds) (sym (some_name names n x h))

pub function_named : (names : List Name) (n : ℕ) (fs : List Function) (x : Name) → slice_get names n ≡ Some x → function_number x fs ≡ function_number (name_of names n) fs
function_named names n fs x h = ap (λ (y : Name). function_number y fs) (sym (some_name names n x h))

-- ---- a name more

names_push : (xs : List Name) (x : Name) → AreNames xs → is_name x ≡ true → AreNames (xs ++ x ∷ [])
names_push [] x h one = (one, tt)
names_push (y ∷ ys) x h one = (h.0, names_push ys x h.1 one)

pub names_more : {X : Type 0} (name : X → Name) (xs : List X) (i : ℕ) (d : X) → i < length xs → AreNames (map name (take i xs)) → is_name (name (get_or xs i d)) ≡ true →
    AreNames (map name (take (i + 1) xs))
names_more name xs i d h before one =
    let joined : map name (take i xs) ++ name (get_or xs i d) ∷ [] ≡ map name (take (i + 1) xs) = sym (map-append name (take i xs) (get_or xs i d ∷ [])) ∙ ap (map name) (sym (take_more xs i d h)) in
    subst AreNames joined (names_push (map name (take i xs)) (name (get_or xs i d)) before one)
