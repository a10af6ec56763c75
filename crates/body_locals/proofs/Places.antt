-- Locals by numbers are locals by names.
use Rattle.std.proofs.Common.{◌≡◌, refl, ap, sym, subst, ◌∙◌, ℕ, zero, suc, ◌<◌, Bool, true, false, List, [], ◌∷◌, ◌++◌, length, take, drop, Some, None, nat_eq, slice_get, slice_set, slice_index_or, if◌then◌else◌, arith}
use Rattle.std.proofs.lemmas.Bool.Decides.{nat_tests}
use Rattle.gv_values.specs.declared.name.Name.{Name}
use Rattle.gv_values.specs.declared.value.Value.{Value}
use Rattle.machine.specs.declared.state.Local.{Local}
use Rattle.machine.specs.Expressions.{bind as bind_name, value_of_local}
use Rattle.body_locals.specs.declared.locals.Bound.{Bound}
use Rattle.body_locals.specs.Locals.{AreOnce, IsAbsent, IsPlaceOf, StandsAt, bind, local_of, locals_of, value_of}
use Rattle.body_names.specs.Naming.{IsNaming, name_of}

-- ---- by names

pub value_by_name : (names : List Name) (n : ℕ) (bs : List Bound) → IsNaming names → value_of_local (name_of names n) (locals_of names bs) ≡ value_of n bs
value_by_name names n [] is = refl
value_by_name names n (b ∷ bs) is =
    ap (λ t. if t then b.value else value_of_local (name_of names n) (locals_of names bs)) (is n b.number)
    ∙ ap (λ (v : Value). if nat_eq n b.number then b.value else v) (value_by_name names n bs is)

pub same_tests : (n m : ℕ) → n ≡ m → nat_eq m n ≡ true
same_tests n m h = grind (arith, nat_tests)

same_number : (n m : ℕ) → nat_eq n m ≡ true → n ≡ m
same_number n m h = grind (arith, nat_tests)

pub bind_by_name : (names : List Name) (n : ℕ) (v : Value) (bs : List Bound) → IsNaming names → bind_name (name_of names n) v (locals_of names bs) ≡ locals_of names (bind n v bs)
bind_by_name names n v [] is = refl
bind_by_name names n v (b ∷ bs) is =
    ap (λ t. if t then (record { name = name_of names n; value = v } ∷ locals_of names bs) else (local_of names b ∷ bind_name (name_of names n) v (locals_of names bs))) (is n b.number)
    ∙ by (nat_eq n b.number) (bind_by_name names n v bs is)
  where
    by : (t : Bool) → bind_name (name_of names n) v (locals_of names bs) ≡ locals_of names (bind n v bs) →
        (if t then (record { name = name_of names n; value = v } ∷ locals_of names bs) else (local_of names b ∷ bind_name (name_of names n) v (locals_of names bs)))
        ≡ locals_of names (if t then (record { number = n; value = v } ∷ bs) else (b ∷ bind n v bs))
    by true rest = refl
    by false rest = ap (λ (ls : List Local). local_of names b ∷ ls) rest

-- ---- at a place

itself : (n : ℕ) → nat_eq n n ≡ true
itself n = grind (arith, nat_tests)

absent_at : (n : ℕ) (bs : List Bound) (i : ℕ) (b : Bound) → IsAbsent n bs → slice_get bs i ≡ Some b → nat_eq n b.number ≡ false
absent_at n [] i b none h = cc
absent_at n (c ∷ bs) zero b none h = let same : c ≡ b = cc in ap (λ (d : Bound). nat_eq n d.number) (sym same) ∙ none.0
absent_at n (c ∷ bs) (suc i) b none h = absent_at n bs i b none.1 h

other_number : (n m : ℕ) → nat_eq n m ≡ false → nat_eq m n ≡ false
other_number n m h = grind (arith, nat_tests)

-- the value at a place is that of its number
pub value_at : (bs : List Bound) (i : ℕ) (b : Bound) → AreOnce bs → slice_get bs i ≡ Some b → value_of b.number bs ≡ b.value
value_at [] i b once h = cc
value_at (c ∷ bs) zero b once h =
    let same : c ≡ b = cc in
    ap (λ (d : Bound). value_of d.number (c ∷ bs)) (sym same) ∙ rw (itself c.number) (ap (λ (d : Bound). d.value) same)
value_at (c ∷ bs) (suc i) b once h = rw (other_number c.number b.number (absent_at c.number bs i b once.0 h)) (value_at bs i b once.1 h)

-- binding at a place is binding of its number
pub bind_at : (bs : List Bound) (i : ℕ) (b d : Bound) (v : Value) → AreOnce bs → slice_get bs i ≡ Some b → slice_set bs i (record (slice_index_or bs i d) { value = v }) ≡ bind b.number v bs
bind_at [] i b d v once h = cc
bind_at (c ∷ bs) zero b d v once h =
    let same : c ≡ b = cc in
    ap (λ n. record { number = n; value = v } ∷ bs) (ap (λ (e : Bound). e.number) same)
    ∙ sym (rw (ap (λ (e : Bound). nat_eq b.number e.number) same ∙ itself b.number) refl)
bind_at (c ∷ bs) (suc i) b d v once h =
    ap (λ (cs : List Bound). c ∷ cs) (bind_at bs i b d v once.1 h)
    ∙ sym (rw (other_number c.number b.number (absent_at c.number bs i b once.0 h)) refl)

-- ---- binding keeps that no two have the same number

absent_bound : (m n : ℕ) (v : Value) (bs : List Bound) → nat_eq m n ≡ false → IsAbsent m bs → IsAbsent m (bind n v bs)
absent_bound m n v [] other none = (other, tt)
absent_bound m n v (b ∷ bs) other none = by (nat_eq n b.number) (absent_bound m n v bs other none.1)
  where
    by : (t : Bool) → IsAbsent m (bind n v bs) → IsAbsent m (if t then (record { number = n; value = v } ∷ bs) else (b ∷ bind n v bs))
    by true rest = (other, none.1)
    by false rest = (none.0, rest)

same_absent : (n m : ℕ) (bs : List Bound) → n ≡ m → IsAbsent m bs → IsAbsent n bs
same_absent n m bs e none = subst (λ k. IsAbsent k bs) (sym e) none

pub once_bound : (n : ℕ) (v : Value) (bs : List Bound) → AreOnce bs → AreOnce (bind n v bs)
once_bound n v [] once = (tt, tt)
once_bound n v (b ∷ bs) once = by (nat_eq n b.number) refl (once_bound n v bs once.1)
  where
    by : (t : Bool) → nat_eq n b.number ≡ t → AreOnce (bind n v bs) → AreOnce (if t then (record { number = n; value = v } ∷ bs) else (b ∷ bind n v bs))
    by true e rest = (same_absent n b.number bs (same_number n b.number e) once.0, once.1)
    by false e rest = (absent_bound b.number n v bs (other_number n b.number e) once.0, rest)

-- ---- a place that is looked for

pub bind_here : (xs : List Bound) (i : ℕ) (c d : Bound) (n : ℕ) (v : Value) → i < length xs → nat_eq n (slice_index_or xs i c).number ≡ true →
    take i xs ++ bind n v (drop i xs) ≡ slice_set xs i (record (slice_index_or xs i d) { value = v })
bind_here [] i c d n v h e = grind arith
bind_here (y ∷ xs) zero c d n v h e = rw e (ap (λ m. record { number = m; value = v } ∷ xs) (same_number n y.number e))
bind_here (y ∷ xs) (suc i) c d n v h e = ap (λ (ys : List Bound). y ∷ ys) (bind_here xs i c d n v (omega (arith, h)) e)

-- ---- a place that is guessed

pub stands_place : (bs : List Bound) (i n : ℕ) → AreOnce bs → StandsAt i n bs → IsPlaceOf n bs (Some i)
stands_place bs i n once stands = λ d v. ap (λ m. bind m v bs) (sym stands.2) ∙ sym (bind_at bs i stands.0 d v once stands.1)

pub stands_value : (bs : List Bound) (i n : ℕ) (b : Bound) → AreOnce bs → slice_get bs i ≡ Some b → b.number ≡ n → b.value ≡ value_of n bs
stands_value bs i n b once here same = sym (value_at bs i b once here) ∙ ap (λ m. value_of m bs) same

-- ---- one more local

-- a number that stands nowhere, behind the others
pub once_pushed : (bs : List Bound) (n : ℕ) (v : Value) → AreOnce bs → IsPlaceOf n bs None → AreOnce (bs ++ record { number = n; value = v } ∷ [])
once_pushed bs n v once none = subst AreOnce (none v) (once_bound n v bs once)
