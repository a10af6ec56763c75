-- One item is read or taken of a list: the first, the last, or that of a place.
use Rattle.std.proofs.Common.{◌≡◌, refl, ap, sym, ◌∙◌, ℕ, zero, suc, ◌+◌, ◌-◌, ◌<◌, ◌≤◌, List, [], ◌∷◌, ◌++◌, length, take, drop, Option, Some, None, slice_get, arith}
use Rattle.std.specs.Prelude.{◌↔◌, IsSome, IfSome, MatchOption, slice_index_or}
use Rattle.std.specs.Option.{option_copied, option_to_list}
use Rattle.std.proofs.lemmas.Bool.{true≢false}
use Rattle.gv_values.specs.declared.value.Value.{Value}
use denote.Ref.{Bor}

pub first_taken : (xs ys : List Value) (r : Option Value) → xs ≡ option_to_list r ++ ys → MatchOption r ((xs ≡ []) × (ys ≡ [])) (λ _. length ys + 1 ≡ length xs) → r ≡ slice_get xs 0
first_taken xs ys None is h = sym (ap (λ vs. slice_get vs 0) h.0)
first_taken xs ys (Some x) is h = sym (ap (λ vs. slice_get vs 0) is)

at_end : (ys : List Value) (x : Value) → slice_get (ys ++ x ∷ []) (length ys) ≡ Some x
at_end [] x = refl
at_end (y ∷ ys) x = at_end ys x

pub last_taken : (xs ys : List Value) (r : Option Value) → xs ≡ ys ++ option_to_list r → MatchOption r ((xs ≡ []) × (ys ≡ [])) (λ _. length ys + 1 ≡ length xs) → r ≡ slice_get xs (length xs - 1)
last_taken xs ys None is h = sym (ap (λ vs. slice_get vs (length xs - 1)) h.0)
last_taken xs ys (Some x) is h =
    let before : length xs - 1 ≡ length ys = omega (arith, h) in
    sym (ap (λ n. slice_get xs n) before ∙ (ap (λ vs. slice_get vs (length ys)) is ∙ at_end ys x))

-- the first behind a place is that of the place
pub taken_at : (p : ℕ) (xs : List Value) → slice_get (drop p xs) 0 ≡ slice_get xs p
taken_at zero xs = refl
taken_at (suc p) [] = refl
taken_at (suc p) (x ∷ xs) = taken_at p xs

-- and without it those behind it are left
pub left_behind : (p : ℕ) (xs : List Value) → drop 1 (drop p xs) ≡ drop (p + 1) xs
left_behind zero xs = refl
left_behind (suc p) [] = let one : suc p + 1 ≡ suc (p + 1) = omega arith in rw one refl
left_behind (suc p) (x ∷ xs) = let one : suc p + 1 ≡ suc (p + 1) = omega arith in rw one (left_behind p xs)

-- without one item there are no more than before
pub fewer : (p : ℕ) (xs : List Value) → length (take p xs ++ drop (p + 1) xs) ≤ length xs
fewer zero [] = omega arith
fewer zero (x ∷ xs) = omega arith
fewer (suc p) [] = let one : suc p + 1 ≡ suc (p + 1) = omega arith in rw one (omega arith)
fewer (suc p) (x ∷ xs) = let one : suc p + 1 ≡ suc (p + 1) = omega arith in let less = fewer p xs in rw one (omega (arith, less))

-- nor in the two parts
pub parts_fit : (p : ℕ) (xs : List Value) → length (take p xs) + length (drop 1 (drop p xs)) ≤ length xs
parts_fit zero [] = omega arith
parts_fit zero (x ∷ xs) = omega arith
parts_fit (suc p) [] = omega arith
parts_fit (suc p) (x ∷ xs) = let less = parts_fit p xs in omega (arith, less)

past : (xs : List Value) (n : ℕ) → length xs ≤ n → drop n xs ≡ []
past [] zero h = refl
past [] (suc n) h = refl
past (x ∷ xs) zero h = absurd (omega (arith, h))
past (x ∷ xs) (suc n) h = past xs n (omega (arith, h))

append_none : (xs : List Value) → xs ≡ xs ++ []
append_none [] = refl
append_none (x ∷ xs) = ap (λ ys. x ∷ ys) (append_none xs)

-- behind the last item is none
pub without_last : (xs : List Value) → take (length xs - 1) xs ≡ take (length xs - 1) xs ++ drop (length xs - 1 + 1) xs
without_last xs = append_none (take (length xs - 1) xs) ∙ ap (λ ys. take (length xs - 1) xs ++ ys) (sym (past xs (length xs - 1 + 1) (omega arith)))

inside : (xs : List Value) (n : ℕ) (d : Value) → n < length xs → slice_get xs n ≡ Some (slice_index_or xs n d)
inside [] n d h = absurd (omega (arith, h))
inside (x ∷ xs) zero d h = refl
inside (x ∷ xs) (suc n) d h = inside xs n d (omega (arith, h))

-- what is read at a place is the item of that place
pub read_at : (xs : List Value) (n : ℕ) (r : Option (Bor Value)) → (0 < length xs → n < length xs) → IsSome r ↔ (0 < length xs) → IfSome r (λ x. x.now ≡ slice_index_or xs n x.now) → option_copied r ≡ slice_get xs n
read_at [] n None within some is = refl
read_at (x ∷ xs) n None within some is = absurd (true≢false (sym (some.1 (omega arith))))
read_at xs n (Some x) within some is = ap Some is ∙ sym (inside xs n x.now (within (some.0 refl)))
