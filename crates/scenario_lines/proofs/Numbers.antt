-- A number that is cut off at 64 bits has the token of the whole number.
use Rattle.std.proofs.Common.{◌≡◌, ℕ, zero, suc, ◌+◌, ◌-◌, ◌*◌, ◌^◌, ◌<◌, ◌≤◌, Bool, true, false, if◌then◌else◌, ◌==◌, List, [], ◌∷◌, length, take, get_or, min, pos, neg_ℤ, refl, sym, inl, inr, Some, None, arith}
use Rattle.std.proofs.lemmas.Bool.{and_parts, cases_lt, eqb-true, le-ltb, leb-true, ne_eqb}
use Rattle.std.proofs.lemmas.Bool.Decides.{nat_tests}
use Rattle.std.proofs.lemmas.Int.Digits.{digits_value_more}
use Rattle.std.specs.List.{list_all}
use Rattle.std.specs.Char.{digit_value}
use Rattle.std.specs.Str.Parse.{digits_value}
use Rattle.gv_values.specs.Name.{is_digit}
use Rattle.scenario_grammar.specs.declared.token.Token.TheVariants as token
use Rattle.gv_values.specs.Digits.{is_plain_number}
use Rattle.gv_values.proofs.PlainNumbers.{plain_digits}
use Rattle.scenario_grammar.specs.Token.{is_integer, number_token}
use Rattle.scenario_lines.specs.Numbers.{integer_token, minus_digits}

pub capped_pos : (v : ℕ) → integer_token (pos (min v (2 ^ 64 - 1))) ≡ integer_token (pos v)
capped_pos v = elim (cases_lt v (2 ^ 63)) [
  | inl low ↦ (let e : min v (2 ^ 64 - 1) ≡ v = omega (arith, low) in rw e refl)
  | inr high ↦ (let h : 2 ^ 63 ≤ min v (2 ^ 64 - 1) = omega (arith, high) in rw (le-ltb v (2 ^ 63) high, le-ltb (min v (2 ^ 64 - 1)) (2 ^ 63) h) refl)
]

oversized : (v : ℕ) → 2 ^ 64 ≤ v → token.Oversized ≡ integer_token (neg_ℤ (pos v))
oversized zero h = absurd (omega (arith, h))
oversized (suc n) h = rw (le-ltb n (2 ^ 63) (omega (arith, h))) refl

pub capped_neg : (v : ℕ) → integer_token (neg_ℤ (pos (min v (2 ^ 64 - 1)))) ≡ integer_token (neg_ℤ (pos v))
capped_neg v = elim (cases_lt v (2 ^ 64)) [
  | inl low ↦ (let e : min v (2 ^ 64 - 1) ≡ v = omega (arith, low) in rw e refl)
  | inr high ↦ (let e : min v (2 ^ 64 - 1) ≡ suc (2 ^ 64 - 2) = omega (arith, high) in rw e (oversized v high))
]

-- one more digit behind those that were cut off
capped_step : (v d : ℕ) → min (min (min v (2 ^ 64 - 1) * 10) (2 ^ 64 - 1) + d) (2 ^ 64 - 1) ≡ min (v * 10 + d) (2 ^ 64 - 1)
capped_step v d = omega arith

digit_value_is : (b : ℕ) → is_digit b ≡ true → digit_value b ≡ b - 48
digit_value_is b h = grind (arith, nat_tests)

digit_at : (ds : List ℕ) (i : ℕ) → i < length ds → list_all is_digit ds ≡ true → is_digit (get_or ds i 0) ≡ true
digit_at [] i h all = absurd (omega (arith, h))
digit_at (d ∷ ds) zero h all = (and_parts _ _ all).0
digit_at (d ∷ ds) (suc i) h all = digit_at ds i (omega (arith, h)) ((and_parts _ _ all).1)

pub magnitude_step : (ds : List ℕ) (i v : ℕ) → i < length ds → list_all is_digit ds ≡ true → v ≡ min (digits_value 10 (take i ds)) (2 ^ 64 - 1) → min (min (v * 10) (2 ^ 64 - 1) + (get_or ds i 0 - 48)) (2 ^ 64 - 1) ≡ min (digits_value 10 (take (i + 1) ds)) (2 ^ 64 - 1)
magnitude_step ds i v h all e = rw (e, digits_value_more 10 ds i h, digit_value_is _ (digit_at ds i h all)) (capped_step (digits_value 10 (take i ds)) (get_or ds i 0 - 48))

some_if : (t : Bool) (xs ys : List ℕ) → (if t then Some xs else None) ≡ Some ys → (t ≡ true) × (xs ≡ ys)
some_if true xs ys e = (refl, cc)
some_if false xs ys e = cc

none_if : (t : Bool) (xs : List ℕ) → (if t then Some xs else None) ≡ None → t ≡ false
none_if true xs e = cc
none_if false xs e = refl

negative_at : (bs : List ℕ) (m : ℕ) → is_integer (45 ∷ bs) ≡ true → (list_all is_digit bs ≡ true → m ≡ min (digits_value 10 bs) (2 ^ 64 - 1)) → integer_token (neg_ℤ (pos m)) ≡ number_token (45 ∷ bs)
negative_at bs m h e = rw (h, e (plain_digits bs ((and_parts _ _ h).0))) (capped_neg (digits_value 10 bs))

pub negative_number : (w ds : List ℕ) (m : ℕ) → minus_digits w ≡ Some ds → is_integer w ≡ true → (list_all is_digit ds ≡ true → m ≡ min (digits_value 10 ds) (2 ^ 64 - 1)) → integer_token (neg_ℤ (pos m)) ≡ number_token w
negative_number [] ds m s h e = cc
negative_number (b ∷ bs) ds m s h e =
    let f = some_if (b == 45) bs ds s in
    let minus : b ≡ 45 = eqb-true b 45 f.0 in
    let back : ds ≡ bs = sym f.1 in
    rw minus (negative_at bs m (rw minus at h) (rw back at e))

pub positive_number : (w : List ℕ) (m : ℕ) → minus_digits w ≡ None → is_integer w ≡ true → (list_all is_digit w ≡ true → m ≡ min (digits_value 10 w) (2 ^ 64 - 1)) → integer_token (pos m) ≡ number_token w
positive_number [] m s h e = cc
positive_number (b ∷ bs) m s h e =
    let n : (b == 45) ≡ false = none_if (b == 45) bs s in
    let p : is_plain_number (b ∷ bs) ≡ true = rw n at h in
    let all : list_all is_digit (b ∷ bs) ≡ true = plain_digits (b ∷ bs) p in
    let digit : is_digit b ≡ true = (and_parts _ _ all).0 in
    let above : 48 ≤ b = leb-true 48 b ((and_parts _ _ digit).0) in
    let plus : (b == 43) ≡ false = ne_eqb b 43 (λ q. omega (arith, above, q)) in
    rw (n, p, plus, e all) (capped_pos (digits_value 10 (b ∷ bs)))
