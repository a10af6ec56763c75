-- What `parse` reads of a number in its one spelling.
use Rattle.std.proofs.Common.{◌≡◌, ℕ, ◌^◌, ◌<◌, Bool, true, false, ◌&&◌, if◌then◌else◌, List, [], ◌∷◌, length, get_or, Option, Some, None, Result, Ok, Err, OkIff, nat_le, refl, ap, sym, subst, ◌∙◌, leb-true, arith}
use Rattle.std.proofs.lemmas.Bool.{and_parts}
use Rattle.std.proofs.lemmas.Bool.Decides.{nat_tests}
use Rattle.std.proofs.lemmas.Str.Parse.{without_leading_plus_none}
use Rattle.std.specs.Char.{digit_value}
use Rattle.std.specs.List.{list_all}
use Rattle.std.specs.Str.Parse.{AllDigits, IsNumeral, digits_value, without_leading_plus}
use Rattle.gv_values.specs.Name.{is_digit}
use Rattle.gv_values.specs.Digits.{is_plain_number}
use Rattle.gv_values.proofs.PlainNumbers.{plain_digits}
use Rattle.command_words.specs.Words.{number_in}

digit_is_small : (b : ℕ) → is_digit b ≡ true → digit_value b < 10
digit_is_small b h = grind (arith, nat_tests)

all_digits : (w : List ℕ) → list_all is_digit w ≡ true → AllDigits 10 w
all_digits [] h = tt
all_digits (b ∷ bs) h = let p = and_parts _ _ h in (digit_is_small b p.0, all_digits bs p.1)

not_empty : (w : List ℕ) → is_plain_number w ≡ true → 0 < length w
not_empty [] h = cc
not_empty (b ∷ bs) h = omega arith

no_plus : (w : List ℕ) → list_all is_digit w ≡ true → get_or w 0 0 ≡ 43 → ⊥
no_plus [] h e = omega (arith, e)
no_plus (b ∷ bs) h e =
    let p : (is_digit b ≡ true) × (list_all is_digit bs ≡ true) = and_parts _ _ h in
    let low : (nat_le 48 b ≡ true) × (nat_le b 57 ≡ true) = and_parts _ _ p.0 in
    omega (arith, leb-true 48 b low.0, e)

plain_numeral : (w : List ℕ) → is_plain_number w ≡ true → IsNumeral 10 w
plain_numeral w h = (not_empty w h, all_digits w (plain_digits w h))

abbrev in_range : ℕ → ℕ → ℕ → Option ℕ
in_range least most n = if nat_le least n && nat_le n most then Some n else None

too_much : (least most n : ℕ) → most < n → None ≡ in_range least most n
too_much least most n h = by (nat_le least n) (nat_le n most) refl
  where
    by : (a b : Bool) → nat_le n most ≡ b → None ≡ (if a && b then Some n else None)
    by false b e = refl
    by true false e = refl
    by true true e = absurd (let l = leb-true n most e in omega (arith, l, h))

refused_by : (least most : ℕ) (w : List ℕ) → is_plain_number w ≡ true → (digits_value 10 w < 2 ^ 64 → ⊥) → most < 2 ^ 64 → None ≡ number_in least most w
refused_by least most w h never small =
    too_much least most (digits_value 10 w) (larger (digits_value 10 w) never) ∙ sym (ap (λ b. if b && nat_le least (digits_value 10 w) && nat_le (digits_value 10 w) most then Some (digits_value 10 w) else None) h)
  where
    larger : (n : ℕ) → (n < 2 ^ 64 → ⊥) → most < n
    larger n never2 = grind (arith, small, never2)

-- a number in its one spelling that `parse` refuses is too large
pub refused : {E : Type 0} (least most : ℕ) (w : List ℕ) (r : Result ℕ E) (e : E) → r ≡ Err e → most < 2 ^ 64 → is_plain_number w ≡ true
    → OkIff r (IsNumeral 10 (without_leading_plus w) × (digits_value 10 (without_leading_plus w) < 2 ^ 64)) (digits_value 10 (without_leading_plus w))
    → None ≡ number_in least most w
refused {E} least most w r e is small h p =
    let P : List ℕ → Type 0 = λ u. OkIff r (IsNumeral 10 u × (digits_value 10 u < 2 ^ 64)) (digits_value 10 u) in
    let q : OkIff r (IsNumeral 10 w × (digits_value 10 w < 2 ^ 64)) (digits_value 10 w) = subst P (without_leading_plus_none w (no_plus w (plain_digits w h))) p in
    refused_by least most w h (λ l. fails (IsNumeral 10 w × (digits_value 10 w < 2 ^ 64)) (digits_value 10 w) r e is q (plain_numeral w h, l)) small
  where
    fails : (P : Type 0) (n : ℕ) (x : Result ℕ E) (y : E) → x ≡ Err y → OkIff x P n → P → ⊥
    fails P n (Ok m) y k f g = absurd (cc k)
    fails P n (Err z) y k f g = f g
