-- A plain number is one of digits.
use Rattle.std.proofs.Common.{◌≡◌, ℕ, true, ◌&&◌, List, [], ◌∷◌, nat_le, refl, arith}
use Rattle.std.proofs.lemmas.Bool.{and_from, and_parts, le-leb, leb-true}
use Rattle.std.specs.List.{list_all}
use Rattle.gv_values.specs.Digits.{is_plain_number}
use Rattle.gv_values.specs.Name.{is_digit}

pub plain_digits : (w : List ℕ) → is_plain_number w ≡ true → list_all is_digit w ≡ true
plain_digits [] h = cc
plain_digits (b ∷ []) h = and_from _ _ h refl
plain_digits (b ∷ c ∷ bs) h =
    let p : ((nat_le 49 b && nat_le b 57) ≡ true) × (list_all is_digit (c ∷ bs) ≡ true) = and_parts _ _ h in
    let f : (nat_le 49 b ≡ true) × (nat_le b 57 ≡ true) = and_parts _ _ p.0 in
    and_from _ _ (and_from _ _ (le-leb 48 b (omega (arith, leb-true 49 b f.0))) f.1) p.1
