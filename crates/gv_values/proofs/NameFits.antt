-- The fields of a name that was copied to the front of zeros.
use Rattle.std.proofs.Common.{◌≡◌, ℕ, ◌+◌, ◌-◌, ◌<◌, ◌≤◌, Bool, true, false, ◌&&◌, nat_lt, IsTrue, List, [], ◌∷◌, ◌++◌, length, take, drop, replicate, refl, subst, sym, ◌∙◌, ap, arith, length-append}
use Rattle.std.specs.List.{list_all}
use Rattle.std.proofs.lemmas.List.{drop-replicate, length-replicate}
use Rattle.std.proofs.Math.Seq.{take-append_seam, drop-append_seam}
use Rattle.std.proofs.lemmas.Bool.{ltb-true}
use Rattle.gv_values.specs.Name.{is_name, is_lower, is_name_byte}
use Rattle.gv_values.specs.NameParts.{IsStored}
use Rattle.gv_values.specs.declared.limits.TheConstants.{MOST_NAME_BYTES}

and_second : (a b : Bool) → IsTrue (a && b) → IsTrue b
and_second false b h = cc
and_second true b h = h

pub name_fits : (s : List ℕ) → IsTrue (is_name s) → length s ≤ MOST_NAME_BYTES
name_fits [] h = cc
name_fits (b ∷ bs) h =
    let short : IsTrue (nat_lt (length bs) MOST_NAME_BYTES) = and_second (is_lower b && list_all is_name_byte bs) (nat_lt (length bs) MOST_NAME_BYTES) h in
    omega (arith, ltb-true (length bs) MOST_NAME_BYTES short)

pub stored : (s : List ℕ) → IsTrue (is_name s) → IsStored (record { bytes = s ++ drop (length s) (replicate MOST_NAME_BYTES 0); count = length s })
stored s h =
    let fits : length s ≤ MOST_NAME_BYTES = name_fits s h in
    let sum : length s + (MOST_NAME_BYTES - length s) ≡ MOST_NAME_BYTES = omega (arith, fits) in
    let rest : drop (length s) (replicate MOST_NAME_BYTES 0) ≡ replicate (MOST_NAME_BYTES - length s) 0 = drop-replicate (length s) MOST_NAME_BYTES 0 in
    record {
      count = fits;
      whole = length-append s (drop (length s) (replicate MOST_NAME_BYTES 0)) ∙ ap (λ z. length s + length z) rest ∙ ap (λ n. length s + n) (length-replicate (MOST_NAME_BYTES - length s) 0) ∙ sum;
      rest = drop-append_seam s (drop (length s) (replicate MOST_NAME_BYTES 0)) ∙ rest;
      name = rw (take-append_seam s (drop (length s) (replicate MOST_NAME_BYTES 0))) h;
    }
