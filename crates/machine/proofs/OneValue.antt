-- A list of one value is that value.
use Rattle.std.proofs.Common.{◌≡◌, refl, ℕ, List, [], ◌∷◌, length, slice_get, arith}
use Rattle.std.specs.Prelude.{unwrap_or}
use Rattle.gv_values.specs.declared.value.Value.{Value}

pub one_value : (vs : List Value) → length vs ≡ 1 → vs ≡ unwrap_or (slice_get vs 0) Value.Nothing ∷ []
one_value (v ∷ []) e = refl
one_value [] e = cc
one_value (v ∷ w ∷ vs) e = cc
