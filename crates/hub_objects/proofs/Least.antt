-- The least integer among values, one value further.
use Rattle.std.proofs.Common.{◌≡◌, refl, ℕ, ◌+◌, Bool, true, false, List, ◌∷◌, Some, None, ℤ}
use Rattle.std.specs.Prelude.{if◌then◌else◌, int_lt}
use Rattle.gv_values.specs.declared.value.Value.{Value}
use Rattle.machine.specs.Objects.{least_from}
use Rattle.hub_objects.specs.Least.{lesser}

-- a lesser one is the least so far
pub lesser_found : (v : Value) (vs : List Value) (at best : ℕ) (z y : ℤ) → lesser v z ≡ Some y → least_from at best z (v ∷ vs) ≡ least_from (at + 1) at y vs
lesser_found (Value.Int x) vs at best z y e = by (int_lt x z) e
  where
    by : (b : Bool) → (if b then Some x else None) ≡ Some y → (if b then least_from (at + 1) at x vs else least_from (at + 1) best z vs) ≡ least_from (at + 1) at y vs
    by true f = cc
    by false f = cc
lesser_found v vs at best z y e = cc

-- any other value is passed
pub none_lesser : (v : Value) (vs : List Value) (at best : ℕ) (z : ℤ) → lesser v z ≡ None → least_from at best z (v ∷ vs) ≡ least_from (at + 1) best z vs
none_lesser (Value.Int x) vs at best z e = by (int_lt x z) e
  where
    by : (b : Bool) → (if b then Some x else None) ≡ None → (if b then least_from (at + 1) at x vs else least_from (at + 1) best z vs) ≡ least_from (at + 1) best z vs
    by true f = cc
    by false f = refl
none_lesser v vs at best z e = refl
