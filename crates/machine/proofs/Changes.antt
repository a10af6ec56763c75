-- A list that is set at one place keeps the others.
use Rattle.std.proofs.Common.{◌≡◌, refl, ℕ, zero, suc, List, [], ◌∷◌, slice_set}
use Rattle.std.specs.Prelude.{slice_get, Some}

pub slice_get-set_other : {X : Type 0} (xs : List X) (i j : ℕ) (x : X) → (Some i ≡ Some j → ⊥) → slice_get (slice_set xs j x) i ≡ slice_get xs i
slice_get-set_other [] i j x h = refl
slice_get-set_other (y ∷ xs) zero zero x h = absurd (h refl)
slice_get-set_other (y ∷ xs) zero (suc j) x h = refl
slice_get-set_other (y ∷ xs) (suc i) zero x h = refl
slice_get-set_other (y ∷ xs) (suc i) (suc j) x h = slice_get-set_other xs i j x (λ e. h (cc e))
