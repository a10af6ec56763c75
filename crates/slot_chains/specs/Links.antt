-- What the 32 bits of a link say.
use Rattle.std.specs.Prelude.{◌≡◌, ℕ, Option, Some, None, ◌==◌, if◌then◌else◌}
use Rattle.std.proofs.Common.{Bool, refl, arith, false, true}
use Rattle.std.proofs.lemmas.Bool.Decides.{nat_tests}
use Rattle.slot_chains.specs.declared.limits.TheConstants.{MOST_CHAINED}

-- the slot that they name, if they name one
abbrev pub slot_in : ℕ → Option ℕ
slot_in b = if b == MOST_CHAINED then None else Some b

-- the bits that name the slot, or none
abbrev pub bits_for : Option ℕ → ℕ
bits_for None = MOST_CHAINED
bits_for (Some q) = q

-- the slot gives the bits back
pub bits_again : (b : ℕ) → bits_for (slot_in b) ≡ b
bits_again b = by (b == MOST_CHAINED) refl
  where
    by : (t : Bool) → (b == MOST_CHAINED) ≡ t → bits_for (if t then None else Some b) ≡ b
    by false e = refl
    by true e = grind (arith, nat_tests)
