-- The table of places.
use Rattle.std.proofs.Common.{ℕ, zero, suc, ◌<◌, List, [], ◌∷◌, length, arith}
use Rattle.due_timers.specs.Places.{Has}

-- an item that has a place is in the table
pub has_within : (places : List ℕ) (q k : ℕ) → Has places q k → q < length places
has_within [] q k h = absurd (let a = h.0 in let e = h.1 in omega arith)
has_within (x ∷ xs) zero k h = omega arith
has_within (x ∷ xs) (suc q) k h = let r = has_within xs q k h in omega arith
