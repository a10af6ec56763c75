-- What contracts say of the numbers of the members.
use Rattle.std.specs.Prelude.{ℕ, ◌<◌, List, [], ◌∷◌}

-- each number is below n
abbrev pub AreBelow : ℕ → List ℕ → Type 0
AreBelow n [] = Unit {0}
AreBelow n (m ∷ ms) = (m < n) × AreBelow n ms

-- each number is above m
abbrev pub AreAbove : ℕ → List ℕ → Type 0
AreAbove m [] = Unit {0}
AreAbove m (n ∷ ms) = (m < n) × AreAbove m ms

-- each number is below all that follow it
abbrev pub IsRising : List ℕ → Type 0
IsRising [] = Unit {0}
IsRising (m ∷ ms) = AreAbove m ms × IsRising ms
