-- The slots of streams in memory.
use Rattle.std.specs.Prelude.{◌≡◌, ℕ, ◌<◌, List, slice_get, Some}

-- each slot has one of so many streams
abbrev pub AreWithin : List ℕ → ℕ → Type 0
AreWithin slots count = (slot number : ℕ) → slice_get slots slot ≡ Some number → number < count
