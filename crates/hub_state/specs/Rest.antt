-- When nothing is to be settled.
use Rattle.std.specs.Prelude.{ℕ, Bool, false, Option, Some, None, nat_le}

-- the deadline, if there is one, is no later than the moment
abbrev pub has_come : ℕ → Option ℕ → Bool
has_come moment None = false
has_come moment (Some deadline) = nat_le deadline moment
