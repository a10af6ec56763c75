-- The numbers of the two kinds of reasons.
use Rattle.std.specs.Prelude.{ℕ, Bool, ◌&&◌, ◌||◌, ◌==◌, nat_le}

-- the numbers of the first kind: 1 to 14, 21 and 26
abbrev pub is_text_reason : ℕ → Bool
is_text_reason r = nat_le 1 r && nat_le r 14 || r == 21 || r == 26

-- the numbers of the second kind: 15 to 20 and 22
abbrev pub is_rule_reason : ℕ → Bool
is_rule_reason r = nat_le 15 r && nat_le r 20 || r == 22

-- the numbers of both kinds
abbrev pub is_reason : ℕ → Bool
is_reason r = is_text_reason r || is_rule_reason r
