-- Words of digits.
use Rattle.std.specs.Prelude.{ℕ, Bool, false, ◌&&◌, nat_le, List, [], ◌∷◌}
use Rattle.std.specs.List.{list_all}
use Rattle.gv_values.specs.Name.{is_digit}

-- `0`, or digits that begin with another
abbrev pub is_plain_number : List ℕ → Bool
is_plain_number [] = false
is_plain_number (b ∷ []) = is_digit b
is_plain_number (b ∷ c ∷ bs) = nat_le 49 b && nat_le b 57 && list_all is_digit (c ∷ bs)
