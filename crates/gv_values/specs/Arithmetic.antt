-- Sums, products and quotients of 64-bit integers.
use Rattle.std.specs.Prelude.{◌-◌, ◌^◌, ◌==◌, Bool, true, false, not, ℤ, pos, negsuc, ◌+ℤ◌, ◌-ℤ◌, ◌*ℤ◌, int_le, int_div, int_rem, ◌&&◌, if◌then◌else◌, Result, Ok, Err}
use Rattle.gv_values.specs.declared.fault.FaultKind.{FaultKind}
use Rattle.gv_values.specs.declared.arith.Arith.{Arith}

-- from -9223372036854775808 to 9223372036854775807
abbrev pub fits : ℤ → Bool
fits z = int_le (negsuc (2 ^ 63 - 1)) z && int_le z (pos (2 ^ 63 - 1))

-- the number itself, or OverflowError past 64 bits
abbrev pub within_range : ℤ → Result ℤ FaultKind
within_range z = if fits z then Ok z else Err FaultKind.OverflowError

abbrev pub is_zero : ℤ → Bool
is_zero (pos n) = n == 0
is_zero (negsuc n) = false

-- one of the two is below 0
abbrev pub signs_differ : ℤ → ℤ → Bool
signs_differ (pos a) (negsuc b) = true
signs_differ (negsuc a) (pos b) = true
signs_differ a b = false

-- the quotient is no whole number, and lies below 0
unfoldable pub rounds : ℤ → ℤ → Bool
rounds a b = not (is_zero (int_rem a b)) && signs_differ a b

-- the quotient rounded down: where it is no whole number and lies below 0, one less than the quotient rounded towards 0
abbrev pub floor_div : ℤ → ℤ → ℤ
floor_div a b = if rounds a b then int_div a b -ℤ pos 1 else int_div a b

-- the rest of that quotient, which has the divisor's sign
abbrev pub floor_rem : ℤ → ℤ → ℤ
floor_rem a b = if rounds a b then int_rem a b +ℤ b else int_rem a b

-- what the operation gives on two integers, or its fault
abbrev pub arith_of : Arith → ℤ → ℤ → Result ℤ FaultKind
arith_of Arith.Add a b = within_range (a +ℤ b)
arith_of Arith.Sub a b = within_range (a -ℤ b)
arith_of Arith.Mul a b = within_range (a *ℤ b)
arith_of Arith.Div a b = if is_zero b then Err FaultKind.ZeroDivisionError else within_range (floor_div a b)
arith_of Arith.Rem a b = if is_zero b then Err FaultKind.ZeroDivisionError else Ok (floor_rem a b)
