use Rattle.std.proofs.Common.{◌≡◌, ◌-◌, ◌^◌, IsTrue, min, take}
use Rattle.std.specs.List.{list_all}
use Rattle.std.specs.Str.Parse.{digits_value}
use Rattle.gv_values.specs.Name.{is_digit}
use Rattle.scenario_lines.proofs.token.magnitude.Given as goal

abbrev pub invariant-loop-b : goal.invariant-loop-b
invariant-loop-b l = IsTrue (list_all is_digit l.digits) → l.value ≡ min (digits_value 10 (take l.b-index l.digits)) (2 ^ 64 - 1)
