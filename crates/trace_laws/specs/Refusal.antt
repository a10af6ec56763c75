-- The numbers and the texts of causes.
use Rattle.std.specs.Prelude.{ℕ, List, codes}
use Rattle.trace_laws.specs.declared.refusal.Cause.{Cause}

abbrev pub cause_number : Cause → ℕ
cause_number Cause.NotALine = 1
cause_number Cause.OtherLine = 2
cause_number Cause.NotLegal = 3
cause_number Cause.TooShort = 4
cause_number Cause.PastEnd = 5

abbrev pub check_cause_text : Cause → List ℕ
check_cause_text Cause.NotALine = codes "not a trace line"
check_cause_text Cause.OtherLine = codes "not the line of the run"
check_cause_text Cause.NotLegal = codes "answer not legal"
check_cause_text Cause.TooShort = codes "trace too short"
check_cause_text Cause.PastEnd = codes "trace goes on after its end"
