-- When the answer of a check is right, and when two are the same.
use Rattle.std.specs.Prelude.{◌≡◌, ℕ, Result, Ok, Err}
use Rattle.gv_values.specs.Texts.{Text}
use Rattle.trace_laws.specs.declared.refusal.TraceRefusal.{TraceRefusal}
use Rattle.trace_laws.specs.Check.{IsVerified, IsWrong, Runs}
use Rattle.trace_laws.specs.declared.lawful.LawlessTrace.{LawlessTrace}
use Rattle.trace_laws.specs.Lawful.{IsLawful, IsLawless, IsUnread}

-- the answer is right, unless memory ran out
abbrev pub IsJudged : Runs → Text → Result ℕ TraceRefusal → Type 0
IsJudged whole trace (Ok count) = IsVerified whole trace count
IsJudged whole trace (Err (TraceRefusal.Wrong line cause)) = IsWrong whole trace line cause
IsJudged whole trace (Err TraceRefusal.Memory) = Unit {0}

-- the same answer, unless memory ran out
abbrev pub IsSameAnswer : Result ℕ TraceRefusal → Result ℕ TraceRefusal → Type 0
IsSameAnswer (Err TraceRefusal.Memory) other = Unit {0}
IsSameAnswer answer (Err TraceRefusal.Memory) = Unit {0}
IsSameAnswer answer other = answer ≡ other

-- the answer is right, unless memory ran out
abbrev pub IsJudgedLawful : Text → Result ℕ LawlessTrace → Type 0
IsJudgedLawful trace (Ok count) = IsLawful trace count
IsJudgedLawful trace (Err (LawlessTrace.NotALine line)) = IsUnread trace line
IsJudgedLawful trace (Err (LawlessTrace.Broken line law)) = IsLawless trace line law
IsJudgedLawful trace (Err LawlessTrace.Memory) = Unit {0}

-- the same answer, unless memory ran out
abbrev pub IsSameLawful : Result ℕ LawlessTrace → Result ℕ LawlessTrace → Type 0
IsSameLawful (Err LawlessTrace.Memory) other = Unit {0}
IsSameLawful answer (Err LawlessTrace.Memory) = Unit {0}
IsSameLawful answer other = answer ≡ other
