-- What is seen of a turn line where the run departs from a trace.
use Rattle.std.proofs.Common.{◌≡◌, ℕ, true, false, nat_lt, inl, inr, take, sym, subst, arith}
use Rattle.std.specs.Prelude.{if◌then◌else◌}
use Rattle.std.proofs.lemmas.Bool.{cases_lt}
use Rattle.std.proofs.lemmas.Bool.Decides.{nat_tests}
use Rattle.gv_values.specs.declared.job.Answer.{Answer}
use Rattle.gv_values.specs.Texts.{Text}
use Rattle.trace_text.specs.declared.line.Line.{Line}
use Rattle.trace_laws.specs.Seen.{IsSeen}
use Rattle.trace_laws.specs.Traces.{BeginsWithLine}
use Rattle.trace_laws.specs.Reads.{BeginsAt, IsFirst, blanks}
use Rattle.trace_laws.specs.declared.reading.FirstLine.{FirstLine}
use Rattle.trace_laws.specs.declared.refusal.Cause.{Cause}

pub begins_with : (rest : Text) (l : Line) (next : ℕ) → BeginsAt rest l next → BeginsWithLine rest l
begins_with rest l next b = record { fits = b.fits; more = _; is = b.is }

pub turn_seen : (rest : Text) (matched : ℕ) (first : FirstLine) (answer : Answer) (next : ℕ) (cause : Cause) → IsFirst rest first → first ≡ FirstLine.Turn answer next →
    cause ≡ (if nat_lt (blanks (take matched rest)) 2 then Cause.OtherLine else Cause.NotLegal) → IsSeen rest matched cause
turn_seen rest matched first answer next cause f e is =
    let b = subst (λ (x : FirstLine). IsFirst rest x) e f in
    let line = Line.Turn b.0 answer in
    elim (cases_lt (blanks (take matched rest)) 2) [
      | inl few ↦
          let test : nat_lt (blanks (take matched rest)) 2 ≡ true = grind (arith, nat_tests) in
          let other : cause ≡ Cause.OtherLine = rw test at is in
          subst (IsSeen rest matched) (sym other) (record { line = line; begins = begins_with rest line next b.1; near = λ n a h. few })
      | inr far ↦
          let test : nat_lt (blanks (take matched rest)) 2 ≡ false = grind (arith, nat_tests) in
          let illegal : cause ≡ Cause.NotLegal = rw test at is in
          subst (IsSeen rest matched) (sym illegal) (record { number = b.0; answer = answer; begins = begins_with rest line next b.1; far = far })
    ]
