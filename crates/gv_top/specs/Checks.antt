-- What `verify` leaves behind.
use Rattle.std.specs.Prelude.{◌≡◌, ◌≢◌, ◌⊎◌, ℕ, List, Option, Some, drop, take}
use Rattle.command_words.specs.declared.command.TraceCheck.{TraceCheck}
use Rattle.trace_check.specs.Inputs.{most_checked_read}
use Rattle.trace_check.specs.declared.verifying.Unverified.{Unverified}
use Rattle.gv_top.specs.Top.{IsAnswered, Stream}
use Rattle.gv_top.specs.Verifying.{unverified, verified}
use Rattle.gv_top.specs.declared.words.OfflineCommand.{OfflineCommand}
use Rattle.gv_top.specs.Outcomes.{Fails, Passes, Refuses}

-- What is left of an input of which these bytes are read, with every status but 4, 5 and 7.
pub record LeavesCheck (status : ℕ) (check : TraceCheck) (bytes : List ℕ) (out err : Stream) : Type 0 where
  -- Status 0 exactly where it passes; out has the number of lines.
  pub passes : (lines : ℕ) → Passes check bytes lines → IsAnswered status (verified lines) out.before out.after err.before err.after
  pub passed : status ≡ 0 → (lines : ℕ) × Passes check bytes lines
  -- Status 9 exactly where it fails; err has the line, and the cause or the law.
  pub fails : (why : Unverified) → Fails check bytes why → IsAnswered status (unverified why) out.before out.after err.before err.after
  pub failed : status ≡ 9 → (why : Unverified) × Fails check bytes why
  -- Status 3 exactly where it is refused; err has the line, and the reason.
  pub refuses : (why : Unverified) → Refuses check bytes why → IsAnswered status (unverified why) out.before out.after err.before err.after
  pub refused : status ≡ 3 → (why : Unverified) × Refuses check bytes why
  -- There is no other status.
  pub one_of : (status ≡ 0) ⊎ (status ≡ 9) ⊎ (status ≡ 3)

-- What words that name a check of a trace leave, by the status and by the input, out and err.
pub record AnswersCheck (status : ℕ) (command : Option OfflineCommand) (input out err : Stream) : Type 0 where
  -- The status, out and err are those of what is said of the input, but with the statuses 4, 5 and 7.
  pub answer : (check : TraceCheck) (left : List ℕ) → command ≡ Some (OfflineCommand.Verify check) → input.before ≡ Some left → status ≢ 4 → status ≢ 5 → status ≢ 7 →
      LeavesCheck status check (take most_checked_read left) out err
  -- Out is as it was with every status but 0 and 5.
  pub unprinted : (check : TraceCheck) → command ≡ Some (OfflineCommand.Verify check) → status ≢ 0 → status ≢ 5 → out.after ≡ out.before
  -- Every status but 4, 5 and 7 comes only where the input was read to its end or to one byte past the most that it may
  -- have.
  pub read_whole : (check : TraceCheck) → command ≡ Some (OfflineCommand.Verify check) → status ≢ 4 → status ≢ 5 → status ≢ 7 →
      (left : List ℕ) → input.before ≡ Some left → input.after ≡ Some (drop most_checked_read left)
