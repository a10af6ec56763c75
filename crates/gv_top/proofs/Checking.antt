-- From what a check of a trace says to its verdict.
use Rattle.std.proofs.Common.{◌≡◌, ◌≢◌, ℕ, List, [], Option, Ok, Err, refl, ap, sym, subst, ◌∙◌}
use Rattle.gv_io.specs.Streams.{appended}
use Rattle.gv_io.proofs.StreamLaws.{appended-nothing, AppendsPrefix-nothing}
use Rattle.command_words.specs.declared.command.TextCommand.{TextCommand}
use Rattle.command_words.specs.declared.command.TraceCheck.{TraceCheck}
use Rattle.trace_check.specs.Said.{IsReasoned, IsSaid, IsSaidOf, IsSame, Verification}
use Rattle.trace_check.specs.declared.verifying.Unverified.{Unverified}
use Rattle.gv_top.specs.Answers.{Answer}
use Rattle.gv_top.specs.Top.{Decided, FitsAnswer}
use Rattle.gv_top.specs.Status.{verdict_line, verdict_of_check, verdict_status}
use Rattle.gv_top.specs.Verifying.{IsCheckAnswer, unverified, verified}
use Rattle.gv_top.specs.Inner.{IsAnswerWhere, IsExplained}
use Rattle.gv_top.specs.declared.status.Verdict.{Verdict}
use Rattle.gv_top.specs.declared.words.OfflineCommand.{OfflineCommand}
use Rattle.gv_top.proofs.Deciding.{decided_as}
use Rattle.gv_top.proofs.Said.{answer_is_said, said_is_answer}

-- ---- what is said is one thing

abbrev IsTold : Verification → Type 0
IsTold v = v ≢ Err Unverified.Memory

ok_is_told : (lines : ℕ) → IsTold (Ok lines)
ok_is_told lines e = cc e

answers_where : (v w : Verification) (a : Answer) → IsSame v w → IsTold w → IsAnswerWhere v a → IsAnswerWhere w a
answers_where v w a same told h = subst (λ x. IsAnswerWhere x a) (same (λ e. subst (λ x. IsAnswerWhere x a) e h) told) h

-- nothing else is said of the input
abbrev IsOnly : TraceCheck → List ℕ → Verification → Type 0
IsOnly check bytes w = (right : Verification) → IsSaidOf check bytes right → IsSame right w

answer_where : (check : TraceCheck) (bytes : List ℕ) (w : Verification) (a : Answer) → IsOnly check bytes w → IsTold w → IsCheckAnswer check bytes a → IsAnswerWhere w a
answer_where check bytes w a only told h = let s = answer_is_said check bytes a h in answers_where s.0 w a (only s.0 s.1) told s.2

-- ---- the trace was verified

pub verified_decided : (check : TraceCheck) (bytes : List ℕ) (lines : ℕ) (v : Verdict) (a : Answer) (old new : Option (List ℕ)) → IsOnly check bytes (Ok lines)
    → Decided v (verified lines) old new → IsCheckAnswer check bytes a → Decided v a old new
verified_decided check bytes lines v a old new only d h = decided_as v a (verified lines) old new (answer_where check bytes (Ok lines) a only (ok_is_told lines) h) d

pub verified_fits : (check : TraceCheck) (bytes : List ℕ) (lines : ℕ) (v : Verdict) (old new : Option (List ℕ)) → IsSaid (IsSaidOf check bytes) (Ok lines)
    → FitsAnswer v (verified lines) old new → (a : Answer) × IsCheckAnswer check bytes a × FitsAnswer v a old new
verified_fits check bytes lines v old new said fits = (verified lines, said_is_answer check bytes (Ok lines) (verified lines) (said (ok_is_told lines)) refl, fits)

-- ---- it was not

-- the verdict on a refusal has its status and its line
check_status : (refusal : Unverified) → verdict_status (verdict_of_check refusal) ≡ (unverified refusal).status
check_status (Unverified.Overlong n) = refl
check_status (Unverified.Unmarked n) = refl
check_status (Unverified.Refused place) = refl
check_status (Unverified.Wrong n cause) = refl
check_status (Unverified.Lawless n law) = refl
check_status Unverified.Memory = refl

check_line : (refusal : Unverified) → verdict_line (verdict_of_check refusal) ≡ (unverified refusal).err
check_line (Unverified.Overlong n) = refl
check_line (Unverified.Unmarked n) = refl
check_line (Unverified.Refused place) = refl
check_line (Unverified.Wrong n cause) = refl
check_line (Unverified.Lawless n law) = refl
check_line Unverified.Memory = refl

-- a refusal writes nothing to out
refusal_fits : (refusal : Unverified) (a : Answer) (old : Option (List ℕ)) → (unverified refusal).out ≡ [] → a ≡ unverified refusal → FitsAnswer (verdict_of_check refusal) a old old
refusal_fits refusal a old none e =
    let P : Answer → Type 0 = λ x. FitsAnswer (verdict_of_check refusal) x old old in
    subst P (sym e) (sym (ap (appended old) none ∙ appended-nothing old), check_status refusal, check_line refusal)

refusal_decided : (check : TraceCheck) (bytes : List ℕ) (refusal : Unverified) (a : Answer) (old : Option (List ℕ)) → IsOnly check bytes (Err refusal)
    → IsCheckAnswer check bytes a → Decided (verdict_of_check refusal) a old old
refusal_decided check bytes (Unverified.Overlong n) a old only h =
    refusal_fits (Unverified.Overlong n) a old refl (answer_where check bytes (Err (Unverified.Overlong n)) a only (λ e. cc e) h)
refusal_decided check bytes (Unverified.Unmarked n) a old only h =
    refusal_fits (Unverified.Unmarked n) a old refl (answer_where check bytes (Err (Unverified.Unmarked n)) a only (λ e. cc e) h)
refusal_decided check bytes (Unverified.Refused place) a old only h =
    refusal_fits (Unverified.Refused place) a old refl (answer_where check bytes (Err (Unverified.Refused place)) a only (λ e. cc e) h)
refusal_decided check bytes (Unverified.Wrong n cause) a old only h =
    refusal_fits (Unverified.Wrong n cause) a old refl (answer_where check bytes (Err (Unverified.Wrong n cause)) a only (λ e. cc e) h)
refusal_decided check bytes (Unverified.Lawless n law) a old only h =
    refusal_fits (Unverified.Lawless n law) a old refl (answer_where check bytes (Err (Unverified.Lawless n law)) a only (λ e. cc e) h)
refusal_decided check bytes Unverified.Memory a old only h = AppendsPrefix-nothing old a.out

pub unverified_decided : (check : TraceCheck) (bytes : List ℕ) (refusal : Unverified) (v : Verdict) (a : Answer) (old : Option (List ℕ)) → v ≡ verdict_of_check refusal → IsOnly check bytes (Err refusal)
    → IsCheckAnswer check bytes a → Decided v a old old
unverified_decided check bytes refusal v a old is only h =
    let P : Verdict → Type 0 = λ x. Decided x a old old in subst P (sym is) (refusal_decided check bytes refusal a old only h)

-- the answer that a verdict on a refusal is
abbrev HasRefusal : TraceCheck → List ℕ → Verdict → Option (List ℕ) → Type 0
HasRefusal check bytes v old = (a : Answer) × IsCheckAnswer check bytes a × FitsAnswer v a old old

refusal_answers : (check : TraceCheck) (bytes : List ℕ) (refusal : Unverified) (old : Option (List ℕ)) → (unverified refusal).out ≡ [] → IsSaidOf check bytes (Err refusal)
    → IsAnswerWhere (Err refusal) (unverified refusal) → HasRefusal check bytes (verdict_of_check refusal) old
refusal_answers check bytes refusal old none said is =
    (unverified refusal, said_is_answer check bytes (Err refusal) (unverified refusal) said is, refusal_fits refusal (unverified refusal) old none refl)

pub unverified_fits : (check : TraceCheck) (bytes : List ℕ) (refusal : Unverified) (v : Verdict) (old : Option (List ℕ)) → v ≡ verdict_of_check refusal → IsSaid (IsSaidOf check bytes) (Err refusal)
    → verdict_status v ≢ 7 → HasRefusal check bytes v old
unverified_fits check bytes refusal v old is said h7 =
    let P : Verdict → Type 0 = λ x. HasRefusal check bytes x old in subst P (sym is) (by refusal said (λ e. h7 (ap verdict_status is ∙ e)))
  where
    by : (refusal : Unverified) → IsSaid (IsSaidOf check bytes) (Err refusal) → verdict_status (verdict_of_check refusal) ≢ 7 → HasRefusal check bytes (verdict_of_check refusal) old
    by (Unverified.Overlong n) said h7 = refusal_answers check bytes (Unverified.Overlong n) old refl (said (λ e. cc e)) refl
    by (Unverified.Unmarked n) said h7 = refusal_answers check bytes (Unverified.Unmarked n) old refl (said (λ e. cc e)) refl
    by (Unverified.Refused place) said h7 = refusal_answers check bytes (Unverified.Refused place) old refl (said (λ e. cc e)) refl
    by (Unverified.Wrong n cause) said h7 = refusal_answers check bytes (Unverified.Wrong n cause) old refl (said (λ e. cc e)) refl
    by (Unverified.Lawless n law) said h7 = refusal_answers check bytes (Unverified.Lawless n law) old refl (said (λ e. cc e)) refl
    by Unverified.Memory said h7 = absurd (h7 refl)

-- its refusal of a scenario has one of the reasons
pub unverified_explained : (refusal : Unverified) (v : Verdict) → v ≡ verdict_of_check refusal → IsReasoned refusal → IsExplained v
unverified_explained refusal v is h = subst IsExplained (sym is) (by refusal h)
  where
    by : (refusal : Unverified) → IsReasoned refusal → IsExplained (verdict_of_check refusal)
    by (Unverified.Overlong n) h = tt
    by (Unverified.Unmarked n) h = tt
    by (Unverified.Refused place) h = h
    by (Unverified.Wrong n cause) h = tt
    by (Unverified.Lawless n law) h = tt
    by Unverified.Memory h = tt

-- the status is none of a command, of a read, of a write or of a net
pub unverified_status : (refusal : Unverified) (v : Verdict) (n : ℕ) → v ≡ verdict_of_check refusal → verdict_status v ≡ n → n ≢ 3 → n ≢ 7 → n ≢ 9 → ⊥
unverified_status refusal v n is h h3 h7 h9 = by refusal (sym (ap verdict_status is) ∙ h)
  where
    by : (refusal : Unverified) → verdict_status (verdict_of_check refusal) ≡ n → ⊥
    by (Unverified.Overlong k) h = h3 (sym h)
    by (Unverified.Unmarked k) h = h3 (sym h)
    by (Unverified.Refused place) h = h3 (sym h)
    by (Unverified.Wrong k cause) h = h9 (sym h)
    by (Unverified.Lawless k law) h = h9 (sym h)
    by Unverified.Memory h = h7 (sym h)

-- ---- the command

-- what is said of this check is said of the same one
pub check_as : (given check : TraceCheck) (P : TraceCheck → Type 0) → OfflineCommand.Verify check ≡ OfflineCommand.Verify given → P given → P check
check_as given check P e h = subst P (same given check e) h
  where
    same : (a b : TraceCheck) → OfflineCommand.Verify b ≡ OfflineCommand.Verify a → a ≡ b
    same a b z = cc z

-- ---- a check of a trace is no other command

pub text_is_no_check : (text : TextCommand) (check : TraceCheck) → OfflineCommand.Text text ≡ OfflineCommand.Verify check → ⊥
text_is_no_check text check e = cc e

pub check_is_no_text : (check : TraceCheck) (text : TextCommand) → OfflineCommand.Verify check ≡ OfflineCommand.Text text → ⊥
check_is_no_text check text e = cc e

pub check_is_no_storm : (check : TraceCheck) (size : ℕ) → OfflineCommand.Verify check ≡ OfflineCommand.Storm size → ⊥
check_is_no_storm check size e = cc e
