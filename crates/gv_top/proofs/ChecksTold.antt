-- From what a check of a trace says of an input to what the call leaves of it.
use Rattle.std.proofs.Common.{◌≡◌, ◌≢◌, ◌⊎◌, inl, inr, refl, ap, sym, subst, ◌∙◌, ℕ, List, take, Option, Some, Ok, Err, arith}
use Rattle.command_words.specs.declared.command.TraceCheck.{TraceCheck}
use Rattle.trace_check.specs.Inputs.{most_checked_read}
use Rattle.trace_check.specs.Said.{Verification}
use Rattle.trace_check.specs.declared.verifying.Unverified.{Unverified}
use Rattle.world.specs.Outside.{WorldMeaning}
use Rattle.world_rules.specs.declared.question.LogEntry.{LogEntry}
use Rattle.wsgi_core.specs.Applications.{App}
use Rattle.gv_top.specs.Answers.{Answer}
use Rattle.gv_top.specs.Checks.{AnswersCheck, LeavesCheck}
use Rattle.gv_top.specs.Outcomes.{Fails, Passes, Refuses}
use Rattle.gv_top.specs.Top.{Ended, Stream}
use Rattle.gv_top.specs.Verifying.{IsAnswerOf, IsCheckAnswer, unverified, verified}
use Rattle.gv_top.specs.Inner.{IsAnswerWhere}
use Rattle.gv_top.specs.declared.words.OfflineCommand.{OfflineCommand}
use Rattle.gv_top.proofs.Said.{Tells, answer_is_said, told}
use Rattle.gv_top.proofs.Tops.{checks_so, is_answered, reads_trace, tells_nothing}

-- ---- the status

-- the status is one of three, and comes with what is said of the input
abbrev IsOneOf : ℕ → TraceCheck → List ℕ → Type 0
IsOneOf n check bytes =
    ((n ≡ 0) × ((lines : ℕ) × Passes check bytes lines)) ⊎ ((n ≡ 9) × ((why : Unverified) × Fails check bytes why)) ⊎ ((n ≡ 3) × ((why : Unverified) × Refuses check bytes why))

one_of : (n : ℕ) (check : TraceCheck) (bytes : List ℕ) (v : Verification) (a : Answer) → n ≡ a.status → Tells check bytes v → IsAnswerWhere v a → IsOneOf n check bytes
one_of n check bytes (Ok lines) a is h e = inl (is ∙ ap (λ (x : Answer). x.status) e, (lines, h))
one_of n check bytes (Err (Unverified.Overlong line)) a is h e = inr (inr (is ∙ ap (λ (x : Answer). x.status) e, (Unverified.Overlong line, h)))
one_of n check bytes (Err (Unverified.Unmarked line)) a is h e = inr (inr (is ∙ ap (λ (x : Answer). x.status) e, (Unverified.Unmarked line, h)))
one_of n check bytes (Err (Unverified.Refused at)) a is h e = inr (inr (is ∙ ap (λ (x : Answer). x.status) e, (Unverified.Refused at, h)))
one_of n check bytes (Err (Unverified.Wrong line cause)) a is h e = inr (inl (is ∙ ap (λ (x : Answer). x.status) e, (Unverified.Wrong line cause, h)))
one_of n check bytes (Err (Unverified.Lawless line law)) a is h e = inr (inl (is ∙ ap (λ (x : Answer). x.status) e, (Unverified.Lawless line law, h)))
one_of n check bytes (Err Unverified.Memory) a is h e = absurd e

answer_is_one : (n : ℕ) (check : TraceCheck) (bytes : List ℕ) (a : Answer) → n ≡ a.status → IsCheckAnswer check bytes a → IsOneOf n check bytes
answer_is_one n check bytes a is h = let s = answer_is_said check bytes a h in one_of n check bytes s.0 a is (told check bytes s.0 s.1) s.2

zero : (n : ℕ) (check : TraceCheck) (bytes : List ℕ) → IsOneOf n check bytes → n ≡ 0 → (lines : ℕ) × Passes check bytes lines
zero n check bytes (inl h) e = h.1
zero n check bytes (inr (inl h)) e = absurd (let q = sym h.0 ∙ e in omega arith)
zero n check bytes (inr (inr h)) e = absurd (let q = sym h.0 ∙ e in omega arith)

nine : (n : ℕ) (check : TraceCheck) (bytes : List ℕ) → IsOneOf n check bytes → n ≡ 9 → (why : Unverified) × Fails check bytes why
nine n check bytes (inl h) e = absurd (let q = sym h.0 ∙ e in omega arith)
nine n check bytes (inr (inl h)) e = h.1
nine n check bytes (inr (inr h)) e = absurd (let q = sym h.0 ∙ e in omega arith)

three : (n : ℕ) (check : TraceCheck) (bytes : List ℕ) → IsOneOf n check bytes → n ≡ 3 → (why : Unverified) × Refuses check bytes why
three n check bytes (inl h) e = absurd (let q = sym h.0 ∙ e in omega arith)
three n check bytes (inr (inl h)) e = absurd (let q = sym h.0 ∙ e in omega arith)
three n check bytes (inr (inr h)) e = h.1

no_other : (n : ℕ) (check : TraceCheck) (bytes : List ℕ) → IsOneOf n check bytes → (n ≡ 0) ⊎ (n ≡ 9) ⊎ (n ≡ 3)
no_other n check bytes (inl h) = inl h.0
no_other n check bytes (inr (inl h)) = inr (inl h.0)
no_other n check bytes (inr (inr h)) = inr (inr h.0)

-- ---- what the call leaves

passing_answer : (check : TraceCheck) (bytes : List ℕ) (lines : ℕ) → Passes check bytes lines → IsCheckAnswer check bytes (verified lines)
unfolding IsCheckAnswer
passing_answer check bytes lines h = inl (lines, h, refl)

unverified_answer : (check : TraceCheck) (bytes : List ℕ) (why : Unverified) → Fails check bytes why ⊎ Refuses check bytes why → IsCheckAnswer check bytes (unverified why)
unfolding IsCheckAnswer
unverified_answer check bytes why h = inr (why, h, refl)

-- an answer of this check is one of the command that wants it
wanted_answer : (app : App) (c : Option OfflineCommand) (after : WorldMeaning) (check : TraceCheck) (left : List ℕ) (a : Answer) → c ≡ Some (OfflineCommand.Verify check) →
    IsCheckAnswer check (take most_checked_read left) a → IsAnswerOf app c after.answers left a
wanted_answer app c after check left a is h = subst (λ (d : Option OfflineCommand). IsAnswerOf app d after.answers left a) (sym is) h

leaves_check : {n : ℕ} {app : App} {c : Option OfflineCommand} {after : WorldMeaning} {stands : List LogEntry → Type 0} {input out err : Stream} (check : TraceCheck) (left : List ℕ) →
    Ended n app c after stands input out err → c ≡ Some (OfflineCommand.Verify check) → input.before ≡ Some left → n ≢ 4 → n ≢ 5 → n ≢ 7 → LeavesCheck n check (take most_checked_read left) out err
leaves_check {n} {app = app} {c = c} {after = after} {out = out} {err = err} check left h is told h4 h5 h7 =
    let bytes = take most_checked_read left in
    let given = checks_so check left h is told h4 h5 h7 in
    let one : IsOneOf n check bytes = answer_is_one n check bytes given.0 (given.2.status h4 h5 h7) given.1 in
    record {
      passes = λ lines p. is_answered h left (verified lines) told (wanted_answer app c after check left (verified lines) is (passing_answer check bytes lines p));
      passed = zero n check bytes one;
      fails = λ why p. is_answered h left (unverified why) told (wanted_answer app c after check left (unverified why) is (unverified_answer check bytes why (inl p)));
      failed = nine n check bytes one;
      refuses = λ why p. is_answered h left (unverified why) told (wanted_answer app c after check left (unverified why) is (unverified_answer check bytes why (inr p)));
      refused = three n check bytes one;
      one_of = no_other n check bytes one;
    }

pub answers_check : {n : ℕ} {app : App} {c : Option OfflineCommand} {after : WorldMeaning} {stands : List LogEntry → Type 0} {input out err : Stream} →
    Ended n app c after stands input out err → AnswersCheck n c input out err
answers_check h = record {
  answer = λ check left is told h4 h5 h7. leaves_check check left h is told h4 h5 h7;
  unprinted = λ check is h0 h5. tells_nothing check h is h0 h5;
  read_whole = λ check is h4 h5 h7 left told. reads_trace check h is h4 h5 h7 left told;
}
