-- What is said, of what the call answers.
use Rattle.std.proofs.Common.{◌≡◌, ◌≢◌, ◌⊎◌, inl, inr, ℕ, ◌<◌, List, [], Option, Some, refl, sym, subst, arith, ◌∙◌}
use Rattle.gv_values.specs.Counts.{HasRisen}
use Rattle.gv_values.specs.declared.job.Answer.{Answer as Given}
use Rattle.gv_io.specs.Memory.{SinkState}
use Rattle.gv_io.specs.Streams.{appended}
use Rattle.command_words.specs.Words.{Word}
use Rattle.wsgi_core.specs.Applications.{App}
use Rattle.gv_top.specs.declared.words.OfflineCommand.{OfflineCommand}
use Rattle.gv_top.specs.Answers.{Answer}
use Rattle.gv_top.specs.Commands.{IsBorneOut}
use Rattle.gv_top.specs.Top.{FailsToWrite, IsAnswered, Stream}
use Rattle.gv_top.specs.Verifying.{IsAnswerOf}
use Rattle.page_answer.specs.Page.{IsFull, IsFullWhereFailed, first_of, written_in}
use Rattle.gvr_page.specs.Page.{IsSaid}

-- the streams were empty, and the status is the same number
pub told : (n m : ℕ) (a : Answer) (out0 out1 err0 err1 : List ℕ) → m ≡ n → out0 ≡ [] → err0 ≡ [] →
    IsAnswered n a (Some out0) (Some out1) (Some err0) (Some err1) → IsAnswered m a (Some []) (Some out1) (Some []) (Some err1)
told n m a out0 out1 err0 err1 is none_out none_err h =
    let from_out : IsAnswered n a (Some []) (Some out1) (Some err0) (Some err1) =
    subst (λ o. IsAnswered n a (Some o) (Some out1) (Some err0) (Some err1)) none_out h in
    let from_err : IsAnswered n a (Some []) (Some out1) (Some []) (Some err1) =
    subst (λ o. IsAnswered n a (Some []) (Some out1) (Some o) (Some err1)) none_err from_out in
    subst (λ k. IsAnswered k a (Some []) (Some out1) (Some []) (Some err1)) (sym is) from_err

-- native workers gave no answers
pub unasked : (app : App) (command : Option OfflineCommand) (given : List Given) (left : List ℕ) (a : Answer) → given ≡ [] → IsAnswerOf app command [] left a → IsAnswerOf app command given left a
unasked app command given left a none h = subst (λ g. IsAnswerOf app command g left a) (sym none) h

-- the text can be read
pub readable : (n m : ℕ) (input out err : Stream) → m ≡ n → input.faults_after ≡ 0 → input.faults_before ≡ 0 → IsBorneOut n input out err → m ≢ 4
readable n m input out err is none never h four = by (h.read_fault (sym is ∙ four))
  where
    by : HasRisen input.faults_before input.faults_after → ⊥
    by (inl rose) = omega (arith, rose, none)
    by (inr last) = omega (arith, last, none)

-- a count that rose is not 0
above_none : (old new : ℕ) → HasRisen old new → 0 < new
above_none old new (inl rose) = omega (arith, rose)
above_none old new (inr last) = omega (arith, last)

-- a write failed where there is no room
pub roomless : (n m : ℕ) (out0 out1 err0 err1 : SinkState) (input : Stream) → m ≡ n → IsFullWhereFailed out1 → IsFullWhereFailed err1
    → IsBorneOut n input (record { before = Some out0.bytes; after = Some out1.bytes; faults_before = out0.faults; faults_after = out1.faults })
    (record { before = Some err0.bytes; after = Some err1.bytes; faults_before = err0.faults; faults_after = err1.faults })
    → m ≡ 5 → IsFull (written_in out1) ⊎ IsFull (written_in err1)
roomless n m out0 out1 err0 err1 input is out_full err_full h five = by (h.write_fault (sym is ∙ five))
  where
    by : FailsToWrite (record { before = Some out0.bytes; after = Some out1.bytes; faults_before = out0.faults; faults_after = out1.faults })
        (record { before = Some err0.bytes; after = Some err1.bytes; faults_before = err0.faults; faults_after = err1.faults }) → IsFull (written_in out1) ⊎ IsFull (written_in err1)
    by (inl (rose, line)) = inl (out_full (above_none _ _ rose))
    by (inr (v, some, rose, line)) = inr (err_full (above_none _ _ rose))

-- want of memory, of which nothing is said
pub nothing_said : (words : List Word) (text out err : List ℕ) → IsSaid 7 words text (first_of 0 out) (first_of 0 err)
unfolding appended
nothing_said words text out err = record {
  answered = λ a other none of. record {
    prefix = record { count = 0; is = refl };
    status = λ a b c. absurd (c refl);
    out = λ a b c. absurd (c refl);
    err = λ a b c. absurd (c refl);
  };
  read = λ e. omega arith;
  full = λ e. absurd (omega arith);
  serves = λ e. absurd (omega arith);
}
