use Rattle.std.proofs.Common.{List, ℕ, refl, subst, sym, ◌∙◌}
use Rattle.gv_io.proofs.StreamLaws.{AppendsPrefix-nothing}
use Rattle.trace_check.specs.Inputs.{most_checked_read}
use Rattle.gv_top.specs.Answers.{Answer}
use Rattle.gv_top.specs.Top.{FitsAnswer}
use Rattle.gv_top.specs.Verifying.{IsCheckAnswer}
use Rattle.gv_top.proofs.Deciding.{left_behind, read_first}
use Rattle.gv_top.proofs.verifying.answer_check.Goals as goal

pub returns-in-Err-Fault-clause-answer : goal.returns-in-Err-Fault-clause-answer
returns-in-Err-Fault-clause-answer g c = λ left a told of. AppendsPrefix-nothing _ _

pub returns-in-Err-Fault-clause-checked : goal.returns-in-Err-Fault-clause-checked
returns-in-Err-Fault-clause-checked g c = λ left told h4 h5 h7. absurd (h4 refl)

pub returns-in-Err-Memory-clause-answer : goal.returns-in-Err-Memory-clause-answer
returns-in-Err-Memory-clause-answer g c = λ left a told of. AppendsPrefix-nothing _ _

pub returns-in-Err-Memory-clause-checked : goal.returns-in-Err-Memory-clause-checked
returns-in-Err-Memory-clause-checked g c = λ left told h4 h5 h7. absurd (h7 refl)

pub returns-in-Ok-clause-answer : goal.returns-in-Ok-clause-answer
returns-in-Ok-clause-answer g c = λ left a told of.
    let P : List ℕ → Type 0 = λ bytes. IsCheckAnswer c.args.check bytes a in
    c.check_bytes.ensures.answer a (subst P (sym (c.as_slice.ensures.value ∙ read_first most_checked_read left _ _ told c.in-Ok.ensures.first)) of)

pub returns-in-Ok-clause-checked : goal.returns-in-Ok-clause-checked
returns-in-Ok-clause-checked g c = λ left told h4 h5 h7.
    let P : List ℕ → Type 0 = λ bytes. (a : Answer) × IsCheckAnswer c.args.check bytes a × FitsAnswer c.check_bytes.result a (g.K.Sink.written c.args.out.now) (g.K.Sink.written c.check_bytes.new.out) in
    subst P (c.as_slice.ensures.value ∙ read_first most_checked_read left _ _ told c.in-Ok.ensures.first) (c.check_bytes.ensures.checked h5 h7)

pub returns-in-Ok-clause-read_whole : goal.returns-in-Ok-clause-read_whole
returns-in-Ok-clause-read_whole g c = λ left told h4 h7. left_behind most_checked_read left _ _ _ told c.in-Ok.ensures.first c.in-Ok.ensures.next
