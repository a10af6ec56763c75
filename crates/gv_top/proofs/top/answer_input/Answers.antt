use Rattle.std.proofs.Common.{◌≡◌, List, ℕ, inl, inr, refl, subst, ◌∙◌}
use Rattle.gv_io.proofs.StreamLaws.{AppendsPrefix-nothing}
use Rattle.gv_top.proofs.Deciding.{left_behind, read_first}
use Rattle.gv_top.proofs.Handing.{none_began}
use Rattle.gv_top.proofs.InWorlds.{none_ran}
use Rattle.gv_top.proofs.Tops.{left_alone, nothing_lawful}
use Rattle.scenario_grammar.specs.Spells.{Spells}
use Rattle.scenario_rules.specs.Rules.{IsWellFormed}
use Rattle.scenario_tree.specs.declared.tree.Scenario.{Scenario}
use Rattle.gv_top.specs.Answers.{most_read}
use Rattle.gv_top.specs.Inner.{RanSo, BeganText}
use Rattle.gv_top.specs.Status.{verdict_status}
use Rattle.gv_top.proofs.top.answer_input.Goals as goal

pub returns-in-Err-Fault-clause-answer : goal.returns-in-Err-Fault-clause-answer
returns-in-Err-Fault-clause-answer g c = λ left told. AppendsPrefix-nothing _ _

pub returns-in-Err-Memory-clause-answer : goal.returns-in-Err-Memory-clause-answer
returns-in-Err-Memory-clause-answer g c = λ left told. AppendsPrefix-nothing _ _

pub returns-in-Ok-clause-read_whole : goal.returns-in-Ok-clause-read_whole
returns-in-Ok-clause-read_whole g c = λ left told h4 h7. left_behind most_read left _ _ _ told c.in-Ok.ensures.first c.in-Ok.ensures.next

pub returns-in-Err-Fault-clause-ran : goal.returns-in-Err-Fault-clause-ran
returns-in-Err-Fault-clause-ran g c = λ left told s j options e. none_ran 4 options s _ _ _ _ (refl, inl refl)

pub returns-in-Err-Fault-clause-lawful : goal.returns-in-Err-Fault-clause-lawful
returns-in-Err-Fault-clause-lawful g c = λ options e. nothing_lawful _ _

pub returns-in-Err-Memory-clause-ran : goal.returns-in-Err-Memory-clause-ran
returns-in-Err-Memory-clause-ran g c = λ left told s j options e. none_ran 7 options s _ _ _ _ (refl, inr (inr refl))

pub returns-in-Err-Memory-clause-lawful : goal.returns-in-Err-Memory-clause-lawful
returns-in-Err-Memory-clause-lawful g c = λ options e. nothing_lawful _ _

pub returns-in-Ok-clause-ran : goal.returns-in-Ok-clause-ran
returns-in-Ok-clause-ran g c = λ left told.
    let P : List ℕ → Type 0 = λ bytes.
    RanSo (verdict_status c.answer_text.result) c.args.command bytes (g.W.World.meaning c.answer_text.new.native) (g.W.World.stands_for c.answer_text.new.native)
    (g.K.Sink.written c.args.out.now) (g.K.Sink.written c.answer_text.new.out) in
    subst P (c.as_slice.ensures.value ∙ read_first most_read left _ _ told c.in-Ok.ensures.first) c.answer_text.ensures.ran

pub returns-in-Err-Fault-clause-left_alone : goal.returns-in-Err-Fault-clause-left_alone
returns-in-Err-Fault-clause-left_alone g c = left_alone _ _ _ _ refl

pub returns-in-Err-Memory-clause-left_alone : goal.returns-in-Err-Memory-clause-left_alone
returns-in-Err-Memory-clause-left_alone g c = left_alone _ _ _ _ refl

pub returns-in-Ok-clause-left_alone : goal.returns-in-Ok-clause-left_alone
returns-in-Ok-clause-left_alone g c = record {
  unread = λ e. absurd (c.answer_text.ensures.read e);
  refused = c.answer_text.ensures.refused;
  unspelt = λ left told none.
      let P : List ℕ → Type 0 = λ bytes. ((s : Scenario) → Spells s bytes → IsWellFormed s → ⊥) → c.answer_text.new.native ≡ c.args.native.now in
      subst P (c.as_slice.ensures.value ∙ read_first most_read left _ _ told c.in-Ok.ensures.first) c.answer_text.ensures.unspelt none;
}

pub returns-in-Err-Fault-clause-began : goal.returns-in-Err-Fault-clause-began
returns-in-Err-Fault-clause-began g c = λ left told. none_began _ _ _ _ _ _ _

pub returns-in-Err-Memory-clause-began : goal.returns-in-Err-Memory-clause-began
returns-in-Err-Memory-clause-began g c = λ left told. none_began _ _ _ _ _ _ _

pub returns-in-Ok-clause-began : goal.returns-in-Ok-clause-began
returns-in-Ok-clause-began g c = λ left told.
    let P : List ℕ → Type 0 = λ bytes.
    BeganText g.W.World.waits c.args.command bytes (g.W.World.meaning c.args.native.now) (g.W.World.meaning c.answer_text.new.native)
    (g.K.Sink.written c.args.out.now) (g.K.Sink.written c.answer_text.new.out) (g.K.Sink.handed c.answer_text.new.out)
    (g.K.Sink.faults c.args.out.now) (g.K.Sink.faults c.answer_text.new.out) in
    subst P (c.as_slice.ensures.value ∙ read_first most_read left _ _ told c.in-Ok.ensures.first) c.answer_text.ensures.began
