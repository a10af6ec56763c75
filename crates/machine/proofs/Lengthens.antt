-- The lines of a run under more answers begin with those under the first of them.
use Rattle.std.proofs.Common.{refl, ap, sym, ◌∙◌, ℕ, zero, suc, List, [], ◌∷◌, ◌++◌, append_assoc}
use Rattle.std.proofs.lemmas.List.{append-nil}
use Rattle.std.specs.Prelude.{Option, Some, None}
use Rattle.gv_values.specs.declared.job.Answer.{Answer}
use Rattle.world_rules.specs.declared.question.Question.{Question}
use Rattle.trace_text.specs.declared.line.Line.{Line}
use Rattle.scenario_tree.specs.declared.tree.Scenario.{Scenario}
use Rattle.machine.specs.State.{State}
use Rattle.machine.specs.Landing.{Next, starts, lands}
use Rattle.machine.specs.Questions.{question, block_line, take_answer}
use Rattle.machine.specs.Run.{GoOnFrom, Source, GoingOn, run_turns, after_turn, after_question, after_exit, asks, loop_exit, turn, after_start, run, runs, first_state, silent}

-- what goes on under more answers goes on from what goes on under these
abbrev Lengthens : List Answer → GoingOn → Type 0
Lengthens more go = (answers : List Answer) (s : State) → GoOnFrom (go (Source.Given (answers ++ more)) s).lines (go (Source.Given answers) s).lines

-- the same lines are no other
same-lines : (lines : List Line) → GoOnFrom lines lines
same-lines lines = record { rest = []; is = sym (append-nil lines) }

-- the same lines may stand before both
after-lines : (before lines front : List Line) → GoOnFrom lines front → GoOnFrom (before ++ lines) (before ++ front)
after-lines before lines front g = record { rest = g.rest; is = ap (λ z. before ++ z) g.is ∙ sym (append_assoc before front g.rest) }

exit-lengthens : (more : List Answer) (go : GoingOn) → Lengthens more go → (answers : List Answer) (next : Next) →
    GoOnFrom (after_exit go (Source.Given (answers ++ more)) next).lines (after_exit go (Source.Given answers) next).lines
exit-lengthens more go h answers (Next.Over cause s) = same-lines _
exit-lengthens more go h answers (Next.Resting s) = h answers s
exit-lengthens more go h answers (Next.Going g s) = same-lines _

asks-lengthens : (more : List Answer) (go : GoingOn) → Lengthens more go → (q : Question) (answers : List Answer) (s : State) →
    GoOnFrom (asks go q (Source.Given (answers ++ more)) s).lines (asks go q (Source.Given answers) s).lines
asks-lengthens more go h q [] s = record { rest = (asks go q (Source.Given more) s).lines; is = refl }
asks-lengthens more go h q (a ∷ answers) s = after-lines (take_answer a s).lines _ _ (h answers (silent (take_answer a s)))

question-lengthens : (more : List Answer) (budget : ℕ) (go : GoingOn) → Lengthens more go → (q : Option Question) (answers : List Answer) (s : State) →
    GoOnFrom (after_question go budget q (Source.Given (answers ++ more)) s).lines (after_question go budget q (Source.Given answers) s).lines
question-lengthens more budget go h None answers s =
    after-lines (loop_exit budget (block_line s)).lines _ _ (exit-lengthens more go h answers (loop_exit budget (block_line s)).next)
question-lengthens more budget go h (Some q) answers s = after-lines (block_line s).lines _ _ (asks-lengthens more go h q answers (silent (block_line s)))

turn-lengthens : (more : List Answer) (budget : ℕ) (go : GoingOn) → Lengthens more go → (answers : List Answer) (next : Next) →
    GoOnFrom (after_turn go budget (Source.Given (answers ++ more)) next).lines (after_turn go budget (Source.Given answers) next).lines
turn-lengthens more budget go h answers (Next.Over cause s) = same-lines _
turn-lengthens more budget go h answers (Next.Resting s) = question-lengthens more budget go h (question s) answers s
turn-lengthens more budget go h answers (Next.Going g s) = same-lines _

run_turns-lengthens : (more : List Answer) (n budget : ℕ) → Lengthens more (run_turns n budget)
run_turns-lengthens more zero budget answers s = same-lines _
run_turns-lengthens more (suc n) budget answers s =
    after-lines (turn budget s).lines _ _ (turn-lengthens more budget (run_turns n budget) (run_turns-lengthens more n budget) answers (turn budget s).next)

start-lengthens : (more : List Answer) (turns moves : ℕ) (answers : List Answer) (next : Next) →
    GoOnFrom (after_start (Source.Given (answers ++ more)) turns moves next).lines (after_start (Source.Given answers) turns moves next).lines
start-lengthens more turns moves answers (Next.Over cause s) = same-lines _
start-lengthens more turns moves answers (Next.Resting s) = run_turns-lengthens more turns moves answers s
start-lengthens more turns moves answers (Next.Going g s) = same-lines _

pub run-lengthens : (c : Scenario) (turns moves : ℕ) (answers more : List Answer) →
    GoOnFrom (run c turns moves (answers ++ more)).lines (run c turns moves answers).lines
run-lengthens c turns moves answers more =
    let p = runs moves (starts lands 0 [] (first_state c)) in
    after-lines p.lines _ _ (start-lengthens more turns moves answers p.next)
