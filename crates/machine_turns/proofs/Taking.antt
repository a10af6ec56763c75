-- A run takes its answers in order, from the first on.
use Rattle.std.proofs.Common.{◌≡◌, refl, ap, ◌∙◌, sym, ℕ, zero, suc, List, [], ◌∷◌, ◌++◌, map}
use Rattle.std.specs.Prelude.{Option, Some, None}
use Rattle.gv_values.specs.declared.job.Answer.{Answer}
use Rattle.world_rules.specs.declared.question.LogEntry.{LogEntry}
use Rattle.world_rules.specs.declared.question.Question.{Question}
use Rattle.world_rules.specs.Legal.{answers_of}
use Rattle.scenario_tree.specs.declared.tree.Scenario.{Scenario}
use Rattle.machine.specs.declared.state.Post.{Post}
use Rattle.machine.specs.State.{State}
use Rattle.machine.specs.Landing.{Next, lands, starts}
use Rattle.machine.specs.Questions.{block_line, question, take_answer}
use Rattle.machine.specs.Run.{GoingOn, Passed, Ran, Source, after_exit, after_question, after_start, after_turn, asks, first_state, given_out, logged, loop_exit, run, run_turns, runs, silent, turn}
use Rattle.machine.proofs.Scripts.{answers_of-posts}
use Rattle.machine_turns.specs.Logs.{TakesFirst}

-- what goes on takes the first of its answers
abbrev Takes : GoingOn → Type 0
Takes go = (answers : List Answer) (s : State) → TakesFirst answers (go (Source.Given answers) s).log

given-takes : (p : Passed) (r : Ran) (answers : List Answer) → TakesFirst answers r.log → TakesFirst answers (given_out p r).log
given-takes p r answers h = record { left = h.left; are = h.are ∙ ap (λ z. z ++ h.left) (sym (answers_of-posts p.posts r.log)) }

none-taken : (answers : List Answer) → TakesFirst answers []
none-taken answers = record { left = answers; are = refl }

exit-takes : (go : GoingOn) → Takes go → (answers : List Answer) (next : Next) → TakesFirst answers (after_exit go (Source.Given answers) next).log
exit-takes go h answers (Next.Over cause s) = none-taken answers
exit-takes go h answers (Next.Resting s) = h answers s
exit-takes go h answers (Next.Going g s) = none-taken answers

asks-takes : (go : GoingOn) → Takes go → (q : Question) (answers : List Answer) (s : State) → TakesFirst answers (asks go q (Source.Given answers) s).log
asks-takes go h q [] s = none-taken []
asks-takes go h q (a ∷ answers) s = let rest = h answers (silent (take_answer a s)) in record { left = rest.left; are = ap (λ z. a ∷ z) rest.are }

question-takes : (budget : ℕ) (go : GoingOn) → Takes go → (q : Option Question) (answers : List Answer) (s : State) → TakesFirst answers (after_question go budget q (Source.Given answers) s).log
question-takes budget go h None answers s =
    let p = loop_exit budget (block_line s) in given-takes p (after_exit go (Source.Given answers) p.next) answers (exit-takes go h answers p.next)
question-takes budget go h (Some q) answers s = asks-takes go h q answers (silent (block_line s))

turn-takes : (budget : ℕ) (go : GoingOn) → Takes go → (answers : List Answer) (next : Next) → TakesFirst answers (after_turn go budget (Source.Given answers) next).log
turn-takes budget go h answers (Next.Over cause s) = none-taken answers
turn-takes budget go h answers (Next.Resting s) = question-takes budget go h (question s) answers s
turn-takes budget go h answers (Next.Going g s) = none-taken answers

run_turns-takes : (n budget : ℕ) → Takes (run_turns n budget)
run_turns-takes zero budget answers s = none-taken answers
run_turns-takes (suc n) budget answers s =
    let p = turn budget s in
    given-takes p (after_turn (run_turns n budget) budget (Source.Given answers) p.next) answers (turn-takes budget (run_turns n budget) (run_turns-takes n budget) answers p.next)

start-takes : (turns moves : ℕ) (answers : List Answer) (next : Next) → TakesFirst answers (after_start (Source.Given answers) turns moves next).log
start-takes turns moves answers (Next.Over cause s) = none-taken answers
start-takes turns moves answers (Next.Resting s) = run_turns-takes turns moves answers s
start-takes turns moves answers (Next.Going g s) = none-taken answers

pub run-takes : (c : Scenario) (turns moves : ℕ) (answers : List Answer) → TakesFirst answers (run c turns moves answers).log
run-takes c turns moves answers =
    let p = runs moves (starts lands 0 [] (first_state c)) in
    given-takes p (after_start (Source.Given answers) turns moves p.next) answers (start-takes turns moves answers p.next)
