-- A run under the rule of a script stops.
use Rattle.std.proofs.Common.{◌≡◌, refl, ℕ, zero, suc, List, [], ◌++◌}
use Rattle.std.specs.Prelude.{Option, Some, None}
use Rattle.world_rules.specs.declared.question.DueJob.{DueJob}
use Rattle.world_rules.specs.declared.question.Question.{Question}
use Rattle.world_rules.specs.Script.{scripted, without_done}
use Rattle.scenario_tree.specs.declared.tree.Scenario.{Scenario}
use Rattle.trace_text.specs.declared.line.StopCause.{StopCause}
use Rattle.machine.specs.State.{State}
use Rattle.machine.specs.Questions.{block_line, question, take_answer}
use Rattle.machine.specs.Landing.{Next, starts, lands}
use Rattle.machine.specs.Run.{End, GoingOn, Ran, Source, after_exit, after_question, after_start, after_turn, due_jobs, first_state, loop_exit, run_turns, runs, script_run, silent, turn}

-- the run stops
Stops : Ran → Type 0
Stops r = (cause : StopCause) × (r.end ≡ End.Stopped cause)

-- wherever the rule answers
StopsByRule : ℕ → GoingOn → Type 0
StopsByRule tick go = (jobs : List DueJob) (s : State) → Stops (go (Source.Scripted tick jobs) s)

exit-stops : (tick : ℕ) (go : GoingOn) → StopsByRule tick go → (jobs : List DueJob) (x : Next) → Stops (after_exit go (Source.Scripted tick jobs) x)
unfolding StopsByRule Stops
exit-stops tick go h jobs (Next.Over cause s) = (cause, refl)
exit-stops tick go h jobs (Next.Resting s) = h jobs s
exit-stops tick go h jobs (Next.Going g s) = (StopCause.NoMoves, refl)

question-stops : (tick budget : ℕ) (go : GoingOn) → StopsByRule tick go → (q : Option Question) (jobs : List DueJob) (s : State) → Stops (after_question go budget q (Source.Scripted tick jobs) s)
unfolding StopsByRule Stops
question-stops tick budget go h None jobs s =
    let p = loop_exit budget (block_line s) in exit-stops tick go h (jobs ++ due_jobs s.moment p.posts) p.next
question-stops tick budget go h (Some q) jobs s =
    let t = silent (block_line s) in let a = scripted tick jobs t.moment q in h (without_done a jobs) (silent (take_answer a t))

turn-stops : (tick budget : ℕ) (go : GoingOn) → StopsByRule tick go → (jobs : List DueJob) (x : Next) → Stops (after_turn go budget (Source.Scripted tick jobs) x)
unfolding Stops
turn-stops tick budget go h jobs (Next.Over cause s) = (cause, refl)
turn-stops tick budget go h jobs (Next.Resting s) = question-stops tick budget go h (question s) jobs s
turn-stops tick budget go h jobs (Next.Going g s) = (StopCause.NoMoves, refl)

run_turns-stop : (n tick budget : ℕ) → StopsByRule tick (run_turns n budget)
unfolding StopsByRule Stops
run_turns-stop zero tick budget jobs s = (StopCause.NoTurns, refl)
run_turns-stop (suc n) tick budget jobs s =
    let p = turn budget s in turn-stops tick budget (run_turns n budget) (run_turns-stop n tick budget) (jobs ++ due_jobs s.moment p.posts) p.next

start-stops : (tick turns moves : ℕ) (jobs : List DueJob) (x : Next) → Stops (after_start (Source.Scripted tick jobs) turns moves x)
unfolding StopsByRule Stops
start-stops tick turns moves jobs (Next.Over cause s) = (cause, refl)
start-stops tick turns moves jobs (Next.Resting s) = run_turns-stop turns tick moves jobs s
start-stops tick turns moves jobs (Next.Going g s) = (StopCause.NoMoves, refl)

pub scripts-stop : (c : Scenario) (turns moves tick : ℕ) → (cause : StopCause) × ((script_run c turns moves tick).end ≡ End.Stopped cause)
unfolding Stops
scripts-stop c turns moves tick =
    let p = runs moves (starts lands 0 [] (first_state c)) in start-stops tick turns moves ([] ++ due_jobs 0 p.posts) p.next
