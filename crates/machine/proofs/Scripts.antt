-- A run under the rule of a script is the run under the answers that the rule gave.
use Rattle.std.proofs.Common.{◌≡◌, refl, ap, ◌∙◌, ℕ, zero, suc, List, [], ◌∷◌, ◌++◌, map}
use Rattle.std.specs.Prelude.{Option, Some, None}
use Rattle.world_rules.specs.declared.question.DueJob.{DueJob}
use Rattle.world_rules.specs.declared.question.LogEntry.{LogEntry}
use Rattle.world_rules.specs.declared.question.Question.{Question}
use Rattle.world_rules.specs.Legal.{answers_of}
use Rattle.world_rules.specs.Script.{scripted, without_done}
use Rattle.scenario_tree.specs.declared.tree.Scenario.{Scenario}
use Rattle.machine.specs.declared.state.Post.{Post}
use Rattle.machine.specs.State.{State}
use Rattle.machine.specs.Landing.{Next, starts, lands}
use Rattle.machine.specs.Questions.{question, block_line, take_answer}
use Rattle.machine.specs.Run.{Ran, Passed, Source, GoingOn, run_turns, after_turn, after_question, after_exit, first_lines, first_blocked, blocked_at, given_out, asked_first, logged, due_jobs, loop_exit, turn, after_start, run, script_run, runs, first_state, silent}

-- posts name no answers
pub answers_of-posts : (posts : List Post) (log : List LogEntry) → answers_of (map logged posts ++ log) ≡ answers_of log
answers_of-posts [] log = refl
answers_of-posts (post ∷ posts) log = answers_of-posts posts log

-- what goes on is the same under the answers that it took
abbrev pub Replays : ℕ → GoingOn → Type 0
Replays tick go = (jobs : List DueJob) (s : State) → go (Source.Given (answers_of (go (Source.Scripted tick jobs) s).log)) s ≡ go (Source.Scripted tick jobs) s

-- what follows a part of the run is the same under its answers, so the whole is
pub given_out-replays : (p : Passed) (go : Source → Ran) (source : Source) → go (Source.Given (answers_of (go source).log)) ≡ go source →
    given_out p (go (Source.Given (answers_of (given_out p (go source)).log))) ≡ given_out p (go source)
given_out-replays p go source h = ap (λ answers. given_out p (go (Source.Given answers))) (answers_of-posts p.posts (go source).log) ∙ ap (given_out p) h

exit-replays : (tick : ℕ) (go : GoingOn) → Replays tick go → (jobs : List DueJob) (next : Next) →
    after_exit go (Source.Given (answers_of (after_exit go (Source.Scripted tick jobs) next).log)) next ≡ after_exit go (Source.Scripted tick jobs) next
exit-replays tick go h jobs (Next.Over cause s) = refl
exit-replays tick go h jobs (Next.Resting s) = h jobs s
exit-replays tick go h jobs (Next.Going g s) = refl

question-replays : (tick budget : ℕ) (go : GoingOn) → Replays tick go → (q : Option Question) (jobs : List DueJob) (s : State) →
    after_question go budget q (Source.Given (answers_of (after_question go budget q (Source.Scripted tick jobs) s).log)) s ≡ after_question go budget q (Source.Scripted tick jobs) s
question-replays tick budget go h None jobs s =
    let p = loop_exit budget (block_line s) in
    ap (first_blocked (s ∷ [])) (given_out-replays p (λ source. after_exit go source p.next) (Source.Scripted tick (jobs ++ due_jobs s.moment p.posts)) (exit-replays tick go h _ p.next))
question-replays tick budget go h (Some q) jobs s =
    let a = scripted tick jobs (silent (block_line s)).moment q in
    ap (λ r. first_blocked (blocked_at q s) (first_lines (block_line s).lines (asked_first q a (first_lines (take_answer a (silent (block_line s))).lines r)))) (h (without_done a jobs) _)

turn-replays : (tick budget : ℕ) (go : GoingOn) → Replays tick go → (jobs : List DueJob) (next : Next) →
    after_turn go budget (Source.Given (answers_of (after_turn go budget (Source.Scripted tick jobs) next).log)) next ≡ after_turn go budget (Source.Scripted tick jobs) next
turn-replays tick budget go h jobs (Next.Over cause s) = refl
turn-replays tick budget go h jobs (Next.Resting s) = question-replays tick budget go h (question s) jobs s
turn-replays tick budget go h jobs (Next.Going g s) = refl

pub run_turns-replays : (n tick budget : ℕ) → Replays tick (run_turns n budget)
run_turns-replays zero tick budget jobs s = refl
run_turns-replays (suc n) tick budget jobs s =
    let p = turn budget s in
    given_out-replays p (λ source. after_turn (run_turns n budget) budget source p.next) (Source.Scripted tick (jobs ++ due_jobs s.moment p.posts))
    (turn-replays tick budget (run_turns n budget) (run_turns-replays n tick budget) _ p.next)

start-replays : (tick turns moves : ℕ) (jobs : List DueJob) (next : Next) →
    after_start (Source.Given (answers_of (after_start (Source.Scripted tick jobs) turns moves next).log)) turns moves next ≡ after_start (Source.Scripted tick jobs) turns moves next
start-replays tick turns moves jobs (Next.Over cause s) = refl
start-replays tick turns moves jobs (Next.Resting s) = run_turns-replays turns tick moves jobs s
start-replays tick turns moves jobs (Next.Going g s) = refl

pub script_run-replays : (c : Scenario) (turns moves tick : ℕ) →
    run c turns moves (answers_of (script_run c turns moves tick).log) ≡ script_run c turns moves tick
script_run-replays c turns moves tick =
    let p = runs moves (starts lands 0 [] (first_state c)) in
    given_out-replays p (λ source. after_start source turns moves p.next) (Source.Scripted tick ([] ++ due_jobs 0 p.posts)) (start-replays tick turns moves _ p.next)
