-- A run under answers that follow the rule of a script is that of the script, as far as it goes.
use Rattle.std.proofs.Common.{◌≡◌, refl, ap, ap₂, sym, subst, ◌∙◌, ℕ, zero, suc, List, [], ◌∷◌, ◌++◌, map, append_assoc, append-nil}
use Rattle.std.specs.Prelude.{Option, Some, None}
use Rattle.gv_values.specs.declared.job.Answer.{Answer}
use Rattle.world_rules.specs.declared.question.DueJob.{DueJob}
use Rattle.world_rules.specs.declared.question.LogEntry.{LogEntry}
use Rattle.world_rules.specs.declared.question.Question.{Question}
use Rattle.world_rules.specs.Legal.{answers_of}
use Rattle.world_rules.specs.Script.{scripted, without_done}
use Rattle.world_rules.specs.Rules.{Follows, Gives, RuleState, rule_after_answer as ruled_after_answer, rule_after_post, start}
use Rattle.scenario_tree.specs.declared.tree.Scenario.{Scenario}
use Rattle.trace_text.specs.declared.line.Line.{Line}
use Rattle.machine.specs.declared.state.Post.{Post}
use Rattle.machine.specs.State.{State}
use Rattle.machine.specs.Landing.{Next, starts, lands}
use Rattle.machine.specs.Questions.{question, block_line, take_answer}
use Rattle.machine.specs.Run.{GoingOn, Passed, Ran, Source, after_answer, after_exit, after_question, after_start, after_turn, asks, blocked_at, due_jobs, first_blocked, first_lines, first_state, given_out, logged, loop_exit, run, run_turns, runs, script_run, silent, turn}
use Rattle.machine_turns.proofs.Steps.{Stands}
use Rattle.machine_scripts.specs.Scripts.{IsBeginningOf}
use Rattle.machine_scripts.proofs.Moments.{At, answer-at, block-at, exit-at, start-at, turn-at}

-- ---- beginnings

-- the whole is its own beginning
itself : (r : Ran) → IsBeginningOf r r
itself r = record { lines = record { rest = []; is = sym (append-nil r.lines) }; stopped = λ cause e. refl }

-- what comes before both, and leaves their ends
behind : (f : Ran → Ran) (before : List Line) → ((r : Ran) → (f r).lines ≡ before ++ r.lines) → ((r : Ran) → (f r).end ≡ r.end) → (whole r : Ran) → IsBeginningOf whole r → IsBeginningOf (f whole) (f r)
behind f before lines ends whole r b =
    record {
      lines = record { rest = b.lines.rest; is = lines whole ∙ ap (λ z. before ++ z) b.lines.is ∙ sym (append_assoc before r.lines b.lines.rest) ∙ ap (λ z. z ++ b.lines.rest) (sym (lines r)) };
      stopped = λ cause e. ap f (b.stopped cause (sym (ends r) ∙ e));
    }

given-behind : (p : Passed) (whole r : Ran) → IsBeginningOf whole r → IsBeginningOf (given_out p whole) (given_out p r)
given-behind p whole r b = behind (given_out p) p.lines (λ x. refl) (λ x. refl) whole r b

-- ---- the rule beside the run

-- the rule's state is that of these jobs at this moment, with no answers listed
record IsRuledBy (u : RuleState) (jobs : List DueJob) (moment : ℕ) : Type 0 where
  listed : u.listed ≡ []
  jobs_are : u.jobs ≡ jobs
  moment_is : u.moment ≡ moment

-- the log begins with a part by the rule that has all the answers
record IsFollowed (tick : ℕ) (u : RuleState) (answers : List Answer) (log : List LogEntry) : Type 0 where
  part : List LogEntry
  later : List LogEntry
  end : RuleState
  is : log ≡ part ++ later
  all : answers_of part ≡ answers
  follows : Follows tick u part end

after_posts : RuleState → List Post → RuleState
after_posts u [] = u
after_posts u (post ∷ posts) = after_posts (rule_after_post u post.number post.job post.takes) posts

posts-ruled : (posts : List Post) (u : RuleState) (jobs : List DueJob) (moment : ℕ) → IsRuledBy u jobs moment → IsRuledBy (after_posts u posts) (jobs ++ due_jobs moment posts) moment
unfolding after_posts
posts-ruled [] u jobs moment h = record { listed = h.listed; jobs_are = h.jobs_are ∙ sym (append-nil jobs); moment_is = h.moment_is }
posts-ruled (post ∷ posts) u jobs moment h =
    let v = rule_after_post u post.number post.job post.takes in
    let one : List DueJob = due_jobs moment (post ∷ []) in
    let added : v.jobs ≡ jobs ++ one = ap (λ m. u.jobs ++ due_jobs m (post ∷ [])) h.moment_is ∙ ap (λ js. js ++ one) h.jobs_are in
    let rest = posts-ruled posts v (jobs ++ one) moment (record { listed = h.listed; jobs_are = added; moment_is = h.moment_is }) in
    record { listed = rest.listed; jobs_are = rest.jobs_are ∙ append_assoc jobs one (due_jobs moment posts); moment_is = rest.moment_is }

-- behind the posts the rest of the log is followed
posts-followed : (tick : ℕ) (posts : List Post) (u : RuleState) (answers : List Answer) (log : List LogEntry) → IsFollowed tick u answers (map logged posts ++ log)
    → IsFollowed tick (after_posts u posts) answers log
unfolding after_posts
posts-followed tick [] u answers log f = f
posts-followed tick (post ∷ posts) u answers log f = by (posts-followed tick posts (rule_after_post u post.number post.job post.takes) answers log) f.part f.is f.all f.follows
  where
    Rest : Type 0
    Rest = IsFollowed tick (after_posts (rule_after_post u post.number post.job post.takes) posts) answers log

    Behind : Type 0
    Behind = IsFollowed tick (rule_after_post u post.number post.job post.takes) answers (map logged posts ++ log)

    first : (Behind → Rest) → (e : LogEntry) (part : List LogEntry) → logged post ≡ e → map logged posts ++ log ≡ part ++ f.later → answers_of (e ∷ part) ≡ answers
        → Follows tick u (e ∷ part) f.end → Rest
    first go e part same is all follows =
        let all' : answers_of (logged post ∷ part) ≡ answers = ap (λ x. answers_of (x ∷ part)) same ∙ all in
        let P : LogEntry → Type 0 = λ x. Follows tick u (x ∷ part) f.end in
        go (record { part = part; later = f.later; end = f.end; is = is; all = all'; follows = subst P (sym same) follows })

    by : (Behind → Rest) → (part : List LogEntry) → logged post ∷ (map logged posts ++ log) ≡ part ++ f.later → answers_of part ≡ answers → Follows tick u part f.end → Rest
    by go [] is all follows = record { part = []; later = log; end = after_posts (rule_after_post u post.number post.job post.takes) posts; is = refl; all = all; follows = refl }
    by go (e ∷ part) is all follows = first go e part (cc is) (cc is) all follows

-- ---- the run

-- what goes on under answers by the rule goes on as the script
abbrev GoesOnRuled : ℕ → GoingOn → Type 0
GoesOnRuled tick go =
    (answers : List Answer) (jobs : List DueJob) (s : State) (u : RuleState) → IsRuledBy u jobs s.moment → IsFollowed tick u answers (go (Source.Given answers) s).log
    → IsBeginningOf (go (Source.Scripted tick jobs) s) (go (Source.Given answers) s)

exit-ruled : (tick moment : ℕ) (go : GoingOn) → GoesOnRuled tick go → (answers : List Answer) (jobs : List DueJob) (next : Next) (u : RuleState) → Stands (At moment) next
    → IsRuledBy u jobs moment → IsFollowed tick u answers (after_exit go (Source.Given answers) next).log
    → IsBeginningOf (after_exit go (Source.Scripted tick jobs) next) (after_exit go (Source.Given answers) next)
unfolding Stands
exit-ruled tick moment go h answers jobs (Next.Over cause s) u at r f = itself _
exit-ruled tick moment go h answers jobs (Next.Resting s) u at r f =
    h answers jobs s u (record { listed = r.listed; jobs_are = r.jobs_are; moment_is = r.moment_is ∙ sym at }) f
exit-ruled tick moment go h answers jobs (Next.Going g s) u at r f = itself _

-- the first answer is the script's
first_is : (tick : ℕ) (u : RuleState) (q : Question) (a : Answer) (later : List Answer) → u.listed ≡ [] → Gives tick u u.listed q a later → (a ≡ scripted tick u.jobs u.moment q) × (later ≡ [])
first_is tick u q a later none g = let P : List Answer → Type 0 = λ listed. Gives tick u listed q a later in subst P none g

answer-ruled : (tick : ℕ) (go : GoingOn) → GoesOnRuled tick go → (q : Question) (a : Answer) (answers : List Answer) (jobs : List DueJob) (s : State) (u : RuleState)
    → IsRuledBy u jobs s.moment → IsFollowed tick u (a ∷ answers) (after_answer go (Source.Given answers) q a s).log
    → IsBeginningOf (asks go q (Source.Scripted tick jobs) s) (after_answer go (Source.Given answers) q a s)
answer-ruled tick go h q a answers jobs s u r f = by f.part f.is f.all f.follows
  where
    t : State
    t = take_answer a s

    Rest : Ran
    Rest = go (Source.Given answers) (silent t)

    with_rest : (part : List LogEntry) → Rest.log ≡ part ++ f.later → answers_of part ≡ answers → (later : List Answer) → Gives tick u u.listed q a later
        → Follows tick (ruled_after_answer u later a) part f.end → IsBeginningOf (asks go q (Source.Scripted tick jobs) s) (after_answer go (Source.Given answers) q a s)
    with_rest part is all later g follows =
        let first = first_is tick u q a later r.listed g in
        let v = ruled_after_answer u later a in
        let script : scripted tick jobs s.moment q ≡ a = ap₂ (λ js m. scripted tick js m q) (sym r.jobs_are) (sym r.moment_is) ∙ sym first.0 in
        let P : Answer → Type 0 = λ x. IsBeginningOf (after_answer go (Source.Scripted tick (without_done x jobs)) q x s) (after_answer go (Source.Given answers) q a s) in
        subst P (sym script)
        (behind (λ x. record (first_lines t.lines x) { log = LogEntry.Asked q a ∷ x.log }) t.lines (λ x. refl) (λ x. refl) _ _
        (h answers (without_done a jobs) (silent t) v
        (record { listed = first.1; jobs_are = ap (without_done a) r.jobs_are; moment_is = sym (answer-at a s) })
        (record { part = part; later = f.later; end = f.end; is = is; all = all; follows = follows })))

    asked : (e : LogEntry) (part : List LogEntry) → LogEntry.Asked q a ≡ e → Rest.log ≡ part ++ f.later → answers_of (e ∷ part) ≡ a ∷ answers → Follows tick u (e ∷ part) f.end
        → IsBeginningOf (asks go q (Source.Scripted tick jobs) s) (after_answer go (Source.Given answers) q a s)
    asked e part same is all follows =
        let P : LogEntry → Type 0 = λ x. Follows tick u (x ∷ part) f.end in
        let all' : answers_of (LogEntry.Asked q a ∷ part) ≡ a ∷ answers = ap (λ x. answers_of (x ∷ part)) same ∙ all in
        let w : (later : List Answer) × Gives tick u u.listed q a later × Follows tick (ruled_after_answer u later a) part f.end = subst P (sym same) follows in
        with_rest part is (cc all') w.0 w.1 w.2

    by : (part : List LogEntry) → LogEntry.Asked q a ∷ Rest.log ≡ part ++ f.later → answers_of part ≡ a ∷ answers → Follows tick u part f.end
        → IsBeginningOf (asks go q (Source.Scripted tick jobs) s) (after_answer go (Source.Given answers) q a s)
    by [] is all follows = absurd (cc all)
    by (e ∷ part) is all follows = asked e part (cc is) (cc is) all follows

asks-ruled : (tick : ℕ) (go : GoingOn) → GoesOnRuled tick go → (q : Question) (answers : List Answer) (jobs : List DueJob) (s : State) (u : RuleState)
    → IsRuledBy u jobs s.moment → IsFollowed tick u answers (asks go q (Source.Given answers) s).log
    → IsBeginningOf (asks go q (Source.Scripted tick jobs) s) (asks go q (Source.Given answers) s)
asks-ruled tick go h q [] jobs s u r f = record { lines = record { rest = (asks go q (Source.Scripted tick jobs) s).lines; is = refl }; stopped = λ cause e. absurd (cc e) }
asks-ruled tick go h q (a ∷ answers) jobs s u r f = answer-ruled tick go h q a answers jobs s u r f

question-ruled : (tick budget : ℕ) (go : GoingOn) → GoesOnRuled tick go → (q : Option Question) (answers : List Answer) (jobs : List DueJob) (s : State) (u : RuleState)
    → IsRuledBy u jobs s.moment → IsFollowed tick u answers (after_question go budget q (Source.Given answers) s).log
    → IsBeginningOf (after_question go budget q (Source.Scripted tick jobs) s) (after_question go budget q (Source.Given answers) s)
question-ruled tick budget go h None answers jobs s u r f =
    let p = loop_exit budget (block_line s) in
    behind (first_blocked (s ∷ [])) [] (λ x. refl) (λ x. refl) _ _
    (given-behind p _ _
    (exit-ruled tick s.moment go h answers (jobs ++ due_jobs s.moment p.posts) p.next (after_posts u p.posts) (exit-at budget s)
    (posts-ruled p.posts u jobs s.moment r) (posts-followed tick p.posts u answers (after_exit go (Source.Given answers) p.next).log f)))
question-ruled tick budget go h (Some q) answers jobs s u r f =
    let t = block_line s in
    behind (λ x. first_blocked (blocked_at q s) (first_lines t.lines x)) t.lines (λ x. refl) (λ x. refl) _ _
    (asks-ruled tick go h q answers jobs (silent t) u (record { listed = r.listed; jobs_are = r.jobs_are; moment_is = r.moment_is ∙ sym (block-at s) }) f)

turn-ruled : (tick moment budget : ℕ) (go : GoingOn) → GoesOnRuled tick go → (answers : List Answer) (jobs : List DueJob) (next : Next) (u : RuleState) → Stands (At moment) next
    → IsRuledBy u jobs moment → IsFollowed tick u answers (after_turn go budget (Source.Given answers) next).log
    → IsBeginningOf (after_turn go budget (Source.Scripted tick jobs) next) (after_turn go budget (Source.Given answers) next)
unfolding Stands
turn-ruled tick moment budget go h answers jobs (Next.Over cause s) u at r f = itself _
turn-ruled tick moment budget go h answers jobs (Next.Resting s) u at r f =
    question-ruled tick budget go h (question s) answers jobs s u (record { listed = r.listed; jobs_are = r.jobs_are; moment_is = r.moment_is ∙ sym at }) f
turn-ruled tick moment budget go h answers jobs (Next.Going g s) u at r f = itself _

run_turns-ruled : (n tick budget : ℕ) → GoesOnRuled tick (run_turns n budget)
run_turns-ruled zero tick budget answers jobs s u r f = itself _
run_turns-ruled (suc n) tick budget answers jobs s u r f =
    let p = turn budget s in
    given-behind p _ _
    (turn-ruled tick s.moment budget (run_turns n budget) (run_turns-ruled n tick budget) answers (jobs ++ due_jobs s.moment p.posts) p.next (after_posts u p.posts) (turn-at budget s)
    (posts-ruled p.posts u jobs s.moment r) (posts-followed tick p.posts u answers (after_turn (run_turns n budget) budget (Source.Given answers) p.next).log f))

start-ruled : (tick turns moves : ℕ) (answers : List Answer) (jobs : List DueJob) (next : Next) (u : RuleState) → Stands (At 0) next
    → IsRuledBy u jobs 0 → IsFollowed tick u answers (after_start (Source.Given answers) turns moves next).log
    → IsBeginningOf (after_start (Source.Scripted tick jobs) turns moves next) (after_start (Source.Given answers) turns moves next)
unfolding Stands
start-ruled tick turns moves answers jobs (Next.Over cause s) u at r f = itself _
start-ruled tick turns moves answers jobs (Next.Resting s) u at r f =
    run_turns-ruled turns tick moves answers jobs s u (record { listed = r.listed; jobs_are = r.jobs_are; moment_is = r.moment_is ∙ sym at }) f
start-ruled tick turns moves answers jobs (Next.Going g s) u at r f = itself _

pub run-ruled : (c : Scenario) (turns moves tick : ℕ) (answers : List Answer) (part later : List LogEntry) (t : RuleState)
    → (run c turns moves answers).log ≡ part ++ later → answers_of part ≡ answers → Follows tick (start []) part t
    → IsBeginningOf (script_run c turns moves tick) (run c turns moves answers)
run-ruled c turns moves tick answers part later t is all follows =
    let p = runs moves (starts lands 0 [] (first_state c)) in
    given-behind p _ _
    (start-ruled tick turns moves answers ([] ++ due_jobs 0 p.posts) p.next (after_posts (start []) p.posts) (start-at moves c)
    (posts-ruled p.posts (start []) [] 0 (record { listed = refl; jobs_are = refl; moment_is = refl }))
    (posts-followed tick p.posts (start []) answers (after_start (Source.Given answers) turns moves p.next).log
    (record { part = part; later = later; end = t; is = is; all = all; follows = follows })))
