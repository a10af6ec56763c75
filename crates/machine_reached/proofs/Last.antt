-- The items of the last state of a run are bounded.
use Rattle.std.proofs.Common.{◌≡◌, refl, ℕ, zero, suc, [], ◌∷◌}
use Rattle.std.specs.Prelude.{Option, Some, None}
use Rattle.world_rules.specs.declared.question.Question.{Question}
use Rattle.world_rules.specs.Legal.{moment_of}
use Rattle.world_rules.specs.Script.{scripted, without_done}
use Rattle.scenario_tree.specs.declared.tree.Scenario.{Scenario}
use Rattle.machine.specs.State.{State}
use Rattle.machine.specs.Questions.{block_line, question, take_answer}
use Rattle.machine.specs.Landing.{Next, lands, starts}
use Rattle.machine.specs.Run.{GoingOn, Source, after_exit, after_question, after_start, after_turn, asks, first_state, loop_exit, run_from, run_turns, runs, silent, turn, with_posts}
use Rattle.machine_reached.specs.Bounds.{IsBounded}
use Rattle.machine_trace_laws.specs.Reached.{Reached}
use Rattle.machine_well_formed.specs.Texts.{IsFitText}
use Rattle.machine_trace_laws.proofs.Histories.{History, at_first}
use Rattle.machine_reached.proofs.Bounded.{bounded}
use Rattle.machine_trace_laws.proofs.Delivered.{begins-at}
use Rattle.machine_trace_laws.proofs.Quieted.{ready-answered, ready-silent, with_silence}
use Rattle.machine_trace_laws.proofs.Runs.{IsReady, Left, exit-passed, ready-block_line, runs-passed, turn-passed}

abbrev GoesBounded : Scenario → GoingOn → Type 0
GoesBounded c go = (source : Source) (b : History) (s : State) → s ≡ silent s → IsReady c b s → IsBounded (go source s).state

ready-bounded : (c : Scenario) (b : History) (s : State) → IsReady c b s → IsBounded s
ready-bounded c b s m = bounded s m.rests.kept m.rests.sides m.rests.held

exit-bounded : (c : Scenario) (go : GoingOn) → GoesBounded c go → (source : Source) (h : History) (next : Next) → Left c h next → IsBounded (after_exit go source next).state
exit-bounded c go f source h (Next.Over cause s) l = bounded s l.kept l.sides l.held
exit-bounded c go f source h (Next.Resting s) l = f source h s l.2 (record { rests = l.0; is_calm = l.1; reached = l.3 })
exit-bounded c go f source h (Next.Going g s) l = absurd l

asks-bounded : (c : Scenario) (go : GoingOn) → GoesBounded c go → (q : Question) (source : Source) (b : History) (s : State) → s ≡ silent s → IsReady c b s → IsBounded (asks go q source s).state
asks-bounded c go f q (Source.Given []) b s e m = ready-bounded c b s m
asks-bounded c go f q (Source.Given (a ∷ answers)) b s e m = f (Source.Given answers) (with_silence (moment_of a) m.rests.story) (silent (take_answer a s)) refl (ready-answered c b a s e m)
asks-bounded c go f q (Source.Scripted tick jobs) b s e m =
    let a = scripted tick jobs s.moment q in
    f (Source.Scripted tick (without_done a jobs)) (with_silence (moment_of a) m.rests.story) (silent (take_answer a s)) refl (ready-answered c b a s e m)

question-bounded : (c : Scenario) (go : GoingOn) → GoesBounded c go → (budget : ℕ) (q : Option Question) (source : Source) (b : History) (s : State) → s ≡ silent s → IsReady c b s →
    IsBounded (after_question go budget q source s).state
question-bounded c go f budget None source b s e m =
    let part = loop_exit budget (block_line s) in
    let p = exit-passed c budget b s e m in
    exit-bounded c go f (with_posts s.moment part.posts source) p.0 part.next p.2
question-bounded c go f budget (Some q) source b s e m =
    let ready = ready-block_line c b s e m in
    asks-bounded c go f q source ready.rests.story (silent (block_line s)) refl (ready-silent c b (block_line s) ready)

turn-bounded : (c : Scenario) (go : GoingOn) → GoesBounded c go → (budget : ℕ) (source : Source) (h : History) (next : Next) → Left c h next → IsBounded (after_turn go budget source next).state
turn-bounded c go f budget source h (Next.Over cause s) l = bounded s l.kept l.sides l.held
turn-bounded c go f budget source h (Next.Resting s) l = question-bounded c go f budget (question s) source h s l.2 (record { rests = l.0; is_calm = l.1; reached = l.3 })
turn-bounded c go f budget source h (Next.Going g s) l = absurd l

run_turns-bounded : (c : Scenario) (n budget : ℕ) → GoesBounded c (run_turns n budget)
run_turns-bounded c zero budget source b s e m = ready-bounded c b s m
run_turns-bounded c (suc n) budget source b s e m =
    let part = turn budget s in
    let p = turn-passed c budget b s e m in
    turn-bounded c (run_turns n budget) (run_turns-bounded c n budget) budget (with_posts s.moment part.posts source) p.0 part.next p.2

start-bounded : (c : Scenario) (source : Source) (turns moves : ℕ) (h : History) (next : Next) → Left c h next → IsBounded (after_start source turns moves next).state
start-bounded c source turns moves h (Next.Over cause s) l = bounded s l.kept l.sides l.held
start-bounded c source turns moves h (Next.Resting s) l = run_turns-bounded c turns moves source h s l.2 (record { rests = l.0; is_calm = l.1; reached = l.3 })
start-bounded c source turns moves h (Next.Going g s) l = absurd l

pub run-bounded : (c : Scenario) (source : Source) (turns moves : ℕ) → IsFitText c → IsBounded (run_from source turns moves c).state
run-bounded c source turns moves text =
    let part = runs moves (starts lands 0 [] (first_state c)) in
    let p = runs-passed c moves at_first (starts lands 0 [] (first_state c)) (begins-at c text) Reached.Started in
    start-bounded c (with_posts 0 part.posts source) turns moves p.0 part.next p.2
