-- The block lines of a run are those that the hub says at the blocked states: no other step says one.
use Rattle.std.proofs.Common.{◌≡◌, refl, ap, ◌∙◌, sym, subst, ℕ, zero, suc, ◌+◌, ◌-◌, Bool, true, false, List, [], ◌∷◌, ◌++◌, length, append-nil}
use Rattle.std.proofs.lemmas.List.Concat.{flat_map-append}
use Rattle.std.proofs.lemmas.List.Elements.{filter-append}
use Rattle.std.specs.List.{flat_map}
use Rattle.std.specs.Prelude.{Option, Some, None, if◌then◌else◌, filter, cond}
use Rattle.gv_values.specs.declared.fault.FaultKind.{FaultKind}
use Rattle.gv_values.specs.declared.job.Answer.{Answer}
use Rattle.gv_values.specs.declared.job.JobOutcome.{JobOutcome}
use Rattle.world_rules.specs.declared.question.Question.{Question}
use Rattle.world_rules.specs.Legal.{moment_of}
use Rattle.world_rules.specs.Script.{scripted, without_done}
use Rattle.scenario_tree.specs.declared.tree.Scenario.{Scenario}
use Rattle.scenario_tree.specs.declared.tree.Wait.{Wait}
use Rattle.trace_text.specs.declared.line.Blocked.{Blocked}
use Rattle.trace_text.specs.declared.line.Line.{Line}
use Rattle.machine.specs.declared.items.Item.{Item}
use Rattle.machine.specs.declared.state.JobState.{JobState}
use Rattle.machine.specs.State.{State, say}
use Rattle.machine.specs.Questions.{any_numbered, any_outstanding, arrives, asks_wait, block_line, job_done, least_deadline, question, take_answer}
use Rattle.machine.specs.Deliveries.{deliver, interrupts}
use Rattle.machine.specs.Holds.{job_at}
use Rattle.machine.specs.Landing.{Next, given, lands, starts}
use Rattle.machine.specs.Moves.{move}
use Rattle.machine.specs.Blocked.{blocked_states}
use Rattle.machine.specs.Run.{GoingOn, Passed, Source, after_answer, after_delivery, after_exit, after_question, after_start, after_turn, asks, blocked_at, deliveries, delivers_one, first_state, least_below, loop_exit, run_from, run_turns, runs, silent, turn, with_posts}
use Rattle.machine.specs.Waits.{waits}
use Rattle.machine_blocks.specs.Blocks.{block_lines, is_block}
use Rattle.std.proofs.lemmas.Bool.{true≢false}
use Rattle.machine_turns.proofs.Steps.{Core, Keeps, Stands, deliver-keeps, interrupts-keeps, is_step, lands-keeps, move-keeps, starts-keeps}

-- the block lines of the step under way are these
abbrev IsCalm : List Line → State → Type 0
IsCalm ls s = filter is_block s.lines ≡ ls

more-calm : (ls lines : List Line) (line : Line) → is_block line ≡ false → filter is_block lines ≡ ls → filter is_block (lines ++ line ∷ []) ≡ ls
more-calm ls lines line e h =
    filter-append is_block lines (line ∷ []) ∙ ap (λ z. filter is_block lines ++ cond z (line ∷ []) []) e ∙ append-nil (filter is_block lines) ∙ h

-- the line of a step is no block line
step_plain : (line : Line) → is_step line ≡ true → is_block line ≡ false
step_plain (Line.Block x) e = absurd (true≢false (sym e))
step_plain line e = refl

-- no step says a block line
calm-kept : (ls : List Line) → Keeps (IsCalm ls)
calm-kept ls =
    record {
      says = λ line s e h. more-calm ls s.lines line (step_plain line e) h;
      adds = λ d s h. h;
      drops = λ test s h. h;
      settles = λ s h. h;
      posts = λ g o job takes s h. more-calm ls s.lines (Line.Job (length s.jobs + 1) g job) refl h;
      alike = λ s t e h. subst (λ (c : Core). filter is_block c.lines ≡ ls) (sym e) h;
    }

posts-lines : (j : ℕ) (o : JobOutcome) (job : Option JobState) (s : State) → (arrives j o job s).lines ≡ s.lines
posts-lines j o None s = refl
posts-lines j o (Some job) s = refl

done-lines : (a : Answer) (s : State) → (job_done a s).lines ≡ s.lines
done-lines (Answer.Done j o t) s = posts-lines j o (job_at j s.jobs) s
done-lines (Answer.Elapsed t) s = refl
done-lines (Answer.Nothing t) s = refl

answer-calm : (ls : List Line) (a : Answer) (s : State) → IsCalm ls s → IsCalm ls (take_answer a s)
unfolding take_answer
answer-calm ls a s h =
    more-calm ls (job_done a (record s { moment = moment_of a })).lines (Line.Turn s.turns a) refl (ap (filter is_block) (done-lines a (record s { moment = moment_of a })) ∙ h)

-- ---- parts of a run

-- what stands where a part of the run was given out
abbrev IsSilent : Next → Type 0
IsSilent (Next.Going g s) = s.lines ≡ []
IsSilent (Next.Resting s) = s.lines ≡ []
IsSilent (Next.Over cause s) = s.lines ≡ []

record IsCalmPart (ls : List Line) (p : Passed) : Type 0 where
  lines : filter is_block p.lines ≡ ls
  ends : IsSilent p.next

both-filtered : (xs ys ls : List Line) → filter is_block xs ≡ ls → filter is_block ys ≡ [] → filter is_block (xs ++ ys) ≡ ls
both-filtered xs ys ls e f = filter-append is_block xs ys ∙ ap (λ z. filter is_block xs ++ z) f ∙ append-nil (filter is_block xs) ∙ e

runs-calm : (n : ℕ) (ls : List Line) (next : Next) → Stands (IsCalm ls) next → IsCalmPart ls (runs n next)
unfolding Stands
runs-calm zero ls (Next.Going g s) h = record { lines = h; ends = refl }
runs-calm zero ls (Next.Resting s) h = record { lines = h; ends = refl }
runs-calm zero ls (Next.Over cause s) h = record { lines = h; ends = refl }
runs-calm (suc n) ls (Next.Resting s) h = record { lines = h; ends = refl }
runs-calm (suc n) ls (Next.Over cause s) h = record { lines = h; ends = refl }
runs-calm (suc n) ls (Next.Going g s) h =
    let rest = runs-calm n [] (move g (silent s)) (move-keeps (IsCalm []) (calm-kept []) g (silent s) refl) in
    record { lines = both-filtered s.lines (runs n (move g (silent s))).lines ls h rest.lines; ends = rest.ends }

none-filtered : (s : State) → s.lines ≡ [] → IsCalm [] s
none-filtered s e = ap (filter is_block) e

deliveries-calm : (n budget mark : ℕ) (s : State) → s.lines ≡ [] → IsCalmPart [] (deliveries n budget mark s)
deliveries-calm zero budget mark s e = record { lines = refl; ends = e }
deliveries-calm (suc n) budget mark s e = by (least_below mark s.items) (deliveries n budget mark) (λ t f. deliveries-calm n budget mark t f)
  where
    on : (go : State → Passed) → ((t : State) → t.lines ≡ [] → IsCalmPart [] (go t)) → (p : Passed) (next : Next) → p.next ≡ next → filter is_block p.lines ≡ [] → IsSilent next →
        IsCalmPart [] (after_delivery go p next)
    on go rest p (Next.Going g t) same l i = record { lines = l; ends = subst IsSilent (sym same) i }
    on go rest p (Next.Over cause t) same l i = record { lines = l; ends = subst IsSilent (sym same) i }
    on go rest p (Next.Resting t) same l i = let q = rest t i in record { lines = both-filtered p.lines (go t).lines [] l q.lines; ends = q.ends }

    by : (o : Option Item) → (go : State → Passed) → ((t : State) → t.lines ≡ [] → IsCalmPart [] (go t)) → IsCalmPart [] (delivers_one go budget o s)
    by None go rest = record { lines = refl; ends = e }
    by (Some i) go rest =
        let p = runs-calm (budget - s.moves) [] (deliver i s) (deliver-keeps (IsCalm []) (calm-kept []) i s (none-filtered s e)) in
        on go rest (runs (budget - s.moves) (deliver i s)) (runs (budget - s.moves) (deliver i s)).next refl p.lines p.ends

turn-calm : (budget : ℕ) (s : State) → s.lines ≡ [] → IsCalmPart [] (turn budget s)
turn-calm budget s e = deliveries-calm (length s.items) budget s.next_ready (record s { turns = s.turns + 1 }) e

exit-calm : (budget : ℕ) (ls : List Line) (s : State) → IsCalm ls s → IsCalmPart ls (loop_exit budget s)
exit-calm budget ls s h = runs-calm (budget - s.moves) ls (interrupts 0 FaultKind.LoopExit s) (interrupts-keeps (IsCalm ls) (calm-kept ls) 0 FaultKind.LoopExit s h)

-- ---- runs

block-of : (c : Bool) (x : Blocked) (s : State) → s.lines ≡ [] →
    filter is_block (if c then s else say (Line.Block x) s).lines ≡ (if c then silent s else say (Line.Block x) (silent s)).lines
block-of true x s e = ap (filter is_block) e
block-of false x s e = ap (λ ls. filter is_block (ls ++ Line.Block x ∷ [])) e

-- what is said at the block line
told-block : (s : State) → s.lines ≡ [] → filter is_block (block_line s).lines ≡ block_lines s
told-block s e = block-of (any_numbered s.items) _ s e

unsaid : (c : Bool) (x : Blocked) (s : State) → c ≡ true → (if c then silent s else say (Line.Block x) (silent s)).lines ≡ []
unsaid true x s e = refl
unsaid false x s e = absurd (cc e)

-- the block line before a question is that of its blocked state, where it has one
asked-told : (q : Question) (s : State) → question s ≡ Some q → block_lines s ≡ flat_map block_lines (blocked_at q s)
asked-told Question.Poll s z = unsaid (any_numbered s.items) _ s (polled (any_numbered s.items) z)
  where
    by : (c : Bool) → ◌≡◌ {A = Option Question} (if c then Some (Question.Wait None) else None) (Some Question.Poll) → ⊥
    by true e = absurd (cc e)
    by false e = absurd (cc e)

    waits : (rest : Option ℕ) → asks_wait s rest ≡ Some Question.Poll → ⊥
    waits (Some t) e = absurd (cc e)
    waits None e = by (any_outstanding s.jobs) e

    polled : (d : Bool) → (if d then Some Question.Poll else asks_wait s (least_deadline s.items)) ≡ Some Question.Poll → d ≡ true
    polled true e = refl
    polled false e = absurd (waits (least_deadline s.items) e)
asked-told (Question.Wait until) s z = sym (append-nil (block_lines s))

-- the block lines are those of these states
abbrev TellsBlocks : List Line → List State → Type 0
TellsBlocks lines states = filter is_block lines ≡ flat_map block_lines states

abbrev AreTold : GoingOn → Type 0
AreTold go = (source : Source) (s : State) → s.lines ≡ [] → TellsBlocks (go source s).lines (go source s).blocked

after-told : (xs ys ls : List Line) (states : List State) → filter is_block xs ≡ ls → TellsBlocks ys states → filter is_block (xs ++ ys) ≡ ls ++ flat_map block_lines states
after-told xs ys ls states e t = filter-append is_block xs ys ∙ ap (λ z. z ++ filter is_block ys) e ∙ ap (λ z. ls ++ z) t

exit-told : (go : GoingOn) → AreTold go → (source : Source) (next : Next) → IsSilent next → TellsBlocks (after_exit go source next).lines (after_exit go source next).blocked
exit-told go f source (Next.Over cause s) e = refl
exit-told go f source (Next.Resting s) e = f source s e
exit-told go f source (Next.Going g s) e = refl

answer-told : (go : GoingOn) → AreTold go → (source : Source) (q : Question) (a : Answer) (s : State) → s.lines ≡ [] →
    TellsBlocks (after_answer go source q a s).lines (after_answer go source q a s).blocked
answer-told go f source q a s e =
    let r = go source (silent (take_answer a s)) in
    after-told (take_answer a s).lines r.lines [] r.blocked (answer-calm [] a s (none-filtered s e)) (f source (silent (take_answer a s)) refl)

asks-told : (go : GoingOn) → AreTold go → (q : Question) (source : Source) (s : State) → s.lines ≡ [] → TellsBlocks (asks go q source s).lines (asks go q source s).blocked
asks-told go f q (Source.Given []) s e = refl
asks-told go f q (Source.Given (a ∷ answers)) s e = answer-told go f (Source.Given answers) q a s e
asks-told go f q (Source.Scripted tick jobs) s e =
    let a = scripted tick jobs s.moment q in answer-told go f (Source.Scripted tick (without_done a jobs)) q a s e

question-told : (go : GoingOn) → AreTold go → (budget : ℕ) (q : Option Question) (source : Source) (s : State) → question s ≡ q → s.lines ≡ [] →
    TellsBlocks (after_question go budget q source s).lines (after_question go budget q source s).blocked
question-told go f budget None source s z e =
    let p = loop_exit budget (block_line s) in
    let part = exit-calm budget (block_lines s) (block_line s) (told-block s e) in
    let next = with_posts s.moment p.posts source in
    after-told p.lines (after_exit go next p.next).lines (block_lines s) (after_exit go next p.next).blocked part.lines (exit-told go f next p.next part.ends)
question-told go f budget (Some q) source s z e =
    let t = block_line s in
    let r = asks go q source (silent t) in
    after-told t.lines r.lines (block_lines s) r.blocked (told-block s e) (asks-told go f q source (silent t) refl)
    ∙ ap (λ ls. ls ++ flat_map block_lines r.blocked) (asked-told q s z)
    ∙ sym (flat_map-append block_lines (blocked_at q s) r.blocked)

turn-told : (go : GoingOn) → AreTold go → (budget : ℕ) (source : Source) (next : Next) → IsSilent next → TellsBlocks (after_turn go budget source next).lines (after_turn go budget source next).blocked
turn-told go f budget source (Next.Over cause s) e = refl
turn-told go f budget source (Next.Resting s) e = question-told go f budget (question s) source s refl e
turn-told go f budget source (Next.Going g s) e = refl

run_turns-told : (n budget : ℕ) → AreTold (run_turns n budget)
run_turns-told zero budget source s e = refl
run_turns-told (suc n) budget source s e =
    let p = turn budget s in
    let part = turn-calm budget s e in
    let next = with_posts s.moment p.posts source in
    let r = after_turn (run_turns n budget) budget next p.next in
    after-told p.lines r.lines [] r.blocked part.lines (turn-told (run_turns n budget) (run_turns-told n budget) budget next p.next part.ends)

start-told : (source : Source) (turns moves : ℕ) (next : Next) → IsSilent next → TellsBlocks (after_start source turns moves next).lines (after_start source turns moves next).blocked
start-told source turns moves (Next.Over cause s) e = refl
start-told source turns moves (Next.Resting s) e = run_turns-told turns moves source s e
start-told source turns moves (Next.Going g s) e = refl

pub run-told : (c : Scenario) (source : Source) (turns moves : ℕ) → filter is_block (run_from source turns moves c).lines ≡ flat_map block_lines (blocked_states source turns moves c)
run-told c source turns moves =
    let p = runs moves (starts lands 0 [] (first_state c)) in
    let part = runs-calm moves [] (starts lands 0 [] (first_state c)) (starts-keeps (IsCalm []) (calm-kept []) lands 0 [] (first_state c) (lands-keeps (IsCalm []) (calm-kept [])) refl) in
    let next = with_posts 0 p.posts source in
    after-told p.lines (after_start next turns moves p.next).lines [] (after_start next turns moves p.next).blocked part.lines (start-told next turns moves p.next part.ends)
