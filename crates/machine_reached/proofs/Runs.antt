-- From each step to the whole run.
use Rattle.std.proofs.Common.{◌≡◌, refl, ap, ◌∙◌, sym, subst, ℕ, zero, suc, ◌+◌, ◌-◌, ◌≤◌, Bool, true, false, [], ◌∷◌, length, arith}
use Rattle.std.specs.Prelude.{Option, Some, None}
use Rattle.gv_values.specs.declared.fault.FaultKind.{FaultKind}
use Rattle.gv_values.specs.declared.job.Answer.{Answer}
use Rattle.world_rules.specs.declared.question.Question.{Question}
use Rattle.world_rules.specs.Script.{scripted, without_done}
use Rattle.scenario_tree.specs.declared.tree.Scenario.{Scenario}
use Rattle.machine.specs.declared.items.Item.{Item}
use Rattle.machine.specs.State.{State}
use Rattle.machine.specs.Budgets.{AreBudgets}
use Rattle.machine.specs.Deliveries.{deliver, interrupts}
use Rattle.machine.specs.Landing.{Next, lands, starts}
use Rattle.machine.specs.Moves.{move}
use Rattle.machine.specs.Questions.{block_line, question, take_answer}
use Rattle.machine.specs.Run.{GoingOn, Passed, Source, after_delivery, after_exit, after_question, after_start, after_turn, asks, deliveries, delivers_one, first_state, least_below, loop_exit, run_from, run_turns, runs, silent, turn, with_posts}
use Rattle.scenario_rules.specs.Rules.{IsWellFormed}
use Rattle.machine_well_formed.specs.Texts.{IsFitText}
use Rattle.machine_well_formed.proofs.WellFormed.{well-formed-fits}
use Rattle.machine_trace_laws.specs.Reached.{state_of_next}
use Rattle.machine_trace_laws.proofs.Runs.{IsFound, least-found}
use Rattle.machine_rooms.specs.Counts.{AreCountable, AreFarBelow}
use Rattle.machine_rooms.proofs.Rooms.{room-ample}
use Rattle.machine_reached.specs.Laws.{IsOfRun, IsWithin}
use Rattle.machine_reached.specs.Turns.{ReachedIn}
use Rattle.machine_reached.proofs.Reached.{in-reached}
use Rattle.machine_reached.proofs.Rooms.{answered-counted, begun-counted, blocked-counted, delivered-counted, exited-counted, moved-counted, room-standing}

-- what stands where a part of a run was given out, within so many moves: no greenlet is left at a move
abbrev Left : Scenario → Bool → ℕ → ℕ → Next → Type 0
Left c may turns moves (Next.Going g s) = ⊥
Left c may turns moves (Next.Resting s) = (s ≡ silent s) × ReachedIn c may (Next.Resting s) × (s.turns ≡ turns) × (s.moves ≤ moves)
Left c may turns moves (Next.Over cause s) = IsOfRun c turns moves s

runs-in : (c : Scenario) (may : Bool) (turns moves n : ℕ) (next : Next) → IsFitText c → ReachedIn c may next → (state_of_next next).turns ≡ turns → (state_of_next next).moves + n ≤ moves →
    Left c may turns moves (runs n next).next
runs-in c may turns moves zero (Next.Going g s) text r t m = record { may = may; next = Next.Going g s; reached = r; same = refl; few_turns = omega (arith, t); few_moves = omega (arith, m) }
runs-in c may turns moves zero (Next.Resting s) text r t m = (refl, ReachedIn.GaveOut may s r, t, omega (arith, m))
runs-in c may turns moves zero (Next.Over cause s) text r t m = record { may = may; next = Next.Over cause s; reached = r; same = refl; few_turns = omega (arith, t); few_moves = omega (arith, m) }
runs-in c may turns moves (suc n) (Next.Resting s) text r t m = (refl, ReachedIn.GaveOut may s r, t, omega (arith, m))
runs-in c may turns moves (suc n) (Next.Over cause s) text r t m = record { may = may; next = Next.Over cause s; reached = r; same = refl; few_turns = omega (arith, t); few_moves = omega (arith, m) }
runs-in c may turns moves (suc n) (Next.Going g s) text r t m =
    let same = moved-counted c g s text (in-reached c may (Next.Going g s) r) in
    let sameturns = same.turns in
    let onemore = same.moves in
    runs-in c may turns moves n (move g (silent s)) text (ReachedIn.Moved may g s r) (sameturns ∙ t) (omega (arith, onemore, m))

deliveries-in : (c : Scenario) (may : Bool) (n budget mark : ℕ) (s : State) → IsFitText c → s ≡ silent s → ReachedIn c may (Next.Resting s) → s.moves ≤ budget →
    Left c may s.turns budget (deliveries n budget mark s).next
deliveries-in c may zero budget mark s text e r m = (e, r, refl, m)
deliveries-in c may (suc n) budget mark s text e r m = by (least_below mark s.items) (least-found mark s.items) (λ t at. deliveries-in c may n budget mark t text at.0 at.1 at.2)
  where
    on : ((t : State) → (t ≡ silent t) × ReachedIn c may (Next.Resting t) × (t.moves ≤ budget) → Left c may t.turns budget (deliveries n budget mark t).next) → (p : Passed) (next : Next) → p.next ≡ next → Left c may s.turns budget next → Left c may s.turns budget (after_delivery (deliveries n budget mark) p next).next
    on rest p (Next.Going g t) same l = absurd l
    on rest p (Next.Over cause t) same l = subst (Left c may s.turns budget) (sym same) l
    on rest p (Next.Resting t) same l = subst (λ k. Left c may k budget (deliveries n budget mark t).next) l.2 (rest t (l.0, l.1, l.3))

    by : (o : Option Item) → ((i : Item) → o ≡ Some i → IsFound s.items i) →
        ((t : State) → (t ≡ silent t) × ReachedIn c may (Next.Resting t) × (t.moves ≤ budget) → Left c may t.turns budget (deliveries n budget mark t).next) → Left c may s.turns budget (delivers_one (deliveries n budget mark) budget o s).next
    by None f rest = (e, r, refl, m)
    by (Some i) f rest =
        let found = f i refl in
        let same = delivered-counted c found.place i s text found.there (in-reached c may (Next.Resting s) r) in
        let p = runs (budget - s.moves) (deliver i s) in
        let samemoves = same.moves in
        on rest p p.next refl
        (runs-in c may s.turns budget (budget - s.moves) (deliver i s) text (ReachedIn.Delivered may found.place i s found.there found.numbered e r) same.turns (omega (arith, samemoves, m)))

-- the run goes on so from a state at rest, with so many turns left
abbrev GoesIn : Scenario → ℕ → ℕ → ℕ → GoingOn → Type 0
GoesIn c n turns moves go = (source : Source) (may : Bool) (s : State) → s ≡ silent s → ReachedIn c may (Next.Resting s) → s.turns + n ≤ turns → s.moves ≤ moves → IsOfRun c turns moves (go source s).state

more-turns : (c : Scenario) (k turns moves : ℕ) (s : State) → k ≤ turns → IsOfRun c k moves s → IsOfRun c turns moves s
more-turns c k turns moves s few x = let own = x.few_turns in record { may = x.may; next = x.next; reached = x.reached; same = x.same; few_turns = omega (arith, own, few); few_moves = x.few_moves }

exit-in : (c : Scenario) (n k turns moves : ℕ) (go : GoingOn) (may : Bool) (source : Source) (next : Next) → GoesIn c n turns moves go → k + n ≤ turns → Left c may k moves next →
    IsOfRun c turns moves (after_exit go source next).state
exit-in c n k turns moves go may source (Next.Over cause s) f few l = more-turns c k turns moves s (omega (arith, few)) l
exit-in c n k turns moves go may source (Next.Resting s) f few l = let t = l.2 in f source may s l.0 l.1 (omega (arith, t, few)) l.3
exit-in c n k turns moves go may source (Next.Going g s) f few l = absurd l

answer-in : (c : Scenario) (n turns moves : ℕ) (go : GoingOn) (source : Source) (a : Answer) (s : State) → IsFitText c → GoesIn c n turns moves go → s ≡ silent s → ReachedIn c true (Next.Resting s) →
    s.turns + n ≤ turns → s.moves ≤ moves → IsOfRun c turns moves (go source (silent (take_answer a s))).state
answer-in c n turns moves go source a s text f e r few m =
    let t = take_answer a s in
    let same = answered-counted c a s text (in-reached c true (Next.Resting s) r) in
    let sameturns = same.turns in
    let samemoves = same.moves in
    f source false (silent t) refl (ReachedIn.GaveOut false t (ReachedIn.Answered a s e r)) (omega (arith, sameturns, few)) (omega (arith, samemoves, m))

asks-in : (c : Scenario) (n turns moves : ℕ) (go : GoingOn) (q : Question) (source : Source) (s : State) → IsFitText c → GoesIn c n turns moves go → s ≡ silent s → ReachedIn c true (Next.Resting s) →
    s.turns + n ≤ turns → s.moves ≤ moves → IsOfRun c turns moves (asks go q source s).state
asks-in c n turns moves go q (Source.Given []) s text f e r few m = record { may = true; next = Next.Resting s; reached = r; same = e; few_turns = omega (arith, few); few_moves = m }
asks-in c n turns moves go q (Source.Given (a ∷ answers)) s text f e r few m = answer-in c n turns moves go (Source.Given answers) a s text f e r few m
asks-in c n turns moves go q (Source.Scripted tick jobs) s text f e r few m =
    let a = scripted tick jobs s.moment q in answer-in c n turns moves go (Source.Scripted tick (without_done a jobs)) a s text f e r few m

question-in : (c : Scenario) (n turns budget : ℕ) (go : GoingOn) (q : Option Question) (source : Source) (s : State) → IsFitText c → GoesIn c n turns budget go → s ≡ silent s →
    ReachedIn c true (Next.Resting s) → s.turns + n ≤ turns → s.moves ≤ budget → IsOfRun c turns budget (after_question go budget q source s).state
question-in c n turns budget go None source s text f e r few m =
    let t = block_line s in
    let part = loop_exit budget t in
    let same = exited-counted c s text (in-reached c true (Next.Resting s) r) in
    let samemoves = same.moves in
    let block = blocked-counted s in
    let blockmoves = block.moves in
    exit-in c n s.turns turns budget go true (with_posts s.moment part.posts source) part.next f few
    (runs-in c true s.turns budget (budget - t.moves) (interrupts 0 FaultKind.LoopExit t) text (ReachedIn.Exited true s e r) same.turns (omega (arith, samemoves, blockmoves, m)))
question-in c n turns budget go (Some q) source s text f e r few m =
    let t = block_line s in
    let block = blocked-counted s in
    let blockturns = block.turns in
    let blockmoves = block.moves in
    asks-in c n turns budget go q source (silent t) text f refl (ReachedIn.GaveOut true t (ReachedIn.Blocked true s e r)) (omega (arith, blockturns, few)) (omega (arith, blockmoves, m))

turn-in : (c : Scenario) (n k turns budget : ℕ) (go : GoingOn) (source : Source) (next : Next) → IsFitText c → GoesIn c n turns budget go → k + n ≤ turns → Left c true k budget next →
    IsOfRun c turns budget (after_turn go budget source next).state
turn-in c n k turns budget go source (Next.Over cause s) text f few l = more-turns c k turns budget s (omega (arith, few)) l
turn-in c n k turns budget go source (Next.Resting s) text f few l = let t = l.2 in question-in c n turns budget go (question s) source s text f l.0 l.1 (omega (arith, t, few)) l.3
turn-in c n k turns budget go source (Next.Going g s) text f few l = absurd l

run_turns-in : (c : Scenario) (turns n budget : ℕ) → IsFitText c → GoesIn c n turns budget (run_turns n budget)
run_turns-in c turns zero budget text source may s e r few m = record { may = may; next = Next.Resting s; reached = r; same = e; few_turns = omega (arith, few); few_moves = m }
run_turns-in c turns (suc n) budget text source may s e r few m =
    let part = turn budget s in
    let t = record s { turns = s.turns + 1 } in
    turn-in c n (s.turns + 1) turns budget (run_turns n budget) (with_posts s.moment part.posts source) part.next text (run_turns-in c turns n budget text) (omega (arith, few))
    (deliveries-in c true (length s.items) budget s.next_ready t text (ap (λ (z : State). record z { turns = s.turns + 1 }) e) (ReachedIn.Turned may s r) m)

start-in : (c : Scenario) (source : Source) (turns moves : ℕ) (next : Next) → IsFitText c → Left c false 0 moves next → IsOfRun c turns moves (after_start source turns moves next).state
start-in c source turns moves (Next.Over cause s) text l = more-turns c 0 turns moves s (omega arith) l
start-in c source turns moves (Next.Resting s) text l = let t = l.2 in run_turns-in c turns turns moves text source false s l.0 l.1 (omega (arith, t)) l.3
start-in c source turns moves (Next.Going g s) text l = absurd l

pub run-in : (c : Scenario) (source : Source) (turns moves : ℕ) → IsFitText c → IsOfRun c turns moves (run_from source turns moves c).state
run-in c source turns moves text =
    let at = starts lands 0 [] (first_state c) in
    let part = runs moves at in
    let same = begun-counted c in
    let none = same.moves in
    start-in c (with_posts 0 part.posts source) turns moves part.next text (runs-in c false 0 moves moves at text ReachedIn.Started same.turns (omega (arith, none)))

pub run-ample : (c : Scenario) (source : Source) (turns moves : ℕ) → IsWellFormed c → AreCountable (first_state c).objects → AreBudgets turns moves → AreFarBelow (run_from source turns moves c).state
run-ample c source turns moves wf countable b =
    let x = run-in c source turns moves (well-formed-fits c wf) in
    let t = ap (λ (z : State). z.turns) x.same in
    let m = ap (λ (z : State). z.moves) x.same in
    let u = x.few_turns in
    let v = x.few_moves in
    let within : IsWithin c x.next = record { well_formed = wf; countable = countable; may = x.may; reached = x.reached; few_turns = omega (arith, t, u); few_moves = omega (arith, m, v) } in
    subst AreFarBelow (sym x.same) (room-ample 0 (silent (state_of_next x.next)) (room-standing c x.next within))
