-- Wherever the hub comes to stand in a run, its counts keep to what is paid for.
use Rattle.std.proofs.Common.{◌≡◌, refl, ℕ, ◌+◌, ◌*◌, ◌≤◌, Bool, true, false, [], cond, arith}
use Rattle.std.specs.Prelude.{if◌then◌else◌, Some, slice_get}
use Rattle.gv_values.specs.declared.fault.FaultKind.{FaultKind}
use Rattle.scenario_tree.specs.declared.tree.Scenario.{Scenario}
use Rattle.trace_text.specs.declared.line.Blocked.{Blocked}
use Rattle.trace_text.specs.declared.line.Line.{Line}
use Rattle.machine.specs.declared.items.Item.{Item}
use Rattle.machine.specs.declared.limits.TheConstants.{MOST_GREENLETS, MOST_LINKS}
use Rattle.machine.specs.State.{State, say}
use Rattle.machine.specs.Deliveries.{deliver, interrupts}
use Rattle.machine.specs.Landing.{Next, lands, starts}
use Rattle.machine.specs.Moves.{move}
use Rattle.machine.specs.Questions.{any_numbered, block_line}
use Rattle.machine.specs.Run.{first_state, silent}
use Rattle.machine.specs.Soundness.{phase_of}
use Rattle.machine_soundness.specs.Going.{IsKept}
use Rattle.machine_soundness.proofs.States.{going}
use Rattle.machine_well_formed.specs.Texts.{IsFitText}
use Rattle.machine_trace_laws.specs.Reached.{Reached, state_of_next}
use Rattle.machine_reached.specs.Bounds.{IsBounded}
use Rattle.machine_reached.proofs.Bounded.{reached-bounded, reached-stands, text-meant}
use Rattle.machine_rooms.specs.Steps.{Fixed, HasSteps, Stands, other, tally}
use Rattle.machine_rooms.proofs.Ledger.{counts-fewer}
use Rattle.machine_rooms.proofs.Tallies.{ends-few, is_open, kills-and-others, kills-tallied, live-open}
use Rattle.machine_reached.specs.Few.{AreFew, AreFewNumbers}
use Rattle.machine_reached.specs.Turns.{ReachedIn}
use Rattle.machine_reached.proofs.Landings.{lands-counts, starts-counts}
use Rattle.machine_reached.proofs.Steps.{block_line-counts, deliver-counts, interrupts-counts, move-counts, take_answer-counts}

-- ---- one step

-- what is fixed after so many answers, turns and moves
abbrev pub after : Scenario → ℕ → ℕ → ℕ → Fixed
after c a t m = record { declared = (first_state c).objects; answers = a; turns = t; moves = m }

pub others-few : (b : Fixed) (n : ℕ) (s : State) → IsBounded s → HasSteps b n s → tally other s.items ≤ 11 * MOST_GREENLETS + MOST_LINKS
others-few b n s bound h =
    let all = kills-and-others s.items in
    let same = kills-tallied s.items in
    omega (arith, all, same)

pub started : (c : Scenario) → Stands (after c 0 0 0) (starts lands 0 [] (first_state c))
started c = starts-counts (after c 0 0 0) lands 0 [] (first_state c) (lands-counts (after c 0 0 0)) refl first
  where
    first : HasSteps (after c 0 0 0) 0 (first_state c)
    first =
        record {
          steps = 0;
          paid = omega arith;
          greenlets = omega arith;
          links = omega arith;
          kills = omega arith;
          others = omega arith;
          timeouts = omega arith;
          jobs = omega arith;
          objects = λ o. omega arith;
          sinces = omega arith;
          numbers = omega arith;
          turns = refl;
          moves = refl;
        }

pub moved : (c : Scenario) (a t m g : ℕ) (s : State) → IsFitText c → Reached c (Next.Going g s) → HasSteps (after c a t m) 0 s → Stands (after c a t (m + 1)) (move g (silent s))
moved c a t m g s text r h =
    let x = reached-stands c text (Next.Going g s) r in
    let moves = x.1.1.moves in
    move-counts (first_state c).objects a t m g (silent s) ((text-meant c text).meant g s r) moves.kept (going g x.1.0 (silent s) moves)
    (others-few (after c a t m) 0 s (reached-bounded c (Next.Going g s) text r) h) h

-- a state at rest is kept, and main is in it
pub record IsAtRest (s : State) : Type 0 where
  pub kept : IsKept s
  pub main : is_open (phase_of 0 s.greenlets) ≡ true

pub at-rest : (c : Scenario) (s : State) → IsFitText c → Reached c (Next.Resting s) → IsAtRest s
at-rest c s text r =
    let x = reached-stands c text (Next.Resting s) r in
    let k = x.1.0.kept in
    record {
      kept = record { sound = k.sound; owners = k.owners; members = k.members; main = k.main };
      main = live-open (phase_of 0 s.greenlets) x.1.0.main;
    }

pub delivered : (c : Scenario) (a t m n : ℕ) (i : Item) (s : State) → IsFitText c → slice_get s.items n ≡ Some i → Reached c (Next.Resting s) → HasSteps (after c a t m) 2 s → Stands (after c a t m) (deliver i s)
delivered c a t m n i s text there r h =
    deliver-counts (after c a t m) n i s there (at-rest c s text r).kept (others-few (after c a t m) 2 s (reached-bounded c (Next.Resting s) text r) h) h

pub exited : (c : Scenario) (a t m : ℕ) (s : State) → IsFitText c → Reached c (Next.Resting s) → HasSteps (after c a t m) 2 s → Stands (after c a t m) (interrupts 0 FaultKind.LoopExit (block_line s))
exited c a t m s text r h =
    let u = block_line s in
    interrupts-counts (after c a t m) 0 FaultKind.LoopExit u (by (any_numbered s.items) _) (counts-fewer (after c a t m) 2 1 u (omega arith) (block_line-counts (after c a t m) 2 s h))
  where
    by : (b : Bool) (x : Blocked) → is_open (phase_of 0 (if b then s else say (Line.Block x) s).greenlets) ≡ true
    by true x = (at-rest c s text r).main
    by false x = (at-rest c s text r).main

turned : (c : Scenario) (a t m n k : ℕ) (s : State) → n ≡ k → HasSteps (after c a t m) 2 s → HasSteps (after c a k m) 2 (record s { turns = n })
turned c a t m n k s e h =
    record {
      steps = h.steps;
      paid = h.paid;
      greenlets = h.greenlets;
      links = h.links;
      kills = h.kills;
      others = h.others;
      timeouts = h.timeouts;
      jobs = h.jobs;
      objects = h.objects;
      sinces = h.sinces;
      numbers = h.numbers;
      turns = e;
      moves = h.moves;
    }

-- ---- all of them

-- the counts after some answers, turns and moves
unfoldable pub StandsSo : Scenario → Next → Type 0
StandsSo c next = (a : ℕ) × (t : ℕ) × (m : ℕ) × Stands (after c a t m) next

pub reached-counts : (c : Scenario) (next : Next) → IsFitText c → Reached c next → StandsSo c next
unfolding StandsSo
reached-counts c next text Reached.Started = (0, 0, 0, started c)
reached-counts c next text (Reached.Moved g s r) =
    let x = reached-counts c (Next.Going g s) text r in
    (x.0, x.1, x.2 + 1, moved c x.0 x.1 x.2 g s text r x.3)
reached-counts c next text (Reached.GaveOut s r) = reached-counts c (Next.Resting s) text r
reached-counts c next text (Reached.Turned n s r) =
    let x = reached-counts c (Next.Resting s) text r in
    (x.0, n, x.2, turned c x.0 x.1 x.2 n n s refl x.3)
reached-counts c next text (Reached.Delivered n i s there numbered e r) =
    let x = reached-counts c (Next.Resting s) text r in
    (x.0, x.1, x.2, delivered c x.0 x.1 x.2 n i s text there r x.3)
reached-counts c next text (Reached.Blocked s e r) =
    let x = reached-counts c (Next.Resting s) text r in
    (x.0, x.1, x.2, block_line-counts (after c x.0 x.1 x.2) 2 s x.3)
reached-counts c next text (Reached.Exited s e r) =
    let x = reached-counts c (Next.Resting s) text r in
    (x.0, x.1, x.2, exited c x.0 x.1 x.2 s text r x.3)
reached-counts c next text (Reached.Answered answer s e r) =
    let x = reached-counts c (Next.Resting s) text r in
    (x.0 + 1, x.1, x.2, take_answer-counts (first_state c).objects x.0 x.1 x.2 answer s x.3)

-- ---- they are few

few-left : (b : Fixed) (n : ℕ) (s : State) → HasSteps b n s → AreFew b.declared s
few-left b n s h =
    let few = ends-few s.greenlets in
    record {
      timeouts = omega (arith, few);
      jobs = omega (arith, few);
      links = h.links;
      greenlets = h.greenlets;
      objects = λ o. let own = h.objects o in omega (arith, few, own);
      sinces = omega (arith, few);
    }

few-standing : (b : Fixed) (next : Next) → Stands b next → AreFew b.declared (state_of_next next)
few-standing b (Next.Going g s) h = few-left b 0 s h
few-standing b (Next.Resting s) h = few-left b 2 s h
few-standing b (Next.Over cause s) h = few-left b 0 s h

pub reached-few : (c : Scenario) (next : Next) → IsFitText c → Reached c next → AreFew (first_state c).objects (state_of_next next)
unfolding StandsSo
reached-few c next text r = let x = reached-counts c next text r in few-standing (after c x.0 x.1 x.2) next x.3

-- ---- where each turn takes one answer at most

pub in-reached : (c : Scenario) (may : Bool) (next : Next) → ReachedIn c may next → Reached c next
in-reached c may next ReachedIn.Started = Reached.Started
in-reached c may next (ReachedIn.Moved was g s r) = Reached.Moved g s (in-reached c was (Next.Going g s) r)
in-reached c may next (ReachedIn.GaveOut was s r) = Reached.GaveOut s (in-reached c was (Next.Resting s) r)
in-reached c may next (ReachedIn.Turned was s r) = Reached.Turned (s.turns + 1) s (in-reached c was (Next.Resting s) r)
in-reached c may next (ReachedIn.Delivered was n i s there numbered e r) = Reached.Delivered n i s there numbered e (in-reached c was (Next.Resting s) r)
in-reached c may next (ReachedIn.Blocked was s e r) = Reached.Blocked s e (in-reached c was (Next.Resting s) r)
in-reached c may next (ReachedIn.Exited was s e r) = Reached.Exited s e (in-reached c was (Next.Resting s) r)
in-reached c may next (ReachedIn.Answered answer s e r) = Reached.Answered answer s e (in-reached c true (Next.Resting s) r)
in-reached c may next (ReachedIn.Unanswered at r) = in-reached c true at r

-- the same, where answers and the one that may still come are no more than the turns
unfoldable pub StandsIn : Scenario → Bool → Next → Type 0
StandsIn c may next = (a : ℕ) × (t : ℕ) × (m : ℕ) × Stands (after c a t m) next × (a + cond may 1 0 ≤ t)

pub in-counts : (c : Scenario) (may : Bool) (next : Next) → IsFitText c → ReachedIn c may next → StandsIn c may next
unfolding StandsIn
in-counts c may next text ReachedIn.Started = (0, 0, 0, started c, omega arith)
in-counts c may next text (ReachedIn.Moved was g s r) =
    let x = in-counts c was (Next.Going g s) text r in
    (x.0, x.1, x.2 + 1, moved c x.0 x.1 x.2 g s text (in-reached c was (Next.Going g s) r) x.3, x.4)
in-counts c may next text (ReachedIn.GaveOut was s r) = in-counts c was (Next.Resting s) text r
in-counts c may next text (ReachedIn.Turned was s r) =
    let x = in-counts c was (Next.Resting s) text r in
    let few = x.4 in
    let same = x.3.turns in
    (x.0, x.1 + 1, x.2, turned c x.0 x.1 x.2 (s.turns + 1) (x.1 + 1) s (omega (arith, same)) x.3, omega (arith, few))
in-counts c may next text (ReachedIn.Delivered was n i s there numbered e r) =
    let x = in-counts c was (Next.Resting s) text r in
    (x.0, x.1, x.2, delivered c x.0 x.1 x.2 n i s text there (in-reached c was (Next.Resting s) r) x.3, x.4)
in-counts c may next text (ReachedIn.Blocked was s e r) =
    let x = in-counts c was (Next.Resting s) text r in
    (x.0, x.1, x.2, block_line-counts (after c x.0 x.1 x.2) 2 s x.3, x.4)
in-counts c may next text (ReachedIn.Exited was s e r) =
    let x = in-counts c was (Next.Resting s) text r in
    (x.0, x.1, x.2, exited c x.0 x.1 x.2 s text (in-reached c was (Next.Resting s) r) x.3, x.4)
in-counts c may next text (ReachedIn.Answered answer s e r) =
    let x = in-counts c true (Next.Resting s) text r in
    let few = x.4 in
    (x.0 + 1, x.1, x.2, take_answer-counts (first_state c).objects x.0 x.1 x.2 answer s x.3, omega (arith, few))
in-counts c may next text (ReachedIn.Unanswered at r) =
    let x = in-counts c true at text r in
    let few = x.4 in
    (x.0, x.1, x.2, x.3, omega (arith, few))

-- an answer stands for each turn at most
numbers-standing : (c : Scenario) (a t m : ℕ) (next : Next) → a ≤ t → Stands (after c a t m) next → AreFewNumbers (state_of_next next)
numbers-standing c a t m (Next.Going g s) few h = let ended = ends-few s.greenlets in let same = h.turns in omega (arith, few, ended, same)
numbers-standing c a t m (Next.Resting s) few h = let ended = ends-few s.greenlets in let same = h.turns in omega (arith, few, ended, same)
numbers-standing c a t m (Next.Over cause s) few h = let ended = ends-few s.greenlets in let same = h.turns in omega (arith, few, ended, same)

pub in-numbers : (c : Scenario) (may : Bool) (next : Next) → IsFitText c → ReachedIn c may next → AreFewNumbers (state_of_next next)
unfolding StandsIn
in-numbers c may next text r =
    let x = in-counts c may next text r in
    let few = x.4 in
    numbers-standing c x.0 x.1 x.2 next (omega (arith, few)) x.3
