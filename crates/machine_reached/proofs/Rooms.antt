-- Where the hub stands within budgets there is room for a step, and turns and moves are counted.
use Rattle.std.proofs.Common.{◌≡◌, refl, sym, ℕ, ◌+◌, ◌*◌, ◌<◌, ◌≤◌, Bool, true, false, [], arith}
use Rattle.std.specs.Prelude.{if◌then◌else◌, Some, slice_get}
use Rattle.gv_values.specs.declared.fault.FaultKind.{FaultKind}
use Rattle.gv_values.specs.declared.job.Answer.{Answer}
use Rattle.gv_values.specs.declared.limits.TheConstants.{MOST_MOVES}
use Rattle.scenario_tree.specs.declared.tree.Scenario.{Scenario}
use Rattle.trace_text.specs.declared.line.Blocked.{Blocked}
use Rattle.trace_text.specs.declared.line.Line.{Line}
use Rattle.machine.specs.declared.items.Delivery.{Delivery}
use Rattle.machine.specs.declared.items.Item.{Item}
use Rattle.machine.specs.declared.limits.TheConstants.{MOST_GREENLETS, MOST_LINKS}
use Rattle.machine.specs.State.{State, say}
use Rattle.machine.specs.Deliveries.{deliver, interrupts, without_item}
use Rattle.machine.specs.Landing.{Next, lands, starts}
use Rattle.machine.specs.Moves.{move}
use Rattle.machine.specs.Questions.{any_numbered, block_line, take_answer}
use Rattle.machine.specs.Run.{first_state, silent}
use Rattle.machine_soundness.specs.Going.{IsKept}
use Rattle.machine_soundness.proofs.States.{ascends}
use Rattle.machine_well_formed.specs.Texts.{IsFitText}
use Rattle.machine_well_formed.proofs.WellFormed.{well-formed-fits}
use Rattle.machine_trace_laws.specs.Reached.{Reached, state_of_next}
use Rattle.machine_reached.proofs.Bounded.{reached-bounded}
use Rattle.machine_rooms.specs.Rooms.{HasRoom, room_of_delivery, room_of_move}
use Rattle.machine_rooms.specs.Steps.{Fixed, HasSteps, Stands, other, tally}
use Rattle.machine_rooms.proofs.Ledger.{counts-fewer, counts-moved, counts-taken}
use Rattle.machine_rooms.proofs.Tallies.{wait-weight-few}
use Rattle.machine_reached.specs.Laws.{IsCountedOn, IsWithin}
use Rattle.machine_reached.proofs.Reached.{StandsIn, StandsSo, after, at-rest, delivered, exited, in-counts, in-reached, moved, others-few, reached-counts, started}
use Rattle.machine_reached.proofs.Steps.{take_answer-counts}

-- ---- turns and moves

fixed-turns : (b : Fixed) (next : Next) → Stands b next → ((state_of_next next).turns ≡ b.turns) × ((state_of_next next).moves ≡ b.moves)
fixed-turns b (Next.Going g s) h = (h.turns, h.moves)
fixed-turns b (Next.Resting s) h = (h.turns, h.moves)
fixed-turns b (Next.Over cause s) h = (h.turns, h.moves)

counted-on : (t m k : ℕ) (s u : State) → s.turns ≡ t → s.moves ≡ m → u.turns ≡ t → u.moves ≡ m + k → IsCountedOn k s u
counted-on t m k s u a b c d = record { turns = omega arith; moves = omega arith }

pub moved-counted : (c : Scenario) (g : ℕ) (s : State) → IsFitText c → Reached c (Next.Going g s) → IsCountedOn 1 s (state_of_next (move g (silent s)))
unfolding StandsSo
moved-counted c g s text r =
    let x = reached-counts c (Next.Going g s) text r in
    let h = x.3 in
    let y = fixed-turns (after c x.0 x.1 (x.2 + 1)) (move g (silent s)) (moved c x.0 x.1 x.2 g s text r h) in
    counted-on x.1 x.2 1 s (state_of_next (move g (silent s))) h.turns h.moves y.0 y.1

pub delivered-counted : (c : Scenario) (n : ℕ) (i : Item) (s : State) → IsFitText c → slice_get s.items n ≡ Some i → Reached c (Next.Resting s) → IsCountedOn 0 s (state_of_next (deliver i s))
unfolding StandsSo
delivered-counted c n i s text there r =
    let x = reached-counts c (Next.Resting s) text r in
    let h = x.3 in
    let y = fixed-turns (after c x.0 x.1 x.2) (deliver i s) (delivered c x.0 x.1 x.2 n i s text there r h) in
    let none = y.1 in
    counted-on x.1 x.2 0 s (state_of_next (deliver i s)) h.turns h.moves y.0 (omega (arith, none))

pub exited-counted : (c : Scenario) (s : State) → IsFitText c → Reached c (Next.Resting s) → IsCountedOn 0 s (state_of_next (interrupts 0 FaultKind.LoopExit (block_line s)))
unfolding StandsSo
exited-counted c s text r =
    let x = reached-counts c (Next.Resting s) text r in
    let h = x.3 in
    let next = interrupts 0 FaultKind.LoopExit (block_line s) in
    let y = fixed-turns (after c x.0 x.1 x.2) next (exited c x.0 x.1 x.2 s text r h) in
    let none = y.1 in
    counted-on x.1 x.2 0 s (state_of_next next) h.turns h.moves y.0 (omega (arith, none))

pub answered-counted : (c : Scenario) (answer : Answer) (s : State) → IsFitText c → Reached c (Next.Resting s) → IsCountedOn 0 s (take_answer answer s)
unfolding StandsSo
answered-counted c answer s text r =
    let x = reached-counts c (Next.Resting s) text r in
    let h = x.3 in
    let y = take_answer-counts (first_state c).objects x.0 x.1 x.2 answer s h in
    let none = y.moves in
    counted-on x.1 x.2 0 s (take_answer answer s) h.turns h.moves y.turns (omega (arith, none))

pub blocked-counted : (s : State) → IsCountedOn 0 s (block_line s)
blocked-counted s = by (any_numbered s.items) _
  where
    by : (b : Bool) (x : Blocked) → IsCountedOn 0 s (if b then s else say (Line.Block x) s)
    by true x = record { turns = refl; moves = omega arith }
    by false x = record { turns = refl; moves = omega arith }

pub begun-counted : (c : Scenario) → IsCountedOn 0 (first_state c) (state_of_next (starts lands 0 [] (first_state c)))
begun-counted c =
    let y = fixed-turns (after c 0 0 0) (starts lands 0 [] (first_state c)) (started c) in
    let none = y.1 in
    record { turns = y.0; moves = omega (arith, none) }

-- ---- room

pub moves-room : (c : Scenario) (g : ℕ) (s : State) → IsWithin c (Next.Going g s) → s.moves < MOST_MOVES → HasRoom room_of_move (record (silent s) { moves = s.moves + 1 })
unfolding StandsIn
moves-room c g s w few =
    let text = well-formed-fits c w.well_formed in
    let x = in-counts c w.may (Next.Going g s) text w.reached in
    let h = x.3 in
    let turns = w.few_turns in
    let answers = x.4 in
    let sameturns = h.turns in
    let samemoves = h.moves in
    record {
      fixed = after c x.0 x.1 (x.2 + 1);
      few_moves = omega (arith, few, samemoves);
      few_answers = omega (arith, turns, answers, sameturns);
      countable = w.countable;
      steps = counts-moved (first_state c).objects x.0 x.1 x.2 (silent s)
          (others-few (after c x.0 x.1 x.2) 0 s (reached-bounded c (Next.Going g s) text (in-reached c w.may (Next.Going g s) w.reached)) h) h;
    }

pub rests-room : (c : Scenario) (s : State) → IsWithin c (Next.Resting s) → HasRoom 2 s
unfolding StandsIn
rests-room c s w =
    let x = in-counts c w.may (Next.Resting s) (well-formed-fits c w.well_formed) w.reached in
    let h = x.3 in
    let turns = w.few_turns in
    let moves = w.few_moves in
    let answers = x.4 in
    let sameturns = h.turns in
    let samemoves = h.moves in
    record {
      fixed = after c x.0 x.1 x.2;
      few_moves = omega (arith, moves, samemoves);
      few_answers = omega (arith, turns, answers, sameturns);
      countable = w.countable;
      steps = h;
    }

-- wherever the hub stands, also after all is given out
pub room-standing : (c : Scenario) (next : Next) → IsWithin c next → HasRoom 0 (silent (state_of_next next))
unfolding StandsIn
room-standing c next w =
    let x = in-counts c w.may next (well-formed-fits c w.well_formed) w.reached in
    let y = fixed-turns (after c x.0 x.1 x.2) next x.3 in
    let sameturns = y.0 in
    let samemoves = y.1 in
    let turns = w.few_turns in
    let moves = w.few_moves in
    let answers = x.4 in
    record {
      fixed = after c x.0 x.1 x.2;
      few_moves = omega (arith, moves, samemoves);
      few_answers = omega (arith, turns, answers, sameturns);
      countable = w.countable;
      steps = by (after c x.0 x.1 x.2) next x.3;
    }
  where
    by : (b : Fixed) (next : Next) → Stands b next → HasSteps b 0 (silent (state_of_next next))
    by b (Next.Going g s) h = h
    by b (Next.Resting s) h = counts-fewer b 2 0 s (omega arith) h
    by b (Next.Over cause s) h = h

pub deliveries-room : (c : Scenario) (n : ℕ) (i : Item) (s : State) → IsWithin c (Next.Resting s) → slice_get s.items n ≡ Some i → HasRoom (room_of_delivery i.delivery) (without_item i s)
deliveries-room c n i s w there =
    let text = well-formed-fits c w.well_formed in
    let reached = in-reached c w.may (Next.Resting s) w.reached in
    let r = rests-room c s w in
    record {
      fixed = r.fixed;
      few_moves = r.few_moves;
      few_answers = r.few_answers;
      countable = r.countable;
      steps = by i.delivery refl r.fixed r.steps (others-few r.fixed 2 s (reached-bounded c (Next.Resting s) text reached) r.steps) (at-rest c s text reached).kept;
    }
  where
    by : (d : Delivery) → i.delivery ≡ d → (b : Fixed) → HasSteps b 2 s → tally other s.items ≤ 11 * MOST_GREENLETS + MOST_LINKS → IsKept s → HasSteps b (room_of_delivery d) (without_item i s)
    by (Delivery.Start g deadline) e b h standing k = counts-taken b 2 n i (Delivery.Start g deadline) s (sym e) (ascends s k.sound) there standing (omega arith) h
    by (Delivery.Wake g wait) e b h standing k = let light = wait-weight-few wait in counts-taken b 2 n i (Delivery.Wake g wait) s (sym e) (ascends s k.sound) there standing (omega arith) h
    by (Delivery.Late g deadline m) e b h standing k = counts-taken b 2 n i (Delivery.Late g deadline m) s (sym e) (ascends s k.sound) there standing (omega arith) h
    by (Delivery.Timeout g m deadline) e b h standing k = counts-taken b 2 n i (Delivery.Timeout g m deadline) s (sym e) (ascends s k.sound) there standing (omega arith) h
    by (Delivery.Kill g f) e b h standing k = counts-taken b 1 n i (Delivery.Kill g f) s (sym e) (ascends s k.sound) there standing (omega arith) h
    by (Delivery.Link m g kind f) e b h standing k = counts-taken b 2 n i (Delivery.Link m g kind f) s (sym e) (ascends s k.sound) there standing (omega arith) h
