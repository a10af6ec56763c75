-- That each part of a run stays within its budgets: a move counts one, a turn counts one, and nothing else counts any.
use Rattle.std.proofs.Common.{◌≡◌, refl, ap, sym, ◌∙◌, subst, ℕ, zero, suc, ◌+◌, ◌<◌, ◌≤◌, Bool, true, false, IsSome, Some, [], arith}
use Rattle.std.specs.Prelude.{slice_get}
use Rattle.gv_values.specs.declared.fault.FaultKind.{FaultKind}
use Rattle.gv_values.specs.declared.job.Answer.{Answer}
use Rattle.gv_values.specs.declared.limits.TheConstants.{MOST_MOVES, MOST_TURNS}
use Rattle.scenario_tree.specs.declared.tree.Scenario.{Scenario}
use Rattle.machine.specs.declared.items.Item.{Item}
use Rattle.machine.specs.State.{State}
use Rattle.machine.specs.declared.state.Frame.{Frame}
use Rattle.machine.specs.declared.state.Phase.{Phase}
use Rattle.machine.specs.Deliveries.{deliver, interrupts, without_item}
use Rattle.machine.specs.Greenlets.{with_phase}
use Rattle.machine.specs.Landing.{Next, lands, starts}
use Rattle.machine.specs.Moves.{move}
use Rattle.machine.specs.Questions.{block_line, take_answer}
use Rattle.machine.specs.Run.{first_state, least_below, silent}
use Rattle.machine.specs.Soundness.{phase_of}
use Rattle.machine_well_formed.specs.Texts.{IsFitText}
use Rattle.machine_well_formed.proofs.WellFormed.{well-formed-fits}
use Rattle.machine_trace_laws.specs.Reached.{Reached, state_of_next}
use Rattle.machine_trace_laws.proofs.Runs.{least-found}
use Rattle.machine_rooms.specs.Rooms.{HasRoom, room_of_delivery, room_of_move}
use Rattle.machine_rooms.proofs.Ledger.{counts-live}
use Rattle.machine_rooms.proofs.Rooms.{room-kept}
use Rattle.machine_rooms.proofs.Tallies.{is_open}
use Rattle.machine_reached.specs.Laws.{IsCountedOn, IsWithin}
use Rattle.machine_reached.specs.Turns.{ReachedIn}
use Rattle.machine_reached.proofs.Reached.{in-reached}
use Rattle.machine_reached.proofs.Rooms.{answered-counted, begun-counted, blocked-counted, delivered-counted, deliveries-room, exited-counted, moved-counted, moves-room, rests-room}
use Rattle.hub_engine.specs.declared.stand.Stand.{Stand}
use Rattle.hub_engine.specs.Onward.{MovesTo}
use Rattle.hub_engine.specs.Ready.{MayRun}
use Rattle.hub_engine.specs.Settlings.{HasMoveRoom, HasMovesRoom}
use Rattle.hub_engine.specs.Stands.{next_at}
use Rattle.hub_engine.specs.Within.{IsWithinAt, IsWithinSomehow, IsWithinToMove}
use Rattle.hub_engine.proofs.Blind.{with_phase_twice}
use Rattle.hub_engine.proofs.Readily.{some_item}

-- ---- what the text sees to

fits : (may : Bool) (turns : ℕ) (next : Next) → (h : IsWithinAt may turns next) → IsFitText h.scenario
fits may turns next h = well-formed-fits h.scenario h.well_formed

reaches : (may : Bool) (turns : ℕ) (next : Next) → (h : IsWithinAt may turns next) → Reached h.scenario next
reaches may turns next h = in-reached h.scenario may next h.reached

-- the body under way does not tell how many moves were made
pub standing_moves : (at : Stand) (s : State) → (state_of_next (next_at at s)).moves ≡ s.moves
standing_moves (Stand.Going g body) s = refl
standing_moves Stand.Resting s = refl
standing_moves (Stand.Over cause) s = refl

-- a step that counts so many moves
stepped : (may can : Bool) (turns k : ℕ) (from to : Next) → (h : IsWithinAt may turns from) → ReachedIn h.scenario can to → IsCountedOn k (state_of_next from) (state_of_next to) →
    (state_of_next from).moves + k ≤ MOST_MOVES → IsWithinAt can turns to
stepped may can turns k from to h r counted few =
    let moves = counted.moves in
    record {
      scenario = h.scenario;
      well_formed = h.well_formed;
      countable = h.countable;
      reached = r;
      same_turns = counted.turns ∙ h.same_turns;
      few_turns = h.few_turns;
      few_moves = omega (arith, moves, few);
    }

-- one that counts none
kept : (may can : Bool) (turns : ℕ) (from to : Next) → (h : IsWithinAt may turns from) → ReachedIn h.scenario can to → IsCountedOn 0 (state_of_next from) (state_of_next to) → IsWithinAt can turns to
kept may can turns from to h r counted =
    let few = h.few_moves in
    stepped may can turns 0 from to h r counted (omega (arith, few))

-- ---- moves

-- the greenlet is at its next move so, and all that was said is given out
moves-counted : (may : Bool) (turns g : ℕ) (s t : State) → IsWithinAt may turns (Next.Going g s) → t ≡ silent s → IsCountedOn 1 s (state_of_next (move g t))
moves-counted may turns g s t h e =
    subst (λ (x : State). IsCountedOn 1 s (state_of_next (move g x))) (sym e)
    (moved-counted h.scenario g s (fits may turns (Next.Going g s) h) (reaches may turns (Next.Going g s) h))

moves-within : (may : Bool) (turns g : ℕ) (s t : State) → IsWithinAt may turns (Next.Going g s) → t ≡ silent s → s.moves + 1 ≤ MOST_MOVES → IsWithinAt may turns (move g t)
moves-within may turns g s t h e few =
    subst (λ (x : State). IsWithinAt may turns (move g x)) (sym e)
    (stepped may may turns 1 (Next.Going g s) (move g (silent s)) h (ReachedIn.Moved may g s h.reached) (moves-counted may turns g s (silent s) h refl) few)

-- within the budgets, where so many moves were made
pub record HasMoved (may : Bool) (turns moves : ℕ) (next : Next) : Type 0 where
  pub within : IsWithinAt may turns next
  pub moves_are : (state_of_next next).moves ≡ moves

-- moves one after another are counted, each as one
pub within_moved : (may : Bool) (turns g n : ℕ) (s t : State) (next : Next) → IsWithinAt may turns (Next.Going g s) → t ≡ silent s → t.moves + (n + 1) ≤ MOST_MOVES → MovesTo g n t next →
    HasMoved may turns (t.moves + (n + 1)) next
within_moved may turns g zero s t next h e few m =
    let same : t.moves ≡ s.moves = ap (λ (x : State). x.moves) e in
    let counted = moves-counted may turns g s t h e in
    let moves = counted.moves in
    let one : (state_of_next (move g t)).moves ≡ t.moves + (zero + 1) = omega (arith, moves, same) in
    subst (HasMoved may turns (t.moves + (zero + 1))) m (record { within = moves-within may turns g s t h e (omega (arith, few, same)); moves_are = one })
within_moved may turns g (suc n) s t next h e few m =
    let u = m.0 in
    let same : t.moves ≡ s.moves = ap (λ (x : State). x.moves) e in
    let counted = moves-counted may turns g s t h e in
    let moves = counted.moves in
    let first : (state_of_next (move g t)).moves ≡ t.moves + 1 = omega (arith, moves, same) in
    let here : IsWithinAt may turns (Next.Going g u) = subst (IsWithinAt may turns) m.1 (moves-within may turns g s t h e (omega (arith, few, same))) in
    let one : u.moves ≡ t.moves + 1 = subst (λ (x : Next). (state_of_next x).moves ≡ t.moves + 1) m.1 first in
    let all : u.moves + (n + 1) ≡ t.moves + (suc n + 1) = omega (arith, one) in
    subst (λ k. HasMoved may turns k next) all (within_moved may turns g n u u next here m.2 (omega (arith, few, one)) m.3)

-- ---- at rest

pub within_given : (may : Bool) (turns : ℕ) (s t : State) → IsWithinAt may turns (Next.Resting s) → t ≡ silent s → IsWithinAt may turns (Next.Resting t)
within_given may turns s t h e =
    subst (λ (x : State). IsWithinAt may turns (Next.Resting x)) (sym e)
    (kept may may turns (Next.Resting s) (Next.Resting (silent s)) h (ReachedIn.GaveOut may s h.reached) (record { turns = refl; moves = omega arith }))

-- a turn may take an answer
pub within_turned : (may : Bool) (turns : ℕ) (s : State) → IsWithinAt may turns (Next.Resting s) → turns + 1 ≤ MOST_TURNS → IsWithinAt true (turns + 1) (Next.Resting (record s { turns = s.turns + 1 }))
within_turned may turns s h few =
    record {
      scenario = h.scenario;
      well_formed = h.well_formed;
      countable = h.countable;
      reached = ReachedIn.Turned may s h.reached;
      same_turns = ap (λ n. n + 1) h.same_turns;
      few_turns = few;
      few_moves = h.few_moves;
    }

-- and need not
pub within_unanswered : (turns : ℕ) (next : Next) → IsWithinAt true turns next → IsWithinAt false turns next
within_unanswered turns next h =
    record {
      scenario = h.scenario;
      well_formed = h.well_formed;
      countable = h.countable;
      reached = ReachedIn.Unanswered next h.reached;
      same_turns = h.same_turns;
      few_turns = h.few_turns;
      few_moves = h.few_moves;
    }

-- ---- deliveries

delivers-counted : (may : Bool) (turns n : ℕ) (i : Item) (s : State) → IsWithinAt may turns (Next.Resting s) → slice_get s.items n ≡ Some i → IsCountedOn 0 s (state_of_next (deliver i s))
delivers-counted may turns n i s h there =
    delivered-counted h.scenario n i s (fits may turns (Next.Resting s) h) there (reaches may turns (Next.Resting s) h)

pub within_delivered : (may : Bool) (turns mark : ℕ) (s t : State) (at : Stand) → IsSome (least_below mark s.items) → s ≡ silent s → IsWithinAt may turns (Next.Resting s) →
    ((i : Item) → least_below mark s.items ≡ Some i → deliver i s ≡ next_at at t) → HasMoved may turns s.moves (next_at at t)
within_delivered may turns mark s t at w e h f =
    let r = some_item (least_below mark s.items) w in
    let found = least-found mark s.items r.0 r.1 in
    let counted = delivers-counted may turns found.place r.0 s h found.there in
    let moves = counted.moves in
    subst (HasMoved may turns s.moves) (f r.0 r.1)
    (record {
      within = kept may may turns (Next.Resting s) (deliver r.0 s) h (ReachedIn.Delivered may found.place r.0 s found.there found.numbered e h.reached) counted;
      moves_are = omega (arith, moves);
    })

-- ---- the block line, LoopExit, and answers

pub within_blocked : (may : Bool) (turns : ℕ) (s : State) → s ≡ silent s → IsWithinAt may turns (Next.Resting s) → IsWithinAt may turns (Next.Resting (block_line s))
within_blocked may turns s e h = kept may may turns (Next.Resting s) (Next.Resting (block_line s)) h (ReachedIn.Blocked may s e h.reached) (blocked-counted s)

-- LoopExit counts no move
pub within_exit : (may : Bool) (turns : ℕ) (s t : State) (at : Stand) → s ≡ silent s → IsWithinAt may turns (Next.Resting s) → interrupts 0 FaultKind.LoopExit (block_line s) ≡ next_at at t →
    HasMoved may turns s.moves (next_at at t)
within_exit may turns s t at e h f =
    let next = interrupts 0 FaultKind.LoopExit (block_line s) in
    let counted = exited-counted h.scenario s (fits may turns (Next.Resting s) h) (reaches may turns (Next.Resting s) h) in
    let moves = counted.moves in
    subst (HasMoved may turns s.moves) f
    (record {
      within = kept may may turns (Next.Resting s) next h (ReachedIn.Exited may s e h.reached) counted;
      moves_are = omega (arith, moves);
    })

pub within_answered : (turns : ℕ) (a : Answer) (s : State) → s ≡ silent s → IsWithinAt true turns (Next.Resting s) → IsWithinAt false turns (Next.Resting (take_answer a s))
within_answered turns a s e h =
    kept true false turns (Next.Resting s) (Next.Resting (take_answer a s)) h (ReachedIn.Answered a s e h.reached)
    (answered-counted h.scenario a s (fits true turns (Next.Resting s) h) (reaches true turns (Next.Resting s) h))

-- ---- the beginning

pub within_started : (c : Scenario) → MayRun c → HasMoved false 0 0 (starts lands 0 [] (first_state c))
within_started c may =
    let counted = begun-counted c in
    let turns : (state_of_next (starts lands 0 [] (first_state c))).turns ≡ 0 = counted.turns in
    let moves : (state_of_next (starts lands 0 [] (first_state c))).moves ≡ 0 + 0 = counted.moves in
    record {
      within = record {
        scenario = c;
        well_formed = may.well_formed;
        countable = may.countable;
        reached = ReachedIn.Started;
        same_turns = turns;
        few_turns = omega arith;
        few_moves = omega (arith, moves);
      };
      moves_are = omega (arith, moves);
    }

-- ---- room

-- as the laws of counts say it
is-law : (may : Bool) (turns : ℕ) (next : Next) → (h : IsWithinAt may turns next) → IsWithin h.scenario next
is-law may turns next h =
    let same = h.same_turns in
    let few = h.few_turns in
    record { well_formed = h.well_formed; countable = h.countable; may = may; reached = h.reached; few_turns = omega (arith, same, few); few_moves = h.few_moves }

pub rest_room : (may : Bool) (turns : ℕ) (s : State) → IsWithinAt may turns (Next.Resting s) → HasRoom 2 s
rest_room may turns s h = rests-room h.scenario s (is-law may turns (Next.Resting s) h)

-- for what is delivered, once its item is taken
pub taken_room : (mark : ℕ) (j : Item) (s t : State) → least_below mark s.items ≡ Some j → t ≡ without_item j s → IsWithinSomehow s → HasRoom (room_of_delivery j.delivery) t
taken_room mark j s t e k h =
    let found = least-found mark s.items j e in
    subst (HasRoom (room_of_delivery j.delivery)) (sym k) (deliveries-room h.within.scenario found.place j s (is-law h.may h.turns (Next.Resting s) h.within) found.there)

-- a move that is counted later has no less room
later-room : (n m k : ℕ) (s : State) → m ≤ k → k ≤ MOST_MOVES → HasRoom n (record s { moves = m }) → HasRoom n (record s { moves = k })
later-room n m k s more few r =
    let b = r.fixed in
    let h = r.steps in
    record {
      fixed = record { declared = b.declared; answers = b.answers; turns = b.turns; moves = k };
      few_moves = few;
      few_answers = r.few_answers;
      countable = r.countable;
      steps = record {
        steps = h.steps;
        paid = omega (arith, more);
        greenlets = h.greenlets;
        links = h.links;
        kills = h.kills;
        others = h.others;
        timeouts = h.timeouts;
        jobs = h.jobs;
        objects = h.objects;
        sinces = h.sinces;
        numbers = h.numbers;
        turns = h.turns;
        moves = refl;
      };
    }

-- for each of so many moves, whatever body the greenlet has
pub moves_room : (most g : ℕ) (body : Frame) (s : State) → IsWithinToMove g (with_phase g (Phase.Live body) s) → is_open (phase_of g (with_phase g (Phase.Live body) s).greenlets) ≡ true →
    s.moves + most ≤ MOST_MOVES → HasMovesRoom most g s
moves_room most g body s h open-here few = record { each = each }
  where
    each : (n : ℕ) → n < most → HasMoveRoom g (record s { moves = s.moves + (n + 1) })
    each n less =
        let u = h.before in
        let own = h.within in
        let same : s.moves ≡ u.moves = ap (λ (x : State). x.moves) h.same in
        let first : HasRoom room_of_move (record (silent u) { moves = u.moves + 1 }) = moves-room own.scenario g u (is-law h.may h.turns (Next.Going g u) own) (omega (arith, less, same, few)) in
        let later : HasRoom room_of_move (record (silent u) { moves = s.moves + (n + 1) }) = later-room room_of_move (u.moves + 1) (s.moves + (n + 1)) (silent u) (omega (arith, same)) (omega (arith, less, same, few)) first in
        let here = record s { moves = s.moves + (n + 1) } in
        let own-room : HasRoom room_of_move (with_phase g (Phase.Live body) here) = subst (λ (x : State). HasRoom room_of_move (record x { moves = s.moves + (n + 1) })) (sym h.same) later in
        let any : (frame : Frame) → HasRoom room_of_move (with_phase g (Phase.Live frame) here) = λ frame.
        subst (HasRoom room_of_move) (with_phase_twice g (Phase.Live body) (Phase.Live frame) here)
        (room-kept room_of_move room_of_move (with_phase g (Phase.Live body) here) (with_phase g (Phase.Live frame) (with_phase g (Phase.Live body) here)) (λ b k. counts-live b room_of_move g frame (with_phase g (Phase.Live body) here) open-here k) own-room) in
        record { any = any }
