-- That each part of a run leaves the hub ready for the next.
use Rattle.std.proofs.Common.{◌≡◌, refl, ap, sym, subst, ℕ, ◌+◌, Bool, true, false, Option, None, Some, IsSome, slice_get, [], arith, rules}
use Rattle.std.proofs.lemmas.Bool.{and_from}
use Rattle.std.specs.Prelude.{if◌then◌else◌}
use Rattle.std.proofs.lemmas.Bool.Decides.{nat_tests}
use Rattle.gv_values.specs.declared.fault.FaultKind.{FaultKind}
use Rattle.gv_values.specs.declared.job.Answer.{Answer}
use Rattle.scenario_tree.specs.declared.tree.Scenario.{Scenario}
use Rattle.scenario_rules.specs.Rules.{IsWellFormed}
use Rattle.trace_text.specs.declared.line.Line.{Line}
use Rattle.body_values.specs.Functions.{IsFunction}
use Rattle.machine.specs.declared.items.Item.{Item}
use Rattle.machine.specs.State.{State, say}
use Rattle.machine.specs.Questions.{any_numbered, block_line, is_numbered, take_answer}
use Rattle.machine.specs.Deliveries.{deliver, interrupts}
use Rattle.machine.specs.Landing.{Next, lands, starts}
use Rattle.machine.specs.Greenlets.{greenlet, with_phase}
use Rattle.machine.specs.declared.state.Frame.{Frame}
use Rattle.machine.specs.declared.state.Phase.{Phase}
use Rattle.machine.specs.Moves.{move}
use Rattle.machine.specs.Run.{first_state, least_below, silent}
use Rattle.machine_soundness.specs.Going.{IsGoing, IsKept, IsSoundAt, next_did}
use Rattle.machine_soundness.proofs.Deliveries.{begins-soundly, deliver-soundly, interrupts-soundly, take_answer-kept}
use Rattle.machine_soundness.proofs.Performs.{move-soundly}
use Rattle.machine_well_formed.specs.Texts.{HasMain, IsKnown, is_function}
use Rattle.machine_well_formed.proofs.WellFormed.{well-formed-fits}
use Rattle.machine_trace_laws.proofs.Goings.{function-known}
use Rattle.machine_trace_laws.specs.Reached.{Reached, state_of_next}
use Rattle.machine_trace_laws.proofs.Runs.{least-found}
use Rattle.machine_reached.specs.Meant.{IsMeantText, fits_did}
use Rattle.machine_reached.proofs.Bounded.{text-meant}
use Rattle.hub_engine.specs.Ready.{AreDeclared, IsReady, IsReadyAt, IsReadyToMove, MayRun}
use Rattle.hub_engine.specs.Stands.{next_at}
use Rattle.hub_engine.specs.declared.stand.Stand.{Stand}
use Rattle.hub_engine.proofs.Functions.{declared_unphased}

-- ---- what the text sees to

meant : (c : Scenario) → IsWellFormed c → IsMeantText c
meant c w = text-meant c (well-formed-fits c w)

-- what the text names is there
pub known_ready : (next : Next) → IsReadyAt next → IsKnown (state_of_next next).scenario (state_of_next next).greenlets (state_of_next next).items (state_of_next next).objects
known_ready next h =
    let m = meant h.scenario h.well_formed in
    m.known next h.reached (subst HasMain (sym (m.same next h.reached)) h.main)

main-here : (next : Next) → IsReadyAt next → HasMain (state_of_next next).scenario
main-here next h = subst HasMain (sym ((meant h.scenario h.well_formed).same next h.reached)) h.main

pub is_function_there : (c : Scenario) (n : ℕ) → is_function c n ≡ true → IsFunction c n
is_function_there c n e = grind (arith, nat_tests, e)

-- each greenlet runs a function that there is
pub declared_ready : (next : Next) → IsReadyAt next → AreDeclared (state_of_next next)
declared_ready next h =
    let s = state_of_next next in
    record { each = λ g. is_function_there s.scenario (greenlet g s).function (function-known s.scenario g s.greenlets (main-here next h) (known_ready next h).functions) }

-- ---- a move

kept-silent : (s : State) → IsKept s → IsKept (silent s)
kept-silent s h = record { sound = h.sound; owners = h.owners; members = h.members; main = h.main }

going-silent : (g : ℕ) (s : State) → IsGoing g s → IsGoing g (silent s)
going-silent g s h = record { live = h.live; host = h.host; host_live = h.host_live; free = h.free }

pub going_sound : (g : ℕ) (s : State) → IsReadyToMove g s → IsSoundAt (Next.Going g s)
going_sound g s h =
    subst (λ (x : State). IsSoundAt (Next.Going g x)) (sym h.same) (kept-silent h.before h.ready.sound.0, going-silent g h.before h.ready.sound.1)

pub going_fits : (g : ℕ) (s : State) → IsReadyToMove g s → fits_did s.scenario (next_did g s) ≡ true
going_fits g s h =
    let m = meant h.ready.scenario h.ready.well_formed in
    subst (λ (x : State). fits_did x.scenario (next_did g x) ≡ true) (sym h.same) (m.fit g h.before h.ready.reached)

pub ready_move : (g : ℕ) (s : State) → IsReadyToMove g s → IsReadyAt (move g s)
ready_move g s h =
    let m = meant h.ready.scenario h.ready.well_formed in
    subst (λ (x : State). IsReadyAt (move g x)) (sym h.same)
    (record {
      scenario = h.ready.scenario;
      well_formed = h.ready.well_formed;
      main = h.ready.main;
      reached = Reached.Moved g h.before h.ready.reached;
      sound = move-soundly g (silent h.before) (m.meant g h.before h.ready.reached) (kept-silent h.before h.ready.sound.0) (going-silent g h.before h.ready.sound.1);
    })

pub ready_moved : (g : ℕ) (s : State) (next : Next) → IsReadyToMove g s → move g s ≡ next → IsReadyAt next
ready_moved g s next h e = subst IsReadyAt e (ready_move g s h)

pub ready_going : (g : ℕ) (s t : State) → IsReadyAt (Next.Going g s) → t ≡ silent s → IsReadyToMove g t
ready_going g s t h e = record { before = s; ready = h; same = e }

pub declared_moving : (g : ℕ) (s : State) → IsReadyToMove g s → AreDeclared s
declared_moving g s h = subst AreDeclared (sym h.same) (record { each = (declared_ready (Next.Going g h.before) h.ready).each })

-- also where the move is counted, and its body stands with the hub's step
pub declared_counted : (g : ℕ) (body : Frame) (s t : State) → IsReadyToMove g (with_phase g (Phase.Live body) s) → t ≡ record s { moves = s.moves + 1 } → AreDeclared t
declared_counted g body s t h e =
    let d = declared_unphased g (Phase.Live body) s (declared_moving g (with_phase g (Phase.Live body) s) h) in
    subst AreDeclared (sym e) (record { each = d.each })

-- ---- a delivery

pub ready_deliver : (n : ℕ) (i : Item) (s : State) → slice_get s.items n ≡ Some i → is_numbered i ≡ true → IsReady s → IsReadyAt (deliver i s)
ready_deliver n i s there numbered h =
    record {
      scenario = h.at.scenario;
      well_formed = h.at.well_formed;
      main = h.at.main;
      reached = Reached.Delivered n i s there numbered h.silent h.at.reached;
      sound = deliver-soundly n i s there h.at.sound;
    }

-- an item that there is
pub some_item : (o : Option Item) → IsSome o → (i : Item) × (o ≡ Some i)
some_item None h = search (rules, h)
some_item (Some i) h = (i, refl)

pub ready_delivered : (mark : ℕ) (s t : State) (at : Stand) → IsSome (least_below mark s.items) → IsReady s →
    ((i : Item) → least_below mark s.items ≡ Some i → deliver i s ≡ next_at at t) → IsReadyAt (next_at at t)
ready_delivered mark s t at w h f =
    let r = some_item (least_below mark s.items) w in
    let found = least-found mark s.items r.0 r.1 in
    subst IsReadyAt (f r.0 r.1) (ready_deliver found.place r.0 s found.there found.numbered h)

-- ---- what is given out, and counted

pub ready_at_rest : (s t : State) → IsReadyAt (Next.Resting s) → t ≡ silent s → IsReady t
ready_at_rest s t h e =
    subst IsReady (sym e)
    (record {
      silent = refl;
      at = record {
        scenario = h.scenario;
        well_formed = h.well_formed;
        main = h.main;
        reached = Reached.GaveOut s h.reached;
        sound = kept-silent s h.sound;
      };
    })

pub ready_turned : (n : ℕ) (s : State) → IsReady s → IsReady (record s { turns = n })
ready_turned n s h =
    record {
      silent = ap (λ (x : State). record x { turns = n }) h.silent;
      at = record {
        scenario = h.at.scenario;
        well_formed = h.at.well_formed;
        main = h.at.main;
        reached = Reached.Turned n s h.at.reached;
        sound = record { sound = h.at.sound.sound; owners = h.at.sound.owners; members = h.at.sound.members; main = h.at.sound.main };
      };
    }

-- ---- the block line, LoopExit, and answers

kept-block : (s : State) → IsKept s → IsKept (block_line s)
kept-block s h = by (any_numbered s.items) _
  where
    by : (b : Bool) (line : Line) → IsKept (if b then s else say line s)
    by true line = h
    by false line = record { sound = h.sound; owners = h.owners; members = h.members; main = h.main }

pub ready_blocked : (s : State) → IsReady s → IsReadyAt (Next.Resting (block_line s))
ready_blocked s h =
    record {
      scenario = h.at.scenario;
      well_formed = h.at.well_formed;
      main = h.at.main;
      reached = Reached.Blocked s h.silent h.at.reached;
      sound = kept-block s h.at.sound;
    }

pub ready_exit : (s t : State) (at : Stand) → IsReady s → interrupts 0 FaultKind.LoopExit (block_line s) ≡ next_at at t → IsReadyAt (next_at at t)
ready_exit s t at h e =
    let k = kept-block s h.at.sound in
    subst IsReadyAt e
    (record {
      scenario = h.at.scenario;
      well_formed = h.at.well_formed;
      main = h.at.main;
      reached = Reached.Exited s h.silent h.at.reached;
      sound = interrupts-soundly 0 FaultKind.LoopExit (block_line s) k.main k;
    })

pub ready_answered : (a : Answer) (s : State) → IsReady s → IsReadyAt (Next.Resting (take_answer a s))
ready_answered a s h =
    record {
      scenario = h.at.scenario;
      well_formed = h.at.well_formed;
      main = h.at.main;
      reached = Reached.Answered a s h.silent h.at.reached;
      sound = take_answer-kept a s h.at.sound;
    }

-- ---- the beginning

pub ready_started : (c : Scenario) → MayRun c → IsReadyAt (starts lands 0 [] (first_state c))
ready_started c h =
    record {
      scenario = c;
      well_formed = h.well_formed;
      main = h.main;
      reached = Reached.Started;
      sound = begins-soundly c;
    }

pub declared_first : (c : Scenario) → HasMain c → AreDeclared (first_state c)
declared_first c main = record { each = λ g. is_function_there c (greenlet g (first_state c)).function (function-known c g (first_state c).greenlets main (and_from _ true main refl)) }
