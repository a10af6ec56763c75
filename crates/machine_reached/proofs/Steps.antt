-- Moves, deliveries, LoopExit, answers and the beginning keep to what is paid for.
use Rattle.std.proofs.Common.{◌≡◌, refl, ap, ◌∙◌, ℕ, ◌+◌, ◌-◌, ◌*◌, ◌≤◌, Bool, true, false, List, [], ◌∷◌, length, arith}
use Rattle.std.specs.Prelude.{Option, Some, None, if◌then◌else◌, slice_get, slice_set}
use Rattle.gv_values.specs.declared.fault.FaultKind.{FaultKind}
use Rattle.gv_values.specs.declared.job.Answer.{Answer}
use Rattle.gv_values.specs.declared.job.JobOutcome.{JobOutcome}
use Rattle.gv_values.specs.declared.link.LinkKind.{LinkKind}
use Rattle.gv_values.specs.declared.value.Outcome.{Outcome}
use Rattle.gv_values.specs.declared.value.Value.{Value}
use Rattle.trace_text.specs.declared.line.Blocked.{Blocked}
use Rattle.trace_text.specs.declared.line.Line.{Line}
use Rattle.trace_text.specs.declared.line.LinkCall.{LinkCall}
use Rattle.trace_text.specs.declared.line.Resumed.{Resumed}
use Rattle.trace_text.specs.declared.line.StopCause.{StopCause}
use Rattle.world_rules.specs.Legal.{moment_of}
use Rattle.machine.specs.declared.items.Delivery.{Delivery}
use Rattle.machine.specs.declared.items.Item.{Item}
use Rattle.machine.specs.declared.items.Waiting.{Waiting}
use Rattle.machine.specs.declared.limits.TheConstants.{MOST_GREENLETS, MOST_LINKS}
use Rattle.machine.specs.declared.state.Frame.{Frame}
use Rattle.machine.specs.declared.state.JobState.{JobState}
use Rattle.machine.specs.declared.state.Local.{Local}
use Rattle.machine.specs.declared.state.Object.{Object}
use Rattle.machine.specs.declared.state.Phase.{Phase}
use Rattle.machine.specs.State.{State, say}
use Rattle.machine.specs.BodyMoves.{Did}
use Rattle.machine.specs.Deliveries.{called, calls, deliver, delivers, interrupts, late, since_of_wake, waiting_of, without_item, without_offer_by, without_wait}
use Rattle.machine.specs.Hosts.{host_of}
use Rattle.machine.specs.Greenlets.{add_greenlet, has_greenlet_left, with_phase}
use Rattle.machine.specs.Holds.{job_at}
use Rattle.machine.specs.Items.{is_wait_of}
use Rattle.machine.specs.Landing.{Next, lands, starts}
use Rattle.machine.specs.Moves.{does, move, timeout_item}
use Rattle.machine.specs.Objects.{name_of_object, object_at, with_flag, with_object, with_slot_freed, without_offer}
use Rattle.machine.specs.Questions.{any_numbered, arrives, block_line, job_done, take_answer}
use Rattle.machine.specs.Request.{follows, performs}
use Rattle.machine.specs.Settle.{settle}
use Rattle.machine.specs.Soundness.{phase_of}
use Rattle.machine.specs.Waits.{Performed, completes, late_outcome}
use Rattle.machine_soundness.specs.Going.{IsGoing, IsKept, is_meant_did, is_meant_move, is_meant_request, is_plain, next_did}
use Rattle.machine.proofs.Halves.{left}
use Rattle.machine_soundness.proofs.Deliveries.{claimed, free-moves, kept-without, no-wait-left, owned}
use Rattle.machine_soundness.proofs.Requests.{next-unstarted}
use Rattle.machine_soundness.proofs.Lists.{length-set}
use Rattle.machine_soundness.proofs.Performs.{performs-fine}
use Rattle.machine_soundness.proofs.Requests.{IsFine, completes-fine}
use Rattle.machine_soundness.proofs.States.{Moves, ascends, kept-drop, kept-say, moves-live, moving, plain-phased}
use Rattle.machine_rooms.specs.Steps.{Fixed, HasSteps, Stands, kill, other, tally, wait_weight}
use Rattle.machine_rooms.proofs.Ledger.{counts-add, counts-answered, counts-drop, counts-fewer, counts-jobs, counts-live, counts-made, counts-moved, counts-object, counts-objects, counts-settle, counts-taken, counts-timeout}
use Rattle.machine_rooms.proofs.Requests.{Comes, completes-counts, performs-counts}
use Rattle.machine_rooms.proofs.Tallies.{flag-counted, freed-counted, is_open, live-open, offer-gone, unstarted-open, wait-weight-few}
use Rattle.machine_reached.proofs.Landings.{answered-counts, goes_on-counts, lands-counts, starts-counts}

-- ---- requests and moves

-- who is answered has not ended
abbrev pub Opens : ℕ → Performed → Type 0
Opens g (Performed.Answers o s) = is_open (phase_of g s.greenlets) ≡ true
Opens g p = Unit {0}

pub fine-opens : (g h : ℕ) (p : Performed) → IsFine g h p → Opens g p
fine-opens g h (Performed.Answers o s) m = live-open (phase_of g s.greenlets) m.live
fine-opens g h (Performed.Parks s) m = tt
fine-opens g h (Performed.Lands k o s) m = tt
fine-opens g h (Performed.Stops cause s) m = tt

pub follows-counts : (b : Fixed) (g : ℕ) (p : Performed) → Opens g p → Comes b p → Stands b (follows g p)
follows-counts b g (Performed.Answers o s) p h = answered-counts b g o (settle s) p (counts-settle b 0 s h)
follows-counts b g (Performed.Parks s) p h = counts-settle b 2 s h
follows-counts b g (Performed.Lands k o s) p h = lands-counts b k o (settle s) (counts-settle b 2 s h)
follows-counts b g (Performed.Stops cause s) p h = h

item-counts : (b : Fixed) (g n : ℕ) (ms : Option ℕ) (s : State) → HasSteps b 2 s → HasSteps b 1 (timeout_item g n ms s)
item-counts b g n None s h = counts-fewer b 2 1 s (omega arith) h
item-counts b g n (Some ms) s h = counts-add b 1 (Delivery.Timeout g n (s.moment + ms)) s refl h

timeout_item-open : (g n : ℕ) (ms : Option ℕ) (s : State) → is_open (phase_of g s.greenlets) ≡ true → is_open (phase_of g (timeout_item g n ms s).greenlets) ≡ true
timeout_item-open g n None s p = p
timeout_item-open g n (Some ms) s p = p

pub does-counts : (b : Fixed) (g h : ℕ) (locals : List Local) (d : Did) (s : State) → is_meant_did (is_plain s.greenlets g) d ≡ true → Moves g h s → HasSteps b 12 s → Stands b (does g locals d s)
does-counts b g h locals (Did.GoesOn how own todo) s e m u =
    goes_on-counts b lands g _ (settle s) (lands-counts b) (live-open (phase_of g s.greenlets) m.live) (counts-settle b 0 s (counts-fewer b 12 1 s (omega arith) u))
does-counts b g h locals (Did.Enters ms silent body todo) s e m u =
    let t = record s { timeouts = s.timeouts + 1 } in
    let with_item = timeout_item g t.timeouts ms t in
    goes_on-counts b lands g _ (settle with_item) (lands-counts b) (timeout_item-open g t.timeouts ms t (live-open (phase_of g s.greenlets) m.live))
    (counts-settle b 0 with_item (item-counts b g t.timeouts ms t (counts-timeout b 2 s (counts-fewer b 12 3 s (omega arith) u))))
does-counts b g h locals (Did.Asks request x todo) s e m u =
    let frame : Frame = record { locals = locals; todo = todo; gives = x } in
    let t = with_phase g (Phase.Live frame) s in
    let meant : is_meant_request (is_plain t.greenlets g) request ≡ true = ap (λ p. is_meant_request p request) (plain-phased g (Phase.Live frame) s g) ∙ e in
    follows-counts b g (performs request g t) (fine-opens g h (performs request g t) (performs-fine request g h t meant (moves-live g h frame s m)))
    (performs-counts b request g t (counts-live b 12 g frame s (live-open (phase_of g s.greenlets) m.live) u))

pub move-counts : (d : List Object) (a t m g : ℕ) (s : State) → is_meant_move g s ≡ true → IsKept s → IsGoing g s → tally other s.items ≤ 11 * MOST_GREENLETS + MOST_LINKS →
    HasSteps (record { declared = d; answers = a; turns = t; moves = m }) 0 s → Stands (record { declared = d; answers = a; turns = t; moves = m + 1 }) (move g s)
unfolding move
move-counts d a t m g s e k i standing h =
    let n = moving g s k i in
    let u = record s { moves = s.moves + 1 } in
    let moves : Moves g (host_of s g) u = record {
      kept = record { sound = k.sound; owners = k.owners; members = k.members; main = k.main };
      live = n.live;
      same = n.same;
      host = record { plain = n.host.plain; live = n.host.live; free = n.host.free };
    } in
    does-counts (record { declared = d; answers = a; turns = t; moves = m + 1 }) g (host_of s g) _ (next_did g s) u e moves (counts-moved d a t m s standing h)

-- ---- deliveries

wait-no-kill : (g : ℕ) (d : Delivery) → is_wait_of g d ≡ true → kill d ≡ 0
wait-no-kill g (Delivery.Kill h f) e = absurd (cc e)
wait-no-kill g d e = refl

offers-counts : (b : Fixed) (n : ℕ) (since : Option ℕ) (s : State) → HasSteps b n s → HasSteps b n (without_offer_by since s)
offers-counts b n None s h = h
offers-counts b n (Some since) s h = counts-objects b n (without_offer since) s (offer-gone since) h

offers-open : (g : ℕ) (since : Option ℕ) (s : State) → is_open (phase_of g s.greenlets) ≡ true → is_open (phase_of g (without_offer_by since s).greenlets) ≡ true
offers-open g None s p = p
offers-open g (Some since) s p = p

pub interrupts-counts : (b : Fixed) (g : ℕ) (f : FaultKind) (s : State) → is_open (phase_of g s.greenlets) ≡ true → HasSteps b 1 s → Stands b (interrupts g f s)
unfolding interrupts
interrupts-counts b g f s p h =
    let r = without_offer_by (since_of_wake g s.items) s in
    let t = say (Line.Throw g f) (without_wait g r) in
    answered-counts b g (Outcome.Fault f) (settle t) (offers-open g (since_of_wake g s.items) s p)
    (counts-settle b 0 t (counts-drop b 1 (is_wait_of g) r (wait-no-kill g) (offers-counts b 1 (since_of_wake g s.items) s h)))

pub late-counts : (b : Fixed) (g n : ℕ) (w : Option Waiting) (s : State) → is_open (phase_of g s.greenlets) ≡ true → HasSteps b 2 s → Stands b (late g n w s)
late-counts b g n None s p h = h
late-counts b g n (Some w) s p h =
    let t = without_wait g (say (Line.Resume g Resumed.Late) s) in
    answered-counts b g (late_outcome w n (settle t)) (settle t) p (counts-settle b 0 t (counts-drop b 1 (is_wait_of g) s (wait-no-kill g) (counts-fewer b 2 1 s (omega arith) h)))

pub calls-counts : (b : Fixed) (k g f : ℕ) (s : State) → HasSteps b 4 s → Stands b (calls k g f s)
calls-counts b k g f s h = by (has_greenlet_left s) refl
  where
    by : (room : Bool) → has_greenlet_left s ≡ room → Stands b (if room then
        starts lands (length s.greenlets) (Value.Greenlet g ∷ []) (add_greenlet false 0 f (Value.Greenlet g ∷ []) (say (Line.Link k g (LinkCall.Greenlet (length s.greenlets))) s))
        else Next.Over StopCause.NoGreenlets s)
    by true e =
        let t = add_greenlet false 0 f (Value.Greenlet g ∷ []) (say (Line.Link k g (LinkCall.Greenlet (length s.greenlets))) s) in
        starts-counts b lands (length s.greenlets) (Value.Greenlet g ∷ []) t (lands-counts b)
        (unstarted-open (phase_of (length s.greenlets) t.greenlets) (next-unstarted false 0 f (Value.Greenlet g ∷ []) s))
        (counts-fewer b 8 0 t (omega arith) (counts-made b 4 false 0 f (Value.Greenlet g ∷ []) s e h))
    by false e = counts-fewer b 4 0 s (omega arith) h

pub called-counts : (b : Fixed) (k g : ℕ) (kind : LinkKind) (f : ℕ) (s : State) → HasSteps b 4 s → Stands b (called k g kind f s)
called-counts b k g (LinkKind.Mark x) f s h = counts-settle b 2 (say (Line.Link k g (LinkCall.Mark x)) s) (counts-fewer b 4 3 s (omega arith) h)
called-counts b k g (LinkKind.Set o) f s h =
    let t = say (Line.Link k g (LinkCall.Set (name_of_object o s))) s in
    counts-settle b 2 (with_object o (with_flag true (object_at o s)) t) (counts-object b 3 o 1 (with_flag true (object_at o s)) t (flag-counted true (object_at o s)) h)
called-counts b k g LinkKind.Any f s h = calls-counts b k g f s h
called-counts b k g LinkKind.Value f s h = calls-counts b k g f s h
called-counts b k g LinkKind.Fault f s h = calls-counts b k g f s h

-- what it delivers, where it is taken
taken-counts : (b : Fixed) (n : ℕ) (i : Item) (d : Delivery) (s : State) → d ≡ i.delivery → slice_get s.items n ≡ Some i → IsKept s → tally other s.items ≤ 11 * MOST_GREENLETS + MOST_LINKS →
    HasSteps b 2 s → Stands b (delivers i.since d (without_item i s))
taken-counts b n i (Delivery.Start g deadline) s e there k standing h =
    let t = without_item i s in
    starts-counts b lands g _ t (lands-counts b) (unstarted-open (phase_of g s.greenlets) (claimed n i (Delivery.Start g deadline) s e there k))
    (counts-fewer b 2 0 t (omega arith) (counts-taken b 2 n i (Delivery.Start g deadline) s e (ascends s k.sound) there standing (omega arith) h))
taken-counts b n i (Delivery.Wake g w) s e there k standing h =
    let r = without_item i s in
    let t = without_wait g (say (Line.Resume g Resumed.Wake) r) in
    let light = wait-weight-few w in
    let kept : IsKept t = kept-drop (is_wait_of g) _ (kept-say (Line.Resume g Resumed.Wake) _ (kept-without i s k)) in
    let plain : is_plain t.greenlets g ≡ true = owned n i (Delivery.Wake g w) s e there k in
    let m : Moves g g t = free-moves g t plain (claimed n i (Delivery.Wake g w) s e there k) (no-wait-left g (say (Line.Resume g Resumed.Wake) r)) kept in
    let held : HasSteps b (2 + wait_weight w) r = counts-taken b 2 n i (Delivery.Wake g w) s e (ascends s k.sound) there standing (omega arith) h in
    follows-counts b g (completes g i.since w t) (fine-opens g g (completes g i.since w t) (completes-fine g g i.since w t plain m))
    (completes-counts b g i.since w t (counts-drop b (2 + wait_weight w) (is_wait_of g) r (wait-no-kill g) held))
taken-counts b n i (Delivery.Late g deadline m) s e there k standing h =
    let t = without_item i s in
    late-counts b g m (waiting_of g t.items) t (live-open (phase_of g s.greenlets) (claimed n i (Delivery.Late g deadline m) s e there k))
    (counts-taken b 2 n i (Delivery.Late g deadline m) s e (ascends s k.sound) there standing (omega arith) h)
taken-counts b n i (Delivery.Timeout g m deadline) s e there k standing h =
    let t = without_item i s in
    interrupts-counts b g (FaultKind.Timeout m) t (live-open (phase_of g s.greenlets) (left _ _ (claimed n i (Delivery.Timeout g m deadline) s e there k)))
    (counts-fewer b 2 1 t (omega arith) (counts-taken b 2 n i (Delivery.Timeout g m deadline) s e (ascends s k.sound) there standing (omega arith) h))
taken-counts b n i (Delivery.Kill g f) s e there k standing h =
    interrupts-counts b g f (without_item i s) (live-open (phase_of g s.greenlets) (claimed n i (Delivery.Kill g f) s e there k))
    (counts-taken b 1 n i (Delivery.Kill g f) s e (ascends s k.sound) there standing (omega arith) h)
taken-counts b n i (Delivery.Link k g kind f) s e there kept standing h =
    called-counts b k g kind f (without_item i s) (counts-taken b 2 n i (Delivery.Link k g kind f) s e (ascends s kept.sound) there standing (omega arith) h)

pub deliver-counts : (b : Fixed) (n : ℕ) (i : Item) (s : State) → slice_get s.items n ≡ Some i → IsKept s → tally other s.items ≤ 11 * MOST_GREENLETS + MOST_LINKS → HasSteps b 2 s → Stands b (deliver i s)
unfolding deliver
deliver-counts b n i s there k standing h = taken-counts b n i i.delivery s refl there k standing h

-- ---- the end of a turn

blocked-counts : (b : Fixed) (n : ℕ) (c : Bool) (x : Blocked) (s : State) → HasSteps b n s → HasSteps b n (if c then s else say (Line.Block x) s)
blocked-counts b n true x s h = h
blocked-counts b n false x s h = h

pub block_line-counts : (b : Fixed) (n : ℕ) (s : State) → HasSteps b n s → HasSteps b n (block_line s)
block_line-counts b n s h = blocked-counts b n (any_numbered s.items) _ s h

arrives-counts : (b : Fixed) (j : ℕ) (o : JobOutcome) (job : Option JobState) (s : State) → HasSteps b 2 s → HasSteps b 2 (arrives j o job s)
arrives-counts b j o None s h = h
arrives-counts b j o (Some job) s h =
    let t = record s { jobs = slice_set s.jobs (j - 1) (record job { outcome = Some o }) } in
    let less = freed-counted (object_at job.pool s) in
    counts-object b 2 job.pool 0 (with_slot_freed (object_at job.pool s)) t (omega (arith, less)) (counts-jobs b 2 (slice_set s.jobs (j - 1) (record job { outcome = Some o })) s (length-set s.jobs (j - 1) _) h)

done-counts : (b : Fixed) (x : Answer) (s : State) → HasSteps b 2 s → HasSteps b 2 (job_done x s)
done-counts b (Answer.Done j o at) s h = arrives-counts b j o (job_at j s.jobs) s h
done-counts b (Answer.Elapsed at) s h = h
done-counts b (Answer.Nothing at) s h = h

pub take_answer-counts : (d : List Object) (a t m : ℕ) (x : Answer) (s : State) → HasSteps (record { declared = d; answers = a; turns = t; moves = m }) 2 s →
    HasSteps (record { declared = d; answers = a + 1; turns = t; moves = m }) 2 (take_answer x s)
unfolding take_answer
take_answer-counts d a t m x s h =
    counts-answered d a t m 2 (say (Line.Turn s.turns x) (job_done x (record s { moment = moment_of x })))
    (done-counts (record { declared = d; answers = a; turns = t; moves = m }) x (record s { moment = moment_of x }) h)
