-- What a run may still do: each move pays for some small steps, and so does each greenlet that is made or ends. Items
-- that stand keep back what their deliveries may take.
use Rattle.std.proofs.Common.{◌≡◌, refl, ap, ℕ, ◌+◌, ◌*◌, ◌≤◌, Bool, true, false, List, [], ◌∷◌, ◌++◌, length, length-append, map, arith}
use Rattle.std.proofs.lemmas.Bool.Decides.{nat_tests}
use Rattle.std.specs.Prelude.{Some, None, filter, if◌then◌else◌, nat_lt, not, slice_get, slice_set}
use Rattle.gv_values.specs.declared.fault.FaultKind.{FaultKind}
use Rattle.gv_values.specs.declared.job.Job.{Job}
use Rattle.gv_values.specs.declared.value.Outcome.{Outcome}
use Rattle.gv_values.specs.declared.value.Value.{Value}
use Rattle.trace_text.specs.declared.line.Line.{Line}
use Rattle.machine.specs.declared.items.Delivery.{Delivery}
use Rattle.machine.specs.declared.items.Item.{Item}
use Rattle.machine.specs.declared.items.Waiting.{Waiting}
use Rattle.machine.specs.declared.limits.TheConstants.{MOST_GREENLETS, MOST_KILLS, MOST_LINKS}
use Rattle.machine.specs.declared.state.Frame.{Frame}
use Rattle.machine.specs.declared.state.Greenlet.{Greenlet}
use Rattle.machine.specs.declared.state.JobState.{JobState}
use Rattle.machine.specs.declared.state.Object.{Object}
use Rattle.machine.specs.declared.state.Phase.{Phase}
use Rattle.machine.specs.State.{State, say}
use Rattle.machine.specs.Deliveries.{without_item}
use Rattle.machine.specs.Ends.{ended}
use Rattle.machine.specs.Greenlets.{add_greenlet, greenlet, with_phase}
use Rattle.machine.specs.Holds.{holds}
use Rattle.machine.specs.Items.{add_item, drop_items, goes_at_end}
use Rattle.machine.specs.Objects.{object_at, with_object, with_slot_taken, without_member}
use Rattle.machine.specs.Request.{kills_standing}
use Rattle.machine.specs.Settle.{settle}
use Rattle.machine.specs.Soundness.{ascend, phase_of}
use Rattle.machine.specs.Waits.{drawn, draws, posted}
use Rattle.machine_soundness.proofs.Lists.{length-set}
use Rattle.machine.specs.Counts.{object_count}
use Rattle.machine_rooms.specs.Steps.{Fixed, HasSteps, ends, kill, other, tally, weight}
use Rattle.machine_rooms.proofs.Tallies.{count-at, count-map, count-set, ends-few, ends-made, ends-set, is_open, kill-or-other, kills-and-others, kills-tallied, member-gone, numbers-few, slot-counted, tally-end, tally-filter, tally-kept, tally-settled, tally-without}

-- ---- steps that are left

below : (a b : ℕ) → nat_lt a b ≡ true → a + 1 ≤ b
below a b e = grind (arith, nat_tests, e)

pub counts-fewer : (b : Fixed) (n m : ℕ) (s : State) → m ≤ n → HasSteps b n s → HasSteps b m s
counts-fewer b n m s few h =
    record {
      steps = h.steps;
      paid = omega arith;
      greenlets = h.greenlets;
      links = h.links;
      kills = h.kills;
      others = omega arith;
      timeouts = h.timeouts;
      jobs = h.jobs;
      objects = h.objects;
      sinces = h.sinces;
      numbers = h.numbers;
      turns = h.turns;
      moves = h.moves;
    }

-- ---- settlings

-- it takes a step, or an answer more
settled-so : (d : List Object) (a c t m n k : ℕ) (s : State) → c + k ≡ a + 1 → HasSteps (record { declared = d; answers = a; turns = t; moves = m }) (n + k) s →
    HasSteps (record { declared = d; answers = c; turns = t; moves = m }) n (settle s)
settled-so d a c t m n k s one h =
    let hs = map (holds s) s.items in
    let w : tally weight (settle s).items ≡ tally weight s.items = tally-settled weight hs s.next_ready s.items in
    let kills : tally kill (settle s).items ≡ tally kill s.items = tally-settled kill hs s.next_ready s.items in
    let o : tally other (settle s).items ≡ tally other s.items = tally-settled other hs s.next_ready s.items in
    let few : (settle s).next_ready ≤ s.next_ready + length s.items = numbers-few hs s.next_ready s.items in
    let all = kills-and-others s.items in
    let ended = ends-few s.greenlets in
    record {
      steps = h.steps + k;
      paid = omega (arith, w);
      greenlets = h.greenlets;
      links = h.links;
      kills = omega (arith, kills);
      others = omega (arith, o);
      timeouts = omega arith;
      jobs = omega arith;
      objects = λ p. let own = h.objects p in omega (arith, own);
      sinces = omega (arith, kills);
      numbers = omega (arith, few, all, ended, one);
      turns = h.turns;
      moves = h.moves;
    }

pub counts-settle : (b : Fixed) (n : ℕ) (s : State) → HasSteps b (n + 1) s → HasSteps b n (settle s)
counts-settle b n s h = settled-so b.declared b.answers b.answers b.turns b.moves n 1 s refl h

-- an answer pays for the settling that it brings
pub counts-answered : (d : List Object) (a t m n : ℕ) (s : State) → HasSteps (record { declared = d; answers = a; turns = t; moves = m }) n s →
    HasSteps (record { declared = d; answers = a + 1; turns = t; moves = m }) n (settle s)
counts-answered d a t m n s h =
    settled-so d a (a + 1) t m n 0 s (omega arith) (counts-fewer (record { declared = d; answers = a; turns = t; moves = m }) n (n + 0) s (omega arith) h)

-- ---- items

pub counts-add : (b : Fixed) (n : ℕ) (d : Delivery) (s : State) → kill d ≡ 0 → HasSteps b (n + 1 + weight d) s → HasSteps b n (add_item d s)
counts-add b n d s e h =
    let i : Item = record { since = s.next_since; delivery = d; ready = None } in
    let w : tally weight (add_item d s).items ≡ tally weight s.items + weight d = tally-end weight s.items i in
    let k : tally kill (add_item d s).items ≡ tally kill s.items + kill d = tally-end kill s.items i in
    let o : tally other (add_item d s).items ≡ tally other s.items + other d = tally-end other s.items i in
    let one = kill-or-other d in
    record {
      steps = h.steps + 1;
      paid = omega (arith, w);
      greenlets = h.greenlets;
      links = h.links;
      kills = omega (arith, k);
      others = omega (arith, o, one);
      timeouts = omega arith;
      jobs = omega arith;
      objects = λ p. let own = h.objects p in omega (arith, own);
      sinces = omega (arith, k);
      numbers = omega arith;
      turns = h.turns;
      moves = h.moves;
    }

-- a kill takes no step when it is sent
pub counts-kill : (b : Fixed) (n g : ℕ) (f : FaultKind) (s : State) → nat_lt (kills_standing s) MOST_KILLS ≡ true → HasSteps b n s → HasSteps b n (add_item (Delivery.Kill g f) s)
counts-kill b n g f s room h =
    let d = Delivery.Kill g f in
    let i : Item = record { since = s.next_since; delivery = d; ready = None } in
    let w : tally weight (add_item d s).items ≡ tally weight s.items + 0 = tally-end weight s.items i in
    let k : tally kill (add_item d s).items ≡ tally kill s.items + 1 = tally-end kill s.items i in
    let o : tally other (add_item d s).items ≡ tally other s.items + 0 = tally-end other s.items i in
    let same : kills_standing s ≡ tally kill s.items = kills-tallied s.items in
    let few : kills_standing s + 1 ≤ MOST_KILLS = below (kills_standing s) MOST_KILLS room in
    record {
      steps = h.steps;
      paid = omega (arith, w);
      greenlets = h.greenlets;
      links = h.links;
      kills = omega (arith, k, same, few);
      others = omega (arith, o);
      timeouts = h.timeouts;
      jobs = h.jobs;
      objects = h.objects;
      sinces = omega (arith, k);
      numbers = h.numbers;
      turns = h.turns;
      moves = h.moves;
    }

-- none of what goes is a kill
pub counts-drop : (b : Fixed) (n : ℕ) (test : Delivery → Bool) (s : State) → ((d : Delivery) → test d ≡ true → kill d ≡ 0) → HasSteps b n s → HasSteps b n (drop_items test s)
counts-drop b n test s none h =
    let w : tally weight (drop_items test s).items ≤ tally weight s.items = tally-filter weight test s.items in
    let k : tally kill (drop_items test s).items ≡ tally kill s.items = tally-kept kill test s.items none in
    let o : tally other (drop_items test s).items ≤ tally other s.items = tally-filter other test s.items in
    record {
      steps = h.steps;
      paid = omega (arith, w);
      greenlets = h.greenlets;
      links = h.links;
      kills = omega (arith, k);
      others = omega (arith, o);
      timeouts = h.timeouts;
      jobs = h.jobs;
      objects = h.objects;
      sinces = omega (arith, k);
      numbers = h.numbers;
      turns = h.turns;
      moves = h.moves;
    }

-- an item that is taken gives back what it kept, and a kill takes a step
pub counts-taken : (b : Fixed) (n at : ℕ) (i : Item) (d : Delivery) (s : State) → d ≡ i.delivery → ascend 0 s.next_since s.items ≡ true → slice_get s.items at ≡ Some i →
    tally other s.items ≤ 11 * MOST_GREENLETS + MOST_LINKS → n + weight d ≤ 12 → HasSteps b (n + kill d) s → HasSteps b (n + weight d) (without_item i s)
counts-taken b n at i d s e up there standing few h =
    let w : tally weight (without_item i s).items + weight i.delivery ≡ tally weight s.items = tally-without weight 0 s.next_since at s.items i up there in
    let k : tally kill (without_item i s).items + kill i.delivery ≡ tally kill s.items = tally-without kill 0 s.next_since at s.items i up there in
    let o : tally other (without_item i s).items + other i.delivery ≡ tally other s.items = tally-without other 0 s.next_since at s.items i up there in
    let wd : weight d ≡ weight i.delivery = ap weight e in
    let kd : kill d ≡ kill i.delivery = ap kill e in
    record {
      steps = h.steps + kill d;
      paid = omega (arith, w, wd);
      greenlets = h.greenlets;
      links = h.links;
      kills = omega (arith, k);
      others = omega (arith, o);
      timeouts = omega arith;
      jobs = omega arith;
      objects = λ p. let own = h.objects p in omega (arith, own);
      sinces = omega (arith, k, kd);
      numbers = omega arith;
      turns = h.turns;
      moves = h.moves;
    }

-- ---- objects, jobs, timeouts, links

pub counts-object : (b : Fixed) (n o k : ℕ) (x : Object) (s : State) → object_count (Some x) ≤ object_count (Some (object_at o s)) + k → HasSteps b (n + k) s → HasSteps b n (with_object o x s)
counts-object b n o k x s e h =
    let here : object_count (Some (object_at o s)) ≡ object_count (slice_get s.objects o) = count-at s.objects o in
    let more : object_count (Some x) ≤ object_count (slice_get s.objects o) + k = omega (arith, e, here) in
    record {
      steps = h.steps + k;
      paid = omega arith;
      greenlets = h.greenlets;
      links = h.links;
      kills = h.kills;
      others = omega arith;
      timeouts = omega arith;
      jobs = omega arith;
      objects = λ p. let own = h.objects p in let set = count-set s.objects o p k x more in omega (arith, own, set);
      sinces = omega arith;
      numbers = omega arith;
      turns = h.turns;
      moves = h.moves;
    }

-- each object counts no more than before
pub counts-objects : (b : Fixed) (n : ℕ) (f : Object → Object) (s : State) → ((x : Object) → object_count (Some (f x)) ≤ object_count (Some x)) → HasSteps b n s →
    HasSteps b n (record s { objects = map f s.objects })
counts-objects b n f s less h =
    record {
      steps = h.steps;
      paid = h.paid;
      greenlets = h.greenlets;
      links = h.links;
      kills = h.kills;
      others = h.others;
      timeouts = h.timeouts;
      jobs = h.jobs;
      objects = λ p. let own = h.objects p in let mapped = count-map f less s.objects p in omega (arith, own, mapped);
      sinces = h.sinces;
      numbers = h.numbers;
      turns = h.turns;
      moves = h.moves;
    }

pub counts-posted : (b : Fixed) (n g o : ℕ) (job : Job) (takes : ℕ) (s : State) → HasSteps b (n + 1) s → HasSteps b n (posted g o job takes s)
counts-posted b n g o job takes s h =
    let x = with_slot_taken (object_at o s) in
    let here : object_count (Some (object_at o s)) ≡ object_count (slice_get s.objects o) = count-at s.objects o in
    let one = slot-counted (object_at o s) in
    let more : object_count (Some x) ≤ object_count (slice_get s.objects o) + 1 = omega (arith, one, here) in
    let grown : length (posted g o job takes s).jobs ≡ length s.jobs + 1 = length-append s.jobs _ in
    record {
      steps = h.steps + 1;
      paid = omega arith;
      greenlets = h.greenlets;
      links = h.links;
      kills = h.kills;
      others = omega arith;
      timeouts = omega arith;
      jobs = omega (arith, grown);
      objects = λ p. let own = h.objects p in let set = count-set s.objects o p 1 x more in omega (arith, own, set);
      sinces = omega arith;
      numbers = omega arith;
      turns = h.turns;
      moves = h.moves;
    }

-- as many jobs as before
pub counts-jobs : (b : Fixed) (n : ℕ) (jobs : List JobState) (s : State) → length jobs ≡ length s.jobs → HasSteps b n s → HasSteps b n (record s { jobs = jobs })
counts-jobs b n jobs s same h =
    record {
      steps = h.steps;
      paid = h.paid;
      greenlets = h.greenlets;
      links = h.links;
      kills = h.kills;
      others = h.others;
      timeouts = h.timeouts;
      jobs = omega (arith, same);
      objects = h.objects;
      sinces = h.sinces;
      numbers = h.numbers;
      turns = h.turns;
      moves = h.moves;
    }

pub counts-timeout : (b : Fixed) (n : ℕ) (s : State) → HasSteps b (n + 1) s → HasSteps b n (record s { timeouts = s.timeouts + 1 })
counts-timeout b n s h =
    record {
      steps = h.steps + 1;
      paid = omega arith;
      greenlets = h.greenlets;
      links = h.links;
      kills = h.kills;
      others = omega arith;
      timeouts = omega arith;
      jobs = omega arith;
      objects = λ p. let own = h.objects p in omega (arith, own);
      sinces = omega arith;
      numbers = omega arith;
      turns = h.turns;
      moves = h.moves;
    }

pub counts-drawn : (b : Fixed) (n : ℕ) (w : Waiting) (s : State) → HasSteps b (n + 1) s → HasSteps b n (drawn w s)
counts-drawn b n w s h = by (draws w)
  where
    by : (c : Bool) → HasSteps b n (if c then record s { timeouts = s.timeouts + 1 } else s)
    by true = counts-timeout b n s h
    by false = counts-fewer b (n + 1) n s (omega arith) h

pub counts-link : (b : Fixed) (n : ℕ) (s : State) → nat_lt s.links MOST_LINKS ≡ true → HasSteps b n s → HasSteps b n (record s { links = s.links + 1 })
counts-link b n s room h =
    let few : s.links + 1 ≤ MOST_LINKS = below s.links MOST_LINKS room in
    record {
      steps = h.steps;
      paid = h.paid;
      greenlets = h.greenlets;
      links = few;
      kills = h.kills;
      others = h.others;
      timeouts = h.timeouts;
      jobs = h.jobs;
      objects = h.objects;
      sinces = h.sinces;
      numbers = h.numbers;
      turns = h.turns;
      moves = h.moves;
    }

-- ---- greenlets

pub counts-made : (b : Fixed) (n : ℕ) (raw : Bool) (parent f : ℕ) (args : List Value) (s : State) → nat_lt (length s.greenlets) MOST_GREENLETS ≡ true → HasSteps b n s →
    HasSteps b (n + 4) (add_greenlet raw parent f args s)
counts-made b n raw parent f args s room h =
    let x : Greenlet = record { raw = raw; parent = parent; function = f; phase = Phase.New args } in
    let few : length s.greenlets + 1 ≤ MOST_GREENLETS = below (length s.greenlets) MOST_GREENLETS room in
    let grown : length (s.greenlets ++ x ∷ []) ≡ length s.greenlets + 1 = length-append s.greenlets (x ∷ []) in
    let same : ends (s.greenlets ++ x ∷ []) ≡ ends s.greenlets = ends-made s.greenlets x refl in
    record {
      steps = h.steps;
      paid = omega (arith, grown, same);
      greenlets = omega (arith, grown, few);
      links = h.links;
      kills = h.kills;
      others = omega (arith, grown, same);
      timeouts = h.timeouts;
      jobs = h.jobs;
      objects = h.objects;
      sinces = omega (arith, same);
      numbers = h.numbers;
      turns = h.turns;
      moves = h.moves;
    }

-- as many have ended as before
pub counts-greenlets : (b : Fixed) (n g : ℕ) (x : Greenlet) (s : State) → ends (slice_set s.greenlets g x) ≡ ends s.greenlets → HasSteps b n s → HasSteps b n (record s { greenlets = slice_set s.greenlets g x })
counts-greenlets b n g x s same h =
    let size : length (slice_set s.greenlets g x) ≡ length s.greenlets = length-set s.greenlets g x in
    record {
      steps = h.steps;
      paid = omega (arith, size, same);
      greenlets = omega (arith, size);
      links = h.links;
      kills = h.kills;
      others = omega (arith, size, same);
      timeouts = h.timeouts;
      jobs = h.jobs;
      objects = h.objects;
      sinces = omega (arith, same);
      numbers = h.numbers;
      turns = h.turns;
      moves = h.moves;
    }

pub counts-live : (b : Fixed) (n g : ℕ) (frame : Frame) (s : State) → is_open (phase_of g s.greenlets) ≡ true → HasSteps b n s → HasSteps b n (with_phase g (Phase.Live frame) s)
counts-live b n g frame s open-here h =
    let x : Greenlet = record (greenlet g s) { phase = Phase.Live frame } in
    let same : ends (slice_set s.greenlets g x) ≡ ends s.greenlets = let set = ends-set s.greenlets g x open-here in omega (arith, set) in
    counts-greenlets b n g x s same h

-- the end of a greenlet pays for its settling, and for the kills that go with it
pub counts-ended : (b : Fixed) (n g : ℕ) (o : Outcome) (s : State) → is_open (phase_of g s.greenlets) ≡ true → HasSteps b n s → HasSteps b (n + 2) (ended g o s)
counts-ended b n g o s open-here h =
    let x : Greenlet = record (greenlet g s) { phase = Phase.Done o } in
    let items = filter (λ (i : Item). not (goes_at_end g o i.delivery)) s.items in
    let w : tally weight items ≤ tally weight s.items = tally-filter weight (goes_at_end g o) s.items in
    let k : tally kill items ≤ tally kill s.items = tally-filter kill (goes_at_end g o) s.items in
    let others : tally other items ≤ tally other s.items = tally-filter other (goes_at_end g o) s.items in
    let size : length (slice_set s.greenlets g x) ≡ length s.greenlets = length-set s.greenlets g x in
    let more : ends (slice_set s.greenlets g x) ≡ ends s.greenlets + 1 = ends-set s.greenlets g x open-here in
    let t = drop_items (goes_at_end g o) (with_phase g (Phase.Done o) (say (Line.End g o) s)) in
    let left : HasSteps b (n + 2 + 1) t =
    record {
      steps = h.steps;
      paid = omega (arith, w, size, more);
      greenlets = omega (arith, size);
      links = h.links;
      kills = omega (arith, k);
      others = omega (arith, others, size, more);
      timeouts = h.timeouts;
      jobs = h.jobs;
      objects = h.objects;
      sinces = omega (arith, more);
      numbers = h.numbers;
      turns = h.turns;
      moves = h.moves;
    } in
    counts-settle b (n + 2) (record t { objects = map (without_member g) t.objects }) (counts-objects b (n + 2 + 1) (without_member g) t (member-gone g) left)

-- ---- moves

pub counts-moved : (d : List Object) (a t m : ℕ) (s : State) → tally other s.items ≤ 11 * MOST_GREENLETS + MOST_LINKS → HasSteps (record { declared = d; answers = a; turns = t; moves = m }) 0 s →
    HasSteps (record { declared = d; answers = a; turns = t; moves = m + 1 }) 12 (record s { moves = s.moves + 1 })
counts-moved d a t m s standing h =
    let same = h.moves in
    record {
      steps = h.steps;
      paid = omega arith;
      greenlets = h.greenlets;
      links = h.links;
      kills = h.kills;
      others = omega (arith, standing);
      timeouts = h.timeouts;
      jobs = h.jobs;
      objects = h.objects;
      sinces = h.sinces;
      numbers = h.numbers;
      turns = h.turns;
      moves = omega (arith, same);
    }
