-- That a step has room for its settlings: each greenlet that ends brings one, and no landing goes up too often.
use Rattle.std.proofs.Common.{◌≡◌, refl, ap, sym, ◌∙◌, subst, ℕ, ◌+◌, ◌≤◌, ◌^◌, ◌==◌, Bool, true, false, List, [], ◌∷◌, ◌++◌, length, length-append, map, Option, Some, None, if◌then◌else◌, arith}
use Rattle.std.proofs.lemmas.List.Sums.{count_by-le-length, length-filter}
use Rattle.std.specs.Prelude.{not}
use Rattle.gv_values.specs.Ends.{kept}
use Rattle.gv_values.specs.declared.value.Outcome.{Outcome}
use Rattle.gv_values.specs.declared.value.Value.{Value}
use Rattle.trace_text.specs.declared.line.Line.{Line}
use Rattle.body_frames.specs.Places.{Place}
use Rattle.machine.specs.declared.items.Delivery.{Delivery}
use Rattle.machine.specs.declared.items.Item.{Item}
use Rattle.machine.specs.declared.state.Frame.{Frame}
use Rattle.machine.specs.declared.state.Leaving.{Leaving}
use Rattle.machine.specs.declared.state.Object.{Object}
use Rattle.machine.specs.declared.state.Phase.{Phase}
use Rattle.machine.specs.declared.state.Todo.{Todo}
use Rattle.machine.specs.Deliveries.{without_offer_by}
use Rattle.machine.specs.Ends.{ended, leaving_of, outcome_of_leaving, stop_of}
use Rattle.machine.specs.Greenlets.{add_greenlet, function_of, greenlet, named, with_phase}
use Rattle.machine.specs.Holds.{holds}
use Rattle.machine.specs.Items.{drop_items, goes_at_end, is_timeout_of, is_wait_of}
use Rattle.machine.specs.Landing.{Landing, Next, after_end, given, goes_on, lands_once, resumes, starts}
use Rattle.machine.specs.Moves.{timeout_item}
use Rattle.machine.specs.Objects.{with_object, without_member}
use Rattle.machine.specs.Settle.{settle}
use Rattle.machine.specs.State.{State, say}
use Rattle.machine.specs.Unwinding.{Unwound, unwind}
use Rattle.machine.specs.Waits.{Performed}
use Rattle.machine_trace_laws.specs.Reached.{state_of_next}
use Rattle.machine_rooms.specs.Rooms.{HasRoom}
use Rattle.machine_rooms.specs.Steps.{Fixed, HasSteps, kill, other}
use Rattle.machine_rooms.proofs.Ledger.{counts-drop, counts-fewer}
use Rattle.machine_rooms.proofs.Requests.{Comes}
use Rattle.machine_rooms.proofs.Rooms.{room-ample, room-kept}
use Rattle.machine_rooms.proofs.Tallies.{ends-few, kills-and-others, numbers-few, tally-settled}
use Rattle.hub_requests.specs.Performing.{performed_of}
use Rattle.hub_requests.specs.declared.performed.Performed.{Performed as Came}
use Rattle.hub_engine.specs.Settlings.{MaySettle, most_hops}
use Rattle.hub_engine.specs.Stands.{goes_to, hopped}
use Rattle.hub_engine.specs.declared.stand.Hop.{Hop}
use Rattle.hub_engine.specs.declared.stand.Stand.{Stand}
use Rattle.hub_engine.proofs.Functions.{put_down}

-- ---- settlings

pub settles_once : (s : State) → MaySettle 1 s → s.next_ready + length s.items ≤ 2 ^ 63
settles_once s h = let items = h.items in let numbers = h.numbers in omega (arith, items, numbers)

pub settles_fewer : (n m : ℕ) (s : State) → m ≤ n → MaySettle n s → MaySettle m s
settles_fewer n m s few h = let numbers = h.numbers in record { items = h.items; numbers = omega (arith, few, numbers) }

-- no more items than before, and no more numbers than one settling gives
pub record SettlesOnce (s t : State) : Type 0 where
  pub items : length t.items ≤ length s.items
  pub numbers : t.next_ready ≤ s.next_ready + length s.items

-- no more of either
pub record SettlesNever (s t : State) : Type 0 where
  pub items : length t.items ≤ length s.items
  pub numbers : t.next_ready ≤ s.next_ready

pub settles_after : (n : ℕ) (s t : State) → SettlesOnce s t → MaySettle (n + 1) s → MaySettle n t
settles_after n s t a h =
    let few = a.items in
    let next = a.numbers in
    let items = h.items in
    let numbers = h.numbers in
    record { items = omega (arith, few, items); numbers = omega (arith, next, items, numbers) }

pub settles_still : (n : ℕ) (s t : State) → SettlesNever s t → MaySettle n s → MaySettle n t
settles_still n s t a h =
    let few = a.items in
    let next = a.numbers in
    let items = h.items in
    let numbers = h.numbers in
    record { items = omega (arith, few, items); numbers = omega (arith, next, numbers) }

once-then : (s t u : State) → SettlesNever s t → SettlesOnce t u → SettlesOnce s u
once-then s t u a b =
    let few = a.items in
    let next = a.numbers in
    let items = b.items in
    let numbers = b.numbers in
    record { items = omega (arith, few, items); numbers = omega (arith, few, next, numbers) }

still-dropped : (test : Delivery → Bool) (s : State) → SettlesNever s (drop_items test s)
still-dropped test s =
    let goes = λ (i : Item). not (test i.delivery) in
    let fewer = length-filter goes s.items in
    let most = count_by-le-length goes s.items in
    record { items = omega (arith, fewer, most); numbers = omega arith }

once-settled : (s : State) → SettlesOnce s (settle s)
once-settled s =
    let hs = map (holds s) s.items in
    let before = kills-and-others s.items in
    let after = kills-and-others (settle s).items in
    let kills = tally-settled kill hs s.next_ready s.items in
    let others = tally-settled other hs s.next_ready s.items in
    let few : (settle s).next_ready ≤ s.next_ready + length s.items = numbers-few hs s.next_ready s.items in
    record { items = omega (arith, before, after, kills, others); numbers = few }

-- ---- what changes no item and gives no number

pub settles_said : (n : ℕ) (line : Line) (s t : State) → t ≡ say line s → MaySettle n s → MaySettle n t
settles_said n line s t e h = subst (MaySettle n) (sym e) (record { items = h.items; numbers = h.numbers })

pub settles_phased : (n g : ℕ) (p : Phase) (s t : State) → t ≡ with_phase g p s → MaySettle n s → MaySettle n t
settles_phased n g p s t e h = subst (MaySettle n) (sym e) (record { items = h.items; numbers = h.numbers })

pub settles_dropped : (n : ℕ) (test : Delivery → Bool) (s t : State) → t ≡ drop_items test s → MaySettle n s → MaySettle n t
settles_dropped n test s t e h = subst (MaySettle n) (sym e) (settles_still n s (drop_items test s) (still-dropped test s) h)

pub settles_withdrawn : (n : ℕ) (since : Option ℕ) (s t : State) → t ≡ without_offer_by since s → MaySettle n s → MaySettle n t
settles_withdrawn n since s t e h = subst (MaySettle n) (sym e) (by since)
  where
    by : (since : Option ℕ) → MaySettle n (without_offer_by since s)
    by None = h
    by (Some k) = record { items = h.items; numbers = h.numbers }

pub settles_changed : (n o : ℕ) (x : Object) (s t : State) → t ≡ with_object o x s → MaySettle n s → MaySettle n t
settles_changed n o x s t e h = subst (MaySettle n) (sym e) (record { items = h.items; numbers = h.numbers })

pub settles_made : (n : ℕ) (raw : Bool) (parent f : ℕ) (args : List Value) (s t : State) → t ≡ add_greenlet raw parent f args s → MaySettle n s → MaySettle n t
settles_made n raw parent f args s t e h = subst (MaySettle n) (sym e) (record { items = h.items; numbers = h.numbers })

-- after a settling one fewer may follow
pub settles_settled : (n : ℕ) (s t : State) → t ≡ settle s → MaySettle (n + 1) s → MaySettle n t
settles_settled n s t e h = subst (MaySettle n) (sym e) (settles_after n s (settle s) (once-settled s) h)

-- where a step may still bring all of its settlings
pub settles_first : (s : State) → MaySettle (most_hops + 2) s → s.next_ready + length s.items ≤ 2 ^ 63
settles_first s h = settles_once s (settles_fewer (most_hops + 2) 1 s (omega arith) h)

pub settles_then : (s t : State) → t ≡ settle s → MaySettle (most_hops + 2) s → MaySettle (most_hops + 1) t
settles_then s t e h = settles_settled (most_hops + 1) s t e (settles_fewer (most_hops + 2) (most_hops + 1 + 1) s (omega arith) h)

-- ---- ends and landings

once-ended : (g : ℕ) (o : Outcome) (s : State) → SettlesOnce s (ended g o s)
once-ended g o s =
    let gone = still-dropped (goes_at_end g o) s in
    let t = drop_items (goes_at_end g o) (with_phase g (Phase.Done o) (say (Line.End g o) s)) in
    let u = record t { objects = map (without_member g) t.objects } in
    let still : SettlesNever s u = record { items = gone.items; numbers = gone.numbers } in
    once-then s u (ended g o s) still (once-settled u)

-- what takes an input brings no settling
abbrev Rests : Landing → Type 0
Rests up = (g : ℕ) (o : Outcome) (s : State) → SettlesNever s (state_of_next (up g o s))

once-before : (s t u : State) → SettlesOnce s t → SettlesNever t u → SettlesOnce s u
once-before s t u a b =
    let few = a.items in
    let next = a.numbers in
    let items = b.items in
    let numbers = b.numbers in
    record { items = omega (arith, few, items); numbers = omega (arith, next, numbers) }

once-never : (s t : State) → SettlesNever s t → SettlesOnce s t
once-never s t a = let next = a.numbers in record { items = a.items; numbers = omega (arith, next) }

once-after_end : (up : Landing) → Rests up → (g : ℕ) (o : Outcome) (s : State) → SettlesOnce s (state_of_next (after_end up g o s))
once-after_end up rests g o s = by (greenlet g s).raw (g == 0)
  where
    end : SettlesOnce s (ended g (kept o) s)
    end = once-ended g (kept o) s

    by : (raw main : Bool) → SettlesOnce s (state_of_next (if raw then up (greenlet g s).parent (kept o) (ended g (kept o) s)
        else (if main then Next.Over (stop_of (kept o)) (ended g (kept o) s) else Next.Resting (ended g (kept o) s))))
    by true main = once-before s (ended g (kept o) s) _ end (rests (greenlet g s).parent (kept o) (ended g (kept o) s))
    by false true = end
    by false false = end

once-goes_on : (up : Landing) → Rests up → (g : ℕ) (u : Unwound) (s : State) → SettlesOnce s (state_of_next (goes_on up g u s))
once-goes_on up rests g (Unwound.Runs left locals todo) s =
    let gone = once-never s _ (still-dropped (is_timeout_of g left) s) in
    record { items = gone.items; numbers = gone.numbers }
once-goes_on up rests g (Unwound.Out left how) s =
    once-then s _ _ (still-dropped (is_timeout_of g left) s) (once-after_end up rests g (outcome_of_leaving how) (drop_items (is_timeout_of g left) s))

once-starts : (up : Landing) → Rests up → (g : ℕ) (args : List Value) (s : State) → SettlesOnce s (state_of_next (starts up g args s))
once-starts up rests g args s =
    let f = function_of (greenlet g s).function s in
    let m = once-goes_on up rests g (unwind (Todo.Statements f.body ∷ []) [] Leaving.Normally (named f.parameters args)) (say (Line.Start g f.name) s) in
    record { items = m.items; numbers = m.numbers }

once-resumes : (up : Landing) → Rests up → (g : ℕ) (frame : Frame) (o : Outcome) (s : State) → SettlesOnce s (state_of_next (resumes up g frame o s))
once-resumes up rests g frame o s = once-goes_on up rests g (unwind frame.todo [] (leaving_of o) (given frame o)) s

once-said : (line : Line) (s t : State) → SettlesOnce (say line s) t → SettlesOnce s t
once-said line s t m = record { items = m.items; numbers = m.numbers }

once-lands_once : (up : Landing) → Rests up → (g : ℕ) (input : Outcome) (s : State) → SettlesOnce s (state_of_next (lands_once up g input s))
once-lands_once up rests g input s = by (greenlet g s).phase input
  where
    by : (p : Phase) (o : Outcome) → SettlesOnce s (state_of_next (elim p [
      | Phase.Done k ↦ up (greenlet g s).parent (kept o) s
      | Phase.Live frame ↦ resumes up g frame o (say (Line.Into g o) s)
      | Phase.New args ↦ elim o [
        | Outcome.Value v ↦ starts up g (v ∷ []) s
        | Outcome.Fault f ↦ after_end up g (Outcome.Fault f) s
      ]
    ]))
    by (Phase.Done k) o = once-never s _ (rests (greenlet g s).parent (kept o) s)
    by (Phase.Live frame) o = once-said (Line.Into g o) s _ (once-resumes up rests g frame o (say (Line.Into g o) s))
    by (Phase.New args) (Outcome.Value v) = once-starts up rests g (v ∷ []) s
    by (Phase.New args) (Outcome.Fault f) = once-after_end up rests g (Outcome.Fault f) s

-- ---- what a hop leaves

rests-put_down : Rests put_down
rests-put_down g o s = record { items = omega arith; numbers = omega arith }

still-hopped : (hop : Hop) (t : State) → SettlesNever (state_of_next (hopped put_down hop t)) t
still-hopped (Hop.At (Stand.Going g body)) t = record { items = omega arith; numbers = omega arith }
still-hopped (Hop.At Stand.Resting) t = record { items = omega arith; numbers = omega arith }
still-hopped (Hop.At (Stand.Over cause)) t = record { items = omega arith; numbers = omega arith }
still-hopped (Hop.Up g o) t = record { items = omega arith; numbers = omega arith }

hop-settles : (n : ℕ) (next : Next) (hop : Hop) (s t : State) → SettlesOnce s (state_of_next next) → next ≡ hopped put_down hop t → MaySettle (n + 1) s → MaySettle n t
hop-settles n next hop s t a e h =
    let same : SettlesOnce s (state_of_next (hopped put_down hop t)) = subst (λ (x : Next). SettlesOnce s (state_of_next x)) e a in
    settles_after n s t (once-before s _ t same (still-hopped hop t)) h

pub settles_started : (n g : ℕ) (args : List Value) (s t : State) (hop : Hop) → MaySettle (n + 1) s → ((up : Landing) → starts up g args s ≡ hopped up hop t) → MaySettle n t
settles_started n g args s t hop h e = hop-settles n (starts put_down g args s) hop s t (once-starts put_down rests-put_down g args s) (e put_down) h

pub settles_resumed : (n g : ℕ) (frame : Frame) (o : Outcome) (s t : State) (hop : Hop) → MaySettle (n + 1) s → ((up : Landing) → resumes up g frame o s ≡ hopped up hop t) → MaySettle n t
settles_resumed n g frame o s t hop h e = hop-settles n (resumes put_down g frame o s) hop s t (once-resumes put_down rests-put_down g frame o s) (e put_down) h

pub settles_landed : (n g : ℕ) (o : Outcome) (s t : State) (hop : Hop) → MaySettle (n + 1) s → ((up : Landing) → lands_once up g o s ≡ hopped up hop t) → MaySettle n t
settles_landed n g o s t hop h e = hop-settles n (lands_once put_down g o s) hop s t (once-lands_once put_down rests-put_down g o s) (e put_down) h

once-goes_to : (g : ℕ) (place : Place) (s : State) → SettlesOnce s (state_of_next (goes_to put_down g place s))
once-goes_to g (Place.AtMove left body) s =
    let gone = once-never s _ (still-dropped (is_timeout_of g left) s) in
    record { items = gone.items; numbers = gone.numbers }
once-goes_to g (Place.AtEnd left o) s = once-then s _ _ (still-dropped (is_timeout_of g left) s) (once-after_end put_down rests-put_down g o (drop_items (is_timeout_of g left) s))

pub settles_placed : (n g : ℕ) (place : Place) (s t : State) (hop : Hop) → MaySettle (n + 1) s → ((up : Landing) → goes_to up g place s ≡ hopped up hop t) → MaySettle n t
settles_placed n g place s t hop h e = hop-settles n (goes_to put_down g place s) hop s t (once-goes_to g place s) (e put_down) h

-- ---- where there is room for small steps

pub room_settles : (n : ℕ) (s : State) → HasRoom n s → MaySettle (most_hops + 2) s
room_settles n s r =
    let h = r.steps in
    let kills = h.kills in
    let others = h.others in
    let greenlets = h.greenlets in
    let ended = ends-few s.greenlets in
    let all = kills-and-others s.items in
    let far = room-ample n s r in
    let numbers = far.numbers in
    record { items = omega (arith, kills, others, greenlets, ended, all); numbers = omega (arith, numbers) }

-- also where a timeout was numbered, and has its item
pub timed_settles : (k g n : ℕ) (ms : Option ℕ) (s t u : State) → HasRoom k s → t ≡ record s { timeouts = s.timeouts + 1 } → u ≡ timeout_item g n ms t → MaySettle (most_hops + 2) u
timed_settles k g n ms s t u r e f = subst (MaySettle (most_hops + 2)) (sym (f ∙ ap (timeout_item g n ms) e)) (by ms)
  where
    by : (ms : Option ℕ) → MaySettle (most_hops + 2) (timeout_item g n ms (record s { timeouts = s.timeouts + 1 }))
    by None = let h = room_settles k s r in record { items = h.items; numbers = h.numbers }
    by (Some time) =
        let h = r.steps in
        let kills = h.kills in
        let others = h.others in
        let greenlets = h.greenlets in
        let ended = ends-few s.greenlets in
        let all = kills-and-others s.items in
        let far = room-ample k s r in
        let numbers = far.numbers in
        let i : Item = record { since = s.next_since; delivery = Delivery.Timeout g n (s.moment + time); ready = None } in
        let grown : length (s.items ++ i ∷ []) ≡ length s.items + 1 = length-append s.items (i ∷ []) in
        record { items = omega (arith, kills, others, greenlets, ended, all, grown); numbers = omega (arith, numbers) }

-- after a request, whatever came of it
pub performed_settles : (n : ℕ) (s : State) (p : Performed) (came : Came) (t : State) → ((b : Fixed) → HasSteps b n s → Comes b p) → HasRoom n s → p ≡ performed_of came t → MaySettle (most_hops + 2) t
performed_settles n s p came t f r e = room_settles 0 t (room-kept n 0 s t (λ b h. left b came t (subst (Comes b) e (f b h))) r)
  where
    left : (b : Fixed) (came : Came) (t : State) → Comes b (performed_of came t) → HasSteps b 0 t
    left b (Came.Answers o) t h = counts-fewer b 1 0 t (omega arith) h
    left b Came.Parks t h = counts-fewer b 3 0 t (omega arith) h
    left b (Came.Lands g o) t h = counts-fewer b 3 0 t (omega arith) h
    left b (Came.Stops cause) t h = h

-- where a greenlet wakes, and its wait is gone
wait-no-kill : (g : ℕ) (d : Delivery) → is_wait_of g d ≡ true → kill d ≡ 0
wait-no-kill g (Delivery.Kill h f) e = absurd (cc e)
wait-no-kill g d e = refl

pub room_woken : (n g : ℕ) (line : Line) (s t u : State) → t ≡ say line s → u ≡ drop_items (is_wait_of g) t → HasRoom n s → HasRoom n u
room_woken n g line s t u e f r =
    subst (HasRoom n) (sym (f ∙ ap (drop_items (is_wait_of g)) e)) (room-kept n n s (drop_items (is_wait_of g) (say line s)) (λ b h. counts-drop b n (is_wait_of g) (say line s) (wait-no-kill g) h) r)
