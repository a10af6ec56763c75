-- Each request keeps to what its move pays for.
use Rattle.std.proofs.Common.{◌≡◌, refl, ℕ, zero, suc, ◌+◌, ◌-◌, ◌≤◌, Bool, true, false, List, [], ◌∷◌, ◌++◌, length, map, arith}
use Rattle.std.specs.Prelude.{not, ◌==◌, ◌&&◌, slice_set, Option, Some, None, nat_lt, if◌then◌else◌, min, unwrap_or, ℤ, pos}
use Rattle.gv_values.specs.declared.fault.FaultKind.{FaultKind}
use Rattle.gv_values.specs.declared.link.LinkKind.{LinkKind}
use Rattle.gv_values.specs.declared.scalar.Scalar.{Scalar}
use Rattle.gv_values.specs.declared.value.Outcome.{Outcome}
use Rattle.gv_values.specs.declared.value.Value.{Value}
use Rattle.gv_values.specs.declared.value.Whom.{Whom}
use Rattle.gv_values.specs.Ends.{kept}
use Rattle.gv_values.specs.Job.{job_of}
use Rattle.gv_values.specs.Value.{value_of_scalar}
use Rattle.scenario_tree.specs.declared.tree.Wait.{Wait}
use Rattle.trace_text.specs.declared.line.Awaited.{Awaited}
use Rattle.trace_text.specs.declared.line.Line.{Line}
use Rattle.trace_text.specs.declared.line.StopCause.{StopCause}
use Rattle.machine.specs.declared.items.Delivery.{Delivery}
use Rattle.machine.specs.declared.items.Waiting.{Waiting}
use Rattle.machine.specs.declared.limits.TheConstants.{MOST_GREENLETS, MOST_KILLS, MOST_LINKS}
use Rattle.machine.specs.declared.request.Request.{Request}
use Rattle.machine.specs.declared.state.Object.{Object}
use Rattle.machine.specs.declared.state.Phase.{Phase}
use Rattle.machine.specs.State.{State, say}
use Rattle.machine.specs.Ends.{ended}
use Rattle.machine.specs.Greenlets.{add_greenlet, greenlet, has_greenlet_left}
use Rattle.machine.specs.Holds.{earlier, is_take, newcomer_completes, outcome_of}
use Rattle.machine.specs.Hosts.{host_of, is_above}
use Rattle.machine.specs.Items.{add_item, drop_items}
use Rattle.machine.specs.Objects.{after_release, at_bound, is_left, is_shut, item_of, members_of, name_of_object, object_at, sets_of, takes_value, with_item, with_item_taken, with_member, with_object}
use Rattle.machine.specs.Request.{Sending, acquires, any_greenlet, done, fault_operand, finishes, greenlet_value, has_start, int_operand, is_link, is_new, kills, kills_standing, link_stands, links, list_operand, makes, on_host, performs, plain_greenlet, plain_greenlet_list, put_result, raw_greenlet, releases, sends, sends_all, sets_parent, start_of, starts_at, typed, whom_operand}
use Rattle.machine.specs.Soundness.{phase_of}
use Rattle.machine.specs.Waits.{Performed, add_member, comes, completes, drawn, draws, gathered, made_member, map_ends, map_goes_on, maps, nothing, offered, outcome_of_greenlet, parked, peeks_item, puts_item, raises, takes_item, waits}
use Rattle.machine.specs.Counts.{object_count}
use Rattle.machine_rooms.specs.Steps.{Fixed, HasSteps, kill, wait_weight}
use Rattle.machine_rooms.proofs.Ledger.{counts-add, counts-drawn, counts-drop, counts-ended, counts-fewer, counts-greenlets, counts-kill, counts-link, counts-made, counts-object, counts-posted}
use Rattle.machine_rooms.proofs.Tallies.{ends-same, flag-counted, is_open, item-counted, member-counted, offer-counted, offer_taken-counted, open-at, owner-counted, shut-counted, taken-counted, unit-counted, wait-weight-few}

-- what is left after a request, whose settling is still to come
abbrev pub Comes : Fixed → Performed → Type 0
Comes b (Performed.Answers o s) = HasSteps b 1 s
Comes b (Performed.Parks s) = HasSteps b 3 s
Comes b (Performed.Lands k o s) = HasSteps b 3 s
Comes b (Performed.Stops cause s) = HasSteps b 0 s

-- ---- waits

-- the wait of a map may take more
pub wake-counts : (b : Fixed) (n m g : ℕ) (w : Waiting) (s : State) → n + 7 ≤ m → HasSteps b m s → HasSteps b n (add_item (Delivery.Wake g w) s)
wake-counts b n m g w s few h =
    let light = wait-weight-few w in
    counts-add b n (Delivery.Wake g w) s refl (counts-fewer b m (n + 1 + wait_weight w) s (omega arith) h)

pub waits-counts : (b : Fixed) (g : ℕ) (word : Awaited) (w : Waiting) (how : Wait) (s : State) → HasSteps b 12 s → Comes b (waits g word w how s)
waits-counts b g word w Wait.Block s h = wake-counts b 3 12 g w s (omega arith) h
waits-counts b g word w (Wait.Within ms) s h =
    let woken = add_item (Delivery.Wake g w) (say (Line.Park g word (Some (s.moment + ms))) s) in
    let t = drawn w woken in
    counts-add b 3 (Delivery.Late g (s.moment + ms) (if draws w then t.timeouts else 0)) t refl (counts-drawn b 4 w woken (wake-counts b 5 12 g w s (omega arith) h))
waits-counts b g word w Wait.Now s h = counts-drawn b 1 w s (counts-fewer b 12 2 s (omega arith) h)

-- ---- members

pub member-counts : (b : Fixed) (n o f : ℕ) (args : List Value) (s : State) → nat_lt (length s.greenlets) MOST_GREENLETS ≡ true → HasSteps b n s → HasSteps b (n + 2) (add_member o f args s)
member-counts b n o f args s room h =
    let made = add_greenlet false 0 f args s in
    let t = add_item (Delivery.Start (length s.greenlets) None) made in
    let own : HasSteps b (n + 2 + 1) t = counts-add b (n + 2 + 1) _ made refl (counts-fewer b (n + 4) (n + 2 + 1 + 1 + 0) made (omega arith) (counts-made b n false 0 f args s room h)) in
    counts-object b (n + 2) o 1 (with_member (length s.greenlets) (object_at o t)) t (member-counted (length s.greenlets) (object_at o t)) own

pub map_ends-counts : (b : Fixed) (g o : ℕ) (made : List ℕ) (s : State) → HasSteps b 6 s → Comes b (map_ends g o made s)
map_ends-counts b g o made s h = by (newcomer_completes s g (Waiting.MapEnd o made))
  where
    by : (c : Bool) → Comes b (if c then Performed.Answers (gathered (map (outcome_of_greenlet s) made) []) s
        else Performed.Parks (parked g (Awaited.Map (name_of_object o s)) (Waiting.MapEnd o made) None s))
    by true = counts-fewer b 6 1 s (omega arith) h
    by false = counts-add b 3 (Delivery.Wake g (Waiting.MapEnd o made)) s refl h

pub maps-counts : (b : Fixed) (xs : List Scalar) (g o f : ℕ) (made : List ℕ) (s : State) → HasSteps b 10 s → Comes b (maps xs g o f made s)
maps-counts b [] g o f made s h = map_ends-counts b g o made s (counts-fewer b 10 6 s (omega arith) h)
maps-counts b (x ∷ xs) g o f made s h =
    by (newcomer_completes s g (Waiting.MapPlace o f (x ∷ xs) made)) (has_greenlet_left s)
    (λ room. maps-counts b xs g o f (made ++ length s.greenlets ∷ []) more (counts-fewer b 12 10 more (omega arith) (member-counts b 10 o f (value_of_scalar x ∷ []) s room h))) refl
  where
    more : State
    more = add_member o f (value_of_scalar x ∷ []) s

    by : (c room : Bool) → (has_greenlet_left s ≡ true → Comes b (maps xs g o f (made ++ length s.greenlets ∷ []) (add_member o f (value_of_scalar x ∷ []) s))) → has_greenlet_left s ≡ room →
        Comes b (elim c [
          | false ↦ Performed.Parks (parked g (Awaited.Map (name_of_object o s)) (Waiting.MapPlace o f (x ∷ xs) made) None s)
          | true ↦ elim room [
            | false ↦ Performed.Stops StopCause.NoGreenlets s
            | true ↦ maps xs g o f (made ++ length s.greenlets ∷ []) (add_member o f (value_of_scalar x ∷ []) s)
          ]
        ])
    by false room rest e = counts-add b 3 (Delivery.Wake g (Waiting.MapPlace o f (x ∷ xs) made)) s refl h
    by true false rest e = counts-fewer b 10 0 s (omega arith) h
    by true true rest e = rest e

pub map_goes_on-counts : (b : Fixed) (xs : List Scalar) (g o f : ℕ) (made : List ℕ) (s : State) → HasSteps b 8 s → Comes b (map_goes_on xs g o f made s)
map_goes_on-counts b [] g o f made s h = map_ends-counts b g o made s (counts-fewer b 8 6 s (omega arith) h)
map_goes_on-counts b (x ∷ xs) g o f made s h = by (has_greenlet_left s) refl
  where
    by : (room : Bool) → has_greenlet_left s ≡ room → Comes b (if room then maps xs g o f (made ++ length s.greenlets ∷ []) (add_member o f (value_of_scalar x ∷ []) s) else Performed.Stops StopCause.NoGreenlets s)
    by true e = maps-counts b xs g o f _ (add_member o f (value_of_scalar x ∷ []) s) (member-counts b 8 o f _ s e h)
    by false e = counts-fewer b 8 0 s (omega arith) h

pub made_member-counts : (b : Fixed) (o f : ℕ) (args : List Value) (s : State) → HasSteps b 4 s → Comes b (made_member o f args s)
made_member-counts b o f args s h = by (has_greenlet_left s) refl
  where
    by : (room : Bool) → has_greenlet_left s ≡ room → Comes b (if room then Performed.Answers (Outcome.Value (Value.Greenlet (length s.greenlets))) (add_member o f args s) else Performed.Stops StopCause.NoGreenlets s)
    by true e = counts-fewer b 6 1 (add_member o f args s) (omega arith) (member-counts b 4 o f args s e h)
    by false e = counts-fewer b 4 0 s (omega arith) h

-- ---- completions

object-counts : (b : Fixed) (o k : ℕ) (x : Object) (s : State) → 1 + k ≤ 4 → object_count (Some x) ≤ object_count (Some (object_at o s)) + k → HasSteps b 4 s → HasSteps b 1 (with_object o x s)
object-counts b o k x s few e h = counts-object b 1 o k x s e (counts-fewer b 4 (1 + k) s few h)

-- an object that counts no more than before
spared-counts : (b : Fixed) (o : ℕ) (x : Object) (s : State) → object_count (Some x) ≤ object_count (Some (object_at o s)) → HasSteps b 4 s → HasSteps b 1 (with_object o x s)
spared-counts b o x s e h = object-counts b o 0 x s (omega arith) (omega (arith, e)) h

pub puts-counts : (b : Fixed) (o : ℕ) (v : Value) (s : State) → HasSteps b 4 s → Comes b (puts_item o v (object_at o s) s)
puts-counts b o v s h = by (is_shut (object_at o s))
  where
    by : (c : Bool) → Comes b (if c then raises FaultKind.ShutDown s else Performed.Answers nothing (with_object o (with_item v (object_at o s)) s))
    by true = counts-fewer b 4 1 s (omega arith) h
    by false = object-counts b o 2 _ s (omega arith) (item-counted v (object_at o s)) h

pub takes-counts : (b : Fixed) (o before : ℕ) (s : State) → HasSteps b 4 s → Comes b (takes_item o before (object_at o s) s)
takes-counts b o before s h = by (is_left before (object_at o s))
  where
    by : (c : Bool) → Comes b (if c then Performed.Answers (Outcome.Value (item_of (object_at o s))) (with_object o (with_item_taken (object_at o s)) s) else raises FaultKind.ShutDown s)
    by true = spared-counts b o _ s (taken-counted (object_at o s)) h
    by false = counts-fewer b 4 1 s (omega arith) h

pub peeks-counts : (b : Fixed) (before : ℕ) (x : Object) (s : State) → HasSteps b 4 s → Comes b (peeks_item before x s)
peeks-counts b before x s h = by (is_left before x)
  where
    by : (c : Bool) → Comes b (if c then Performed.Answers (Outcome.Value (item_of x)) s else raises FaultKind.ShutDown s)
    by true = counts-fewer b 4 1 s (omega arith) h
    by false = counts-fewer b 4 1 s (omega arith) h

-- a wait that completes takes no more than what its item kept
pub completes-counts : (b : Fixed) (g since : ℕ) (w : Waiting) (s : State) → HasSteps b (2 + wait_weight w) s → Comes b (completes g since w s)
completes-counts b g since (Waiting.Acquire o) s h = spared-counts b o _ s (unit-counted (object_at o s)) h
completes-counts b g since (Waiting.Lock o) s h = object-counts b o 1 _ s (omega arith) (owner-counted g (object_at o s)) h
completes-counts b g since (Waiting.Put o v) s h = puts-counts b o v s h
completes-counts b g since (Waiting.Take o) s h = takes-counts b o (earlier (is_take o) since s.items) s h
completes-counts b g since (Waiting.Place o f args) s h = made_member-counts b o f args s h
completes-counts b g since (Waiting.MapPlace o f xs made) s h = map_goes_on-counts b xs g o f made s h
completes-counts b g since (Waiting.Slot o job takes) s h = counts-posted b 1 g o job takes s (counts-fewer b 4 2 s (omega arith) h)
completes-counts b g since (Waiting.Peek o) s h = peeks-counts b (earlier (is_take o) since s.items) (object_at o s) s h
completes-counts b g since (Waiting.TakeOffer o) s h = spared-counts b o _ s (offer_taken-counted (object_at o s)) h
completes-counts b g since w s h = counts-fewer b 4 1 s (omega arith) h

pub comes-counts : (b : Fixed) (g : ℕ) (word : Awaited) (w : Waiting) (how : Wait) (s : State) → HasSteps b 12 s → Comes b (comes g word w how s)
comes-counts b g word w how s h = by (newcomer_completes s g w)
  where
    by : (c : Bool) → Comes b (if c then completes g s.next_since w s else waits g word w how s)
    by true = let light = wait-weight-few w in completes-counts b g s.next_since w s (counts-fewer b 12 (2 + wait_weight w) s (omega arith) h)
    by false = waits-counts b g word w how s h

pub offered-counts : (b : Fixed) (g o : ℕ) (v : Value) (s : State) → HasSteps b 12 s → HasSteps b 3 (offered g o v s)
offered-counts b g o v s h =
    let t = parked g (Awaited.ChannelPut (name_of_object o s)) (Waiting.Offered o) None s in
    let own : HasSteps b 3 t = wake-counts b 3 12 g (Waiting.Offered o) (say (Line.Park g (Awaited.ChannelPut (name_of_object o s)) None) s) (omega arith) h in
    let same = offer-counted v s.next_since (object_at o s) in
    counts-object b 3 o 0 _ t (omega (arith, same)) own

-- ---- requests

typed-counts : {A : Type 0} (b : Fixed) (x : Option A) (s : State) (go : A → Performed) → HasSteps b 12 s → ((y : A) → Comes b (go y)) → Comes b (typed x s go)
typed-counts b None s go h f = counts-fewer b 12 1 s (omega arith) h
typed-counts b (Some y) s go h f = f y

on_host-counts : (b : Fixed) (g k : ℕ) (s : State) (go : Performed) → HasSteps b 12 s → Comes b go → Comes b (on_host g k s go)
on_host-counts b g k s go h f = by (host_of s g == host_of s k)
  where
    by : (c : Bool) → Comes b (if c then go else raises FaultKind.InvalidSwitch s)
    by true = f
    by false = counts-fewer b 12 1 s (omega arith) h

pub makes-counts : (b : Fixed) (raw : Bool) (parent f : ℕ) (args : List Value) (more : ℕ → State → State) (s : State) → HasSteps b 12 s →
    ((k : ℕ) (t : State) → HasSteps b 12 t → HasSteps b 1 (more k t)) → Comes b (makes raw parent f args more s)
makes-counts b raw parent f args more s h m = by (has_greenlet_left s) refl
  where
    by : (room : Bool) → has_greenlet_left s ≡ room → Comes b (if room then Performed.Answers (greenlet_value (length s.greenlets)) (more (length s.greenlets) (add_greenlet raw parent f args s)) else Performed.Stops StopCause.NoGreenlets s)
    by true e =
        let t = add_greenlet raw parent f args s in
        m (length s.greenlets) t (counts-fewer b 16 12 t (omega arith) (counts-made b 12 raw parent f args s e h))
    by false e = counts-fewer b 12 0 s (omega arith) h

starts_at-counts : (b : Fixed) (deadline : Option ℕ) (k : ℕ) (s : State) → HasSteps b 12 s → HasSteps b 1 (starts_at deadline k s)
starts_at-counts b deadline k s h = counts-add b 1 (Delivery.Start k deadline) s refl (counts-fewer b 12 2 s (omega arith) h)

pub start_of-counts : (b : Fixed) (k : ℕ) (s : State) → HasSteps b 12 s → HasSteps b 1 (start_of k s)
start_of-counts b k s h = by (is_new (greenlet k s).phase && not (has_start k s))
  where
    by : (c : Bool) → HasSteps b 1 (if c then starts_at None k s else s)
    by true = starts_at-counts b None k s h
    by false = counts-fewer b 12 1 s (omega arith) h

-- what is left after kills
unfoldable pub Sends : Fixed → Sending → Type 0
Sends b (Sending.Sent s) = HasSteps b 12 s
Sends b (Sending.TooMany s) = HasSteps b 12 s

pub sends-counts : (b : Fixed) (f : FaultKind) (k : ℕ) (s : State) → HasSteps b 12 s → Sends b (sends f k s)
unfolding Sends
sends-counts b f k s h = by (greenlet k s).phase (open-at s.greenlets k) (nat_lt (kills_standing s) MOST_KILLS) refl
  where
    by : (p : Phase) → (is_open (Some p) ≡ true → is_open (phase_of k s.greenlets) ≡ true) → (room : Bool) → nat_lt (kills_standing s) MOST_KILLS ≡ room → Sends b (elim p [
      | Phase.Done o ↦ Sending.Sent s
      | Phase.New args ↦ Sending.Sent (ended k (kept (Outcome.Fault f)) (say (Line.Throw k f) s))
      | Phase.Live frame ↦ if room then Sending.Sent (add_item (Delivery.Kill k f) s) else Sending.TooMany s
    ])
    by (Phase.Done o) p room e = h
    by (Phase.New args) p room e =
        let t = ended k (kept (Outcome.Fault f)) (say (Line.Throw k f) s) in
        counts-fewer b 14 12 t (omega arith) (counts-ended b 12 k (kept (Outcome.Fault f)) (say (Line.Throw k f) s) (p refl) h)
    by (Phase.Live frame) p true e = counts-kill b 12 k f s e h
    by (Phase.Live frame) p false e = h

pub sends_all-counts : (b : Fixed) (f : FaultKind) (ks : List ℕ) (s : State) → HasSteps b 12 s → Sends b (sends_all f ks s)
unfolding Sends
sends_all-counts b f [] s h = h
sends_all-counts b f (k ∷ ks) s h = by (sends f k s) (sends-counts b f k s h) (sends_all-counts b f ks)
  where
    by : (x : Sending) → Sends b x → ((t : State) → HasSteps b 12 t → Sends b (sends_all f ks t)) →
        Sends b (elim x [ Sending.Sent t ↦ sends_all f ks t | Sending.TooMany t ↦ Sending.TooMany t ])
    by (Sending.Sent t) v rest = rest t v
    by (Sending.TooMany t) v rest = v

pub kills-counts : (b : Fixed) (g : ℕ) (word : Awaited) (f : FaultKind) (ks : List ℕ) (how : Wait) (s : State) → HasSteps b 12 s → Comes b (kills g word f ks how s)
unfolding Sends
kills-counts b g word f ks how s h = by (sends_all f ks s) (sends_all-counts b f ks s h)
  where
    by : (x : Sending) → Sends b x → Comes b (elim x [ Sending.TooMany t ↦ Performed.Stops StopCause.NoKills t | Sending.Sent t ↦ comes g word (Waiting.Kill ks) how t ])
    by (Sending.TooMany t) v = counts-fewer b 12 0 t (omega arith) v
    by (Sending.Sent t) v = comes-counts b g word (Waiting.Kill ks) how t v

pub links-counts : (b : Fixed) (k : ℕ) (kind : LinkKind) (f : ℕ) (s : State) → HasSteps b 12 s → Comes b (links k kind f s)
links-counts b k kind f s h = by (nat_lt s.links MOST_LINKS) refl (link_stands kind (outcome_of s (Whom.Greenlet k)))
  where
    t : State
    t = record s { links = s.links + 1 }

    by : (room : Bool) → nat_lt s.links MOST_LINKS ≡ room → (c : Bool) →
        Comes b (if room then Performed.Answers (Outcome.Value (Value.Int (pos t.links))) (if c then add_item (Delivery.Link t.links k kind f) t else t) else Performed.Stops StopCause.NoLinks s)
    by true e true = counts-add b 1 (Delivery.Link t.links k kind f) t refl (counts-fewer b 12 4 t (omega arith) (counts-link b 12 s e h))
    by true e false = counts-fewer b 12 1 t (omega arith) (counts-link b 12 s e h)
    by false e c = counts-fewer b 12 0 s (omega arith) h

-- one object changes
changed-counts : (b : Fixed) (o k : ℕ) (x : Object) (s : State) → 1 + k ≤ 4 → object_count (Some x) ≤ object_count (Some (object_at o s)) + k → HasSteps b 12 s → HasSteps b 1 (with_object o x s)
changed-counts b o k x s few e h = object-counts b o k x s few e (counts-fewer b 12 4 s (omega arith) h)

pub releases-counts : (b : Fixed) (g o : ℕ) (x : Object) (s : State) → object_count (Some x) ≤ object_count (Some (object_at o s)) → HasSteps b 12 s → Comes b (releases g o x s)
releases-counts b g o x s same h = by x same
  where
    one : HasSteps b 1 s
    one = counts-fewer b 12 1 s (omega arith) h

    by : (x : Object) → object_count (Some x) ≤ object_count (Some (object_at o s)) → Comes b (releases g o x s)
    by (Object.Semaphore counter bound) e = of (at_bound counter bound)
      where
        of : (c : Bool) → Comes b (if c then raises FaultKind.ValueError s else done (with_object o (Object.Semaphore (counter + 1) bound) s))
        of true = one
        of false = changed-counts b o 1 (Object.Semaphore (counter + 1) bound) s (omega arith) (omega (arith, e)) h
    by (Object.Lock (Some j) depth) e = of (g == j)
      where
        of : (c : Bool) → Comes b (if c then done (with_object o (Object.Lock (after_release g (depth - 1)) (depth - 1)) s) else raises FaultKind.RuntimeError s)
        of true = changed-counts b o 0 (Object.Lock (after_release g (depth - 1)) (depth - 1)) s (omega arith) (omega (arith, e)) h
        of false = one
    by (Object.Lock None depth) e = one
    by (Object.Event flag sets) e = one
    by (Object.Result outcome) e = one
    by (Object.Queue kind size items unfinished shut) e = one
    by (Object.Crew size members) e = one
    by (Object.Native slots outstanding) e = one
    by (Object.Channel offers) e = one

pub finishes-counts : (b : Fixed) (o : ℕ) (x : Object) (s : State) → object_count (Some x) ≤ object_count (Some (object_at o s)) → HasSteps b 12 s → Comes b (finishes o x s)
finishes-counts b o x s same h = by x same
  where
    one : HasSteps b 1 s
    one = counts-fewer b 12 1 s (omega arith) h

    by : (x : Object) → object_count (Some x) ≤ object_count (Some (object_at o s)) → Comes b (finishes o x s)
    by (Object.Queue kind size items (suc k) shut) e = changed-counts b o 0 (Object.Queue kind size items k shut) s (omega arith) (omega (arith, e)) h
    by (Object.Queue kind size items zero shut) e = one
    by (Object.Event flag sets) e = one
    by (Object.Result outcome) e = one
    by (Object.Semaphore counter bound) e = one
    by (Object.Lock owner depth) e = one
    by (Object.Crew size members) e = one
    by (Object.Native slots outstanding) e = one
    by (Object.Channel offers) e = one

sets_parent-counts : (b : Fixed) (g child parent : ℕ) (s : State) → HasSteps b 12 s → Comes b (sets_parent g child parent s)
sets_parent-counts b g child parent s h =
    on_host-counts b g child s _ h (on_host-counts b g parent s _ h (by (is_above (length s.greenlets) s.greenlets child parent)))
  where
    one : HasSteps b 1 s
    one = counts-fewer b 12 1 s (omega arith) h

    by : (c : Bool) → Comes b (if c then raises FaultKind.ValueError s else done (record s { greenlets = slice_set s.greenlets child (record (greenlet child s) { parent = parent }) }))
    by true = one
    by false = counts-greenlets b 1 child (record (greenlet child s) { parent = parent }) s (ends-same s.greenlets child (record (greenlet child s) { parent = parent }) refl) one

one-left : (b : Fixed) (s : State) → HasSteps b 12 s → HasSteps b 1 s
one-left b s h = counts-fewer b 12 1 s (omega arith) h

link-no-kill : (n : ℤ) (d : Delivery) → is_link n d ≡ true → kill d ≡ 0
link-no-kill (pos n) (Delivery.Kill h f) e = absurd (cc e)
link-no-kill n (Delivery.Kill h f) e = absurd (cc e)
link-no-kill n d e = refl

pub performs-counts : (b : Fixed) (r : Request) (g : ℕ) (s : State) → HasSteps b 12 s → Comes b (performs r g s)
unfolding performs
performs-counts b (Request.Print v) g s u = one-left b s u
performs-counts b (Request.Spawn f args) g s u = makes-counts b false 0 f args (starts_at None) s u (starts_at-counts b None)
performs-counts b (Request.SpawnLater ms f args) g s u = makes-counts b false 0 f args (starts_at (Some (s.moment + ms))) s u (starts_at-counts b (Some (s.moment + ms)))
performs-counts b (Request.New f args) g s u = makes-counts b false 0 f args (λ h t. t) s u (λ k t w. one-left b t w)
performs-counts b (Request.Start v) g s u = typed-counts b (plain_greenlet s v) s (λ k. done (start_of k s)) u (λ k. start_of-counts b k s u)
performs-counts b (Request.Sleep ms) g s u = comes-counts b g Awaited.Sleep (Waiting.Sleep (s.moment + ms)) Wait.Block s u
performs-counts b (Request.Join v how) g s u =
    typed-counts b (plain_greenlet s v) s (λ h. comes g (Awaited.Join (Whom.Greenlet h)) (Waiting.Join h) how s) u (λ h. comes-counts b g (Awaited.Join (Whom.Greenlet h)) (Waiting.Join h) how s u)
performs-counts b (Request.Get v how) g s u =
    typed-counts b (whom_operand s v) s (λ whom. comes g (Awaited.Get whom) (Waiting.Get whom) how s) u (λ h. comes-counts b g (Awaited.Get h) (Waiting.Get h) how s u)
performs-counts b (Request.Kill v f how) g s u =
    typed-counts b (plain_greenlet s v) s (λ h. typed (fault_operand f) s (λ fault. kills g (Awaited.Kill (Whom.Greenlet h)) fault (h ∷ []) how s)) u
    (λ h. typed-counts b (fault_operand f) s (λ fault. kills g (Awaited.Kill (Whom.Greenlet h)) fault (h ∷ []) how s) u (λ fault. kills-counts b g (Awaited.Kill (Whom.Greenlet h)) fault (h ∷ []) how s u))
performs-counts b (Request.KillAll v f how) g s u =
    typed-counts b (plain_greenlet_list s v) s (λ hs. typed (fault_operand f) s (λ fault. kills g Awaited.KillAll fault hs how s)) u
    (λ hs. typed-counts b (fault_operand f) s (λ fault. kills g Awaited.KillAll fault hs how s) u (λ fault. kills-counts b g Awaited.KillAll fault hs how s u))
performs-counts b (Request.JoinAll v k how) g s u =
    typed-counts b (plain_greenlet_list s v) s (λ hs. comes g Awaited.JoinAll (Waiting.JoinAll hs (min (unwrap_or k (length hs)) (length hs))) how s) u (λ hs. comes-counts b g Awaited.JoinAll (Waiting.JoinAll hs (min (unwrap_or k (length hs)) (length hs))) how s u)
performs-counts b (Request.Link v kind f) g s u = typed-counts b (plain_greenlet s v) s (λ h. links h kind f s) u (λ h. links-counts b h kind f s u)
performs-counts b (Request.Unlink v) g s u = typed-counts b (int_operand v) s (λ k. done (drop_items (is_link k) s)) u (λ k. counts-drop b 1 (is_link k) s (link-no-kill k) (one-left b s u))
performs-counts b (Request.Set o) g s u = changed-counts b o 1 _ s (omega arith) (flag-counted true (object_at o s)) u
performs-counts b (Request.Clear o) g s u = changed-counts b o 1 _ s (omega arith) (flag-counted false (object_at o s)) u
performs-counts b (Request.WaitEvent o how) g s u = comes-counts b g (Awaited.Wait (name_of_object o s)) (Waiting.Event o (sets_of (object_at o s))) how s u
performs-counts b (Request.ResultSet o v) g s u = changed-counts b o 0 (Object.Result (Some (Outcome.Value v))) s (omega arith) (omega arith) u
performs-counts b (Request.ResultFail o v) g s u = typed-counts b (fault_operand (Some v)) s (λ f. put_result o (Outcome.Fault f) s) u (λ f. changed-counts b o 0 (Object.Result (Some (Outcome.Fault f))) s (omega arith) (omega arith) u)
performs-counts b (Request.ResultGet o how) g s u = comes-counts b g (Awaited.ResultGet (name_of_object o s)) (Waiting.ResultGet o) how s u
performs-counts b (Request.ResultWait o how) g s u = comes-counts b g (Awaited.ResultWait (name_of_object o s)) (Waiting.ResultWait o) how s u
performs-counts b (Request.Acquire o how) g s u = comes-counts b g (Awaited.Acquire (name_of_object o s)) (acquires o (object_at o s)) how s u
performs-counts b (Request.Release o) g s u = releases-counts b g o (object_at o s) s (omega arith) u
performs-counts b (Request.QueuePut o v how) g s u = by (takes_value (object_at o s) v)
  where
    by : (c : Bool) → Comes b (if c then comes g (Awaited.QueuePut (name_of_object o s)) (Waiting.Put o v) how s else raises FaultKind.TypeError s)
    by true = comes-counts b g (Awaited.QueuePut (name_of_object o s)) (Waiting.Put o v) how s u
    by false = one-left b s u
performs-counts b (Request.QueueGet o how) g s u = comes-counts b g (Awaited.QueueGet (name_of_object o s)) (Waiting.Take o) how s u
performs-counts b (Request.QueuePeek o how) g s u = comes-counts b g (Awaited.QueuePeek (name_of_object o s)) (Waiting.Peek o) how s u
performs-counts b (Request.QueueDone o) g s u = finishes-counts b o (object_at o s) s (omega arith) u
performs-counts b (Request.QueueJoin o how) g s u = comes-counts b g (Awaited.QueueJoin (name_of_object o s)) (Waiting.Tasks o) how s u
performs-counts b (Request.GroupSpawn o f args) g s u = comes-counts b g (Awaited.GroupSpawn (name_of_object o s)) (Waiting.Place o f args) Wait.Block s u
performs-counts b (Request.GroupJoin o how) g s u = comes-counts b g (Awaited.GroupJoin (name_of_object o s)) (Waiting.Members o) how s u
performs-counts b (Request.GroupKill o f how) g s u =
    typed-counts b (fault_operand f) s (λ fault. kills g (Awaited.GroupKill (name_of_object o s)) fault (members_of (object_at o s)) how s) u (λ fault. kills-counts b g (Awaited.GroupKill (name_of_object o s)) fault (members_of (object_at o s)) how s u)
performs-counts b (Request.Map o f v) g s u = typed-counts b (list_operand v) s (λ xs. maps xs g o f [] s) u (λ xs. maps-counts b xs g o f [] s (counts-fewer b 12 10 s (omega arith) u))
performs-counts b (Request.NativeSpawn o kind v ms) g s u =
    typed-counts b (int_operand v) s (λ z. comes g (Awaited.NativeSpawn (name_of_object o s)) (Waiting.Slot o (job_of kind z) ms) Wait.Block s) u (λ z. comes-counts b g (Awaited.NativeSpawn (name_of_object o s)) (Waiting.Slot o (job_of kind z) ms) Wait.Block s u)
performs-counts b (Request.Raw f None) g s u = makes-counts b true g f [] (λ h t. t) s u (λ k t w. one-left b t w)
performs-counts b (Request.Raw f (Some v)) g s u =
    typed-counts b (any_greenlet v) s (λ h. on_host g h s (makes true h f [] (λ k t. t) s)) u
    (λ h. on_host-counts b g h s (makes true h f [] (λ k t. t) s) u (makes-counts b true h f [] (λ k t. t) s u (λ k t w. one-left b t w)))
performs-counts b (Request.Switch v w) g s u =
    typed-counts b (any_greenlet v) s (λ h. on_host g h s (Performed.Lands h (Outcome.Value w) s)) u (λ h. on_host-counts b g h s (Performed.Lands h (Outcome.Value w) s) u (counts-fewer b 12 3 s (omega arith) u))
performs-counts b (Request.Throw v f) g s u =
    typed-counts b (any_greenlet v) s (λ h. typed (fault_operand f) s (λ fault. on_host g h s (Performed.Lands h (Outcome.Fault fault) s))) u
    (λ h. typed-counts b (fault_operand f) s (λ fault. on_host g h s (Performed.Lands h (Outcome.Fault fault) s)) u
    (λ fault. on_host-counts b g h s (Performed.Lands h (Outcome.Fault fault) s) u (counts-fewer b 12 3 s (omega arith) u)))
performs-counts b (Request.SetParent v w) g s u =
    typed-counts b (raw_greenlet s v) s (λ child. typed (any_greenlet w) s (λ parent. sets_parent g child parent s)) u
    (λ child. typed-counts b (any_greenlet w) s (λ parent. sets_parent g child parent s) u (λ parent. sets_parent-counts b g child parent s u))
performs-counts b (Request.ChannelPut o v) g s u = offered-counts b g o v s u
performs-counts b (Request.ChannelGet o) g s u = comes-counts b g (Awaited.ChannelGet (name_of_object o s)) (Waiting.TakeOffer o) Wait.Block s u
performs-counts b (Request.QueueShut o immediate) g s u = let same = shut-counted immediate (object_at o s) in changed-counts b o 0 _ s (omega arith) (omega (arith, same)) u
