-- Each step of the hub keeps it up to date.
use Rattle.std.proofs.Common.{◌≡◌, refl, sym, ◌∙◌, ap, subst, ℕ, suc, ◌+◌, ◌≤◌, Bool, true, false, List, [], ◌∷◌, length, map, ◌⊎◌, inl, inr, arith}
use Rattle.std.proofs.lemmas.Bool.{and_from, and_parts, eq-eqb, eqb-false, eqb-true, ne_eqb, not-true, le-leb, leb-true, or_cases, true≢false}
use Rattle.std.proofs.lemmas.List.{length-map, length-set}
use Rattle.std.proofs.lemmas.List.Elements.{All-from_recursion, recursion_from_All}
use Rattle.std.specs.List.{AllByRecursion, list_any}
use Rattle.std.specs.Prelude.{◌==◌, ◌||◌, not, cond, filter, IsTrue, Option, Some, None, is_some, nat_le, negsuc, pos, slice_get}
use Rattle.gv_values.specs.declared.job.Job.{Job}
use Rattle.gv_values.specs.declared.job.JobOutcome.{JobOutcome}
use Rattle.gv_values.specs.declared.value.Value.{Value}
use Rattle.gv_values.specs.declared.value.Whom.{Whom}
use Rattle.machine.specs.declared.items.Delivery.{Delivery}
use Rattle.machine.specs.declared.items.Item.{Item}
use Rattle.machine.specs.declared.items.Waiting.{Waiting}
use Rattle.machine.specs.declared.state.JobState.{JobState}
use Rattle.machine.specs.declared.state.Object.{Object}
use Rattle.machine.specs.declared.state.Phase.{Phase}
use Rattle.machine.specs.State.{State}
use Rattle.machine.specs.Deliveries.{waiting_of, without_item}
use Rattle.machine.specs.Greenlets.{add_greenlet, with_phase}
use Rattle.machine.specs.Holds.{delivery_holds, holds, is_done, job_at, outcome_of_phase}
use Rattle.machine.specs.Items.{drop_items}
use Rattle.machine.specs.Objects.{with_object, without_member, without_offer}
use Rattle.machine.specs.Questions.{arrives, is_numbered}
use Rattle.machine.specs.Settle.{number_after, settle, settled}
use Rattle.machine.specs.Soundness.{Claim, are_single, ascend, claim_of, is_unclaimed, same_claim}
use Rattle.machine.specs.Waits.{posted}
use Rattle.machine_settling.specs.Classes.{Class, class_of, class_of_wait, is_at, is_of}
use Rattle.machine_settling.specs.Numbers.{IsAscending}
use Rattle.machine_settling.specs.Steps.{Step, after, arrival, has_member, has_offer_by, nothing, the_ends, the_objects_of}
use Rattle.machine_settling.proofs.Agreements.{Agrees, agreement-weakens, agrees-settle, in_filter, in_without}
use Rattle.machine_settling.proofs.Fronts.{fronts_settled}
use Rattle.machine_settling.proofs.Members.{In}
use Rattle.machine_settling.proofs.Parts.{at_in}
use Rattle.hub_items.specs.Gone.{gone_of}
use Rattle.hub_items.specs.Sound.{AscendTo}
use Rattle.hub_items.specs.declared.gone.Gone.{Gone}
use Rattle.held_items.specs.Entries.{Entry, flat}
use Rattle.hub_state.specs.Found.{is_always}
use Rattle.hub_state.specs.Touched.{HasCome, HasMark, HasPlaces, HasTouched, IsMade, IsPast, IsPending, IsUpToDate, SeenTouched, awaited, left_by, reopened, untouched, waited_at, with_end, with_touched}
use Rattle.hub_state.proofs.Touching.{each_of, grows_all, grows_end, grows_on, grows_same, grows_touched, kept_after, places_more, reopens_all, reopens_at, reopens_awaited, reopens_end}

-- the items of the hub stand in order
pub ascending : (low next : ℕ) (items : List Item) → AscendTo low next items → ascend low next items ≡ true
ascending low next [] h = le-leb low next h
ascending low next (i ∷ items) h = and_from (nat_le low i.since) (ascend (i.since + 1) next items) (le-leb low i.since h.above) (ascending (i.since + 1) next items h.rest)

-- ---- objects

pub kept_changed : (o : ℕ) (x : Object) (t : SeenTouched) (s : State) → IsAscending s → IsUpToDate t s → IsUpToDate (with_touched (Some o) t) (with_object o x s)
kept_changed o x t s a h =
    let g = grows_touched (Some o) t in
    let long = length-set s.objects o x in
    kept_after (Step.Changes o x) t (with_touched (Some o) t) s a tt g (λ c p. reopens_at o t c p.0) (λ i k. k) (omega arith) (let r = h.rooms in let m = g.rooms in omega (arith, long, r, m)) h

pub kept_left : (g : ℕ) (t u : SeenTouched) (s : State) → IsAscending s → HasTouched (has_member g) s.objects (length s.objects) t u → IsUpToDate t s →
    IsUpToDate u (record s { objects = map (without_member g) s.objects })
kept_left g t u s a m h =
    let long = length-map s.objects (without_member g) in
    kept_after (Step.Leaves g) t u s a tt (grows_all (has_member g) s.objects (length s.objects) t u m) (reopens_all (has_member g) s.objects t u refl m) (λ i k. k) (omega arith)
    (let r = h.rooms in let n = m.rooms in omega (arith, long, r, n)) h

pub kept_withdrawn : (since : ℕ) (t u : SeenTouched) (s : State) → IsAscending s → HasTouched (has_offer_by since) s.objects (length s.objects) t u → IsUpToDate t s →
    IsUpToDate u (record s { objects = map (without_offer since) s.objects })
kept_withdrawn since t u s a m h =
    let long = length-map s.objects (without_offer since) in
    kept_after (Step.Withdraws (Some since)) t u s a tt (grows_all (has_offer_by since) s.objects (length s.objects) t u m) (reopens_all (has_offer_by since) s.objects t u refl m) (λ i k. k) (omega arith)
    (let r = h.rooms in let n = m.rooms in omega (arith, long, r, n)) h

-- ---- greenlets and jobs

pub kept_comes : (g : ℕ) (phase : Phase) (b : Bool) (t : SeenTouched) (s : State) → IsAscending s → b ≡ (is_done s g || is_some (outcome_of_phase phase)) → IsUpToDate t s →
    IsUpToDate (with_end b g t) (with_phase g phase s)
kept_comes g phase b t s a e h =
    let m = grows_end b g t in
    kept_after (Step.Comes g phase) t (with_end b g t) s a tt m (λ c p. reopens_end (is_done s g || is_some (outcome_of_phase phase)) b (Whom.Greenlet g) t (λ k. e ∙ k) c p) (λ i k. k) (omega arith)
    (let r = h.rooms in let n = m.rooms in omega (arith, r, n)) h

pub kept_parented : (child parent : ℕ) (t : SeenTouched) (s : State) → IsAscending s → IsUpToDate t s → IsUpToDate t (after (Step.Parents child parent) s)
kept_parented child parent t s a h =
    kept_after (Step.Parents child parent) t t s a tt (grows_same t) (λ c m e. absurd (true≢false (sym e))) (λ i k. k) (omega arith) h.rooms h

pub kept_made : (raw : Bool) (parent f : ℕ) (args : List Value) (t : SeenTouched) (s : State) → IsAscending s → IsUpToDate t s → IsUpToDate t (add_greenlet raw parent f args s)
kept_made raw parent f args t s a h =
    kept_after (Step.Makes raw parent f args) t t s a tt (grows_same t) (λ c m e. absurd (true≢false (sym e))) (λ i k. k) (omega arith) h.rooms h

pub kept_posted : (g o : ℕ) (job : Job) (takes : ℕ) (t : SeenTouched) (s : State) → IsAscending s → IsUpToDate t s → IsUpToDate (with_touched (Some o) t) (posted g o job takes s)
kept_posted g o job takes t s a h =
    let m = grows_touched (Some o) t in
    let long : length (posted g o job takes s).objects ≡ length s.objects = length-set s.objects o _ in
    kept_after (Step.Posts g o job takes) t (with_touched (Some o) t) s a tt m (λ c p. reopens_at o t c p.0) (λ i k. k) (omega arith) (let r = h.rooms in let n = m.rooms in omega (arith, long, r, n)) h

pub kept_arrived : (j : ℕ) (outcome : JobOutcome) (job : JobState) (t : SeenTouched) (s : State) → IsAscending s → job_at j s.jobs ≡ Some job → IsUpToDate t s →
    IsUpToDate (with_touched (Some job.pool) (with_end true j t)) (arrives j outcome (Some job) s)
kept_arrived j outcome job t s a e h =
    let u = with_end true j t in
    let g = grows_on t u (with_touched (Some job.pool) u) (grows_end true j t) (grows_touched (Some job.pool) u) in
    let long : length (arrives j outcome (Some job) s).objects ≡ length s.objects = length-set s.objects job.pool _ in
    subst (λ found. IsUpToDate (with_touched (Some job.pool) u) (arrives j outcome found s)) e
    (kept_after (Step.Arrives j outcome) t (with_touched (Some job.pool) u) s a tt g (λ c m k. covers c m (subst (λ found. IsTrue (arrival j found c)) e k))
    (λ i k. subst (λ found. In i (arrives j outcome found s).items) e k)
    (subst (λ found. s.moment ≤ (arrives j outcome found s).moment) (sym e) (omega arith))
    (subst (λ found. length (arrives j outcome found s).objects ≤ (with_touched (Some job.pool) u).rooms) (sym e) (let r = h.rooms in let n = g.rooms in omega (arith, long, r, n)))
    h)
  where
    covers : (c : Class) → HasPlaces t c → IsTrue (arrival j (Some job) c) → IsTrue (reopened (with_touched (Some job.pool) (with_end true j t)) c)
    covers c m k = by (or_cases (the_ends (Whom.Job j) c) (is_at job.pool c) k)
      where
        by : (the_ends (Whom.Job j) c ≡ true) ⊎ (is_at job.pool c ≡ true) → IsTrue (reopened (with_touched (Some job.pool) (with_end true j t)) c)
        by (inl q) = (grows_touched (Some job.pool) (with_end true j t)).classes c (reopens_end true true (Whom.Job j) t (λ p. p) c m q)
        by (inr q) = let v = with_end true j t in let n = grows_end true j t in reopens_at job.pool v c (places_more t v c n.rooms n.targets m).0 q

-- ---- items that go

pub kept_taken : (i : Item) (t : SeenTouched) (s : State) → IsAscending s → In i s.items → IsUpToDate t s → IsUpToDate (with_touched (awaited (class_of i.delivery)) t) (without_item i s)
kept_taken i t s a k h =
    let g = grows_touched (awaited (class_of i.delivery)) t in
    kept_after (Step.Takes i) t (with_touched (awaited (class_of i.delivery)) t) s a (get_of_in s.items i k) g covers (in_without i.since s.items) (omega arith) (let r = h.rooms in let m = g.rooms in omega (arith, r, m)) h
  where
    get_of_in : (items : List Item) (x : Item) → In x items → (p : ℕ) × (slice_get items p ≡ Some x)
    get_of_in [] x m = absurd m
    get_of_in (y ∷ items) x (inl e) = (0, ap Some e)
    get_of_in (y ∷ items) x (inr m) = let r = get_of_in items x m in (suc r.0, r.1)

    covers : (c : Class) → HasPlaces t c → IsTrue (the_objects_of (i ∷ []) c) → IsTrue (reopened (with_touched (awaited (class_of i.delivery)) t) c)
    covers Class.Always m e = refl
    covers (Class.AtMoment deadline) m e = refl
    covers (Class.OfEnds targets need) m e = absurd (true≢false (sym e))
    covers (Class.AtObject o) m e = by (or_cases (is_at o (class_of i.delivery)) false e)
      where
        by : (is_at o (class_of i.delivery) ≡ true) ⊎ (false ≡ true) → IsTrue (reopened (with_touched (awaited (class_of i.delivery)) t) (Class.AtObject o))
        by (inl q) = reopens_awaited (class_of i.delivery) t o (at_in (HasMark t) s.items i h.marked k).0 q
        by (inr q) = absurd (true≢false (sym q))

-- an item that passes the test
record Found {X : Type 0} (q : X → Bool) (xs : List X) : Type 0 where
  item : X
  among : In item xs
  passes : q item ≡ true

found : {X : Type 0} (q : X → Bool) (xs : List X) → list_any q xs ≡ true → Found q xs
found q [] h = absurd (true≢false (sym h))
found q (x ∷ xs) h = by (or_cases (q x) (list_any q xs) h) (found q xs)
  where
    more : Found q xs → Found q (x ∷ xs)
    more f = record { item = f.item; among = inr f.among; passes = f.passes }

    by : (q x ≡ true) ⊎ (list_any q xs ≡ true) → (list_any q xs ≡ true → Found q xs) → Found q (x ∷ xs)
    by (inl e) rest = record { item = x; among = inl refl; passes = e }
    by (inr e) rest = more (rest e)

kept_passes : {X : Type 0} (q : X → Bool) (xs : List X) (x : X) → In x (filter q xs) → q x ≡ true
kept_passes q [] x h = absurd h
kept_passes q (y ∷ xs) x h = by (q y) refl h (kept_passes q xs x)
  where
    by : (b : Bool) → q y ≡ b → In x (cond b (y ∷ filter q xs) (filter q xs)) → (In x (filter q xs) → q x ≡ true) → q x ≡ true
    by true e (inl k) rest = ap q (sym k) ∙ e
    by true e (inr k) rest = rest k
    by false e k rest = rest k

unclaimed_by : (c : Option Claim) (i : Item) (items : List Item) → is_unclaimed c items ≡ true → In i items → same_claim c (claim_of i.delivery) ≡ false
unclaimed_by c i [] u k = absurd k
unclaimed_by c i (j ∷ items) u k =
    let parts = and_parts (not (same_claim c (claim_of j.delivery))) (is_unclaimed c items) u in
    by parts.0 k (unclaimed_by c i items parts.1)
  where
    by : not (same_claim c (claim_of j.delivery)) ≡ true → (j ≡ i) ⊎ In i items → (In i items → same_claim c (claim_of i.delivery) ≡ false) → same_claim c (claim_of i.delivery) ≡ false
    by n (inl e) rest = ap (λ (x : Item). same_claim c (claim_of x.delivery)) (sym e) ∙ not-true (same_claim c (claim_of j.delivery)) n
    by n (inr m) rest = rest m

-- the one Wake of a greenlet is found
wake_found : (g : ℕ) (w : Waiting) (i : Item) (items : List Item) → are_single items ≡ true → In i items → i.delivery ≡ Delivery.Wake g w → waiting_of g items ≡ Some w
wake_found g w i [] single k e = absurd k
wake_found g w i (j ∷ items) single k e =
    let parts = and_parts (is_unclaimed (claim_of j.delivery) items) (are_single items) single in
    by j.delivery refl parts.0 k (λ m. wake_found g w i items parts.1 m e)
  where
    there : j ≡ i → j.delivery ≡ Delivery.Wake g w
    there s = ap (λ (x : Item). x.delivery) s ∙ e

    other : (h : ℕ) (v : Waiting) → is_unclaimed (Some (Claim.WakeOf h)) items ≡ true → In i items → (g == h) ≡ false
    other h v u m =
        let apart : same_claim (Some (Claim.WakeOf h)) (claim_of (Delivery.Wake g w)) ≡ false = ap (λ (d : Delivery). same_claim (Some (Claim.WakeOf h)) (claim_of d)) (sym e) ∙ unclaimed_by (Some (Claim.WakeOf h)) i items u m in
        ne_eqb g h (λ q. eqb-false h g apart (sym q))

    by : (d : Delivery) → j.delivery ≡ d → is_unclaimed (claim_of d) items ≡ true → (j ≡ i) ⊎ In i items → (In i items → waiting_of g items ≡ Some w) → waiting_of g (record j { delivery = d } ∷ items) ≡ Some w
    by (Delivery.Wake h v) q u (inl s) rest =
        let same : Delivery.Wake h v ≡ Delivery.Wake g w = sym q ∙ there s in
        let here : g ≡ h = cc in
        let what : v ≡ w = cc in
        rw (eq-eqb g h here) (ap Some what)
    by (Delivery.Wake h v) q u (inr m) rest = rw (other h v u m) (rest m)
    by (Delivery.Start h deadline) q u (inl s) rest = let same : Delivery.Start h deadline ≡ Delivery.Wake g w = sym q ∙ there s in absurd (cc)
    by (Delivery.Start h deadline) q u (inr m) rest = rest m
    by (Delivery.Late h deadline n) q u (inl s) rest = let same : Delivery.Late h deadline n ≡ Delivery.Wake g w = sym q ∙ there s in absurd (cc)
    by (Delivery.Late h deadline n) q u (inr m) rest = rest m
    by (Delivery.Timeout h n deadline) q u (inl s) rest = let same : Delivery.Timeout h n deadline ≡ Delivery.Wake g w = sym q ∙ there s in absurd (cc)
    by (Delivery.Timeout h n deadline) q u (inr m) rest = rest m
    by (Delivery.Kill h f) q u (inl s) rest = let same : Delivery.Kill h f ≡ Delivery.Wake g w = sym q ∙ there s in absurd (cc)
    by (Delivery.Kill h f) q u (inr m) rest = rest m
    by (Delivery.Link n h kind f) q u (inl s) rest = let same : Delivery.Link n h kind f ≡ Delivery.Wake g w = sym q ∙ there s in absurd (cc)
    by (Delivery.Link n h kind f) q u (inr m) rest = rest m

-- what goes and waits for an object is a Wake, of the greenlet that is looked at
record IsWakeLeft (gone : Gone) (d : Delivery) (items : List Item) : Type 0 where
  greenlet : ℕ
  wait : Waiting
  is : d ≡ Delivery.Wake greenlet wait
  left : left_by gone items ≡ waited_at (waiting_of greenlet items)

wake_left : (gone : Gone) (d : Delivery) (o : ℕ) (items : List Item) → gone_of gone d ≡ true → is_at o (class_of d) ≡ true → IsWakeLeft gone d items
wake_left (Gone.WaitOf g) (Delivery.Wake h w) o items e k = record { greenlet = g; wait = w; is = ap (λ n. Delivery.Wake n w) (sym (eqb-true g h e)); left = refl }
wake_left (Gone.AtEnd g outcome) (Delivery.Wake h w) o items e k = record { greenlet = g; wait = w; is = ap (λ n. Delivery.Wake n w) (sym (eqb-true g h e)); left = refl }
wake_left (Gone.TimeoutsOf g ns) (Delivery.Wake h w) o items e k = absurd (true≢false (sym e))
wake_left (Gone.LinkNumbered (pos n)) (Delivery.Wake h w) o items e k = absurd (true≢false (sym e))
wake_left (Gone.LinkNumbered (negsuc n)) (Delivery.Wake h w) o items e k = absurd (true≢false (sym e))
wake_left gone (Delivery.Start h None) o items e k = absurd (true≢false (sym k))
wake_left gone (Delivery.Start h (Some deadline)) o items e k = absurd (true≢false (sym k))
wake_left gone (Delivery.Late h deadline n) o items e k = absurd (true≢false (sym k))
wake_left gone (Delivery.Timeout h n deadline) o items e k = absurd (true≢false (sym k))
wake_left gone (Delivery.Kill h f) o items e k = absurd (true≢false (sym k))
wake_left gone (Delivery.Link n h kind f) o items e k = absurd (true≢false (sym k))

pub kept_dropped : (gone : Gone) (t : SeenTouched) (s : State) → IsAscending s → are_single s.items ≡ true → IsUpToDate t s → IsUpToDate (with_touched (left_by gone s.items) t) (drop_items (gone_of gone) s)
kept_dropped gone t s a single h =
    let g = grows_touched (left_by gone s.items) t in
    kept_after (Step.Drops (gone_of gone)) t (with_touched (left_by gone s.items) t) s a tt g covers (in_filter (λ i. not (gone_of gone i.delivery)) s.items) (omega arith) (let r = h.rooms in let m = g.rooms in omega (arith, r, m)) h
  where
    going : Item → Bool
    going i = gone_of gone i.delivery

    covers : (c : Class) → HasPlaces t c → IsTrue (the_objects_of (filter going s.items) c) → IsTrue (reopened (with_touched (left_by gone s.items) t) c)
    covers Class.Always m e = refl
    covers (Class.AtMoment deadline) m e = refl
    covers (Class.OfEnds targets need) m e = absurd (true≢false (sym e))
    covers (Class.AtObject o) m e =
        let f = found (is_of (is_at o)) (filter going s.items) e in
        let k = in_filter going s.items f.item f.among in
        let w = wake_left gone f.item.delivery o s.items (kept_passes going s.items f.item f.among) f.passes in
        let left : left_by gone s.items ≡ awaited (class_of f.item.delivery) =
        w.left ∙ ap waited_at (wake_found w.greenlet w.wait f.item s.items single k w.is) ∙ ap (λ (d : Delivery). awaited (class_of d)) (sym w.is) in
        subst (λ object. IsTrue (reopened (with_touched object t) (Class.AtObject o))) (sym left) (reopens_awaited (class_of f.item.delivery) t o (at_in (HasMark t) s.items f.item h.marked k).0 f.passes)

-- ---- a settling

come_numbered : (s : State) (since : ℕ) (d : Delivery) → delivery_holds s since d ≡ true → HasCome s.moment (class_of d)
come_numbered s since (Delivery.Start g None) e = tt
come_numbered s since (Delivery.Start g (Some deadline)) e = leb-true deadline s.moment e
come_numbered s since (Delivery.Wake g (Waiting.Sleep until)) e = leb-true until s.moment e
come_numbered s since (Delivery.Wake g w) e = tt
come_numbered s since (Delivery.Late g deadline n) e = leb-true deadline s.moment e
come_numbered s since (Delivery.Timeout g n deadline) e = leb-true deadline s.moment e
come_numbered s since (Delivery.Kill g f) e = tt
come_numbered s since (Delivery.Link k g kind f) e = tt

-- a wait is for something
waits_for : (w : Waiting) → is_always (class_of_wait w) ≡ false
waits_for (Waiting.Sleep until) = refl
waits_for w = refl

pub holds_always : (s : State) (since : ℕ) (d : Delivery) → class_of d ≡ Class.Always → delivery_holds s since d ≡ true
holds_always s since (Delivery.Start g None) e = refl
holds_always s since (Delivery.Start g (Some deadline)) e = absurd (cc)
holds_always s since (Delivery.Wake g w) e = absurd (true≢false (sym (ap is_always e) ∙ waits_for w))
holds_always s since (Delivery.Late g deadline n) e = absurd (cc)
holds_always s since (Delivery.Timeout g n deadline) e = absurd (cc)
holds_always s since (Delivery.Kill g f) e = refl
holds_always s since (Delivery.Link k g kind f) e = absurd (cc)

marked_settled : (t : SeenTouched) (hs : List Bool) (n : ℕ) (items : List Item) → AllByRecursion (HasMark t) items → AllByRecursion (HasMark t) (settled hs n items)
marked_settled t [] n items a = a
marked_settled t (h ∷ hs) n [] a = a
marked_settled t (h ∷ hs) n (i ∷ items) a = (a.0, marked_settled t hs (number_after h i.ready n) items a.1)

pub kept_settled : (t : SeenTouched) (s : State) → IsUpToDate t s → IsUpToDate (untouched t) (settle s)
kept_settled t s h = record {
  agrees = agreement-weakens nothing (reopened (untouched t)) (settle s) (λ c e. absurd (true≢false (sym e))) (agrees-settle s);
  front = fronts_settled s;
  past = each_of (IsPast s.moment) (settle s).items (λ i k n. come_numbered (settle s) i.since i.delivery (sym (at_in (Agrees nothing (holds (settle s))) (settle s).items i (agrees-settle s) k refl) ∙ n));
  marked = All-from_recursion (HasMark t) (settle s).items (marked_settled t (map (holds s) s.items) s.next_ready s.items (recursion_from_All (HasMark t) s.items h.marked));
  rooms = h.rooms;
}

pub pending_settled : (made : List ℕ) (es : List Entry) (s : State) → flat es ≡ (settle s).items → IsPending made es
pending_settled made es s e = each_of (IsMade made) es (λ x k c n. absurd (true≢false (sym (here x k c) ∙ ap is_some n)))
  where
    in_flat : (xs : List Entry) (x : Entry) → In x xs → In x.1 (flat xs)
    in_flat [] x k = absurd k
    in_flat (y ∷ xs) x (inl q) = inl (ap (λ (z : Entry). z.1) q)
    in_flat (y ∷ xs) x (inr k) = inr (in_flat xs x k)

    here : (x : Entry) → In x es → class_of x.1.delivery ≡ Class.Always → is_numbered x.1 ≡ true
    here x k c = at_in (Agrees nothing (holds (settle s))) (settle s).items x.1 (agrees-settle s) (subst (In x.1) e (in_flat es x k)) refl ∙ holds_always (settle s) x.1.since x.1.delivery c
