-- What comes of requests, lawfully.
use Rattle.std.proofs.Common.{◌≡◌, refl, ap, ◌∙◌, sym, subst, ℕ, zero, suc, ◌+◌, Bool, true, false, List, [], ◌∷◌, ◌++◌, length, length-append, map, cond, inl, inr, ◌⊎◌, arith}
use Rattle.std.proofs.lemmas.Bool.{and_from}
use Rattle.std.proofs.lemmas.Bool.Decides.{nat_tests}
use Rattle.std.proofs.lemmas.List.Sums.{sum_by-cons}
use Rattle.std.specs.Prelude.{not, ◌==◌, ◌&&◌, ◌||◌, Option, Some, None, is_none, is_some, find, count_by, nat_le, slice_get, Contains, if◌then◌else◌, ℤ, pos, negsuc, slice_set}
use Rattle.std.specs.Ordering.{int_eq}
use Rattle.gv_values.specs.declared.fault.FaultKind.{FaultKind}
use Rattle.gv_values.specs.declared.job.Job.{Job}
use Rattle.gv_values.specs.declared.job.JobOutcome.{JobOutcome}
use Rattle.gv_values.specs.declared.scalar.Scalar.{Scalar}
use Rattle.gv_values.specs.declared.value.Outcome.{Outcome}
use Rattle.gv_values.specs.declared.value.Value.{Value}
use Rattle.gv_values.specs.Fault.{fault_eq}
use Rattle.gv_values.specs.Value.{value_of_scalar}
use Rattle.world_rules.specs.declared.question.PostedJob.{PostedJob}
use Rattle.world_rules.specs.Evaluate.{eval}
use Rattle.world_rules.specs.Legal.{is_answered, posted as job_posted}
use Rattle.scenario_rules.specs.declared.mention.Wanted.TheVariants as wanted
use Rattle.scenario_tree.specs.declared.tree.Wait.{Wait}
use Rattle.trace_text.specs.declared.line.Awaited.{Awaited}
use Rattle.trace_text.specs.declared.line.Line.{Line}
use Rattle.trace_text.specs.declared.line.StopCause.{StopCause}
use Rattle.machine.specs.declared.items.Delivery.{Delivery}
use Rattle.machine.specs.declared.items.Item.{Item}
use Rattle.machine.specs.declared.items.Waiting.{Waiting}
use Rattle.machine.specs.declared.state.JobState.{JobState}
use Rattle.machine.specs.declared.state.Post.{Post}
use Rattle.machine.specs.State.{State, say}
use Rattle.machine.specs.Holds.{earlier, is_take, newcomer_completes}
use Rattle.machine.specs.Soundness.{phase_of, is_live}
use Rattle.machine.specs.TraceLaws.{gives_outcome, is_job_line, is_of, is_park, is_some_number, outcome_eq}
use Rattle.machine.specs.Greenlets.{add_greenlet, has_greenlet_left}
use Rattle.machine.specs.Items.{add_item}
use Rattle.machine.specs.Hosts.{host_of}
use Rattle.machine.specs.Request.{on_host, typed}
use Rattle.machine.specs.Objects.{with_slot_taken, is_left, is_shut, item_of, name_of_object, object_at, with_item, with_item_taken, with_member, with_object, with_offer, with_offer_taken, with_owner, with_unit_taken}
use Rattle.machine.specs.Waits.{Performed, add_member, comes, completes, drawn, draws, gathered, made_member, map_ends, map_goes_on, maps, nothing, offered, outcome_of_greenlet, parked, peeks_item, posted, puts_item, raises, takes_item, until_of, waits}
use Rattle.machine_soundness.specs.Going.{has_no_wait, is_plain, IsKept}
use Rattle.machine_soundness.specs.Laws.{is_wake_of}
use Rattle.machine.proofs.Halves.{left, right}
use Rattle.machine_soundness.proofs.Lists.{all-end, equal, itself}
use Rattle.machine_soundness.proofs.Greenlets.{host-plain, plain-more, plain-raw}
use Rattle.machine_soundness.proofs.Landings.{going-free}
use Rattle.machine_soundness.proofs.Requests.{completes-fine, item-plain, kept-parked, moves-change, moves-member, moves-spawned, offered-fine, own-host, taken-plain}
use Rattle.machine_soundness.proofs.States.{Moves, going}
use Rattle.machine_well_formed.specs.Texts.{HasMain, fits_wait, is_function, is_wanted}
use Rattle.machine_well_formed.proofs.KindLemmas.{item-kept, kinds-set, member-kept, offer-kept, offer_taken-kept, owner-kept, slot-kept, taken-kept, unit-kept}
use Rattle.machine_trace_laws.proofs.Histories.{History, IsLawful, Tells, as_posted, tells-line, tells-post, with_line, with_post}
use Rattle.machine_offers.specs.Offers.{offers_at, offers_of}
use Rattle.machine_offers.proofs.Offers.{HasNoOffer, fewer-same, free-lateless, free-offerless, is_offering, item-offers, more-offers, offers-offered, offers-set, owner-offers, slot-offers, taken-fewer, taken-offers, unit-offers}
use Rattle.machine_offers.proofs.Anys.{any-end}
use Rattle.machine_trace_laws.proofs.Ties.{IsHeard, IsJobTold, are_counted, IsOwn, Ties, count-other, find-other, free-wakeless, has_wake, is_begun, live-begun, live-not-over, lawful-own, told-other, ties-add, ties-own, ties-say}
use Rattle.machine_trace_laws.proofs.Goings.{AreHeld, AreParkedBut, Ends, Goes, Hosted, Rests, Sides, goes-add, goes-made, goes-object, goes-put, goes-timeout, rests-objects, sides-add, known-objects}

-- what comes of a request of a greenlet with this host
abbrev pub IsFineAt : History → ℕ → ℕ → Performed → Type 0
IsFineAt b g h (Performed.Answers o s) = Goes b g h s
IsFineAt b g h (Performed.Parks s) = Rests b s
IsFineAt b g h (Performed.Lands k o s) = (host_of s k ≡ h) × Hosted b h s
IsFineAt b g h (Performed.Stops cause s) = Ends b s

abbrev pub goes-ends : (b : History) (g h : ℕ) (s : State) → Goes b g h s → Ends b s
goes-ends b g h s m = record { story = m.story; tells = m.tells; kept = m.moves.kept; sides = m.sides; held = m.held }

pub goes-hosted : (b : History) (g h : ℕ) (s : State) → Goes b g h s → Hosted b h s
goes-hosted b g h s m = record { kept = m.moves.kept; host = m.moves.host; story = m.story; tells = m.tells; ties = m.ties; parking = m.parking; main = m.main; sides = m.sides; held = m.held }

-- ---- parking

pub own-park : (g : ℕ) (word : Awaited) (until : Option ℕ) → IsOwn g (Line.Park g word until)
own-park g word until =
    record {
      names = refl;
      no_end = λ k. refl;
      no_link = λ k. refl;
      no_job = λ k. refl;
      no_done = λ k. refl;
      no_turn = λ l. refl;
      once = λ l. refl;
      unlinked = λ l. refl;
      timeless = λ l. refl;
      jobless = λ l. refl;
    }

pub own-print : (g : ℕ) (v : Value) → IsOwn g (Line.Print g v)
own-print g v =
    record {
      names = refl;
      no_end = λ k. refl;
      no_link = λ k. refl;
      no_job = λ k. refl;
      no_done = λ k. refl;
      no_turn = λ l. refl;
      once = λ l. refl;
      unlinked = λ l. refl;
      timeless = λ l. refl;
      jobless = λ l. refl;
    }

-- all of a state at rest but its soundness
pub record Parks (b : History) (s : State) : Type 0 where
  pub story : History
  pub tells : Tells b story s.lines s.posts
  pub ties : Ties None story s
  pub parking : AreParkedBut None s
  pub main : is_live (phase_of 0 s.greenlets) ≡ true
  pub sides : Sides s
  pub held : AreHeld s.greenlets s.items

parks-wake : (b : History) (g : ℕ) (word : Awaited) (w : Waiting) (until : Option ℕ) (s : State) → (HasMain s.scenario → fits_wait s.scenario w ≡ true) → Goes b g g s → Parks b (add_item (Delivery.Wake g w) (say (Line.Park g word until) s))
parks-wake b g word w until s z m =
    let line = Line.Park g word until in
    let own = own-park g word until in
    let alone = going-free g s m.moves.kept (going g g s m.moves) in
    let free = free-wakeless g s.items alone in
    let told = ties-own None g line m.story s own (λ e. live-begun _ m.moves.live) free m.ties in
    record {
      story = with_line line m.story;
      tells = tells-line b m.story s.lines s.posts line (lawful-own None g line m.story s own (live-not-over _ m.moves.live) refl m.ties) m.tells;
      ties = ties-add None (with_line line m.story) (Delivery.Wake g w) (say line s) (λ k e. ap (λ z. is_park (cond z (Some line) (find (is_of k) m.story.past))) e) (λ k e. refl) (ties-say None (with_line line m.story) line s told);
      parking = λ k e p l. any-end (λ (i : Item). is_wake_of k i.delivery) s.items _ ∙ by k (k == g) refl p l;
      main = m.main;
      sides = sides-add (Delivery.Wake g w) (say line s) refl z (free-lateless g s.items alone) (record { kills = m.sides.kills; bodies = m.sides.bodies; fit = m.sides.fit; known = m.sides.known; offers = m.sides.offers });
      held = all-end _ s.items _ m.held refl;
    }
  where
    or : (a : Bool) → (a || true) ≡ true
    or true = refl
    or false = refl

    by : (k : ℕ) (c : Bool) → (k == g) ≡ c → is_plain s.greenlets k ≡ true → is_live (phase_of k s.greenlets) ≡ true → (has_wake k s.items || c) ≡ true
    by k true e p l = or (has_wake k s.items)
    by k false e p l = ap (λ z. z || false) (m.parking k e p l)

parks-late : (b : History) (g deadline n : ℕ) (s : State) → HasNoOffer g s.items → Parks b s → Parks b (add_item (Delivery.Late g deadline n) s)
parks-late b g deadline n s none m =
    record {
      story = m.story;
      tells = m.tells;
      ties = ties-add None m.story (Delivery.Late g deadline n) s (λ k e. absurd (cc e)) (λ k e. refl) m.ties;
      parking = λ k e p l. any-end (λ (i : Item). is_wake_of k i.delivery) s.items _ ∙ ap (λ z. z || false) (m.parking k e p l);
      main = m.main;
      sides = sides-add (Delivery.Late g deadline n) s refl (λ w. refl) none m.sides;
      held = all-end _ s.items _ m.held refl;
    }

parks-drawn : (b : History) (w : Waiting) (s : State) → Parks b s → Parks b (drawn w s)
parks-drawn b w s m = by (draws w)
  where
    by : (c : Bool) → Parks b (if c then record s { timeouts = s.timeouts + 1 } else s)
    by true =
        record {
          story = m.story;
          tells = m.tells;
          ties = record {
            ended = m.ties.ended;
            fresh = m.ties.fresh;
            parked = m.ties.parked;
            links = m.ties.links;
            jobs = m.ties.jobs;
            fewer = m.ties.fewer;
            done = m.ties.done;
            rising = m.ties.rising;
            heard = m.ties.heard;
          };
          parking = m.parking;
          main = m.main;
          sides = record { kills = m.sides.kills; bodies = m.sides.bodies; fit = m.sides.fit; known = m.sides.known; offers = m.sides.offers };
          held = m.held;
        }
    by false = m

parks-rests : (b : History) (s : State) → IsKept s → Parks b s → Rests b s
parks-rests b s k m = record { kept = k; story = m.story; tells = m.tells; ties = m.ties; parking = m.parking; main = m.main; sides = m.sides; held = m.held }

-- a greenlet that is its own host
own-goes : (b : History) (g h : ℕ) (s : State) → is_plain s.greenlets g ≡ true → Goes b g h s → Goes b g g s
own-goes b g h s p m = subst (λ z. Goes b g z s) (sym m.moves.same ∙ host-plain (length s.greenlets) s.greenlets g (plain-raw s.greenlets g p)) m

-- it waits until what it offered is taken; such a wait has no deadline
abbrev pub is_offer : Waiting → Bool
is_offer (Waiting.Offered o) = true
is_offer w = false

-- where another wait parks, nothing is offered
offerless-wake : (g : ℕ) (w : Waiting) (s : State) → is_offer w ≡ false → has_no_wait g s.items ≡ true → HasNoOffer g (drawn w (add_item (Delivery.Wake g w) s)).items
offerless-wake g w s e free = by (draws w)
  where
    none : (w : Waiting) → is_offer w ≡ false → not (is_offering g (Delivery.Wake g w)) ≡ true
    none (Waiting.Offered o) e = absurd (cc e)
    none w e = refl

    all : HasNoOffer g (add_item (Delivery.Wake g w) s).items
    all = all-end (λ (i : Item). not (is_offering g i.delivery)) s.items _ (free-offerless g s.items free) (none w e)

    by : (c : Bool) → HasNoOffer g (if c then record (add_item (Delivery.Wake g w) s) { timeouts = s.timeouts + 1 } else add_item (Delivery.Wake g w) s).items
    by true = all
    by false = all

pub parked-rests : (b : History) (g h : ℕ) (word : Awaited) (w : Waiting) (deadline : Option ℕ) (s : State) → is_plain s.greenlets g ≡ true → (is_some deadline && is_offer w) ≡ false →
    (HasMain s.scenario → fits_wait s.scenario w ≡ true) → Goes b g h s →
    Rests b (parked g word w deadline s)
parked-rests b g h word w None s p u z m =
    parks-rests b (parked g word w None s) (kept-parked g word w None s (own-host g h s p m.moves) m.moves.kept) (parks-wake b g word w (until_of w None) s z (own-goes b g h s p m))
parked-rests b g h word w (Some deadline) s p u z m =
    let t = add_item (Delivery.Wake g w) (say (Line.Park g word (Some deadline)) s) in
    let n = (if draws w then (drawn w t).timeouts else 0) in
    parks-rests b (parked g word w (Some deadline) s) (kept-parked g word w (Some deadline) s (own-host g h s p m.moves) m.moves.kept)
    (parks-late b g deadline n (drawn w t) (offerless-wake g w (say (Line.Park g word (Some deadline)) s) u (going-free g s m.moves.kept (going g h s m.moves))) (parks-drawn b w t (parks-wake b g word w (Some deadline) s z (own-goes b g h s p m))))

pub goes-drawn : (b : History) (w : Waiting) (g h : ℕ) (s : State) → Goes b g h s → Goes b g h (drawn w s)
goes-drawn b w g h s m = by (draws w)
  where
    by : (c : Bool) → Goes b g h (if c then record s { timeouts = s.timeouts + 1 } else s)
    by true = goes-timeout b g h s m
    by false = m

waits-at : (b : History) (g h : ℕ) (word : Awaited) (w : Waiting) (how : Wait) (s : State) → is_plain s.greenlets g ≡ true → is_offer w ≡ false → (HasMain s.scenario → fits_wait s.scenario w ≡ true) → Goes b g h s → IsFineAt b g h (waits g word w how s)
waits-at b g h word w Wait.Block s p u z m = parked-rests b g h word w None s p refl z m
waits-at b g h word w (Wait.Within ms) s p u z m = parked-rests b g h word w (Some (s.moment + ms)) s p u z m
waits-at b g h word w Wait.Now s p u z m = goes-drawn b w g h s m

-- ---- members

-- a new greenlet with its start
pub goes-spawned : (b : History) (deadline : Option ℕ) (parent f : ℕ) (args : List Value) (g h : ℕ) (s : State) → (HasMain s.scenario → is_function s.scenario f ≡ true) → Goes b g h s →
    Goes b g h (add_item (Delivery.Start (length s.greenlets) deadline) (add_greenlet false parent f args s))
goes-spawned b deadline parent f args g h s e m =
    goes-add b g h (Delivery.Start (length s.greenlets) deadline) (add_greenlet false parent f args s) (moves-spawned deadline parent f args g h s m.moves) (λ k. refl) refl (λ n. refl) refl (λ w. refl) tt
    (goes-made b false parent f args g h s refl e m)

pub goes-member : (b : History) (o f : ℕ) (args : List Value) (g h : ℕ) (s : State) → (HasMain s.scenario → is_function s.scenario f ≡ true) → Goes b g h s → Goes b g h (add_member o f args s)
goes-member b o f args g h s e m =
    let k = length s.greenlets in
    let t = add_item (Delivery.Start k None) (add_greenlet false 0 f args s) in
    goes-object b o (with_member k (object_at o t)) g h t (member-kept k (object_at o t)) (more-offers k (object_at o t)) (moves-member o f args g h s m.moves) (goes-spawned b None 0 f args g h s e m)

-- ---- a job is posted

contains-end : {X : Type 0} (xs : List X) (y x : X) → Contains (xs ++ y ∷ []) x → Contains xs x ⊎ (y ≡ x)
contains-end [] y x (zero, low, e) = inr e
contains-end [] y x (suc k, low, e) = absurd (omega (arith, low))
contains-end (z ∷ xs) y x (zero, low, e) = inl (zero, omega arith, e)
contains-end (z ∷ xs) y x (suc k, low, e) = by (contains-end xs y x (k, omega (arith, low), e))
  where
    by : Contains xs x ⊎ (y ≡ x) → Contains (z ∷ xs) x ⊎ (y ≡ x)
    by (inl (j, l, f)) = inl (suc j, omega (arith, l), f)
    by (inr f) = inr f

contains-more : {X : Type 0} (xs : List X) (y x : X) → Contains xs x → Contains (xs ++ y ∷ []) x
contains-more [] y x (k, low, e) = absurd (omega (arith, low))
contains-more (z ∷ xs) y x (zero, low, e) = (zero, omega arith, e)
contains-more (z ∷ xs) y x (suc k, low, e) = let r = contains-more xs y x (k, omega (arith, low), e) in let l = r.1 in (suc r.0, omega (arith, l), r.2)

contains-last : {X : Type 0} (xs : List X) (y : X) → Contains (xs ++ y ∷ []) y
contains-last [] y = (zero, omega arith, refl)
contains-last (z ∷ xs) y = let r = contains-last xs y in let l = r.1 in (suc r.0, omega (arith, l), r.2)

-- what stands in a longer list stood there, or is the last
get-end : {X : Type 0} (xs : List X) (y : X) (p : ℕ) (x : X) → slice_get (xs ++ y ∷ []) p ≡ Some x → (slice_get xs p ≡ Some x) ⊎ ((p ≡ length xs) × (y ≡ x))
get-end [] y zero x e = inr (refl, cc e)
get-end [] y (suc p) x e = absurd (cc e)
get-end (z ∷ xs) y zero x e = inl e
get-end (z ∷ xs) y (suc p) x e = by (get-end xs y p x e)
  where
    by : (slice_get xs p ≡ Some x) ⊎ ((p ≡ length xs) × (y ≡ x)) → (slice_get (z ∷ xs) (suc p) ≡ Some x) ⊎ ((suc p ≡ length (z ∷ xs)) × (y ≡ x))
    by (inl f) = inl f
    by (inr f) = inr (ap suc f.0, f.1)

counted-end : (n : ℕ) (ps : List PostedJob) (p : PostedJob) → p.number ≡ n + length ps → are_counted n ps ≡ true → are_counted n (ps ++ p ∷ []) ≡ true
counted-end n [] p e h = and_from (p.number == n) true (grind (arith, nat_tests, e)) refl
counted-end n (q ∷ ps) p e h =
    and_from (q.number == n) (are_counted (n + 1) (ps ++ p ∷ [])) (left (q.number == n) _ h) (counted-end (n + 1) ps p (omega (arith, e)) (right (q.number == n) _ h))

int-itself : (z : ℤ) → int_eq z z ≡ true
int-itself (pos n) = grind (arith, nat_tests)
int-itself (negsuc n) = grind (arith, nat_tests)

fault-itself : (f : FaultKind) → fault_eq f f ≡ true
fault-itself (FaultKind.Error z) = int-itself z
fault-itself (FaultKind.Timeout n) = itself n
fault-itself f = refl

outcome-itself : (o : JobOutcome) → outcome_eq o o ≡ true
outcome-itself (JobOutcome.Int z) = int-itself z
outcome-itself (JobOutcome.Fault f) = fault-itself f

length-more : {X : Type 0} (xs : List X) (x : X) → length (xs ++ x ∷ []) ≡ length xs + 1
length-more xs x = length-append xs (x ∷ [])

pub goes-posted : (b : History) (g h o : ℕ) (job : Job) (takes : ℕ) (s : State) → Moves g h (posted g o job takes s) → Goes b g h s → Goes b g h (posted g o job takes s)
goes-posted b g h o job takes s moves m =
    record {
      moves = moves;
      story = with_line line (with_post post m.story);
      tells = tells-line b (with_post post m.story) s.lines (s.posts ++ post ∷ []) line lawful (tells-post b m.story s.lines s.posts post m.tells);
      ties = record {
        ended = λ k. m.ties.ended k;
        fresh = λ k e z. fresh k (k == g) refl e z;
        parked = λ k e. parks k (k == g) refl e;
        links = λ n e. m.ties.links n e;
        jobs = λ j other c. told j other (contains-end m.story.posts (as_posted post) (job_posted j other) c);
        fewer = λ j e.
            let high = ap (nat_le j) (sym (length-more s.jobs new)) ∙ e in
            let apart : (j == number) ≡ false = grind (arith, nat_tests, high) in
            let still : nat_le j (length s.jobs) ≡ false = grind (arith, nat_tests, high) in
            count-other (is_job_line j) line m.story.past apart ∙ m.ties.fewer j still;
        done = λ j. m.ties.done j;
        rising = m.ties.rising;
        heard = heard;
      };
      parking = m.parking;
      main = m.main;
      sides = record { kills = m.sides.kills; bodies = m.sides.bodies; fit = m.sides.fit; known = known-objects s.scenario s.greenlets s.items s.objects (slice_set s.objects o (with_slot_taken (object_at o s))) (λ w d. kinds-set s.objects o (with_slot_taken (object_at o s)) (slot-kept (object_at o s))) m.sides.known; offers = offers-set s.objects o (with_slot_taken (object_at o s)) s.items s.next_since (fewer-same (offers_at o s.objects) (offers_of (with_slot_taken (object_at o s))) (slot-offers (object_at o s))) m.sides.offers };
      held = m.held;
    }
  where
    number : ℕ
    number = length s.jobs + 1

    new : JobState
    new = record { job = job; pool = o; outcome = None }

    post : Post
    post = record { number = length s.jobs + 1; job = job; takes = takes }

    line : Line
    line = Line.Job (length s.jobs + 1) g job

    heard : IsHeard (m.story.posts ++ as_posted post ∷ []) m.story.answers s.moment (s.jobs ++ new ∷ [])
    heard = record {
      now = m.ties.heard.now;
      many = length-more m.story.posts (as_posted post) ∙ ap (λ n. n + 1) m.ties.heard.many ∙ sym (length-more s.jobs new);
      counted = counted-end 1 m.story.posts (as_posted post) (let e = m.ties.heard.many in omega (arith, e)) m.ties.heard.counted;
      later = λ j e.
          let high = ap (nat_le j) (sym (length-more s.jobs new)) ∙ e in
          let still : nat_le j (length s.jobs) ≡ false = grind (arith, nat_tests, high) in
          m.ties.heard.later j still;
      unanswered = λ p x e z. of p x (get-end s.jobs new p x e) z;
    }
      where
        above : nat_le (length s.jobs + 1) (length s.jobs) ≡ false
        above = grind (arith, nat_tests)

        of : (p : ℕ) (x : JobState) → (slice_get s.jobs p ≡ Some x) ⊎ ((p ≡ length s.jobs) × (new ≡ x)) → is_none x.outcome ≡ true →
            Contains (m.story.posts ++ as_posted post ∷ []) (job_posted (p + 1) x.job) × (is_answered (p + 1) m.story.answers ≡ false)
        of p x (inl e) z = let u = m.ties.heard.unanswered p x e z in (contains-more m.story.posts (as_posted post) (job_posted (p + 1) x.job) u.0, u.1)
        of p x (inr e) z =
            subst (λ (y : JobState). Contains (m.story.posts ++ as_posted post ∷ []) (job_posted (p + 1) y.job) × (is_answered (p + 1) m.story.answers ≡ false)) e.1
            (subst (λ n. Contains (m.story.posts ++ as_posted post ∷ []) (job_posted (n + 1) job) × (is_answered (n + 1) m.story.answers ≡ false)) (sym e.0)
            (contains-last m.story.posts (as_posted post), m.ties.heard.later (length s.jobs + 1) above))

    lawful : IsLawful m.story.past line
    lawful = record { once = refl; last = ap not (m.ties.ended g ∙ live-not-over _ m.moves.live); parked = refl; links = refl; rising = refl; jobs = refl }

    fresh : (k : ℕ) (c : Bool) → (k == g) ≡ c → is_some_number k None ≡ false → is_begun (phase_of k s.greenlets) ≡ false → find (is_of k) (line ∷ m.story.past) ≡ None
    fresh k true e f z =
        absurd (cc (live-begun (phase_of g s.greenlets) m.moves.live, subst (λ i. is_begun (phase_of i s.greenlets) ≡ false) (equal k g e) z))
    fresh k false e f z = find-other k line m.story.past e ∙ m.ties.fresh k f z

    parks : (k : ℕ) (c : Bool) → (k == g) ≡ c → has_wake k s.items ≡ true → is_park (find (is_of k) (line ∷ m.story.past)) ≡ true
    parks k true e f =
        absurd (cc (free-wakeless g s.items (going-free g s m.moves.kept (going g h s m.moves)), subst (λ i. has_wake i s.items ≡ true) (equal k g e) f))
    parks k false e f = ap is_park (find-other k line m.story.past e) ∙ m.ties.parked k f

    old : (j : ℕ) (other : Job) → IsJobTold (length s.jobs) j other m.story.past → IsJobTold (length (s.jobs ++ new ∷ [])) j other (line ∷ m.story.past)
    old j other t =
        let low = t.within in
        let apart : (j == number) ≡ false = grind (arith, nat_tests, low) in
        let u = told-other (length s.jobs) j other line m.story.past apart t in
        let more : nat_le j (length s.jobs + 1) ≡ true = grind (arith, nat_tests, low) in
        record { within = ap (nat_le j) (length-more s.jobs new) ∙ more; one = u.one; gives = u.gives }

    own : IsJobTold (length (s.jobs ++ new ∷ [])) number job (line ∷ m.story.past)
    own =
        let top : nat_le number (length s.jobs + 1) ≡ true = grind (arith, nat_tests) in
        let above : nat_le number (length s.jobs) ≡ false = grind (arith, nat_tests) in
        let counted : count_by (is_job_line number) (line ∷ m.story.past) ≡ cond (number == number) 1 0 + count_by (is_job_line number) m.story.past =
        sum_by-cons (λ l. cond (is_job_line number l) 1 0) line m.story.past in
        let one : ◌≡◌ {A = ℕ} (cond (number == number) 1 0) 1 = ap (λ z. cond z 1 0) (itself number) in
        let none = m.ties.fewer number above in
        record {
          within = ap (nat_le number) (length-more s.jobs new) ∙ top;
          one = omega (arith, counted, one, none);
          gives = ap (λ z. gives_outcome (eval job) (cond z (Some line) (find (is_job_line number) m.story.past))) (itself number) ∙ outcome-itself (eval job);
        }

    told : (j : ℕ) (other : Job) → Contains m.story.posts (job_posted j other) ⊎ (as_posted post ≡ job_posted j other) → IsJobTold (length (s.jobs ++ new ∷ [])) j other (line ∷ m.story.past)
    told j other (inl c) = old j other (m.ties.jobs j other c)
    told j other (inr e) =
        let same : number ≡ j = ap (λ (p : PostedJob). p.number) e in
        let alike : job ≡ other = ap (λ (p : PostedJob). p.job) e in
        subst (λ z. IsJobTold (length (s.jobs ++ new ∷ [])) j z (line ∷ m.story.past)) alike (subst (λ z. IsJobTold (length (s.jobs ++ new ∷ [])) z job (line ∷ m.story.past)) same own)

-- ---- completions

map_ends-at : (b : History) (g h o : ℕ) (made : List ℕ) (s : State) → is_plain s.greenlets g ≡ true → (HasMain s.scenario → is_wanted s.scenario wanted.GroupOrPool o ≡ true) → Goes b g h s → IsFineAt b g h (map_ends g o made s)
map_ends-at b g h o made s p zo m = by (newcomer_completes s g (Waiting.MapEnd o made))
  where
    by : (c : Bool) → IsFineAt b g h (if c then Performed.Answers (gathered (map (outcome_of_greenlet s) made) []) s
        else Performed.Parks (parked g (Awaited.Map (name_of_object o s)) (Waiting.MapEnd o made) None s))
    by true = m
    by false = parked-rests b g h (Awaited.Map (name_of_object o s)) (Waiting.MapEnd o made) None s p refl zo m

pub maps-at : (xs : List Scalar) (b : History) (g h o f : ℕ) (made : List ℕ) (s : State) → is_plain s.greenlets g ≡ true → (HasMain s.scenario → is_wanted s.scenario wanted.GroupOrPool o ≡ true) → (HasMain s.scenario → is_function s.scenario f ≡ true) → Goes b g h s → IsFineAt b g h (maps xs g o f made s)
maps-at [] b g h o f made s p zo e m = map_ends-at b g h o made s p zo m
maps-at (x ∷ xs) b g h o f made s p zo e m =
    let args : List Value = value_of_scalar x ∷ [] in
    by (newcomer_completes s g (Waiting.MapPlace o f (x ∷ xs) made)) (has_greenlet_left s)
    (maps-at xs b g h o f (made ++ length s.greenlets ∷ []) (add_member o f args s) (plain-more s.greenlets _ g p) zo e (goes-member b o f args g h s e m))
  where
    by : (c d : Bool) → IsFineAt b g h (maps xs g o f (made ++ length s.greenlets ∷ []) (add_member o f (value_of_scalar x ∷ []) s)) →
        IsFineAt b g h (elim c [
          | false ↦ Performed.Parks (parked g (Awaited.Map (name_of_object o s)) (Waiting.MapPlace o f (x ∷ xs) made) None s)
          | true ↦ elim d [
            | false ↦ Performed.Stops StopCause.NoGreenlets s
            | true ↦ maps xs g o f (made ++ length s.greenlets ∷ []) (add_member o f (value_of_scalar x ∷ []) s)
          ]
        ])
    by false d rest = parked-rests b g h (Awaited.Map (name_of_object o s)) (Waiting.MapPlace o f (x ∷ xs) made) None s p refl (λ w. and_from _ _ (zo w) (e w)) m
    by true false rest = goes-ends b g h s m
    by true true rest = rest

map_goes_on-at : (xs : List Scalar) (b : History) (g h o f : ℕ) (made : List ℕ) (s : State) → is_plain s.greenlets g ≡ true → (HasMain s.scenario → is_wanted s.scenario wanted.GroupOrPool o ≡ true) → (HasMain s.scenario → is_function s.scenario f ≡ true) → Goes b g h s → IsFineAt b g h (map_goes_on xs g o f made s)
map_goes_on-at [] b g h o f made s p zo e m = map_ends-at b g h o made s p zo m
map_goes_on-at (x ∷ xs) b g h o f made s p zo e m = by (has_greenlet_left s)
  where
    by : (c : Bool) → IsFineAt b g h (if c then maps xs g o f (made ++ length s.greenlets ∷ []) (add_member o f (value_of_scalar x ∷ []) s) else Performed.Stops StopCause.NoGreenlets s)
    by true = maps-at xs b g h o f (made ++ length s.greenlets ∷ []) (add_member o f (value_of_scalar x ∷ []) s) (plain-more s.greenlets _ g p) zo e (goes-member b o f (value_of_scalar x ∷ []) g h s e m)
    by false = goes-ends b g h s m

made_member-at : (b : History) (g h o f : ℕ) (args : List Value) (s : State) → (HasMain s.scenario → is_function s.scenario f ≡ true) → Goes b g h s → IsFineAt b g h (made_member o f args s)
made_member-at b g h o f args s e m = by (has_greenlet_left s)
  where
    by : (c : Bool) → IsFineAt b g h (if c then Performed.Answers (Outcome.Value (Value.Greenlet (length s.greenlets))) (add_member o f args s) else Performed.Stops StopCause.NoGreenlets s)
    by true = goes-member b o f args g h s e m
    by false = goes-ends b g h s m

puts-at : (b : History) (g h o : ℕ) (v : Value) (s : State) → Goes b g h s → IsFineAt b g h (puts_item o v (object_at o s) s)
puts-at b g h o v s m = by (is_shut (object_at o s))
  where
    by : (c : Bool) → IsFineAt b g h (if c then raises FaultKind.ShutDown s else Performed.Answers nothing (with_object o (with_item v (object_at o s)) s))
    by true = m
    by false = goes-object b o (with_item v (object_at o s)) g h s (item-kept v (object_at o s)) (item-offers v (object_at o s)) (moves-change (with_item v) o g h s (item-plain s.greenlets v) m.moves) m

takes-at : (b : History) (g h o before : ℕ) (s : State) → Goes b g h s → IsFineAt b g h (takes_item o before (object_at o s) s)
takes-at b g h o before s m = by (is_left before (object_at o s))
  where
    by : (c : Bool) → IsFineAt b g h (if c then Performed.Answers (Outcome.Value (item_of (object_at o s))) (with_object o (with_item_taken (object_at o s)) s) else raises FaultKind.ShutDown s)
    by true = goes-object b o (with_item_taken (object_at o s)) g h s (taken-kept (object_at o s)) (taken-offers (object_at o s)) (moves-change with_item_taken o g h s (taken-plain s.greenlets) m.moves) m
    by false = m

peeks-at : (b : History) (g h o before : ℕ) (s : State) → Goes b g h s → IsFineAt b g h (peeks_item before (object_at o s) s)
peeks-at b g h o before s m = by (is_left before (object_at o s))
  where
    by : (c : Bool) → IsFineAt b g h (if c then Performed.Answers (Outcome.Value (item_of (object_at o s))) s else raises FaultKind.ShutDown s)
    by true = m
    by false = m

pub completes-at : (b : History) (g h since : ℕ) (w : Waiting) (s : State) → is_plain s.greenlets g ≡ true → (HasMain s.scenario → fits_wait s.scenario w ≡ true) → Goes b g h s →
    IsFineAt b g h (completes g since w s)
completes-at b g h since (Waiting.Acquire o) s p z m = goes-object b o (with_unit_taken (object_at o s)) g h s (unit-kept (object_at o s)) (unit-offers (object_at o s)) (completes-fine g h since (Waiting.Acquire o) s p m.moves) m
completes-at b g h since (Waiting.Lock o) s p z m = goes-object b o (with_owner g (object_at o s)) g h s (owner-kept g (object_at o s)) (owner-offers g (object_at o s)) (completes-fine g h since (Waiting.Lock o) s p m.moves) m
completes-at b g h since (Waiting.Put o v) s p z m = puts-at b g h o v s m
completes-at b g h since (Waiting.Take o) s p z m = takes-at b g h o (earlier (is_take o) since s.items) s m
completes-at b g h since (Waiting.Peek o) s p z m = peeks-at b g h o (earlier (is_take o) since s.items) s m
completes-at b g h since (Waiting.TakeOffer o) s p z m = goes-put b o (with_offer_taken (object_at o s)) g h s (λ w d. offer_taken-kept (object_at o s)) (taken-fewer (object_at o s)) (completes-fine g h since (Waiting.TakeOffer o) s p m.moves) m
completes-at b g h since (Waiting.Place o f args) s p z m = made_member-at b g h o f args s (λ w. right (is_wanted s.scenario wanted.GroupOrPool o) _ (z w)) m
completes-at b g h since (Waiting.MapPlace o f xs made) s p z m =
    map_goes_on-at xs b g h o f made s p (λ w. left _ (is_function s.scenario f) (z w)) (λ w. right (is_wanted s.scenario wanted.GroupOrPool o) _ (z w)) m
completes-at b g h since (Waiting.Slot o job takes) s p z m = goes-posted b g h o job takes s (completes-fine g h since (Waiting.Slot o job takes) s p m.moves) m
completes-at b g h since w s p z m = m

pub comes-at : (b : History) (g h : ℕ) (word : Awaited) (w : Waiting) (how : Wait) (s : State) → is_plain s.greenlets g ≡ true → is_offer w ≡ false → (HasMain s.scenario → fits_wait s.scenario w ≡ true) → Goes b g h s → IsFineAt b g h (comes g word w how s)
comes-at b g h word w how s p u z m = by (newcomer_completes s g w)
  where
    by : (c : Bool) → IsFineAt b g h (if c then completes g s.next_since w s else waits g word w how s)
    by true = completes-at b g h s.next_since w s p z m
    by false = waits-at b g h word w how s p u z m

-- an offer parks
pub offered-at : (b : History) (g h o : ℕ) (v : Value) (s : State) → is_plain s.greenlets g ≡ true → (HasMain s.scenario → is_wanted s.scenario wanted.Channel o ≡ true) → Goes b g h s → Rests b (offered g o v s)
offered-at b g h o v s p z m =
    let t = parked g (Awaited.ChannelPut (name_of_object o s)) (Waiting.Offered o) None s in
    rests-objects b (slice_set s.objects o (with_offer v s.next_since (object_at o s))) t (kinds-set s.objects o (with_offer v s.next_since (object_at o s)) (offer-kept v s.next_since (object_at o s)))
    (offers-offered g o v s.objects s.items s.next_since (free-lateless g s.items (going-free g s m.moves.kept (going g h s m.moves))) m.sides.offers)
    (offered-fine g h o v s p m.moves) (parked-rests b g h (Awaited.ChannelPut (name_of_object o s)) (Waiting.Offered o) None s p refl z m)

-- ---- kinds of operands

pub typed-at : {A : Type 0} (b : History) (g h : ℕ) (x : Option A) (s : State) (go : A → Performed) → Goes b g h s → ((y : A) → x ≡ Some y → IsFineAt b g h (go y)) → IsFineAt b g h (typed x s go)
typed-at b g h None s go m f = m
typed-at b g h (Some y) s go m f = f y refl

pub on_host-at : (b : History) (g h k : ℕ) (s : State) (go : Performed) → Goes b g h s → (host_of s k ≡ h → IsFineAt b g h go) → IsFineAt b g h (on_host g k s go)
on_host-at b g h k s go m f = by (host_of s g == host_of s k) refl
  where
    by : (c : Bool) → (host_of s g == host_of s k) ≡ c → IsFineAt b g h (if c then go else raises FaultKind.InvalidSwitch s)
    by true e = f (sym (equal (host_of s g) (host_of s k) e) ∙ m.moves.same)
    by false e = m
