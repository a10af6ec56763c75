-- Deliveries, LoopExit, answers and the beginning, soundly.
use Rattle.std.proofs.Common.{◌≡◌, refl, ap, ◌∙◌, sym, subst, ℕ, zero, suc, ◌+◌, Bool, true, false, List, [], ◌∷◌, length, map, arith}
use Rattle.std.proofs.lemmas.Bool.{and_from}
use Rattle.std.proofs.lemmas.Bool.Decides.{nat_tests}
use Rattle.std.specs.Prelude.{not, ◌==◌, slice_get, Option, Some, None, if◌then◌else◌, nat_le}
use Rattle.std.specs.List.{list_all}
use Rattle.gv_values.specs.declared.value.Value.{Value}
use Rattle.gv_values.specs.declared.value.Outcome.{Outcome}
use Rattle.gv_values.specs.declared.fault.FaultKind.{FaultKind}
use Rattle.gv_values.specs.declared.job.Answer.{Answer}
use Rattle.gv_values.specs.declared.job.JobOutcome.{JobOutcome}
use Rattle.world_rules.specs.Legal.{moment_of}
use Rattle.scenario_tree.specs.declared.tree.Declaration.{Declaration}
use Rattle.scenario_tree.specs.declared.tree.Object.{Object as Declared}
use Rattle.scenario_tree.specs.declared.tree.Scenario.{Scenario}
use Rattle.trace_text.specs.declared.line.Line.{Line}
use Rattle.trace_text.specs.declared.line.LinkCall.{LinkCall}
use Rattle.trace_text.specs.declared.line.Resumed.{Resumed}
use Rattle.trace_text.specs.declared.line.StopCause.{StopCause}
use Rattle.machine.specs.declared.items.Delivery.{Delivery}
use Rattle.machine.specs.declared.items.Item.{Item}
use Rattle.gv_values.specs.declared.link.LinkKind.{LinkKind}
use Rattle.machine.specs.declared.items.Waiting.{Waiting}
use Rattle.machine.specs.declared.state.Greenlet.{Greenlet}
use Rattle.machine.specs.declared.state.JobState.{JobState}
use Rattle.machine.specs.declared.state.Object.{Object}
use Rattle.machine.specs.declared.state.Phase.{Phase}
use Rattle.machine.specs.State.{State, say}
use Rattle.machine.specs.Questions.{take_answer, job_done, arrives}
use Rattle.machine.specs.Objects.{with_slot_freed, with_flag, object_at, name_of_object, without_offer}
use Rattle.machine.specs.Deliveries.{waiting_of, without_wait, without, without_item, arguments, interrupts, since_of_wake, without_offer_by, late, calls, called, delivers, deliver}
use Rattle.machine.specs.Holds.{job_at}
use Rattle.machine.specs.Soundness.{phase_of, Claim, ascend, are_single, claim_of, is_live, is_meant, is_unclaimed, same_claim}
use Rattle.machine.specs.Landing.{Next, answered, resumes, lands, starts}
use Rattle.machine.specs.Greenlets.{add_greenlet, has_greenlet_left, greenlet, frame_of}
use Rattle.machine.specs.Items.{drop_items, is_wait_of, is_timeout_of}
use Rattle.machine.specs.Ends.{leaving_of, outcome_of_leaving}
use Rattle.machine.specs.Run.{first_state, object_of}
use Rattle.machine.specs.Settle.{settle}
use Rattle.machine.specs.Waits.{completes, late_outcome}
use Rattle.machine.proofs.Soundness.{ascend-lower}
use Rattle.machine_soundness.specs.Going.{is_plain, is_for_plain, has_plain_members, has_no_wait, IsKept, IsSoundAt}
use Rattle.machine.proofs.Halves.{left, right}
use Rattle.machine_soundness.proofs.Lists.{above, all-imply, all-map, all-filter, all-get, all-of, equal}
use Rattle.machine_soundness.proofs.Greenlets.{plain-raw, plain-phase, none-next, host-plain, unstarted-not-live}
use Rattle.machine_soundness.proofs.States.{Moves, all-settle, ascends, singles, meants, sound-of, kept-say, kept-settle, kept-drop, kept-object, kept-objects, kept-made}
use Rattle.machine_soundness.proofs.Landings.{after_end-plain, answered-soundly, starts-soundly}
use Rattle.machine_soundness.proofs.Requests.{completes-fine, next-plain, next-unclaimed, object-plain, flag-plain}
use Rattle.machine_soundness.proofs.Performs.{follows-soundly}

-- ---- an item is taken

pub all-without : (p : Item → Bool) (n : ℕ) (items : List Item) → list_all p items ≡ true → list_all p (without n items) ≡ true
all-without p n [] h = refl
all-without p n (i ∷ items) h = by (i.since == n) (all-without p n items (right (p i) _ h))
  where
    by : (b : Bool) → list_all p (without n items) ≡ true → list_all p (if b then items else (i ∷ without n items)) ≡ true
    by true rest = right (p i) _ h
    by false rest = and_from (p i) _ (left (p i) (list_all p items) h) rest

pub ascend-without : (n low next : ℕ) (items : List Item) → ascend low next items ≡ true → ascend low next (without n items) ≡ true
ascend-without n low next [] h = h
ascend-without n low next (i ∷ items) h = by (i.since == n) (ascend-without n (i.since + 1) next items (right (nat_le low i.since) _ h))
  where
    by : (b : Bool) → ascend (i.since + 1) next (without n items) ≡ true → ascend low next (if b then items else (i ∷ without n items)) ≡ true
    by true rest = ascend-lower low (i.since + 1) next items (above low i.since (left _ (ascend (i.since + 1) next items) h)) (right (nat_le low i.since) _ h)
    by false rest = and_from _ _ (left _ (ascend (i.since + 1) next items) h) rest

pub single-without : (n : ℕ) (items : List Item) → are_single items ≡ true → are_single (without n items) ≡ true
single-without n [] h = refl
single-without n (i ∷ items) h = by (i.since == n) (single-without n items (right (is_unclaimed (claim_of i.delivery) items) _ h))
  where
    by : (b : Bool) → are_single (without n items) ≡ true → are_single (if b then items else (i ∷ without n items)) ≡ true
    by true rest = right (is_unclaimed (claim_of i.delivery) items) _ h
    by false rest = and_from _ _ (all-without _ n items (left _ (are_single items) h)) rest

pub kept-without : (i : Item) (s : State) → IsKept s → IsKept (without_item i s)
kept-without i s h =
    record {
      sound = sound-of (without_item i s) (ascend-without i.since 0 s.next_since s.items (ascends s h.sound)) (single-without i.since s.items (singles s h.sound))
          (all-without _ i.since s.items (meants s h.sound));
      owners = all-without _ i.since s.items h.owners;
      members = h.members;
      main = h.main;
    }

-- an item further on has a higher since
pub later : (low next n : ℕ) (items : List Item) (i : Item) → ascend low next items ≡ true → slice_get items n ≡ Some i → nat_le low i.since ≡ true
later low next n [] i h e = absurd (cc e)
later low next zero (j ∷ items) i h e = let same : j ≡ i = cc e in subst (λ (x : Item). nat_le low x.since ≡ true) same (left _ (ascend (j.since + 1) next items) h)
later low next (suc n) (j ∷ items) i h e =
    let above : nat_le (j.since + 1) i.since ≡ true = later (j.since + 1) next n items i (right (nat_le low j.since) _ h) e in
    let here : nat_le low j.since ≡ true = left _ (ascend (j.since + 1) next items) h in
    grind (arith, nat_tests)

-- what a start says, no other says after it is taken
pub start-gone : (low next n g : ℕ) (items : List Item) (i : Item) → claim_of i.delivery ≡ Some (Claim.StartOf g) → ascend low next items ≡ true → are_single items ≡ true → slice_get items n ≡ Some i →
    is_unclaimed (Some (Claim.StartOf g)) (without i.since items) ≡ true
start-gone low next n g [] i c h k e = absurd (cc e)
start-gone low next zero g (j ∷ items) i c h k e =
    let same : j ≡ i = cc e in
    let claim : claim_of j.delivery ≡ Some (Claim.StartOf g) = ap (λ (x : Item). claim_of x.delivery) same ∙ c in
    let rest : is_unclaimed (Some (Claim.StartOf g)) items ≡ true = subst (λ (x : Option Claim). is_unclaimed x items ≡ true) claim (left _ (are_single items) k) in
    let own : (j.since == i.since) ≡ true = let s : j.since ≡ i.since = ap (λ (x : Item). x.since) same in grind (arith, nat_tests) in
    subst (λ (b : Bool). is_unclaimed (Some (Claim.StartOf g)) (if b then items else (j ∷ without i.since items)) ≡ true) (sym own) rest
start-gone low next (suc n) g (j ∷ items) i c h k e =
    let above : nat_le (j.since + 1) i.since ≡ true = later (j.since + 1) next n items i (right (nat_le low j.since) _ h) e in
    let other : (j.since == i.since) ≡ false = grind (arith, nat_tests) in
    let rest = start-gone (j.since + 1) next n g items i c (right (nat_le low j.since) _ h) (right (is_unclaimed (claim_of j.delivery) items) _ k) e in
    let apart : not (same_claim (claim_of j.delivery) (claim_of i.delivery)) ≡ true = all-get _ items n i e (left _ (are_single items) k) in
    let mine : not (same_claim (Some (Claim.StartOf g)) (claim_of j.delivery)) ≡ true = turned (claim_of j.delivery) (subst (λ (x : Option Claim). not (same_claim (claim_of j.delivery) x) ≡ true) c apart) in
    subst (λ (b : Bool). is_unclaimed (Some (Claim.StartOf g)) (if b then items else (j ∷ without i.since items)) ≡ true) (sym other) (and_from _ _ mine rest)
  where
    flip : (a b : ℕ) → not (a == b) ≡ true → not (b == a) ≡ true
    flip a b e = let same : (a == b) ≡ (b == a) = grind (arith, nat_tests) in subst (λ z. not z ≡ true) same e

    turned : (x : Option Claim) → not (same_claim x (Some (Claim.StartOf g))) ≡ true → not (same_claim (Some (Claim.StartOf g)) x) ≡ true
    turned None e = refl
    turned (Some (Claim.StartOf k)) e = flip k g e
    turned (Some (Claim.WakeOf k)) e = refl
    turned (Some (Claim.LateOf k)) e = refl
    turned (Some (Claim.TimeoutNumbered k)) e = refl
    turned (Some (Claim.LinkNumbered k)) e = refl

-- ---- one that is not raw takes an input at its statement

-- the Wake and Late are gone
pub no-wait-left : (g : ℕ) (s : State) → has_no_wait g (without_wait g s).items ≡ true
no-wait-left g s = all-filter _ (λ i. true) _ s.items (λ i k p. k) (all-of (λ i. true) s.items (λ i. refl))

-- one that is live, is not raw and has no wait
pub free-moves : (g : ℕ) (s : State) → is_plain s.greenlets g ≡ true → is_live (phase_of g s.greenlets) ≡ true → has_no_wait g s.items ≡ true → IsKept s → Moves g g s
free-moves g s p l f k =
    record { kept = k; live = l; same = host-plain (length s.greenlets) s.greenlets g (plain-raw s.greenlets g p); host = record { plain = p; live = l; free = f } }

-- what is answered at one that is not live ends
ends-answered : (g : ℕ) (o : Outcome) (x : Phase) (s : State) → is_live (Some x) ≡ false → is_plain s.greenlets g ≡ true → IsKept s →
    IsSoundAt (resumes lands g (frame_of x) o s)
ends-answered g o (Phase.New args) s e p k =
    after_end-plain lands g (outcome_of_leaving (leaving_of o)) (drop_items (is_timeout_of g []) s) (plain-raw s.greenlets g p) (kept-drop (is_timeout_of g []) s k)
ends-answered g o (Phase.Done out) s e p k =
    after_end-plain lands g (outcome_of_leaving (leaving_of o)) (drop_items (is_timeout_of g []) s) (plain-raw s.greenlets g p) (kept-drop (is_timeout_of g []) s k)
ends-answered g o (Phase.Live frame) s e p k = absurd (cc e)

plain-answered : (g : ℕ) (o : Outcome) (s : State) → is_plain s.greenlets g ≡ true → has_no_wait g s.items ≡ true → IsKept s → IsSoundAt (answered g o s)
plain-answered g o s p f k = by (is_live (Some (greenlet g s).phase)) refl
  where
    by : (b : Bool) → is_live (Some (greenlet g s).phase) ≡ b → IsSoundAt (answered g o s)
    by true e = answered-soundly g g o s (free-moves g s p (ap is_live (plain-phase s.greenlets g p) ∙ e) f k)
    by false e = ends-answered g o (greenlet g s).phase s e p k

-- a settling keeps it free
settled-free : (g : ℕ) (s : State) → has_no_wait g s.items ≡ true → has_no_wait g (settle s).items ≡ true
settled-free g s h = all-settle (λ d. not (is_wait_of g d)) s ∙ h

without-plain : (gs : List Greenlet) (since : ℕ) (x : Object) → has_plain_members gs x ≡ true → has_plain_members gs (without_offer since x) ≡ true
without-plain gs since (Object.Channel offers) h = refl
without-plain gs since x h = h

-- an offer goes
pub offer-gone : (o : Option ℕ) (s : State) → IsKept s → IsKept (without_offer_by o s)
offer-gone None s h = h
offer-gone (Some since) s h = kept-objects (map (without_offer since) s.objects) s (all-map (without_offer since) _ _ s.objects (without-plain s.greenlets since) h.members) h

pub interrupts-soundly : (g : ℕ) (f : FaultKind) (s : State) → is_plain s.greenlets g ≡ true → IsKept s → IsSoundAt (interrupts g f s)
unfolding interrupts
interrupts-soundly g f s p k =
    let u = without_offer_by (since_of_wake g s.items) s in
    let t = say (Line.Throw g f) (without_wait g u) in
    let kept : IsKept u = offer-gone (since_of_wake g s.items) s k in
    let plain : is_plain u.greenlets g ≡ true = same-greenlets (since_of_wake g s.items) in
    plain-answered g (Outcome.Fault f) (settle t) plain (settled-free g t (no-wait-left g u)) (kept-settle t (kept-say _ _ (kept-drop (is_wait_of g) u kept)))
  where
    same-greenlets : (o : Option ℕ) → is_plain (without_offer_by o s).greenlets g ≡ true
    same-greenlets None = p
    same-greenlets (Some since) = p

late-soundly : (g n : ℕ) (w : Option Waiting) (s : State) → is_plain s.greenlets g ≡ true → IsKept s → IsSoundAt (late g n w s)
late-soundly g n None s p k = k
late-soundly g n (Some w) s p k =
    let t = without_wait g (say (Line.Resume g Resumed.Late) s) in
    plain-answered g (late_outcome w n (settle t)) (settle t) p (settled-free g t (no-wait-left g (say (Line.Resume g Resumed.Late) s)))
    (kept-settle t (kept-drop (is_wait_of g) _ (kept-say (Line.Resume g Resumed.Late) s k)))

-- ---- starts

-- one that is not live has no wait
pub asleep-free : (g : ℕ) (s : State) → (is_live (phase_of g s.greenlets) ≡ true → ⊥) → IsKept s → has_no_wait g s.items ≡ true
asleep-free g s f h = all-imply _ _ s.items (λ i. none i.delivery) (meants s h.sound)
  where
    by : (k : ℕ) (b : Bool) → (g == k) ≡ b → is_live (phase_of k s.greenlets) ≡ true → not b ≡ true
    by k true e m = absurd (f (ap (λ z. is_live (phase_of z s.greenlets)) (equal g k e) ∙ m))
    by k false e m = refl

    none : (d : Delivery) → is_meant s d ≡ true → not (is_wait_of g d) ≡ true
    none (Delivery.Start k deadline) m = refl
    none (Delivery.Wake k w) m = by k (g == k) refl m
    none (Delivery.Late k deadline n) m = by k (g == k) refl m
    none (Delivery.Timeout k n deadline) m = refl
    none (Delivery.Kill k kind) m = refl
    none (Delivery.Link n k kind x) m = refl

-- the function of a link runs in a new greenlet
calls-soundly : (k g f : ℕ) (s : State) → IsKept s → IsSoundAt (calls k g f s)
calls-soundly k g f s h = by (has_greenlet_left s)
  where
    none : is_live (phase_of (length s.greenlets) s.greenlets) ≡ true → ⊥
    none e = cc (ap is_live (none-next s.greenlets), e)

    by : (b : Bool) → IsSoundAt (if b then
        starts lands (length s.greenlets) (Value.Greenlet g ∷ []) (add_greenlet false 0 f (Value.Greenlet g ∷ []) (say (Line.Link k g (LinkCall.Greenlet (length s.greenlets))) s))
        else Next.Over StopCause.NoGreenlets s)
    by true =
        starts-soundly (length s.greenlets) (Value.Greenlet g ∷ []) (add_greenlet false 0 f (Value.Greenlet g ∷ []) (say (Line.Link k g (LinkCall.Greenlet (length s.greenlets))) s))
        (next-plain 0 f (Value.Greenlet g ∷ []) s) (next-unclaimed s h) (asleep-free (length s.greenlets) s none h)
        (kept-made false 0 f (Value.Greenlet g ∷ []) _ (kept-say _ s h))
    by false = h

called-soundly : (k g : ℕ) (kind : LinkKind) (f : ℕ) (s : State) → IsKept s → IsSoundAt (called k g kind f s)
called-soundly k g (LinkKind.Mark x) f s h = kept-settle _ (kept-say (Line.Link k g (LinkCall.Mark x)) s h)
called-soundly k g (LinkKind.Set o) f s h =
    kept-settle _ (kept-object o (with_flag true (object_at o s)) _ (flag-plain s.greenlets true (object_at o s) (object-plain o s h)) (kept-say (Line.Link k g (LinkCall.Set (name_of_object o s))) s h))
called-soundly k g LinkKind.Any f s h = calls-soundly k g f s h
called-soundly k g LinkKind.Value f s h = calls-soundly k g f s h
called-soundly k g LinkKind.Fault f s h = calls-soundly k g f s h

-- ---- a delivery

-- the item is one of the state's
pub claimed : (n : ℕ) (i : Item) (d : Delivery) (s : State) → d ≡ i.delivery → slice_get s.items n ≡ Some i → IsKept s → is_meant s d ≡ true
claimed n i d s e there h = subst (λ (x : Delivery). is_meant s x ≡ true) (sym e) (all-get (λ j. is_meant s j.delivery) s.items n i there (meants s h.sound))

pub owned : (n : ℕ) (i : Item) (d : Delivery) (s : State) → d ≡ i.delivery → slice_get s.items n ≡ Some i → IsKept s → is_for_plain s.greenlets d ≡ true
owned n i d s e there h = subst (λ (x : Delivery). is_for_plain s.greenlets x ≡ true) (sym e) (all-get (λ j. is_for_plain s.greenlets j.delivery) s.items n i there h.owners)

-- what it delivers, where it is taken
taken-soundly : (n : ℕ) (i : Item) (d : Delivery) (s : State) → d ≡ i.delivery → slice_get s.items n ≡ Some i → IsKept s → IsSoundAt (delivers i.since d (without_item i s))
taken-soundly n i (Delivery.Start g deadline) s e there h =
    let new = claimed n i (Delivery.Start g deadline) s e there h in
    starts-soundly g (arguments (greenlet g s).phase) (without_item i s) (owned n i (Delivery.Start g deadline) s e there h)
    (start-gone 0 s.next_since n g s.items i (ap claim_of (sym e)) (ascends s h.sound) (singles s h.sound) there)
    (all-without _ i.since s.items (asleep-free g s (unstarted-not-live (phase_of g s.greenlets) new) h)) (kept-without i s h)
taken-soundly n i (Delivery.Wake g w) s e there h =
    let t = without_wait g (say (Line.Resume g Resumed.Wake) (without_item i s)) in
    let k : IsKept t = kept-drop (is_wait_of g) _ (kept-say (Line.Resume g Resumed.Wake) _ (kept-without i s h)) in
    let plain : is_plain t.greenlets g ≡ true = owned n i (Delivery.Wake g w) s e there h in
    let m : Moves g g t = free-moves g t plain (claimed n i (Delivery.Wake g w) s e there h) (no-wait-left g (say (Line.Resume g Resumed.Wake) (without_item i s))) k in
    follows-soundly g g (completes g i.since w t) (completes-fine g g i.since w t plain m)
taken-soundly n i (Delivery.Late g deadline m) s e there h =
    late-soundly g m (waiting_of g (without_item i s).items) (without_item i s) (owned n i (Delivery.Late g deadline m) s e there h) (kept-without i s h)
taken-soundly n i (Delivery.Timeout g m deadline) s e there h =
    interrupts-soundly g (FaultKind.Timeout m) (without_item i s) (owned n i (Delivery.Timeout g m deadline) s e there h) (kept-without i s h)
taken-soundly n i (Delivery.Kill g f) s e there h = interrupts-soundly g f (without_item i s) (owned n i (Delivery.Kill g f) s e there h) (kept-without i s h)
taken-soundly n i (Delivery.Link k g kind f) s e there h = called-soundly k g kind f (without_item i s) (kept-without i s h)

pub deliver-soundly : (n : ℕ) (i : Item) (s : State) → slice_get s.items n ≡ Some i → IsKept s → IsSoundAt (deliver i s)
unfolding deliver
deliver-soundly n i s there h = taken-soundly n i i.delivery s refl there h

-- ---- answers

pub freed-plain : (gs : List Greenlet) (x : Object) → has_plain_members gs x ≡ true → has_plain_members gs (with_slot_freed x) ≡ true
freed-plain gs (Object.Native slots outstanding) h = refl
freed-plain gs x h = h

arrives-kept : (j : ℕ) (o : JobOutcome) (job : Option JobState) (s : State) → IsKept s → IsKept (arrives j o job s)
arrives-kept j o None s h = h
arrives-kept j o (Some job) s h =
    kept-object job.pool (with_slot_freed (object_at job.pool s)) _ (freed-plain s.greenlets (object_at job.pool s) (object-plain job.pool s h))
    (record { sound = h.sound; owners = h.owners; members = h.members; main = h.main })

pub done-kept : (answer : Answer) (s : State) → IsKept s → IsKept (job_done answer s)
done-kept (Answer.Nothing t) s h = h
done-kept (Answer.Done j o t) s h = arrives-kept j o (job_at j s.jobs) s h
done-kept (Answer.Elapsed t) s h = h

pub take_answer-kept : (answer : Answer) (s : State) → IsKept s → IsKept (take_answer answer s)
unfolding take_answer
take_answer-kept answer s h =
    kept-settle _ (kept-say (Line.Turn s.turns answer) _
    (done-kept answer (record s { moment = moment_of answer }) (record { sound = h.sound; owners = h.owners; members = h.members; main = h.main })))

-- ---- the beginning

pub first-kept : (c : Scenario) → IsKept (first_state c)
first-kept c = record { sound = refl; owners = refl; members = none c.objects; main = refl }
  where
    new : (x : Declared) → has_plain_members (first_state c).greenlets (object_of x) ≡ true
    new Declared.Event = refl
    new Declared.Result = refl
    new (Declared.Semaphore n) = refl
    new (Declared.BoundedSemaphore n) = refl
    new Declared.Lock = refl
    new (Declared.Queue kind size) = refl
    new Declared.Group = refl
    new (Declared.Pool n) = refl
    new (Declared.Native n) = refl
    new Declared.Channel = refl

    none : (ds : List Declaration) → list_all (has_plain_members (first_state c).greenlets) (map (λ d. object_of d.object) ds) ≡ true
    none [] = refl
    none (d ∷ ds) = and_from _ _ (new d.object) (none ds)

pub begins-soundly : (c : Scenario) → IsSoundAt (starts lands 0 [] (first_state c))
begins-soundly c = starts-soundly 0 [] (first_state c) refl refl refl (first-kept c)
