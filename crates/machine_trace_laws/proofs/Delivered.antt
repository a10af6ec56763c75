-- Deliveries, LoopExit, answers and the beginning, lawfully.
use Rattle.std.proofs.Common.{◌≡◌, refl, ap, ◌∙◌, sym, subst, ℕ, zero, suc, ◌+◌, ◌-◌, ◌≤◌, Bool, true, false, List, [], ◌∷◌, ◌++◌, length, map, cond, arith}
use Rattle.std.proofs.lemmas.Bool.{and_from}
use Rattle.std.proofs.lemmas.Bool.Decides.{nat_tests}
use Rattle.std.proofs.lemmas.List.Sums.{sum_by-cons}
use Rattle.std.specs.Prelude.{not, ◌==◌, ◌&&◌, ◌||◌, slice_get, slice_set, Option, Some, None, if◌then◌else◌, is_none, nat_le, find, count_by, unwrap_or, Contains}
use Rattle.std.specs.List.{list_any}
use Rattle.gv_values.specs.declared.value.Value.{Value}
use Rattle.gv_values.specs.declared.value.Outcome.{Outcome}
use Rattle.gv_values.specs.declared.value.Whom.{Whom}
use Rattle.gv_values.specs.declared.fault.FaultKind.{FaultKind}
use Rattle.gv_values.specs.declared.job.Answer.{Answer}
use Rattle.gv_values.specs.declared.job.Job.{Job}
use Rattle.gv_values.specs.declared.job.JobOutcome.{JobOutcome}
use Rattle.world_rules.specs.declared.question.Question.{Question}
use Rattle.world_rules.specs.Legal.{Answers, IsLegal, is_answered, is_done_of, last_answered_moment as last_answered, moment_of, posted}
use Rattle.scenario_tree.specs.declared.tree.Scenario.{Scenario}
use Rattle.trace_text.specs.declared.line.Line.{Line}
use Rattle.trace_text.specs.declared.line.LinkCall.{LinkCall}
use Rattle.trace_text.specs.declared.line.Resumed.{Resumed}
use Rattle.trace_text.specs.declared.line.StopCause.{StopCause}
use Rattle.machine.specs.declared.items.Delivery.{Delivery}
use Rattle.machine.specs.declared.items.Item.{Item}
use Rattle.gv_values.specs.declared.link.LinkKind.{LinkKind}
use Rattle.machine.specs.declared.items.Waiting.{Waiting}
use Rattle.machine.specs.declared.state.Greenlet.{Greenlet}
use Rattle.machine.specs.declared.state.JobState.{JobState}
use Rattle.machine.specs.declared.state.Leaving.{Leaving}
use Rattle.machine.specs.declared.state.Object.{Object}
use Rattle.machine.specs.declared.state.Phase.{Phase}
use Rattle.machine.specs.declared.state.Todo.{Todo}
use Rattle.machine.specs.State.{State, say}
use Rattle.machine.specs.Questions.{arrives, is_numbered, job_done, take_answer}
use Rattle.machine.specs.Objects.{with_slot_freed, with_flag, name_of_object, object_at, with_object, without_offer}
use Rattle.machine.specs.Deliveries.{arguments, called, calls, deliver, delivers, interrupts, late, since_of_wake, waiting_of, without, without_item, without_offer_by, without_wait}
use Rattle.machine.specs.Holds.{delivery_holds, holds, job_at, link_holds, outcome_of, wakes}
use Rattle.machine.specs.Soundness.{phase_of, Claim, are_single, ascend, claim_of, is_live, is_meant, is_unclaimed, is_unstarted, same_claim}
use Rattle.machine.specs.TraceLaws.{gives_outcome, is_done_line, is_job_line, is_link_line, is_some_number, jobs_done_once, last_moment_of, throws_at_parked}
use Rattle.machine.specs.Greenlets.{add_greenlet, function_of, greenlet, has_greenlet_left, named, nobody}
use Rattle.machine.specs.Landing.{answered, lands, Next, starts}
use Rattle.machine.specs.Items.{is_wait_of}
use Rattle.machine.specs.Request.{is_kill}
use Rattle.machine.specs.Unwinding.{unwind}
use Rattle.machine.specs.Run.{first_state}
use Rattle.machine.specs.Settle.{settle}
use Rattle.machine.proofs.Changes.{slice_get-set_other}
use Rattle.machine.specs.Waits.{completes, late_outcome}
use Rattle.machine_soundness.specs.Going.{has_no_wait, is_plain, IsKept}
use Rattle.machine_soundness.specs.Laws.{is_wake_of}
use Rattle.machine.proofs.Halves.{left, right}
use Rattle.machine_soundness.proofs.Lists.{all-end, all-filter, all-get, equal, get-last, itself, length-set, unequal}
use Rattle.machine_soundness.proofs.Greenlets.{at, live-more, none-next, plain-found, unstarted-not-live}
use Rattle.machine_soundness.proofs.Deliveries.{all-without, asleep-free, claimed, first-kept, free-moves, kept-without, later, no-wait-left, offer-gone, owned, start-gone, take_answer-kept}
use Rattle.machine_soundness.proofs.Requests.{flag-plain, next-plain, next-unclaimed, object-plain}
use Rattle.machine.proofs.Soundness.{same-symmetric}
use Rattle.machine_soundness.proofs.States.{all-settle, ascends, kept-drop, kept-made, kept-object, kept-say, kept-settle, meants, singles}
use Rattle.machine_well_formed.specs.Kinds.{kinds}
use Rattle.machine_well_formed.proofs.KindLemmas.{first-kinds, flag-kept, freed-kept, kinds-map, kinds-set, offer_gone-kept}
use Rattle.machine_trace_laws.proofs.Histories.{History, IsLawful, Tells, at_first, tells-line, tells-nothing, with_line}
use Rattle.machine_trace_laws.proofs.Settled.{is_settled, outcome-phase, outcome_at, same-equal, same_bool, settled-more, settled-settle, settled-taken}
use Rattle.machine_offers.specs.Offers.{awaits_taking, offers_at, offers_of}
use Rattle.machine_offers.proofs.Offers.{AreKeptOffers, HasNoOffer, fewer-same, flag-offers, freed-offers, late-offerless, numbered-unawaited, offers-broken_off, offers-drop_of, offers-first, offers-gone, offers-items, offers-set, unclaimed-offerless, unfound-offerless, waits-spared}
use Rattle.machine_offers.proofs.Anys.{any-end, any-kept}
use Rattle.machine_trace_laws.proofs.Ties.{IsJobTold, IsOwn, Ties, any-settle, begun-more, count-other, free-wakeless, is_over, lawful-own, live-begun, live-not-over, over-more, told-other, ties-drop, ties-greenlets, ties-items, ties-loose, ties-own, ties-say, ties-settle}
use Rattle.machine_well_formed.specs.Texts.{IsFitText, is_fit_greenlet, is_held, HasMain, fits_item, fits_link, is_function}
use Rattle.machine_trace_laws.proofs.Placed.{placed-start}
use Rattle.machine_trace_laws.proofs.Goings.{AreHeld, AreParkedBut, At, Ends, Goes, Loose, Rests, Sides, goes-settle, held-more, parked-more, rests-objects, rests-settle, sides-drop, sides-settle, known-items, known-made, known-objects}
use Rattle.machine_trace_laws.proofs.Landed.{answered-at, goes_on-plain-at, loose-say, own-start}
use Rattle.machine_trace_laws.proofs.Asked.{completes-at}
use Rattle.machine_trace_laws.proofs.Moved.{follows-at, own-throw}

-- ---- an item is taken

any-without : (p : Item → Bool) (low next n : ℕ) (items : List Item) (i : Item) → ascend low next items ≡ true → slice_get items n ≡ Some i → p i ≡ false →
    list_any p (without i.since items) ≡ list_any p items
any-without p low next n [] i h e f = refl
any-without p low next zero (j ∷ items) i h e f =
    let same : j ≡ i = cc e in
    let own : (j.since == i.since) ≡ true = let s : j.since ≡ i.since = ap (λ (x : Item). x.since) same in grind (arith, nat_tests) in
    let uncounted : p j ≡ false = ap p same ∙ f in
    ap (λ (b : Bool). list_any p (if b then items else (j ∷ without i.since items))) own ∙ ap (λ b. b || list_any p items) (sym uncounted)
any-without p low next (suc n) (j ∷ items) i h e f =
    let above : nat_le (j.since + 1) i.since ≡ true = later (j.since + 1) next n items i (right (nat_le low j.since) _ h) e in
    let other : (j.since == i.since) ≡ false = grind (arith, nat_tests) in
    ap (λ (b : Bool). list_any p (if b then items else (j ∷ without i.since items))) other
    ∙ ap (λ c. p j || c) (any-without p (j.since + 1) next n items i (right (nat_le low j.since) _ h) e f)

count-fewer : (p : Item → Bool) (n : ℕ) (items : List Item) → count_by p (without n items) ≤ count_by p items
count-fewer p n [] = omega arith
count-fewer p n (i ∷ items) = by (i.since == n) (count-fewer p n items)
  where
    by : (b : Bool) → count_by p (without n items) ≤ count_by p items → count_by p (if b then items else (i ∷ without n items)) ≤ count_by p (i ∷ items)
    by true e =
        let r : count_by p (i ∷ items) ≡ cond (p i) 1 0 + count_by p items = sum_by-cons (λ y. cond (p y) 1 0) i items in
        omega (arith, r)
    by false e =
        let l : count_by p (i ∷ without n items) ≡ cond (p i) 1 0 + count_by p (without n items) = sum_by-cons (λ y. cond (p y) 1 0) i (without n items) in
        let r : count_by p (i ∷ items) ≡ cond (p i) 1 0 + count_by p items = sum_by-cons (λ y. cond (p y) 1 0) i items in
        omega (arith, l, r, e)

-- what it says, no other says
claim-gone : (low next n : ℕ) (c : Claim) (items : List Item) (i : Item) → claim_of i.delivery ≡ Some c → ascend low next items ≡ true → are_single items ≡ true → slice_get items n ≡ Some i →
    is_unclaimed (Some c) (without i.since items) ≡ true
claim-gone low next n c [] i f h k e = absurd (cc e)
claim-gone low next zero c (j ∷ items) i f h k e =
    let same : j ≡ i = cc e in
    let claim : claim_of j.delivery ≡ Some c = ap (λ (x : Item). claim_of x.delivery) same ∙ f in
    let rest : is_unclaimed (Some c) items ≡ true = subst (λ (x : Option Claim). is_unclaimed x items ≡ true) claim (left _ (are_single items) k) in
    let own : (j.since == i.since) ≡ true = let s : j.since ≡ i.since = ap (λ (x : Item). x.since) same in grind (arith, nat_tests) in
    subst (λ (b : Bool). is_unclaimed (Some c) (if b then items else (j ∷ without i.since items)) ≡ true) (sym own) rest
claim-gone low next (suc n) c (j ∷ items) i f h k e =
    let above : nat_le (j.since + 1) i.since ≡ true = later (j.since + 1) next n items i (right (nat_le low j.since) _ h) e in
    let other : (j.since == i.since) ≡ false = grind (arith, nat_tests) in
    let rest = claim-gone (j.since + 1) next n c items i f (right (nat_le low j.since) _ h) (right (is_unclaimed (claim_of j.delivery) items) _ k) e in
    let apart : not (same_claim (claim_of j.delivery) (claim_of i.delivery)) ≡ true = all-get _ items n i e (left _ (are_single items) k) in
    let told : not (same_claim (claim_of j.delivery) (Some c)) ≡ true = subst (λ (x : Option Claim). not (same_claim (claim_of j.delivery) x) ≡ true) f apart in
    let mine : not (same_claim (Some c) (claim_of j.delivery)) ≡ true = ap not (same-symmetric (Some c) (claim_of j.delivery)) ∙ told in
    subst (λ (b : Bool). is_unclaimed (Some c) (if b then items else (j ∷ without i.since items)) ≡ true) (sym other) (and_from _ _ mine rest)

sides-taken : (n : ℕ) (i : Item) (s : State) → IsKept s → slice_get s.items n ≡ Some i → is_numbered i ≡ true → Sides s → Sides (without_item i s)
sides-taken n i s kept there numbered m = let less = count-fewer (λ (j : Item). is_kill j.delivery) i.since s.items in let k = m.kills in record { kills = omega (arith, less, k); bodies = m.bodies; fit = m.fit; known = known-items s.scenario s.greenlets s.items (without i.since s.items) s.objects (λ p e. all-without p i.since s.items e) m.known; offers = offers-items s.objects s.items (without i.since s.items) s.next_since (λ p e. all-without p i.since s.items e) (λ o k e. any-without (awaits_taking o k) 0 s.next_since n s.items i (ascends s kept.sound) there (numbered-unawaited o k i numbered) ∙ e) m.offers }

parked-taken : (x : Option ℕ) (n : ℕ) (i : Item) (s : State) → IsKept s → slice_get s.items n ≡ Some i → ((k : ℕ) → is_some_number k x ≡ false → is_wake_of k i.delivery ≡ false) →
    AreParkedBut x s → AreParkedBut x (without_item i s)
parked-taken x n i s kept there w f k e p l =
    any-without (λ (j : Item). is_wake_of k j.delivery) 0 s.next_since n s.items i (ascends s kept.sound) there (w k e) ∙ f k e p l

rests-taken : (b : History) (n : ℕ) (i : Item) (s : State) → slice_get s.items n ≡ Some i → is_numbered i ≡ true → ((k : ℕ) → is_wake_of k i.delivery ≡ false) → Rests b s → Rests b (without_item i s)
rests-taken b n i s there numbered w m =
    record {
      kept = kept-without i s m.kept;
      story = m.story;
      tells = m.tells;
      ties = ties-items None m.story (without i.since s.items) s (λ p e. all-without p i.since s.items e) m.ties;
      parking = parked-taken None n i s m.kept there (λ k e. w k) m.parking;
      main = m.main;
      sides = sides-taken n i s m.kept there numbered m.sides;
      held = all-without _ i.since s.items m.held;
    }

-- ---- one that is not raw takes an input at its statement

pub own-resume : (g : ℕ) (by : Resumed) → IsOwn g (Line.Resume g by)
own-resume g by =
    record {
      names = refl;
      no_end = λ k. refl;
      no_link = λ k. refl;
      no_job = λ k. refl;
      no_done = λ k. refl;
      no_turn = λ l. refl;
      once = λ l. refl;
      unlinked = λ l. refl;
      timeless = λ l. refl;
      jobless = λ l. refl;
    }

turned : (a b : ℕ) → (a == b) ≡ (b == a)
turned a b = grind (arith, nat_tests)

-- its wait goes, with a line of its own
unparked : (b : History) (g : ℕ) (line : Line) (s : State) (story : History) → IsOwn g line → throws_at_parked story.past line ≡ true → is_plain s.greenlets g ≡ true →
    is_live (phase_of g s.greenlets) ≡ true → IsKept s → Tells b story s.lines s.posts → Ties None story s → AreParkedBut (Some g) s →
    is_live (phase_of 0 s.greenlets) ≡ true → Sides s → AreKeptOffers s.objects (without_wait g s).items s.next_since → AreHeld s.greenlets s.items → Goes b g g (say line (without_wait g s))
unparked b g line s story o parked p l kept tells ties parking main sides offers held =
    let t = without_wait g s in
    record {
      moves = free-moves g (say line t) p l (no-wait-left g s) (kept-say line t (kept-drop (is_wait_of g) s kept));
      story = with_line line story;
      tells = tells-line b story s.lines s.posts line (lawful-own None g line story s o (live-not-over _ l) parked ties) tells;
      ties = ties-say None (with_line line story) line t
          (ties-own None g line story t o (λ e. live-begun _ l) (free-wakeless g t.items (no-wait-left g s)) (ties-drop None story (is_wait_of g) s ties));
      parking = λ k e q d. any-kept (λ (i : Item). not (is_wait_of g i.delivery)) (λ (i : Item). is_wake_of k i.delivery) s.items (λ i. by k e i.delivery) (parking k e q d);
      main = main;
      sides = record { kills = (sides-drop (is_wait_of g) s offers sides).kills; bodies = sides.bodies; fit = sides.fit; known = (sides-drop (is_wait_of g) s offers sides).known; offers = offers };
      held = all-filter _ _ _ s.items (λ i k z. z) held;
    }
  where
    by : (k : ℕ) → (k == g) ≡ false → (d : Delivery) → is_wake_of k d ≡ true → not (is_wait_of g d) ≡ true
    by k e (Delivery.Wake j w) z = let same : k ≡ j = equal k j z in ap not (ap (λ i. g == i) (sym same) ∙ turned g k ∙ e)
    by k e (Delivery.Start j deadline) z = absurd (cc z)
    by k e (Delivery.Late j deadline n) z = absurd (cc z)
    by k e (Delivery.Timeout j n deadline) z = absurd (cc z)
    by k e (Delivery.Kill j f) z = absurd (cc z)
    by k e (Delivery.Link n j kind f) z = absurd (cc z)

pub interrupts-at : (b : History) (g : ℕ) (f : FaultKind) (s : State) → is_plain s.greenlets g ≡ true → is_live (phase_of g s.greenlets) ≡ true → Rests b s → At b (interrupts g f s)
unfolding interrupts
interrupts-at b g f s p l m =
    of (without_offer_by (since_of_wake g s.items) s) (plain (since_of_wake g s.items)) (going (since_of_wake g s.items)) (rests (since_of_wake g s.items)) (offers (since_of_wake g s.items) refl)
  where
    plain : (o : Option ℕ) → is_plain (without_offer_by o s).greenlets g ≡ true
    plain None = p
    plain (Some since) = p

    going : (o : Option ℕ) → is_live (phase_of g (without_offer_by o s).greenlets) ≡ true
    going None = l
    going (Some since) = l

    rests : (o : Option ℕ) → Rests b (without_offer_by o s)
    rests None = m
    rests (Some since) = rests-objects b (map (without_offer since) s.objects) s (kinds-map (without_offer since) (offer_gone-kept since) s.objects) (offers-gone since s.objects s.items s.next_since m.sides.offers) (offer-gone (Some since) s m.kept) m

    offers : (o : Option ℕ) → since_of_wake g s.items ≡ o → AreKeptOffers (without_offer_by o s).objects (without_wait g (without_offer_by o s)).items (without_offer_by o s).next_since
    offers None e = offers-drop_of g (is_wait_of g) s.objects s.items s.next_since (λ o d. waits-spared g o d) (unfound-offerless g s.items (singles s m.kept.sound) e) m.sides.offers
    offers (Some since) e = offers-broken_off g since s.objects s.items s.next_since (singles s m.kept.sound) e m.sides.offers

    of : (u : State) → is_plain u.greenlets g ≡ true → is_live (phase_of g u.greenlets) ≡ true → Rests b u → AreKeptOffers u.objects (without_wait g u).items u.next_since → At b (answered g (Outcome.Fault f) (settle (say (Line.Throw g f) (without_wait g u))))
    of u p l m offers =
        let t = say (Line.Throw g f) (without_wait g u) in
        let park = m.ties.parked g (m.parking g refl p l) in
        answered-at b g g (Outcome.Fault f) (settle t) (settled-settle t)
        (goes-settle b g g t (unparked b g (Line.Throw g f) u m.story (own-throw g f) park p l m.kept m.tells m.ties (λ k e q d. m.parking k refl q d) m.main m.sides offers m.held))

late-at : (b : History) (g n : ℕ) (w : Option Waiting) (s : State) → is_plain s.greenlets g ≡ true → is_live (phase_of g s.greenlets) ≡ true → is_settled s ≡ true → HasNoOffer g s.items → Rests b s →
    At b (late g n w s)
late-at b g n None s p l st none m = (m, st)
late-at b g n (Some w) s p l st none m =
    let t = without_wait g (say (Line.Resume g Resumed.Late) s) in
    answered-at b g g (late_outcome w n (settle t)) (settle t) (settled-settle t)
    (goes-settle b g g t (unparked b g (Line.Resume g Resumed.Late) s m.story (own-resume g Resumed.Late) refl p l m.kept m.tells m.ties (λ k e q d. m.parking k refl q d) m.main m.sides
    (offers-drop_of g (is_wait_of g) s.objects s.items s.next_since (λ o d. waits-spared g o d) none m.sides.offers) m.held))

-- ---- starts

there-of : (gs : List Greenlet) (g : ℕ) → is_plain gs g ≡ true → slice_get gs g ≡ Some (at gs g)
there-of gs g p = let f = plain-found gs g p in f.1 ∙ ap (λ (x : Greenlet). Some x) (ap (λ o. unwrap_or o nobody) (sym f.1))

unstarted-not-over : (p : Option Phase) → is_unstarted p ≡ true → is_over p ≡ false
unstarted-not-over None e = refl
unstarted-not-over (Some (Phase.New args)) e = refl
unstarted-not-over (Some (Phase.Live frame)) e = refl
unstarted-not-over (Some (Phase.Done o)) e = absurd (cc e)

-- one that is New and not raw starts
starts-new : (b : History) (g : ℕ) (args : List Value) (s : State) → is_plain s.greenlets g ≡ true → is_unstarted (phase_of g s.greenlets) ≡ true → is_unclaimed (Some (Claim.StartOf g)) s.items ≡ true →
    has_no_wait g s.items ≡ true → is_settled s ≡ true → IsKept s → (story : History) → Tells b story s.lines s.posts → Ties None story s → AreParkedBut (Some g) s →
    ((0 == g) ≡ false → is_live (phase_of 0 s.greenlets) ≡ true) → Sides s → AreHeld s.greenlets s.items → At b (starts lands g args s)
starts-new b g args s p new u f st kept story tells ties parking main sides held =
    let line = Line.Start g (function_of (greenlet g s).function s).name in
    let loose : Loose b g g s = record {
      kept = kept;
      there = there-of s.greenlets g p;
      going = unstarted-not-over (phase_of g s.greenlets) new;
      story = story;
      tells = tells;
      ties = ties-loose (Some g) story s ties;
      parking = parking;
      main = main;
      sides = sides;
    } in
    goes_on-plain-at lands b g (unwind (Todo.Statements (function_of (greenlet g s).function s).body ∷ []) [] Leaving.Normally (named (function_of (greenlet g s).function s).parameters args))
    (say line s) p u f st
    (placed-start s.scenario g s.greenlets s.items (named (function_of (greenlet g s).function s).parameters args) new sides.bodies sides.fit held) (loose-say b g g line s (own-start g _) (λ before. refl) (free-wakeless g s.items f) loose)

-- ---- links

calls-at : (b : History) (k g f : ℕ) (s : State) → (HasMain s.scenario → is_function s.scenario f ≡ true) → is_settled s ≡ true → Rests b (say (Line.Link k g (LinkCall.Greenlet (length s.greenlets))) s) → Ends b s → At b (calls k g f s)
calls-at b k g f s e st m over = by (has_greenlet_left s)
  where
    y : Greenlet
    y = record { raw = false; parent = 0; function = f; phase = Phase.New (Value.Greenlet g ∷ []) }

    t : State
    t = say (Line.Link k g (LinkCall.Greenlet (length s.greenlets))) s

    none : is_live (phase_of (length s.greenlets) s.greenlets) ≡ true → ⊥
    none e = cc (ap is_live (none-next s.greenlets), e)

    last-new : is_unstarted (phase_of (length s.greenlets) (s.greenlets ++ y ∷ [])) ≡ true
    last-new = ap (λ (x : Option Greenlet). is_unstarted (elim x [ None ↦ None | Some z ↦ Some z.phase ])) (get-last s.greenlets y)

    by : (c : Bool) → At b (if c then
        starts lands (length s.greenlets) (Value.Greenlet g ∷ []) (add_greenlet false 0 f (Value.Greenlet g ∷ []) (say (Line.Link k g (LinkCall.Greenlet (length s.greenlets))) s))
        else Next.Over StopCause.NoGreenlets s)
    by true =
        starts-new b (length s.greenlets) (Value.Greenlet g ∷ []) (add_greenlet false 0 f (Value.Greenlet g ∷ []) t)
        (next-plain 0 f (Value.Greenlet g ∷ []) t) last-new (next-unclaimed t m.kept) (asleep-free (length s.greenlets) t none m.kept)
        (settled-more y t refl st) (kept-made false 0 f (Value.Greenlet g ∷ []) t m.kept) m.story m.tells
        (ties-greenlets None m.story (s.greenlets ++ y ∷ []) t (λ j. over-more s.greenlets y j refl) (λ j. begun-more s.greenlets y j) m.ties)
        (λ j e. parked-more None y t refl m.parking j refl) (λ e. live-more s.greenlets _ 0 m.main)
        (record { kills = m.sides.kills; bodies = m.sides.bodies; fit = all-end (is_fit_greenlet s.scenario) s.greenlets y m.sides.fit refl; known = known-made s.scenario s.greenlets y s.items s.objects e m.sides.known; offers = m.sides.offers })
        (held-more s.greenlets (y ∷ []) s.items m.held)
    by false = over

-- the line of the link
linked : (b : History) (n k g : ℕ) (kind : LinkKind) (f : ℕ) (call : LinkCall) (i : Item) (s : State) → i.delivery ≡ Delivery.Link k g kind f → slice_get s.items n ≡ Some i → is_numbered i ≡ true →
    is_settled s ≡ true → Rests b s → Rests b (say (Line.Link k g call) (without_item i s))
linked b n k g kind f call i s is there numbered st m =
    let line = Line.Link k g call in
    let t = without_item i s in
    let r = rests-taken b n i s there numbered (λ j. ap (is_wake_of j) is) m in
    record {
      kept = kept-say line t (kept-without i s m.kept);
      story = with_line line m.story;
      tells = tells-line b m.story s.lines s.posts line lawful m.tells;
      ties = ties-say None (with_line line m.story) line t (ties (ties-items None m.story (without i.since s.items) s (λ p e. all-without p i.since s.items e) m.ties));
      parking = r.parking;
      main = m.main;
      sides = record { kills = r.sides.kills; bodies = r.sides.bodies; fit = r.sides.fit; known = r.sides.known; offers = r.sides.offers };
      held = r.held;
    }
  where
    line : Line
    line = Line.Link k g call

    held : link_holds kind (outcome_of s (Whom.Greenlet g)) ≡ true
    held =
        let both-same = same-equal (is_numbered i) (holds s i) (all-get (λ (j : Item). same_bool (is_numbered j) (holds s j)) s.items n i there st) in
        subst (λ (d : Delivery). delivery_holds s i.since d ≡ true) is (sym both-same ∙ numbered)

    over : is_over (phase_of g s.greenlets) ≡ true
    over = by (phase_of g s.greenlets) (subst (λ (o : Option Outcome). link_holds kind o ≡ true) (outcome-phase s g) held)
      where
        by : (p : Option Phase) → link_holds kind (outcome_at p) ≡ true → is_over p ≡ true
        by None e = absurd (cc e)
        by (Some (Phase.New args)) e = absurd (cc e)
        by (Some (Phase.Live frame)) e = absurd (cc e)
        by (Some (Phase.Done o)) e = refl

    once : (c : Bool) → list_any (is_link_line k) m.story.past ≡ c → not c ≡ true
    once true e =
        let free = all-get (λ (j : Item). not (same_claim (Some (Claim.LinkNumbered k)) (claim_of j.delivery))) s.items n i there (right (nat_le k s.links) _ (m.ties.links k e)) in
        let own : same_claim (Some (Claim.LinkNumbered k)) (claim_of i.delivery) ≡ true = ap (λ (d : Delivery). same_claim (Some (Claim.LinkNumbered k)) (claim_of d)) is ∙ itself k in
        absurd (cc (free, ap not own))
    once false e = refl

    lawful : IsLawful m.story.past line
    lawful = record {
      once = refl;
      last = refl;
      parked = refl;
      links = and_from _ _ (m.ties.ended g ∙ over) (once (list_any (is_link_line k) m.story.past) refl);
      rising = refl;
      jobs = refl;
    }

    low : nat_le k s.links ≡ true
    low = subst (λ (d : Delivery). is_meant s d ≡ true) is (all-get (λ (j : Item). is_meant s j.delivery) s.items n i there (meants s m.kept.sound))

    gone : is_unclaimed (Some (Claim.LinkNumbered k)) (without i.since s.items) ≡ true
    gone = claim-gone 0 s.next_since n (Claim.LinkNumbered k) s.items i (ap claim_of is) (ascends s m.kept.sound) (singles s m.kept.sound) there

    ties : Ties None m.story (without_item i s) → Ties None (with_line (Line.Link k g call) m.story) (without_item i s)
    ties t = record {
      ended = t.ended;
      fresh = t.fresh;
      parked = t.parked;
      links = λ j e. links j (j == k) refl e;
      jobs = λ j job c. told-other (length s.jobs) j job line m.story.past refl (t.jobs j job c);
      fewer = λ j e. count-other (is_job_line j) line m.story.past refl ∙ t.fewer j e;
      done = t.done;
      rising = t.rising;
      heard = t.heard;
    }
      where
        links : (j : ℕ) (c : Bool) → (j == k) ≡ c → (c || list_any (is_link_line j) m.story.past) ≡ true →
            (nat_le j s.links && is_unclaimed (Some (Claim.LinkNumbered j)) (without i.since s.items)) ≡ true
        links j true e f = subst (λ z. (nat_le z s.links && is_unclaimed (Some (Claim.LinkNumbered z)) (without i.since s.items)) ≡ true) (sym (equal j k e)) (and_from _ _ low gone)
        links j false e f = t.links j f

called-at : (b : History) (k g : ℕ) (kind : LinkKind) (f : ℕ) (s : State) → (HasMain s.scenario → fits_link s.scenario kind f ≡ true) → is_settled s ≡ true → Ends b s → ((call : LinkCall) → Rests b (say (Line.Link k g call) s)) → At b (called k g kind f s)
called-at b k g (LinkKind.Mark x) f s z st over m =
    let t = say (Line.Link k g (LinkCall.Mark x)) s in
    let r = m (LinkCall.Mark x) in
    (rests-settle b t (kept-settle t r.kept) r, settled-settle t)
called-at b k g (LinkKind.Set o) f s z st over m =
    let u = say (Line.Link k g (LinkCall.Set (name_of_object o s))) s in
    let r = m (LinkCall.Set (name_of_object o s)) in
    let t = with_object o (with_flag true (object_at o s)) u in
    let kept : IsKept t = kept-object o (with_flag true (object_at o s)) u (flag-plain s.greenlets true (object_at o s) (object-plain o u r.kept)) r.kept in (
      rests-settle b t (kept-settle t kept) (record {
        kept = kept;
        story = r.story;
        tells = r.tells;
        ties = record {
          ended = r.ties.ended;
          fresh = r.ties.fresh;
          parked = r.ties.parked;
          links = r.ties.links;
          jobs = r.ties.jobs;
          fewer = r.ties.fewer;
          done = r.ties.done;
          rising = r.ties.rising;
          heard = r.ties.heard;
        };
        parking = r.parking;
        main = r.main;
        sides = record { kills = r.sides.kills; bodies = r.sides.bodies; fit = r.sides.fit; known = known-objects s.scenario s.greenlets s.items s.objects (slice_set s.objects o (with_flag true (object_at o s))) (λ w d. kinds-set s.objects o (with_flag true (object_at o s)) (flag-kept true (object_at o s))) r.sides.known; offers = offers-set s.objects o (with_flag true (object_at o s)) s.items s.next_since (fewer-same (offers_at o s.objects) (offers_of (with_flag true (object_at o s))) (flag-offers true (object_at o s))) r.sides.offers };
        held = r.held;
      }),
      settled-settle t,
    )
called-at b k g LinkKind.Any f s z st over m = calls-at b k g f s z st (m (LinkCall.Greenlet (length s.greenlets))) over
called-at b k g LinkKind.Value f s z st over m = calls-at b k g f s z st (m (LinkCall.Greenlet (length s.greenlets))) over
called-at b k g LinkKind.Fault f s z st over m = calls-at b k g f s z st (m (LinkCall.Greenlet (length s.greenlets))) over

-- ---- a delivery

-- what the item names is there
item-fits : (b : History) (n : ℕ) (i : Item) (d : Delivery) (s : State) → d ≡ i.delivery → slice_get s.items n ≡ Some i → Rests b s → HasMain s.scenario → fits_item s.scenario d ≡ true
item-fits b n i d s e there m w =
    subst (λ (x : Delivery). fits_item s.scenario x ≡ true) (sym e) (all-get (λ (j : Item). fits_item s.scenario j.delivery) s.items n i there (m.sides.known w).named)

settled-free : (n : ℕ) (i : Item) (d : Delivery) (s : State) → d ≡ i.delivery → slice_get s.items n ≡ Some i → ((test : Waiting → Bool) → wakes test d ≡ false) → is_settled s ≡ true → IsKept s →
    is_settled (without_item i s) ≡ true
settled-free n i d s e there f st kept = settled-taken n i s (ascends s kept.sound) there (λ test. ap (wakes test) (sym e) ∙ f test) st

taken-at : (b : History) (n : ℕ) (i : Item) (d : Delivery) (s : State) → d ≡ i.delivery → slice_get s.items n ≡ Some i → is_numbered i ≡ true → is_settled s ≡ true → Rests b s →
    At b (delivers i.since d (without_item i s))
taken-at b n i (Delivery.Start g deadline) s e there numbered st m =
    let new = claimed n i (Delivery.Start g deadline) s e there m.kept in
    starts-new b g (arguments (greenlet g s).phase) (without_item i s) (owned n i (Delivery.Start g deadline) s e there m.kept) new
    (start-gone 0 s.next_since n g s.items i (ap claim_of (sym e)) (ascends s m.kept.sound) (singles s m.kept.sound) there)
    (all-without _ i.since s.items (asleep-free g s (unstarted-not-live (phase_of g s.greenlets) new) m.kept))
    (settled-free n i (Delivery.Start g deadline) s e there (λ test. refl) st m.kept) (kept-without i s m.kept) m.story m.tells
    (ties-items None m.story (without i.since s.items) s (λ p h. all-without p i.since s.items h) m.ties)
    (λ k z. parked-taken None n i s m.kept there (λ j y. ap (is_wake_of j) (sym e)) m.parking k refl) (λ z. m.main) (sides-taken n i s m.kept there numbered m.sides) (all-without _ i.since s.items m.held)
taken-at b n i (Delivery.Wake g w) s e there numbered st m =
    let u = without_item i s in
    let line = Line.Resume g Resumed.Wake in
    let t = without_wait g (say line u) in
    let plain : is_plain u.greenlets g ≡ true = owned n i (Delivery.Wake g w) s e there m.kept in
    let sides : Sides u = sides-taken n i s m.kept there numbered m.sides in
    let went : Goes b g g t =
    unparked b g line u m.story (own-resume g Resumed.Wake) refl plain (claimed n i (Delivery.Wake g w) s e there m.kept) (kept-without i s m.kept) m.tells
    (ties-items None m.story (without i.since s.items) s (λ p h. all-without p i.since s.items h) m.ties)
    (parked-taken (Some g) n i s m.kept there (λ k z. ap (is_wake_of k) (sym e) ∙ z) (λ k z. m.parking k refl)) m.main sides
    (offers-drop_of g (is_wait_of g) u.objects u.items u.next_since (λ o d. waits-spared g o d)
    (unclaimed-offerless g u.items (claim-gone 0 s.next_since n (Claim.WakeOf g) s.items i (ap claim_of (sym e)) (ascends s m.kept.sound) (singles s m.kept.sound) there)) sides.offers) (all-without _ i.since s.items m.held) in
    follows-at b g g (completes g i.since w t) (completes-at b g g i.since w t plain (item-fits b n i (Delivery.Wake g w) s e there m) went)
taken-at b n i (Delivery.Late g deadline j) s e there numbered st m =
    late-at b g j (waiting_of g (without_item i s).items) (without_item i s) (owned n i (Delivery.Late g deadline j) s e there m.kept) (claimed n i (Delivery.Late g deadline j) s e there m.kept)
    (settled-free n i (Delivery.Late g deadline j) s e there (λ test. refl) st m.kept)
    (all-without _ i.since s.items (late-offerless g deadline j n i s.objects s.items s.next_since e there m.sides.offers)) (rests-taken b n i s there numbered (λ k. ap (is_wake_of k) (sym e)) m)
taken-at b n i (Delivery.Timeout g j deadline) s e there numbered st m =
    interrupts-at b g (FaultKind.Timeout j) (without_item i s) (owned n i (Delivery.Timeout g j deadline) s e there m.kept)
    (left _ (nat_le j s.timeouts) (claimed n i (Delivery.Timeout g j deadline) s e there m.kept)) (rests-taken b n i s there numbered (λ k. ap (is_wake_of k) (sym e)) m)
taken-at b n i (Delivery.Kill g f) s e there numbered st m =
    interrupts-at b g f (without_item i s) (owned n i (Delivery.Kill g f) s e there m.kept) (claimed n i (Delivery.Kill g f) s e there m.kept)
    (rests-taken b n i s there numbered (λ k. ap (is_wake_of k) (sym e)) m)
taken-at b n i (Delivery.Link k g kind f) s e there numbered st m =
    called-at b k g kind f (without_item i s) (item-fits b n i (Delivery.Link k g kind f) s e there m) (settled-free n i (Delivery.Link k g kind f) s e there (λ test. refl) st m.kept) (record { story = m.story; tells = m.tells; kept = kept-without i s m.kept; sides = sides-taken n i s m.kept there numbered m.sides; held = all-without _ i.since s.items m.held })
    (λ call. linked b n k g kind f call i s (sym e) there numbered st m)

pub deliver-at : (b : History) (n : ℕ) (i : Item) (s : State) → slice_get s.items n ≡ Some i → is_numbered i ≡ true → is_settled s ≡ true → Rests b s → At b (deliver i s)
unfolding deliver
deliver-at b n i s there numbered st m = taken-at b n i i.delivery s refl there numbered st m

-- ---- answers

pub last-end : (answers : List Answer) (a : Answer) → last_answered (answers ++ a ∷ []) ≡ moment_of a
last-end [] a = refl
last-end (x ∷ []) a = refl
last-end (x ∷ y ∷ answers) a = last-end (y ∷ answers) a

or-turned : (a c : Bool) → (a || c) ≡ (c || a)
or-turned true true = refl
or-turned true false = refl
or-turned false true = refl
or-turned false false = refl

abbrev pub with_answer : Answer → History → History
with_answer a h = record h { answers = h.answers ++ a ∷ [] }

done-same : (j k : ℕ) (a : Answer) → is_done_line j (Line.Turn k a) ≡ is_done_of j a
done-same j k (Answer.Done i o t) = turned j i
done-same j k (Answer.Elapsed t) = refl
done-same j k (Answer.Nothing t) = refl

eq-one : (n : ℕ) → n ≡ 1 → (n == 1) ≡ true
eq-one n e = grind (arith, nat_tests, e)

lawful-done : (h : History) (s : State) (k : ℕ) (q : Question) (a : Answer) → Answers h.posts h.answers q a → Ties None h s → jobs_done_once h.past (Line.Turn k a) ≡ true
lawful-done h s k Question.Poll (Answer.Nothing t) l m = refl
lawful-done h s k (Question.Wait until) (Answer.Nothing t) l m = refl
lawful-done h s k q (Answer.Elapsed t) l m = refl
lawful-done h s k q (Answer.Done j o t) l m =
    let told = m.jobs j l.0.0 l.0.1 in
    and_from _ _ (and_from _ _ (eq-one (count_by (is_job_line j) h.past) told.one) (ap not (m.done j ∙ l.1)))
    (subst (λ z. gives_outcome z (find (is_job_line j) h.past) ≡ true) (sym l.0.2) told.gives)

rising : (a c d : ℕ) → c ≡ d → d ≤ a → nat_le c a ≡ true
rising a c d e l = grind (arith, nat_tests, e, l)

-- an answer is written, jobs and objects come to be as they may
-- an answer names a job that was posted
answered-later : (a : Answer) (q : Question) (h : History) (s : State) → Answers h.posts h.answers q a → Ties None h s → (j : ℕ) → nat_le j (length s.jobs) ≡ false → is_answered j (h.answers ++ a ∷ []) ≡ false
answered-later a q h s l m j e = any-end (is_done_of j) h.answers a ∙ ap (λ b. b || is_done_of j a) (m.heard.later j e) ∙ by q a l
  where
    of : (i : ℕ) → nat_le i (length s.jobs) ≡ true → (c : Bool) → (i == j) ≡ c → c ≡ false
    of i low true z = absurd (cc (low, subst (λ n. nat_le n (length s.jobs) ≡ false) (sym (equal i j z)) e))
    of i low false z = refl

    by : (q : Question) (a : Answer) → Answers h.posts h.answers q a → is_done_of j a ≡ false
    by q (Answer.Done i o t) l = of i (m.jobs i l.0.0 l.0.1).within (i == j) refl
    by q (Answer.Elapsed t) l = refl
    by q (Answer.Nothing t) l = refl

turned-at : (b : History) (q : Question) (a : Answer) (moment : ℕ) (objects : List Object) (jobs : List JobState) (s : State) → kinds objects ≡ kinds s.objects → AreKeptOffers objects s.items s.next_since → length jobs ≡ length s.jobs → moment ≡ moment_of a →
    ((p : ℕ) (x : JobState) → slice_get jobs p ≡ Some x → is_none x.outcome ≡ true → (slice_get s.jobs p ≡ Some x) × (is_done_of (p + 1) a ≡ false)) → (m : Rests b s) →
    IsLegal m.story.posts m.story.answers q a → IsKept (settle (say (Line.Turn s.turns a) (record s { moment = moment; objects = objects; jobs = jobs }))) →
    Rests (with_answer a b) (settle (say (Line.Turn s.turns a) (record s { moment = moment; objects = objects; jobs = jobs })))
turned-at b q a moment objects jobs s all offers same same-moment still m l kept =
    let line = Line.Turn s.turns a in
    let story = with_answer a (with_line line m.story) in
    let t = record s { moment = moment; objects = objects; jobs = jobs } in
    let ties : Ties None story t = record {
      ended = m.ties.ended;
      fresh = m.ties.fresh;
      parked = m.ties.parked;
      links = m.ties.links;
      jobs = λ j job c. subst (λ n. IsJobTold n j job (line ∷ m.story.past)) (sym same) (told-other (length s.jobs) j job line m.story.past refl (m.ties.jobs j job c));
      fewer = λ j e. count-other (is_job_line j) line m.story.past refl ∙ m.ties.fewer j (ap (nat_le j) (sym same) ∙ e);
      done = λ j.
          ap (λ z. z || list_any (is_done_line j) m.story.past) (done-same j s.turns a) ∙ ap (λ z. is_done_of j a || z) (m.ties.done j)
          ∙ or-turned (is_done_of j a) (is_answered j m.story.answers) ∙ sym (any-end (is_done_of j) m.story.answers a);
      rising = sym (last-end m.story.answers a);
      heard = record {
        now = same-moment ∙ sym (last-end m.story.answers a);
        many = m.ties.heard.many ∙ sym same;
        counted = m.ties.heard.counted;
        later = λ j e. answered-later a q m.story s l.0 m.ties j (ap (nat_le j) (sym same) ∙ e);
        unanswered = λ p x e z.
            let o = still p x e z in
            let u = m.ties.heard.unanswered p x o.0 z in
            (u.0, any-end (is_done_of (p + 1)) m.story.answers a ∙ ap (λ b. b || is_done_of (p + 1) a) u.1 ∙ o.1);
      };
    } in
    let lawful : IsLawful m.story.past line = record {
      once = refl;
      last = refl;
      parked = refl;
      links = refl;
      rising = rising (moment_of a) (last_moment_of m.story.past) (last_answered m.story.answers) m.ties.rising l.1;
      jobs = lawful-done m.story s s.turns q a l.0 m.ties;
    } in
    let told = tells-line b m.story s.lines s.posts line lawful m.tells in
    record {
      kept = kept;
      story = story;
      tells = record { past = told.past; posted = told.posted; answered = ap (λ z. z ++ a ∷ []) told.answered; lawful = told.lawful };
      ties = ties-settle None story (say line t) (ties-say None story line t ties);
      parking = λ k e p d. any-settle (is_wake_of k) (say line t) ∙ m.parking k e p d;
      main = m.main;
      sides = sides-settle (say line t) (record { kills = m.sides.kills; bodies = m.sides.bodies; fit = m.sides.fit; known = known-objects s.scenario s.greenlets s.items s.objects objects (λ w d. all) m.sides.known; offers = offers });
      held = all-settle (is_held s.greenlets) (say line t) ∙ m.held;
    }

get-set : {X : Type 0} (xs : List X) (n : ℕ) (x y : X) → slice_get xs n ≡ Some y → slice_get (slice_set xs n x) n ≡ Some x
get-set [] n x y e = absurd (cc e)
get-set (z ∷ xs) zero x y e = refl
get-set (z ∷ xs) (suc n) x y e = get-set xs n x y e

-- the number of a job is one more than its place
pub job-there : (jobs : List JobState) (j : ℕ) (job : JobState) → job_at j jobs ≡ Some job → (slice_get jobs (j - 1) ≡ Some job) × (j ≡ j - 1 + 1)
job-there [] j job e = absurd (cc e)
job-there (x ∷ jobs) zero job e = absurd (cc e)
job-there (x ∷ jobs) (suc n) job e = let one : suc n - 1 ≡ n = omega arith in (ap (slice_get (x ∷ jobs)) one ∙ e, omega arith)

place-there : (jobs : List JobState) (p : ℕ) → job_at (p + 1) jobs ≡ slice_get jobs p
place-there [] p = refl
place-there (x ∷ jobs) p = let next : p + 1 ≡ suc p = omega arith in ap (λ n. job_at n (x ∷ jobs)) next

-- a job that has not arrived is another than the one that arrives
pub still-open : (jobs : List JobState) (j : ℕ) (o : JobOutcome) (job : JobState) → job_at j jobs ≡ Some job → (p : ℕ) (x : JobState) →
    slice_get (slice_set jobs (j - 1) (record job { outcome = Some o })) p ≡ Some x → is_none x.outcome ≡ true → (slice_get jobs p ≡ Some x) × ((j == p + 1) ≡ false)
still-open jobs j o job named p x e z = by (j - 1 == p) refl
  where
    there : slice_get jobs (j - 1) ≡ Some job
    there = (job-there jobs j job named).0

    counted : j ≡ j - 1 + 1
    counted = (job-there jobs j job named).1

    new : JobState
    new = record job { outcome = Some o }

    apart : (j - 1 == p) ≡ false → (j == p + 1) ≡ false
    apart f = grind (arith, nat_tests, f, counted)

    by : (c : Bool) → (j - 1 == p) ≡ c → (slice_get jobs p ≡ Some x) × ((j == p + 1) ≡ false)
    by true f =
        let same : j - 1 ≡ p = equal (j - 1) p f in
        let here : slice_get (slice_set jobs (j - 1) new) p ≡ Some new = subst (λ k. slice_get (slice_set jobs (j - 1) new) k ≡ Some new) same (get-set jobs (j - 1) new job there) in
        let is : new ≡ x = cc (here, e) in
        absurd (cc (z, ap (λ (y : JobState). is_none y.outcome) is))
    by false f = (sym (slice_get-set_other jobs p (j - 1) new (λ k. unequal (j - 1) p f (cc k))) ∙ e, apart f)

pub take_answer-at : (b : History) (q : Question) (a : Answer) (s : State) → (m : Rests b s) → IsLegal m.story.posts m.story.answers q a →
    Rests (with_answer a b) (take_answer a s) × (is_settled (take_answer a s) ≡ true)
unfolding take_answer
take_answer-at b q a s m l = (by a refl, settled-settle (say (Line.Turn s.turns a) (job_done a (record s { moment = moment_of a }))))
  where
    kept : IsKept (settle (say (Line.Turn s.turns a) (job_done a (record s { moment = moment_of a }))))
    kept = take_answer-kept a s m.kept

    none-there : (j : ℕ) (p : ℕ) (x : JobState) → job_at j s.jobs ≡ None → slice_get s.jobs p ≡ Some x → (j == p + 1) ≡ false
    none-there j p x e f = of (j == p + 1) refl
      where
        of : (c : Bool) → (j == p + 1) ≡ c → c ≡ false
        of true z =
            let same : j ≡ p + 1 = equal j (p + 1) z in
            absurd (cc (f, sym (place-there s.jobs p), subst (λ n. job_at n s.jobs ≡ None) same e))
        of false z = refl

    of : (j : ℕ) (o : JobOutcome) (t : ℕ) (job : Option JobState) → job_at j s.jobs ≡ job → a ≡ Answer.Done j o t →
        IsKept (settle (say (Line.Turn s.turns a) (arrives j o job (record s { moment = moment_of a })))) → Rests (with_answer a b) (settle (say (Line.Turn s.turns a) (arrives j o job (record s { moment = moment_of a }))))
    of j o t None there e k =
        turned-at b q a (moment_of a) s.objects s.jobs s refl m.sides.offers refl refl (λ p x f z. (f, ap (is_done_of (p + 1)) e ∙ none-there j p x there f)) m l k
    of j o t (Some job) there e k =
        turned-at b q a (moment_of a) (slice_set s.objects job.pool (with_slot_freed (object_at job.pool s))) (slice_set s.jobs (j - 1) (record job { outcome = Some o })) s
        (kinds-set s.objects job.pool (with_slot_freed (object_at job.pool s)) (freed-kept (object_at job.pool s)))
        (offers-set s.objects job.pool (with_slot_freed (object_at job.pool s)) s.items s.next_since (fewer-same (offers_at job.pool s.objects) (offers_of (with_slot_freed (object_at job.pool s))) (freed-offers (object_at job.pool s))) m.sides.offers) (length-set s.jobs (j - 1) (record job { outcome = Some o })) refl
        (λ p x f z. let u = still-open s.jobs j o job there p x f z in (u.0, ap (is_done_of (p + 1)) e ∙ u.1)) m l k

    by : (c : Answer) → a ≡ c → Rests (with_answer a b) (settle (say (Line.Turn s.turns a) (job_done a (record s { moment = moment_of a }))))
    by (Answer.Done j o t) e =
        subst (λ z. Rests (with_answer a b) (settle (say (Line.Turn s.turns a) (job_done z (record s { moment = moment_of a }))))) (sym e)
        (of j o t (job_at j s.jobs) refl e (subst (λ z. IsKept (settle (say (Line.Turn s.turns a) (job_done z (record s { moment = moment_of a }))))) e kept))
    by (Answer.Elapsed t) e =
        subst (λ z. Rests (with_answer a b) (settle (say (Line.Turn s.turns a) (job_done z (record s { moment = moment_of a }))))) (sym e)
        (turned-at b q a (moment_of a) s.objects s.jobs s refl m.sides.offers refl refl (λ p x f z. (f, ap (is_done_of (p + 1)) e)) m l
        (subst (λ z. IsKept (settle (say (Line.Turn s.turns a) (job_done z (record s { moment = moment_of a }))))) e kept))
    by (Answer.Nothing t) e =
        subst (λ z. Rests (with_answer a b) (settle (say (Line.Turn s.turns a) (job_done z (record s { moment = moment_of a }))))) (sym e)
        (turned-at b q a (moment_of a) s.objects s.jobs s refl m.sides.offers refl refl (λ p x f z. (f, ap (is_done_of (p + 1)) e)) m l
        (subst (λ z. IsKept (settle (say (Line.Turn s.turns a) (job_done z (record s { moment = moment_of a }))))) e kept))

-- ---- the beginning

first-ties : (c : Scenario) → Ties None at_first (first_state c)
first-ties c =
    record {
      ended = over;
      fresh = λ k e z. refl;
      parked = λ k e. refl;
      links = λ n e. absurd (cc e);
      jobs = λ j job held. absurd (nothing j job held);
      fewer = λ j e. refl;
      done = λ j. refl;
      rising = refl;
      heard = record { now = refl; many = refl; counted = refl; later = λ j e. refl; unanswered = λ p x e z. absurd (cc e) };
    }
  where
    over : (k : ℕ) → false ≡ is_over (phase_of k (first_state c).greenlets)
    over zero = refl
    over (suc k) = refl

    nothing : (j : ℕ) (job : Job) → Contains [] (posted j job) → ⊥
    nothing j job (k, low, e) = omega (arith, low)

pub begins-at : (c : Scenario) → IsFitText c → At at_first (starts lands 0 [] (first_state c))
begins-at c text =
    starts-new at_first 0 [] (first_state c) refl refl refl refl refl (first-kept c) at_first (tells-nothing at_first) (first-ties c)
    (λ k e p l. absurd (parked k l)) (λ e. absurd (cc e)) (record { kills = omega arith; bodies = text; fit = refl; known = λ w. record { functions = and_from _ true w refl; named = refl; declared = first-kinds c.objects }; offers = offers-first c.objects (first_state c).next_since }) refl
  where
    parked : (k : ℕ) → is_live (phase_of k (first_state c).greenlets) ≡ true → ⊥
    parked zero l = cc l
    parked (suc k) l = cc l
