-- What the lines told so far say of the state.
use Rattle.std.proofs.Common.{◌≡◌, refl, ap, ◌∙◌, sym, subst, ℕ, zero, suc, ◌+◌, Bool, true, false, List, [], ◌∷◌, ◌++◌, length, cond, arith}
use Rattle.std.proofs.lemmas.Bool.{and_from, not-true}
use Rattle.std.proofs.lemmas.Bool.Decides.{nat_tests}
use Rattle.std.proofs.lemmas.List.Sums.{sum_by-cons}
use Rattle.std.specs.Prelude.{not, ◌==◌, ◌&&◌, ◌||◌, Option, Some, None, is_none, nat_le, find, count_by, slice_get, slice_set, Contains}
use Rattle.std.specs.List.{list_any, list_all}
use Rattle.gv_values.specs.declared.job.Answer.{Answer}
use Rattle.gv_values.specs.declared.job.Job.{Job}
use Rattle.world_rules.specs.declared.question.PostedJob.{PostedJob}
use Rattle.world_rules.specs.Evaluate.{eval}
use Rattle.world_rules.specs.Legal.{posted, is_answered, last_answered_moment as last_answered}
use Rattle.trace_text.specs.declared.line.Line.{Line}
use Rattle.machine.specs.declared.items.Delivery.{Delivery}
use Rattle.machine.specs.declared.items.Item.{Item}
use Rattle.machine.specs.declared.state.Frame.{Frame}
use Rattle.machine.specs.declared.state.Greenlet.{Greenlet}
use Rattle.machine.specs.declared.state.JobState.{JobState}
use Rattle.machine.specs.declared.state.Phase.{Phase}
use Rattle.machine.specs.State.{State, say}
use Rattle.machine.specs.Soundness.{phase_of, Claim, claim_of, is_live, is_unclaimed, same_claim}
use Rattle.machine.specs.TraceLaws.{is_of, is_some_number, greenlet_of, is_end_of, is_link_line, is_job_line, is_done_line, is_park, last_moment_of, gives_outcome, none_ended, ends_once, throws_at_parked, links_after_end, moments_rise, jobs_done_once}
use Rattle.machine.specs.Items.{add_item, drop_items, is_wait_of}
use Rattle.machine.specs.Greenlets.{greenlet, with_phase}
use Rattle.machine.specs.Settle.{settle}
use Rattle.machine_soundness.specs.Going.{has_no_wait}
use Rattle.machine_soundness.specs.Laws.{is_wake_of}
use Rattle.machine.proofs.Halves.{left, right}
use Rattle.machine_soundness.proofs.Lists.{all-imply, all-end, all-filter, equal, unequal}
use Rattle.machine_soundness.proofs.Greenlets.{phase-other}
use Rattle.machine_soundness.proofs.States.{all-settle}
use Rattle.machine_offers.proofs.Anys.{any-all, any-end}
use Rattle.machine_trace_laws.proofs.Histories.{History, IsLawful, with_line}

-- ---- how far greenlets came

abbrev pub is_over : Option Phase → Bool
is_over (Some (Phase.Done o)) = true
is_over p = false

abbrev pub is_begun : Option Phase → Bool
is_begun (Some (Phase.Done o)) = true
is_begun (Some (Phase.Live frame)) = true
is_begun p = false

pub live-begun : (p : Option Phase) → is_live p ≡ true → is_begun p ≡ true
live-begun None e = absurd (cc e)
live-begun (Some (Phase.New args)) e = absurd (cc e)
live-begun (Some (Phase.Live frame)) e = refl
live-begun (Some (Phase.Done o)) e = refl

pub live-not-over : (p : Option Phase) → is_live p ≡ true → is_over p ≡ false
live-not-over None e = absurd (cc e)
live-not-over (Some (Phase.New args)) e = absurd (cc e)
live-not-over (Some (Phase.Live frame)) e = refl
live-not-over (Some (Phase.Done o)) e = absurd (cc e)

-- it has this phase now
pub phase-here : (gs : List Greenlet) (g : ℕ) (x y : Greenlet) → slice_get gs g ≡ Some y → phase_of g (slice_set gs g x) ≡ Some x.phase
phase-here [] g x y e = absurd (cc e)
phase-here (z ∷ gs) zero x y e = refl
phase-here (z ∷ gs) (suc g) x y e = phase-here gs g x y e

pub over-more : (gs : List Greenlet) (y : Greenlet) (k : ℕ) → is_begun (Some y.phase) ≡ false → is_over (phase_of k (gs ++ y ∷ [])) ≡ is_over (phase_of k gs)
over-more [] y zero e = over y.phase e
  where
    over : (p : Phase) → is_begun (Some p) ≡ false → is_over (Some p) ≡ false
    over (Phase.New args) e = refl
    over (Phase.Live frame) e = refl
    over (Phase.Done o) e = absurd (cc e)
over-more [] y (suc k) e = refl
over-more (z ∷ gs) y zero e = refl
over-more (z ∷ gs) y (suc k) e = over-more gs y k e

pub begun-more : (gs : List Greenlet) (y : Greenlet) (k : ℕ) → is_begun (phase_of k (gs ++ y ∷ [])) ≡ false → is_begun (phase_of k gs) ≡ false
begun-more [] y k e = refl
begun-more (z ∷ gs) y zero e = e
begun-more (z ∷ gs) y (suc k) e = begun-more gs y k e

-- ---- what items say

abbrev pub has_wake : ℕ → List Item → Bool
has_wake k items = list_any (λ i. is_wake_of k i.delivery) items

not-not : (a b : Bool) → not a ≡ not b → a ≡ b
not-not true true e = refl
not-not true false e = absurd (cc e)
not-not false true e = absurd (cc e)
not-not false false e = refl

-- a settling says nothing else
pub any-settle : (test : Delivery → Bool) (s : State) → list_any (λ i. test i.delivery) (settle s).items ≡ list_any (λ i. test i.delivery) s.items
any-settle test s =
    not-not _ _ (sym (any-all (λ (i : Item). test i.delivery) (settle s).items) ∙ all-settle (λ d. not (test d)) s ∙ any-all (λ (i : Item). test i.delivery) s.items)

pub free-wakeless : (k : ℕ) (items : List Item) → has_no_wait k items ≡ true → has_wake k items ≡ false
free-wakeless k items h =
    not-true _ (sym (any-all (λ (i : Item). is_wake_of k i.delivery) items) ∙ all-imply _ _ items (λ i. by i.delivery) h)
  where
    by : (d : Delivery) → not (is_wait_of k d) ≡ true → not (is_wake_of k d) ≡ true
    by (Delivery.Wake g w) e = e
    by d e = refl

-- ---- the ties

-- of a posted job there is one line, and what the job comes to is what it gives
pub record IsJobTold (count j : ℕ) (job : Job) (past : List Line) : Type 0 where
  pub within : nat_le j count ≡ true
  pub one : count_by (is_job_line j) past ≡ 1
  pub gives : gives_outcome (eval job) (find (is_job_line j) past) ≡ true

-- the numbers go up by one
abbrev pub are_counted : ℕ → List PostedJob → Bool
are_counted n [] = true
are_counted n (p ∷ ps) = (p.number == n) && are_counted (n + 1) ps

-- the moment is that of the last answer; each job was posted, in order, and one that has not arrived is not answered
pub record IsHeard (posts : List PostedJob) (answers : List Answer) (moment : ℕ) (jobs : List JobState) : Type 0 where
  pub now : moment ≡ last_answered answers
  pub many : length posts ≡ length jobs
  pub counted : are_counted 1 posts ≡ true
  pub later : (j : ℕ) → nat_le j (length jobs) ≡ false → is_answered j answers ≡ false
  pub unanswered : (p : ℕ) (x : JobState) → slice_get jobs p ≡ Some x → is_none x.outcome ≡ true → Contains posts (posted (p + 1) x.job) × (is_answered (p + 1) answers ≡ false)

-- one greenlet may be about to begin
pub record Ties (x : Option ℕ) (h : History) (s : State) : Type 0 where
  pub ended : (k : ℕ) → list_any (is_end_of k) h.past ≡ is_over (phase_of k s.greenlets)
  pub fresh : (k : ℕ) → is_some_number k x ≡ false → is_begun (phase_of k s.greenlets) ≡ false → find (is_of k) h.past ≡ None
  pub parked : (k : ℕ) → has_wake k s.items ≡ true → is_park (find (is_of k) h.past) ≡ true
  pub links : (n : ℕ) → list_any (is_link_line n) h.past ≡ true → (nat_le n s.links && is_unclaimed (Some (Claim.LinkNumbered n)) s.items) ≡ true
  pub jobs : (j : ℕ) (job : Job) → Contains h.posts (posted j job) → IsJobTold (length s.jobs) j job h.past
  pub fewer : (j : ℕ) → nat_le j (length s.jobs) ≡ false → count_by (is_job_line j) h.past ≡ 0
  pub done : (j : ℕ) → list_any (is_done_line j) h.past ≡ is_answered j h.answers
  pub rising : last_moment_of h.past ≡ last_answered h.answers
  pub heard : IsHeard h.posts h.answers s.moment s.jobs

pub ties-loose : (x : Option ℕ) (h : History) (s : State) → Ties None h s → Ties x h s
ties-loose x h s t =
    record {
      ended = t.ended;
      fresh = λ k e b. t.fresh k refl b;
      parked = t.parked;
      links = t.links;
      jobs = t.jobs;
      fewer = t.fewer;
      done = t.done;
      rising = t.rising;
      heard = t.heard;
    }

-- ---- lines of a greenlet that goes

-- a line of the greenlet that is no end, link, job or turn line
pub record IsOwn (g : ℕ) (line : Line) : Type 0 where
  pub names : greenlet_of line ≡ Some g
  pub no_end : (k : ℕ) → is_end_of k line ≡ false
  pub no_link : (k : ℕ) → is_link_line k line ≡ false
  pub no_job : (k : ℕ) → is_job_line k line ≡ false
  pub no_done : (k : ℕ) → is_done_line k line ≡ false
  pub no_turn : (before : List Line) → last_moment_of (line ∷ before) ≡ last_moment_of before
  pub once : (before : List Line) → ends_once before line ≡ true
  pub unlinked : (before : List Line) → links_after_end before line ≡ true
  pub timeless : (before : List Line) → moments_rise before line ≡ true
  pub jobless : (before : List Line) → jobs_done_once before line ≡ true

pub find-other : (k : ℕ) (line : Line) (past : List Line) → is_of k line ≡ false → find (is_of k) (line ∷ past) ≡ find (is_of k) past
find-other k line past e = ap (λ b. cond b (Some line) (find (is_of k) past)) e

pub own-other : (g k : ℕ) (line : Line) → greenlet_of line ≡ Some g → (k == g) ≡ false → is_of k line ≡ false
own-other g k line n e = ap (is_some_number k) n ∙ e

pub or-false : (a b : Bool) → a ≡ false → (a || b) ≡ b
or-false a b e = ap (λ c. c || b) e

pub count-other : (p : Line → Bool) (line : Line) (past : List Line) → p line ≡ false → count_by p (line ∷ past) ≡ count_by p past
count-other p line past e =
    sum_by-cons (λ l. cond (p l) 1 0) line past ∙ ap (λ b. cond b 1 0 + count_by p past) e ∙ (let zero : 0 + count_by p past ≡ count_by p past = omega arith in zero)

-- another line is no line of the job
pub told-other : (count j : ℕ) (job : Job) (line : Line) (past : List Line) → is_job_line j line ≡ false → IsJobTold count j job past → IsJobTold count j job (line ∷ past)
told-other count j job line past e t =
    record {
      within = t.within;
      one = count-other (is_job_line j) line past e ∙ t.one;
      gives = ap (λ b. gives_outcome (eval job) (cond b (Some line) (find (is_job_line j) past))) e ∙ t.gives;
    }

pub ties-own : (x : Option ℕ) (g : ℕ) (line : Line) (h : History) (s : State) → IsOwn g line → (is_some_number g x ≡ false → is_begun (phase_of g s.greenlets) ≡ true) →
    has_wake g s.items ≡ false → Ties x h s → Ties x (with_line line h) s
ties-own x g line h s o b w t =
    record {
      ended = λ k. or-false _ _ (o.no_end k) ∙ t.ended k;
      fresh = λ k e z. fresh k (k == g) refl e z;
      parked = λ k e. parked k (k == g) refl e;
      links = λ n e. t.links n (sym (or-false _ _ (o.no_link n)) ∙ e);
      jobs = λ j job c. told-other (length s.jobs) j job line h.past (o.no_job j) (t.jobs j job c);
      fewer = λ j e. count-other (is_job_line j) line h.past (o.no_job j) ∙ t.fewer j e;
      done = λ j. or-false _ _ (o.no_done j) ∙ t.done j;
      rising = o.no_turn h.past ∙ t.rising;
      heard = t.heard;
    }
  where
    fresh : (k : ℕ) (c : Bool) → (k == g) ≡ c → is_some_number k x ≡ false → is_begun (phase_of k s.greenlets) ≡ false → find (is_of k) (line ∷ h.past) ≡ None
    fresh k true e f z =
        let same : k ≡ g = equal k g e in
        absurd (cc (b (subst (λ i. is_some_number i x ≡ false) same f), subst (λ i. is_begun (phase_of i s.greenlets) ≡ false) same z))
    fresh k false e f z = find-other k line h.past (own-other g k line o.names e) ∙ t.fresh k f z

    parked : (k : ℕ) (c : Bool) → (k == g) ≡ c → has_wake k s.items ≡ true → is_park (find (is_of k) (line ∷ h.past)) ≡ true
    parked k true e f = absurd (cc (w, subst (λ i. has_wake i s.items ≡ true) (equal k g e) f))
    parked k false e f = ap is_park (find-other k line h.past (own-other g k line o.names e)) ∙ t.parked k f

pub lawful-own : (x : Option ℕ) (g : ℕ) (line : Line) (h : History) (s : State) → IsOwn g line → is_over (phase_of g s.greenlets) ≡ false →
    throws_at_parked h.past line ≡ true → Ties x h s → IsLawful h.past line
lawful-own x g line h s o u p t =
    record {
      once = o.once h.past;
      last = ap (none_ended h.past) o.names ∙ ap not (t.ended g ∙ u);
      parked = p;
      links = o.unlinked h.past;
      rising = o.timeless h.past;
      jobs = o.jobless h.past;
    }

-- ---- items

pub ties-settle : (x : Option ℕ) (h : History) (s : State) → Ties x h s → Ties x h (settle s)
ties-settle x h s t =
    record {
      ended = t.ended;
      fresh = t.fresh;
      parked = λ k e. t.parked k (sym (any-settle (is_wake_of k) s) ∙ e);
      links = λ n e. ap (λ b. nat_le n s.links && b) (all-settle (λ d. not (same_claim (Some (Claim.LinkNumbered n)) (claim_of d))) s) ∙ t.links n e;
      jobs = t.jobs;
      fewer = t.fewer;
      done = t.done;
      rising = t.rising;
      heard = t.heard;
    }

-- items may go
pub ties-items : (x : Option ℕ) (h : History) (items : List Item) (s : State) → ((p : Item → Bool) → list_all p s.items ≡ true → list_all p items ≡ true) →
    Ties x h s → Ties x h (record s { items = items })
ties-items x h items s f t =
    record {
      ended = t.ended;
      fresh = t.fresh;
      parked = λ k e. parked k e (has_wake k s.items) refl;
      links = λ n e. and_from _ _ (left _ _ (t.links n e)) (f _ (right (nat_le n s.links) _ (t.links n e)));
      jobs = t.jobs;
      fewer = t.fewer;
      done = t.done;
      rising = t.rising;
      heard = t.heard;
    }
  where
    parked : (k : ℕ) → has_wake k items ≡ true → (b : Bool) → has_wake k s.items ≡ b → is_park (find (is_of k) h.past) ≡ true
    parked k e true z = t.parked k z
    parked k e false z =
        let none : list_all (λ i. not (is_wake_of k i.delivery)) items ≡ true = f _ (any-all (λ (i : Item). is_wake_of k i.delivery) s.items ∙ ap not z) in
        let gone : not (has_wake k items) ≡ true = sym (any-all (λ (i : Item). is_wake_of k i.delivery) items) ∙ none in
        absurd (cc (ap not e, gone))

pub ties-drop : (x : Option ℕ) (h : History) (test : Delivery → Bool) (s : State) → Ties x h s → Ties x h (drop_items test s)
ties-drop x h test s t = ties-items x h (drop_items test s).items s (λ p e. all-filter _ p p s.items (λ i k z. z) e) t

pub ties-add : (x : Option ℕ) (h : History) (d : Delivery) (s : State) → ((k : ℕ) → is_wake_of k d ≡ true → is_park (find (is_of k) h.past) ≡ true) →
    ((n : ℕ) → list_any (is_link_line n) h.past ≡ true → not (same_claim (Some (Claim.LinkNumbered n)) (claim_of d)) ≡ true) →
    Ties x h s → Ties x h (add_item d s)
ties-add x h d s w u t =
    record {
      ended = t.ended;
      fresh = t.fresh;
      parked = λ k e. parked k (has_wake k s.items) refl (sym (any-end (λ (i : Item). is_wake_of k i.delivery) s.items _) ∙ e);
      links = λ n e. and_from _ _ (left _ _ (t.links n e)) (all-end _ s.items _ (right (nat_le n s.links) _ (t.links n e)) (u n e));
      jobs = t.jobs;
      fewer = t.fewer;
      done = t.done;
      rising = t.rising;
      heard = t.heard;
    }
  where
    parked : (k : ℕ) (b : Bool) → has_wake k s.items ≡ b → (b || is_wake_of k d) ≡ true → is_park (find (is_of k) h.past) ≡ true
    parked k true z e = t.parked k z
    parked k false z e = w k e

-- ---- greenlets

-- others are over and begun as before
pub ties-greenlets : (x : Option ℕ) (h : History) (fs : List Greenlet) (s : State) → ((k : ℕ) → is_over (phase_of k fs) ≡ is_over (phase_of k s.greenlets)) →
    ((k : ℕ) → is_begun (phase_of k fs) ≡ false → is_begun (phase_of k s.greenlets) ≡ false) → Ties x h s → Ties x h (record s { greenlets = fs })
ties-greenlets x h fs s o b t =
    record {
      ended = λ k. t.ended k ∙ sym (o k);
      fresh = λ k e z. t.fresh k e (b k z);
      parked = t.parked;
      links = t.links;
      jobs = t.jobs;
      fewer = t.fewer;
      done = t.done;
      rising = t.rising;
      heard = t.heard;
    }

-- the greenlet that was about to begin is live
pub ties-live : (g : ℕ) (frame : Frame) (h : History) (s : State) → slice_get s.greenlets g ≡ Some (greenlet g s) → is_over (phase_of g s.greenlets) ≡ false →
    Ties (Some g) h s → Ties None h (with_phase g (Phase.Live frame) s)
ties-live g frame h s there u t =
    record {
      ended = λ k. t.ended k ∙ sym (over k (g == k) refl);
      fresh = λ k e z. fresh k (g == k) refl z;
      parked = t.parked;
      links = t.links;
      jobs = t.jobs;
      fewer = t.fewer;
      done = t.done;
      rising = t.rising;
      heard = t.heard;
    }
  where
    new : Greenlet
    new = record (greenlet g s) { phase = Phase.Live frame }

    over : (k : ℕ) (b : Bool) → (g == k) ≡ b → is_over (phase_of k (slice_set s.greenlets g new)) ≡ is_over (phase_of k s.greenlets)
    over k true e =
        let same : g ≡ k = equal g k e in
        subst (λ i. is_over (phase_of i (slice_set s.greenlets g new)) ≡ is_over (phase_of i s.greenlets)) same (ap is_over (phase-here s.greenlets g new (greenlet g s) there) ∙ sym u)
    over k false e = ap is_over (phase-other s.greenlets g k new (unequal g k e))

    turned : (k : ℕ) → (g == k) ≡ (k == g)
    turned k = grind (arith, nat_tests)

    fresh : (k : ℕ) (b : Bool) → (g == k) ≡ b → is_begun (phase_of k (slice_set s.greenlets g new)) ≡ false → find (is_of k) h.past ≡ None
    fresh k true e z =
        let same : g ≡ k = equal g k e in
        absurd (cc (ap is_begun (phase-here s.greenlets g new (greenlet g s) there), subst (λ i. is_begun (phase_of i (slice_set s.greenlets g new)) ≡ false) (sym same) z))
    fresh k false e z = t.fresh k (sym (turned k) ∙ e) (ap is_begun (sym (phase-other s.greenlets g k new (unequal g k e))) ∙ z)

-- a line in the making changes nothing of it
pub ties-say : (x : Option ℕ) (h : History) (line : Line) (s : State) → Ties x h s → Ties x h (say line s)
ties-say x h line s t =
    record {
      ended = t.ended;
      fresh = t.fresh;
      parked = t.parked;
      links = t.links;
      jobs = t.jobs;
      fewer = t.fewer;
      done = t.done;
      rising = t.rising;
      heard = t.heard;
    }
