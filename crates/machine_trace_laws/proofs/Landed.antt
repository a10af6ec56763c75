-- How a greenlet goes on, ends and lands, lawfully.
use Rattle.std.proofs.Common.{◌≡◌, refl, ap, ◌∙◌, sym, subst, ℕ, zero, suc, ◌≤◌, ◌<◌, Bool, true, false, List, [], ◌∷◌, length, eqb, inl, inr, arith}
use Rattle.std.proofs.lemmas.Bool.{cases_eq, and_from}
use Rattle.std.proofs.lemmas.Bool.Decides.{nat_tests}
use Rattle.std.proofs.lemmas.Map.Steps.{length-le_from_distinct_below}
use Rattle.std.specs.Prelude.{not, ◌==◌, Option, Some, None, slice_set, if◌then◌else◌}
use Rattle.std.specs.List.{AllByRecursion, IsDistinct, list_any}
use Rattle.gv_values.specs.declared.value.Outcome.{Outcome}
use Rattle.gv_values.specs.declared.value.Value.{Value}
use Rattle.trace_text.specs.declared.line.Line.{Line}
use Rattle.machine.specs.declared.items.Delivery.{Delivery}
use Rattle.machine.specs.declared.items.Item.{Item}
use Rattle.machine.specs.declared.state.Frame.{Frame}
use Rattle.machine.specs.declared.state.Greenlet.{Greenlet}
use Rattle.machine.specs.declared.state.Leaving.{Leaving}
use Rattle.machine.specs.declared.state.Phase.{Phase}
use Rattle.machine.specs.declared.state.Todo.{Todo}
use Rattle.machine.specs.State.{State, say}
use Rattle.machine.specs.Soundness.{phase_of, Claim, is_live, is_unclaimed, is_unstarted}
use Rattle.machine.specs.TraceLaws.{throws_at_parked}
use Rattle.machine.specs.Landing.{Next, Landing, after_end, answered, given, goes_on, land, lands, resumes, starts}
use Rattle.machine.specs.Items.{drop_items, is_timeout_of}
use Rattle.machine.specs.Ends.{ended, leaving_of, outcome_of_leaving, stop_of}
use Rattle.machine.specs.Greenlets.{frame_of, function_of, greenlet, named, with_phase}
use Rattle.machine.specs.Hosts.{host_of, host_within}
use Rattle.gv_values.specs.Ends.{kept}
use Rattle.machine.specs.Unwinding.{Unwound, unwind}
use Rattle.machine_soundness.specs.Going.{has_no_wait, is_plain, IsGoing, IsKept}
use Rattle.machine_soundness.specs.Laws.{is_wake_of}
use Rattle.machine.proofs.Halves.{left}
use Rattle.machine_soundness.proofs.Lists.{all-filter, all-set, equal, unequal}
use Rattle.machine_soundness.proofs.Greenlets.{at, host-plain, host-more, live-here, live-found, live-phase, parent-set, phase-other, plain-found, plain-raw, raw-found, raw-set}
use Rattle.machine_soundness.proofs.Chains.{Climbs, climb-of, distinct, below, found-below, host-of-climb, length-visited, test_differs, visited}
use Rattle.machine_soundness.proofs.Landings.{goes_on-plain, goes_on-raw, land-soundly, raw-free}
use Rattle.machine_soundness.proofs.States.{IsHost, Moves, host_of-phased, length-phased, host-drop, host-ended, host-say, kept-drop, kept-ended, kept-say, live-unclaimed, moving, plain-phased}
use Rattle.machine_trace_laws.proofs.Histories.{History, tells-line, with_line}
use Rattle.machine_trace_laws.proofs.Settled.{is_settled, settled-live, settled-timeouts}
use Rattle.machine_offers.specs.Offers.{is_offered_on}
use Rattle.machine_offers.proofs.Offers.{offers-drop}
use Rattle.machine_offers.proofs.Anys.{any-kept}
use Rattle.machine_trace_laws.proofs.Ties.{IsOwn, is_over, free-wakeless, has_wake, lawful-own, live-not-over, ties-drop, ties-live, ties-loose, ties-own, ties-say}
use Rattle.machine_well_formed.specs.Texts.{fits_phase, fits_rest, is_fit_greenlet, is_raw_function}
use Rattle.machine_trace_laws.proofs.Placed.{IsPlaced, held-live, placed-frame, placed-start, unstarted-free}
use Rattle.machine_trace_laws.proofs.Goings.{AreHeld, AreHeldBy, At, Ends, Goes, Hosted, Loose, greenlet-fit, held-ended, lawful-ended, main-ended, parked-all, parked-ended, settled-ended, sides-drop, sides-ended, ties-ended, known-set}

-- ---- ways up

raw-visited : (gs : List Greenlet) (g h k : ℕ) → Climbs gs g h k → AllByRecursion (λ y. (at gs y).raw ≡ true) (visited gs g k)
unfolding visited Climbs
raw-visited gs g h zero c = tt
raw-visited gs g h (suc k) c = (c.0, raw-visited gs (at gs g).parent h k c.1)

all-then : (P Q : ℕ → Type 0) → ((y : ℕ) → P y → Q y) → (xs : List ℕ) → AllByRecursion P xs → AllByRecursion Q xs
all-then P Q f [] h = tt
all-then P Q f (x ∷ xs) h = (f x h.0, all-then P Q f xs h.1)

pub cons-distinct : (x : ℕ) (xs : List ℕ) → AllByRecursion (λ y. eqb x y ≡ false) xs → IsDistinct eqb xs → IsDistinct eqb (x ∷ xs)
unfolding IsDistinct
cons-distinct x xs h k = (h, k)

-- the steps up to a host are fewer than the greenlets
pub climb-within : (gs : List Greenlet) (g h : ℕ) → is_plain gs h ≡ true → host_within (length gs) gs g ≡ h → (k : ℕ) × (k < length gs) × Climbs gs g h k
climb-within gs g h p e =
    let c = climb-of (length gs) gs g h e in
    let top = plain-raw gs h p in
    let differ : AllByRecursion (λ y. eqb h y ≡ false) (visited gs g c.0) =
    all-then (λ y. (at gs y).raw ≡ true) (λ y. eqb h y ≡ false)
    (λ y r. test_differs h y (λ same. cc (r, top, ap (λ z. (at gs z).raw) same))) (visited gs g c.0) (raw-visited gs g h c.0 c.1) in
    let le = length-le_from_distinct_below (h ∷ visited gs g c.0) (length gs) (cons-distinct h (visited gs g c.0) differ (distinct gs g h c.0 top c.1)) (low c.0 c.1) in
    let n = length-visited gs g c.0 in
    (c.0, omega (arith, le, n), c.1)
  where
    low : (k : ℕ) → Climbs gs g h k → (q : ℕ) → list_any (eqb q) (h ∷ visited gs g k) ≡ true → q < length gs
    low k c q any = elim (cases_eq q h) [
      | inl same ↦ let f = plain-found gs h p in subst (λ x. x < length gs) (sym same) (found-below gs h f.0 f.1)
      | inr differs ↦ below gs g h k c q (rw (test_differs q h differs) at any)
    ]

climbs-same : (gs fs : List Greenlet) (g h k : ℕ) → ((j : ℕ) → (at fs j).raw ≡ (at gs j).raw) → ((j : ℕ) → (at fs j).parent ≡ (at gs j).parent) →
    Climbs gs g h k → Climbs fs g h k
unfolding Climbs
climbs-same gs fs g h zero r p c = c
climbs-same gs fs g h (suc k) r p c = (r g ∙ c.0, subst (λ z. Climbs fs z h k) (sym (p g)) (climbs-same gs fs (at gs g).parent h k r p c.1))

climb-first : (gs : List Greenlet) (g h k : ℕ) → Climbs gs g h (suc k) → ((at gs g).raw ≡ true) × Climbs gs (at gs g).parent h k
unfolding Climbs
climb-first gs g h k c = c

climb-none : (gs : List Greenlet) (g h : ℕ) → Climbs gs g h zero → g ≡ h
unfolding Climbs
climb-none gs g h c = c

-- ---- a loose greenlet

loose-drop : (b : History) (g h : ℕ) (ns : List ℕ) (s : State) → Loose b g h s → Loose b g h (drop_items (is_timeout_of g ns) s)
loose-drop b g h ns s m =
    record {
      kept = kept-drop (is_timeout_of g ns) s m.kept;
      there = m.there;
      going = m.going;
      story = m.story;
      tells = m.tells;
      ties = ties-drop (Some g) m.story (is_timeout_of g ns) s m.ties;
      parking = λ k e p l. any-kept (λ (i : Item). not (is_timeout_of g ns i.delivery)) (λ (i : Item). is_wake_of k i.delivery) s.items (λ i. by k i.delivery) (m.parking k e p l);
      main = m.main;
      sides = sides-drop (is_timeout_of g ns) s (offers-drop (is_timeout_of g ns) s.objects s.items s.next_since (λ o d e. spared o d e) m.sides.offers) m.sides;
    }
  where
    by : (k : ℕ) (d : Delivery) → is_wake_of k d ≡ true → not (is_timeout_of g ns d) ≡ true
    by k (Delivery.Wake j w) z = refl
    by k (Delivery.Start j deadline) z = absurd (cc z)
    by k (Delivery.Late j deadline n) z = absurd (cc z)
    by k (Delivery.Timeout j n deadline) z = absurd (cc z)
    by k (Delivery.Kill j f) z = absurd (cc z)
    by k (Delivery.Link n j kind f) z = absurd (cc z)

    spared : (o : ℕ) (d : Delivery) → is_offered_on o d ≡ true → not (is_timeout_of g ns d) ≡ true
    spared o (Delivery.Timeout j n deadline) z = absurd (cc z)
    spared o d z = refl

-- a line of it
pub loose-say : (b : History) (g h : ℕ) (line : Line) (s : State) → IsOwn g line → ((before : List Line) → throws_at_parked before line ≡ true) → has_wake g s.items ≡ false → Loose b g h s → Loose b g h (say line s)
loose-say b g h line s o calm w m =
    record {
      kept = kept-say line s m.kept;
      there = m.there;
      going = m.going;
      story = with_line line m.story;
      tells = tells-line b m.story s.lines s.posts line (lawful-own (Some g) g line m.story s o m.going (calm m.story.past) m.ties) m.tells;
      ties = ties-say (Some g) (with_line line m.story) line s
          (ties-own (Some g) g line m.story s o (λ e. absurd (unsame g e)) w m.ties);
      parking = m.parking;
      main = m.main;
      sides = record { kills = m.sides.kills; bodies = m.sides.bodies; fit = m.sides.fit; known = m.sides.known; offers = m.sides.offers };
    }
  where
    unsame : (a : ℕ) → (a == a) ≡ false → ⊥
    unsame a e = grind (arith, nat_tests, e)

-- it is live, with this frame
now-live : (b : History) (g h : ℕ) (frame : Frame) (s : State) → fits_rest s.scenario (not (greenlet g s).raw) frame.todo ≡ true →
    AreHeld (slice_set s.greenlets g (record (greenlet g s) { phase = Phase.Live frame })) s.items → Moves g h (with_phase g (Phase.Live frame) s) → ((k : ℕ) → (k == h) ≡ false → is_plain s.greenlets k ≡ true → (g == k) ≡ false) →
    Loose b g h s → Goes b g h (with_phase g (Phase.Live frame) s)
now-live b g h frame s fits held moves apart m =
    record {
      moves = moves;
      story = m.story;
      tells = m.tells;
      ties = ties-live g frame m.story s m.there m.going m.ties;
      parking = λ k e p l.
          let q : is_plain s.greenlets k ≡ true = sym (plain-phased g (Phase.Live frame) s k) ∙ p in
          m.parking k e q (ap is_live (sym (phase-other s.greenlets g k new (unequal g k (apart k e q)))) ∙ l);
      main = main (0 == g) refl;
      sides = record { kills = m.sides.kills; bodies = m.sides.bodies; fit = all-set (is_fit_greenlet s.scenario) s.greenlets g new own m.sides.fit; known = known-set s.scenario s.greenlets g new s.items s.objects refl m.sides.known; offers = m.sides.offers };
      held = held;
    }
  where
    new : Greenlet
    new = record (greenlet g s) { phase = Phase.Live frame }

    own : is_fit_greenlet s.scenario new ≡ true
    own =
        and_from (if new.raw then is_raw_function s.scenario new.function else true) (fits_rest s.scenario (not (greenlet g s).raw) frame.todo)
        (left (if new.raw then is_raw_function s.scenario new.function else true) (fits_phase s.scenario (not new.raw) (greenlet g s).phase) (greenlet-fit s.scenario g s.greenlets m.sides.fit)) fits

    main : (c : Bool) → (0 == g) ≡ c → is_live (phase_of 0 (slice_set s.greenlets g new)) ≡ true
    main true e =
        let here : is_live (phase_of g (slice_set s.greenlets g new)) ≡ true = live-here s.greenlets g new (greenlet g s) refl m.there in
        subst (λ z. is_live (phase_of z (slice_set s.greenlets g new)) ≡ true) (sym (equal 0 g e)) here
    main false e = ap is_live (phase-other s.greenlets g 0 new (λ z. unequal 0 g e (sym z))) ∙ m.main e

-- ---- one that is not raw

after_end-plain-at : (up : Landing) (b : History) (g : ℕ) (ns : List ℕ) (o : Outcome) (s : State) → (greenlet g s).raw ≡ false → has_no_wait g s.items ≡ true → AreHeldBy g ns s.greenlets s.items → Loose b g g s →
    At b (after_end up g o s)
after_end-plain-at up b g ns o s e free held m = by (greenlet g s).raw e (g == 0) refl
  where
    out : Outcome
    out = kept o

    told : Ends b (ended g (kept o) s)
    told = record { story = with_line (Line.End g out) m.story; tells = tells-line b m.story s.lines s.posts (Line.End g out) (lawful-ended (Some g) g out m.story s m.going m.ties) m.tells; kept = kept-ended g out s m.kept; sides = sides-ended g out s free m.sides; held = held-ended g out ns s held }

    turned : (a : ℕ) → (a == 0) ≡ false → (0 == a) ≡ false
    turned a e = grind (arith, nat_tests, e)

    by : (raw : Bool) → raw ≡ false → (main : Bool) → (g == 0) ≡ main →
        At b (if raw then up (greenlet g s).parent (kept o) (ended g (kept o) s)
        else (if main then Next.Over (stop_of (kept o)) (ended g (kept o) s) else Next.Resting (ended g (kept o) s)))
    by true e main z = absurd (cc e)
    by false e true z = told
    by false e false z = (
      record {
        kept = kept-ended g out s m.kept;
        story = told.story;
        tells = told.tells;
        ties = ties-ended g out m.story s m.there m.ties;
        parking = parked-all g out s m.there m.parking;
        main = main-ended g out s (unequal g 0 z) (m.main (turned g z));
        sides = sides-ended g out s free m.sides;
        held = held-ended g out ns s held;
      },
      settled-ended g out s,
    )

itself-only : (a k : ℕ) → (k == a) ≡ false → (a == k) ≡ false
itself-only a k e = grind (arith, nat_tests, e)

pub goes_on-plain-at : (up : Landing) (b : History) (g : ℕ) (u : Unwound) (s : State) → is_plain s.greenlets g ≡ true → is_unclaimed (Some (Claim.StartOf g)) s.items ≡ true →
    has_no_wait g s.items ≡ true → is_settled s ≡ true → IsPlaced s.scenario g u s.greenlets s.items → Loose b g g s → At b (goes_on up g u s)
goes_on-plain-at up b g (Unwound.Runs left locals todo) s p u f h placed m =
    let frame : Frame = record { locals = locals; todo = todo; gives = None } in
    let t = drop_items (is_timeout_of g left) s in
    let now = with_phase g (Phase.Live frame) t in
    let sound = goes_on-plain up g (Unwound.Runs left locals todo) s p u f m.kept in
    let own : host_of now g ≡ g = host-plain (length now.greenlets) now.greenlets g (plain-raw now.greenlets g (plain-phased g (Phase.Live frame) t g ∙ p)) in
    let moves : Moves g g now = subst (λ z. Moves g z now) own (moving g now sound.0 sound.1) in
    (g, now-live b g g frame t placed.fits (held-live g left (record (greenlet g s) { phase = Phase.Live frame }) (greenlet g s) frame s.greenlets s.items m.there refl placed.held) moves (λ k e q. itself-only g k e) (loose-drop b g g left s m), settled-live g frame t m.going m.there (settled-timeouts g left s h))
goes_on-plain-at up b g (Unwound.Out left how) s p u f h placed m =
    after_end-plain-at up b g left (outcome_of_leaving how) (drop_items (is_timeout_of g left) s) (plain-raw s.greenlets g p)
    (all-filter _ _ _ s.items (λ i k z. z) f) (all-filter _ _ _ s.items (λ i k z. z) placed.held) (loose-drop b g g left s m)

-- ---- a raw one

-- where an input lands from which it is fewer than so many steps up to the host
abbrev pub LandsAt : ℕ → Landing → Type 0
LandsAt n up = (b : History) (g h k : ℕ) (o : Outcome) (s : State) → k < n → n ≤ length s.greenlets → Climbs s.greenlets g h k → is_settled s ≡ true → Hosted b h s → At b (up g o s)

-- a raw greenlet is loose where its host is live
raw-loose : (b : History) (g h : ℕ) (s : State) → (greenlet g s).raw ≡ true → is_over (phase_of g s.greenlets) ≡ false → Hosted b h s → Loose b g h s
raw-loose b g h s r o m =
    record {
      kept = m.kept;
      there = raw-found s.greenlets g r;
      going = o;
      story = m.story;
      tells = m.tells;
      ties = ties-loose (Some g) m.story s m.ties;
      parking = m.parking;
      main = λ e. m.main;
      sides = m.sides;
    }

after_end-raw-at : (n : ℕ) (up : Landing) (b : History) (g h k : ℕ) (ns : List ℕ) (o : Outcome) (s : State) → LandsAt n up → k < n → n ≤ length s.greenlets → (greenlet g s).raw ≡ true →
    Climbs s.greenlets (greenlet g s).parent h k → IsHost h s → AreHeldBy g ns s.greenlets s.items → Loose b g h s → At b (after_end up g o s)
after_end-raw-at n up b g h k ns o s l few within e c host held m = by (greenlet g s).raw e
  where
    out : Outcome
    out = kept o

    other : g ≡ h → ⊥
    other z = cc (e, plain-raw s.greenlets h host.plain, ap (λ i. (at s.greenlets i).raw) z)

    not-main : g ≡ 0 → ⊥
    not-main z = cc (e, plain-raw s.greenlets 0 m.kept.main, ap (λ i. (at s.greenlets i).raw) z)

    apart : (a : ℕ) → (a ≡ 0 → ⊥) → (0 == a) ≡ false
    apart a f = of (0 == a) refl
      where
        of : (b : Bool) → (0 == a) ≡ b → b ≡ false
        of true e = absurd (f (sym (equal 0 a e)))
        of false e = refl

    new : Greenlet
    new = record (greenlet g s) { phase = Phase.Done out }

    hosted : Hosted b h (ended g (kept o) s)
    hosted = record {
      kept = kept-ended g out s m.kept;
      host = host-ended g out h s other host;
      story = with_line (Line.End g out) m.story;
      tells = tells-line b m.story s.lines s.posts (Line.End g out) (lawful-ended (Some g) g out m.story s m.going m.ties) m.tells;
      ties = ties-ended g out m.story s m.there m.ties;
      parking = parked-ended (Some h) g out s m.there m.parking;
      main = main-ended g out s not-main (m.main (apart g not-main));
      sides = sides-ended g out s (raw-free g s e m.kept) m.sides;
      held = held-ended g out ns s held;
    }

    landed : At b (up (greenlet g s).parent (kept o) (ended g (kept o) s))
    landed =
        l b (greenlet g s).parent h k (kept o) (ended g (kept o) s) few (subst (λ z. n ≤ z) (sym (length-phased g (Phase.Done out) s)) within)
        (climbs-same s.greenlets (slice_set s.greenlets g new) (greenlet g s).parent h k (λ j. raw-set s.greenlets g j new refl) (λ j. parent-set s.greenlets g j new refl) c)
        (settled-ended g out s) hosted

    by : (raw : Bool) → raw ≡ true → At b (if raw then up (greenlet g s).parent (kept o) (ended g (kept o) s)
        else (if g == 0 then Next.Over (stop_of (kept o)) (ended g (kept o) s) else Next.Resting (ended g (kept o) s)))
    by true z = landed
    by false z = absurd (cc z)

raw-apart : (g h : ℕ) (s : State) → (greenlet g s).raw ≡ true → (k : ℕ) → (k == h) ≡ false → is_plain s.greenlets k ≡ true → (g == k) ≡ false
raw-apart g h s r k e p = by (g == k) refl
  where
    by : (b : Bool) → (g == k) ≡ b → b ≡ false
    by true z = absurd (cc (r, plain-raw s.greenlets k p, ap (λ i. (at s.greenlets i).raw) (equal g k z)))
    by false z = refl

pub goes_on-raw-at : (n : ℕ) (up : Landing) (b : History) (g h k : ℕ) (u : Unwound) (s : State) → LandsAt n up → k < n → n ≤ length s.greenlets → suc k ≤ length s.greenlets →
    (greenlet g s).raw ≡ true → Climbs s.greenlets (greenlet g s).parent h k → IsHost h s → is_settled s ≡ true → IsPlaced s.scenario g u s.greenlets s.items → Loose b g h s → At b (goes_on up g u s)
goes_on-raw-at n up b g h k (Unwound.Runs left locals todo) s l few within room e c host st placed m =
    let frame : Frame = record { locals = locals; todo = todo; gives = None } in
    let t = drop_items (is_timeout_of g left) s in
    let now = with_phase g (Phase.Live frame) t in
    let same : host_within k s.greenlets (greenlet g s).parent ≡ h = host-of-climb s.greenlets (greenlet g s).parent h k (plain-raw s.greenlets h host.plain) c in
    let sound = goes_on-raw k (land k) g h (Unwound.Runs left locals todo) s (land-soundly k) room e m.kept same host in
    (h, now-live b g h frame t placed.fits (held-live g left (record (greenlet g s) { phase = Phase.Live frame }) (greenlet g s) frame s.greenlets s.items m.there refl placed.held) (moves sound.0 sound.1) (raw-apart g h s e) (loose-drop b g h left s m), settled-live g frame t m.going m.there (settled-timeouts g left s st))
  where
    frame : Frame
    frame = record { locals = locals; todo = todo; gives = None }

    now : State
    now = with_phase g (Phase.Live frame) (drop_items (is_timeout_of g left) s)

    within-host : host_within k s.greenlets (greenlet g s).parent ≡ h → host_of now g ≡ h
    within-host same =
        let up-one : host_within (suc k) s.greenlets g ≡ h = ap (λ z. elim z [ true ↦ host_within k s.greenlets (greenlet g s).parent | false ↦ g ]) e ∙ same in
        ap (λ z. host_within z now.greenlets g) (length-phased g (Phase.Live frame) s)
        ∙ host_of-phased (length s.greenlets) g (Phase.Live frame) s g
        ∙ host-more (suc k) (length s.greenlets) s.greenlets g room (ap (λ z. (at s.greenlets z).raw) up-one ∙ plain-raw s.greenlets h host.plain) ∙ up-one

    moves : IsKept now → IsGoing g now → Moves g h now
    moves kept i =
        subst (λ z. Moves g z now) (within-host (host-of-climb s.greenlets (greenlet g s).parent h k (plain-raw s.greenlets h host.plain) c)) (moving g now kept i)
goes_on-raw-at n up b g h k (Unwound.Out left how) s l few within room e c host st placed m =
    after_end-raw-at n up b g h k left (outcome_of_leaving how) (drop_items (is_timeout_of g left) s) l few within e c (host-drop (is_timeout_of g left) h s host)
    (all-filter _ _ _ s.items (λ i k z. z) placed.held) (loose-drop b g h left s m)

-- ---- landing

pub own-start : (g : ℕ) (name : List ℕ) → IsOwn g (Line.Start g name)
own-start g name =
    record {
      names = refl;
      no_end = λ k. refl;
      no_link = λ k. refl;
      no_job = λ k. refl;
      no_done = λ k. refl;
      no_turn = λ l. refl;
      once = λ l. refl;
      unlinked = λ l. refl;
      timeless = λ l. refl;
      jobless = λ l. refl;
    }

pub own-into : (g : ℕ) (o : Outcome) → IsOwn g (Line.Into g o)
own-into g o =
    record {
      names = refl;
      no_end = λ k. refl;
      no_link = λ k. refl;
      no_job = λ k. refl;
      no_done = λ k. refl;
      no_turn = λ l. refl;
      once = λ l. refl;
      unlinked = λ l. refl;
      timeless = λ l. refl;
      jobless = λ l. refl;
    }

raw-phase : (g : ℕ) (s : State) → (greenlet g s).raw ≡ true → phase_of g s.greenlets ≡ Some (greenlet g s).phase
raw-phase g s r = ap (λ (x : Option Greenlet). elim x [ None ↦ None | Some y ↦ Some y.phase ]) (raw-found s.greenlets g r)

land-raw-at : (n : ℕ) (b : History) (g h k : ℕ) (o : Outcome) (s : State) → LandsAt n (land n) → k < n → suc n ≤ length s.greenlets → (greenlet g s).raw ≡ true →
    Climbs s.greenlets (greenlet g s).parent h k → is_settled s ≡ true → Hosted b h s → At b (land (suc n) g o s)
land-raw-at n b g h k o s l few within r c st m = by (greenlet g s).phase refl o
  where
    room : suc k ≤ length s.greenlets
    room = omega (arith, few, within)

    low : n ≤ length s.greenlets
    low = omega (arith, within)

    free : has_wake g s.items ≡ false
    free = free-wakeless g s.items (raw-free g s r m.kept)

    new : {args : List Value} → (greenlet g s).phase ≡ Phase.New args → is_unstarted (phase_of g s.greenlets) ≡ true
    new e = ap is_unstarted (raw-phase g s r ∙ ap (λ (p : Phase). Some p) e)

    loose : is_over (Some (greenlet g s).phase) ≡ false → Loose b g h s
    loose e = raw-loose b g h s r (ap is_over (raw-phase g s r) ∙ e) m

    by : (p : Phase) → (greenlet g s).phase ≡ p → (o : Outcome) → At b (elim p [
      | Phase.Done out ↦ land n (greenlet g s).parent (kept o) s
      | Phase.Live frame ↦ resumes (land n) g frame o (say (Line.Into g o) s)
      | Phase.New args ↦ elim o [
        | Outcome.Value v ↦ starts (land n) g (v ∷ []) s
        | Outcome.Fault f ↦ after_end (land n) g (Outcome.Fault f) s
      ]
    ])
    by (Phase.Done out) e o = l b (greenlet g s).parent h k (kept o) s few low c st m
    by (Phase.Live frame) e o =
        goes_on-raw-at n (land n) b g h k (unwind frame.todo [] (leaving_of o) (given frame o)) (say (Line.Into g o) s) l few low room r c (host-say (Line.Into g o) h s m.host) st
        (placed-frame s.scenario g s.greenlets s.items frame (leaving_of o) (given frame o) e (raw-phase g s r) m.sides.fit m.held)
        (loose-say b g h (Line.Into g o) s (own-into g o) (λ before. refl) free (loose (ap (λ z. is_over (Some z)) e)))
    by (Phase.New args) e (Outcome.Value v) =
        goes_on-raw-at n (land n) b g h k (unwind (Todo.Statements (function_of (greenlet g s).function s).body ∷ []) [] Leaving.Normally (named (function_of (greenlet g s).function s).parameters (v ∷ [])))
        (say (Line.Start g (function_of (greenlet g s).function s).name) s) l few low room r c (host-say _ h s m.host) st
        (placed-start s.scenario g s.greenlets s.items (named (function_of (greenlet g s).function s).parameters (v ∷ [])) (new e) m.sides.bodies m.sides.fit m.held)
        (loose-say b g h (Line.Start g (function_of (greenlet g s).function s).name) s (own-start g _) (λ before. refl) free (loose (ap (λ z. is_over (Some z)) e)))
    by (Phase.New args) e (Outcome.Fault f) =
        after_end-raw-at n (land n) b g h k [] (Outcome.Fault f) s l few low r c m.host (unstarted-free g [] s.greenlets s.items (new e) m.held) (loose (ap (λ z. is_over (Some z)) e))

-- the host goes on itself
host-loose : (b : History) (g : ℕ) (s : State) → Hosted b g s → Loose b g g s
host-loose b g s m =
    record {
      kept = m.kept;
      there = live-found s.greenlets g m.host.live;
      going = live-not-over _ m.host.live;
      story = m.story;
      tells = m.tells;
      ties = ties-loose (Some g) m.story s m.ties;
      parking = m.parking;
      main = λ e. m.main;
      sides = m.sides;
    }

land-plain-at : (n : ℕ) (b : History) (g : ℕ) (o : Outcome) (s : State) → is_settled s ≡ true → Hosted b g s → At b (land (suc n) g o s)
land-plain-at n b g o s st m = by (greenlet g s).phase refl (ap is_live (sym (live-phase s.greenlets g m.host.live)) ∙ m.host.live) o
  where
    by : (p : Phase) → (greenlet g s).phase ≡ p → is_live (Some p) ≡ true → (o : Outcome) → At b (elim p [
      | Phase.Done out ↦ land n (greenlet g s).parent (kept o) s
      | Phase.Live frame ↦ resumes (land n) g frame o (say (Line.Into g o) s)
      | Phase.New args ↦ elim o [
        | Outcome.Value v ↦ starts (land n) g (v ∷ []) s
        | Outcome.Fault f ↦ after_end (land n) g (Outcome.Fault f) s
      ]
    ])
    by (Phase.Done out) e z o = absurd (cc z)
    by (Phase.Live frame) e z o =
        goes_on-plain-at (land n) b g (unwind frame.todo [] (leaving_of o) (given frame o)) (say (Line.Into g o) s) m.host.plain (live-unclaimed g s m.kept m.host.live) m.host.free st
        (placed-frame s.scenario g s.greenlets s.items frame (leaving_of o) (given frame o) e (live-phase s.greenlets g m.host.live) m.sides.fit m.held)
        (loose-say b g g (Line.Into g o) s (own-into g o) (λ before. refl) (free-wakeless g s.items m.host.free) (host-loose b g s m))
    by (Phase.New args) e z o = absurd (cc z)

pub land-at : (n : ℕ) → LandsAt n (land n)
land-at zero b g h k o s few within c st m = absurd (omega (arith, few))
land-at (suc n) b g h zero o s few within c st m = land-plain-at n b g o s st (subst (λ z. Hosted b z s) (sym (climb-none s.greenlets g h c)) m)
land-at (suc n) b g h (suc k) o s few within c st m =
    let f = climb-first s.greenlets g h k c in
    land-raw-at n b g h k o s (land-at n) (omega (arith, few)) within f.0 f.1 st m

pub lands-at : (b : History) (g h : ℕ) (o : Outcome) (s : State) → host_of s g ≡ h → is_settled s ≡ true → Hosted b h s → At b (lands g o s)
lands-at b g h o s same st m =
    let c = climb-within s.greenlets g h m.host.plain same in
    land-at (length s.greenlets) b g h c.0 o s c.1 (omega arith) c.2 st m

-- ---- the statement of a greenlet is answered

pub goes-loose : (b : History) (g h : ℕ) (s : State) → Goes b g h s → Loose b g h s
goes-loose b g h s m =
    record {
      kept = m.moves.kept;
      there = live-found s.greenlets g m.moves.live;
      going = live-not-over _ m.moves.live;
      story = m.story;
      tells = m.tells;
      ties = ties-loose (Some g) m.story s m.ties;
      parking = m.parking;
      main = λ e. m.main;
      sides = m.sides;
    }

lands-any : (n : ℕ) → LandsAt n lands
lands-any n b g h k o s few within c st m = land-at (length s.greenlets) b g h k o s (omega (arith, few, within)) (omega arith) c st m

pub goes_on-at : (b : History) (g h : ℕ) (u : Unwound) (s : State) → is_settled s ≡ true → Moves g h s → IsPlaced s.scenario g u s.greenlets s.items → Loose b g h s → At b (goes_on lands g u s)
goes_on-at b g h u s st m placed loose = by (greenlet g s).raw refl
  where
    up-from : (k : ℕ) → k < length s.greenlets → Climbs s.greenlets g h k → (greenlet g s).raw ≡ true → At b (goes_on lands g u s)
    up-from zero few c e = absurd (cc (e, plain-raw s.greenlets h m.host.plain, ap (λ z. (at s.greenlets z).raw) (climb-none s.greenlets g h c)))
    up-from (suc k) few c e =
        goes_on-raw-at (length s.greenlets) lands b g h k u s (lands-any (length s.greenlets)) (omega (arith, few)) (omega arith) (omega (arith, few)) e (climb-first s.greenlets g h k c).1 m.host st placed loose

    by : (raw : Bool) → (greenlet g s).raw ≡ raw → At b (goes_on lands g u s)
    by true e = let c = climb-within s.greenlets g h m.host.plain m.same in up-from c.0 c.1 c.2 e
    by false e =
        let own : h ≡ g = sym m.same ∙ host-plain (length s.greenlets) s.greenlets g e in
        let host : IsHost g s = subst (λ z. IsHost z s) own m.host in
        goes_on-plain-at lands b g u s host.plain (live-unclaimed g s m.kept m.live) host.free st placed (subst (λ z. Loose b g z s) own loose)

-- who goes is in its frame
pub goes-frame : (b : History) (g h : ℕ) (s : State) → Goes b g h s → (greenlet g s).phase ≡ Phase.Live (frame_of (greenlet g s).phase)
goes-frame b g h s m = by (greenlet g s).phase (ap is_live (sym (live-phase s.greenlets g m.moves.live)) ∙ m.moves.live)
  where
    by : (p : Phase) → is_live (Some p) ≡ true → p ≡ Phase.Live (frame_of p)
    by (Phase.New args) e = absurd (cc e)
    by (Phase.Live frame) e = refl
    by (Phase.Done o) e = absurd (cc e)

pub answered-at : (b : History) (g h : ℕ) (o : Outcome) (s : State) → is_settled s ≡ true → Goes b g h s → At b (answered g o s)
answered-at b g h o s st m =
    let frame = frame_of (greenlet g s).phase in
    goes_on-at b g h (unwind frame.todo [] (leaving_of o) (given frame o)) s st m.moves
    (placed-frame s.scenario g s.greenlets s.items frame (leaving_of o) (given frame o) (goes-frame b g h s m) (live-phase s.greenlets g m.moves.live) m.sides.fit m.held) (goes-loose b g h s m)
