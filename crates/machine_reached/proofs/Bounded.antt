-- The items of a state are bounded.
use Rattle.std.proofs.Common.{◌≡◌, refl, ap, ◌∙◌, sym, subst, ℕ, zero, suc, ◌+◌, ◌*◌, ◌-◌, ◌≤◌, ◌<◌, Bool, true, false, List, [], ◌∷◌, ◌++◌, length, length-append, cond, eqb, arith}
use Rattle.std.proofs.lemmas.Bool.{and_from}
use Rattle.std.proofs.lemmas.Bool.Decides.{nat_tests}
use Rattle.std.proofs.lemmas.List.Sums.{sum_by-cons}
use Rattle.std.proofs.lemmas.Map.Made.{length-le_from_is_member}
use Rattle.std.proofs.lemmas.Map.Steps.{length-le_from_distinct_below}
use Rattle.std.proofs.lemmas.Cmp.{nat_eq_equiv}
use Rattle.std.specs.List.{AllByRecursion, IsDistinct, list_all, list_any}
use Rattle.std.specs.Prelude.{not, ◌==◌, ◌&&◌, ◌||◌, Option, Some, None, count_by, if◌then◌else◌, is_some, nat_le, nat_lt}
use Rattle.scenario_tree.specs.declared.tree.Scenario.{Scenario}
use Rattle.machine.specs.declared.items.Delivery.{Delivery}
use Rattle.machine.specs.declared.items.Item.{Item}
use Rattle.machine.specs.declared.state.Greenlet.{Greenlet}
use Rattle.machine.specs.declared.state.Phase.{Phase}
use Rattle.machine.specs.declared.state.Todo.{Todo}
use Rattle.machine.specs.State.{State}
use Rattle.gv_values.specs.declared.fault.FaultKind.{FaultKind}
use Rattle.world_rules.specs.Legal.{moment_of}
use Rattle.machine.specs.Questions.{block_line}
use Rattle.machine.specs.Deliveries.{deliver, interrupts}
use Rattle.machine.specs.Soundness.{phase_of, Claim, are_single, claim_eq, claim_of, is_live, is_meant, is_unclaimed, is_unstarted, same_claim}
use Rattle.machine.specs.Landing.{Next, lands, starts}
use Rattle.machine.specs.Greenlets.{frame_of, greenlet}
use Rattle.machine.specs.Request.{is_kill}
use Rattle.machine.specs.Moves.{move, look}
use Rattle.machine.specs.Run.{first_state, silent}
use Rattle.machine_soundness.specs.Going.{IsKept, is_meant_did, next_did}
use Rattle.machine.proofs.Halves.{left, right}
use Rattle.machine_soundness.proofs.States.{meants, singles}
use Rattle.machine.specs.BodyMoves.{Did}
use Rattle.machine_soundness.proofs.Greenlets.{live-found}
use Rattle.machine_reached.proofs.Offered.{offered}
use Rattle.machine_reached.proofs.Same.{reached-same}
use Rattle.machine_reached.specs.Bounds.{IsBounded}
use Rattle.machine_reached.specs.Offers.{AreOffered}
use Rattle.machine_reached.specs.Meant.{IsMeantText, KnowsText, fits_did}
use Rattle.machine_trace_laws.specs.Reached.{Reached, state_of_next}
use Rattle.machine_well_formed.specs.Texts.{IsFitText, fits_phase, fits_rest, fits_todo, is_among, is_fit_greenlet, is_held, is_raw_function, left_in, withins, withins_at}
use Rattle.machine_trace_laws.proofs.Histories.{History, at_first}
use Rattle.machine_trace_laws.proofs.Settled.{count-same}
use Rattle.machine_offers.proofs.Anys.{any-imply}
use Rattle.machine_trace_laws.proofs.Landed.{cons-distinct, goes-frame}
use Rattle.machine_trace_laws.proofs.Placed.{any-both, frame-fits}
use Rattle.machine_well_formed.proofs.Bodies.{IsFitDid, body_move-fit}
use Rattle.machine_trace_laws.proofs.Goings.{AreHeld, At, Sides, Goes}
use Rattle.machine_trace_laws.proofs.Moved.{move-at, plain-not-raw}
use Rattle.machine_trace_laws.proofs.Delivered.{begins-at, deliver-at, interrupts-at}
use Rattle.machine_trace_laws.proofs.Runs.{ends-silent, goes-silent, rests-block_line, rests-silent, rests-turned, settled-block_line}
use Rattle.machine_trace_laws.proofs.Quieted.{answer-unheard, settled-answered, with_silence}

-- ---- the numbers that items of one kind have

abbrev more : Option ℕ → List ℕ → List ℕ
more None ns = ns
more (Some n) ns = n ∷ ns

abbrev numbers : (Delivery → Option ℕ) → List Item → List ℕ
numbers f [] = []
numbers f (i ∷ items) = more (f i.delivery) (numbers f items)

-- an item with this number says this
record IsKind (f : Delivery → Option ℕ) (mk : ℕ → Claim) : Type 0 where
  says : (d : Delivery) (n : ℕ) → f d ≡ Some n → claim_of d ≡ Some (mk n)
  differ : (a b : ℕ) → claim_eq (mk a) (mk b) ≡ (a == b)

not-equal : (a b : ℕ) → not (a == b) ≡ true → eqb a b ≡ false
not-equal a b h = grind (arith, nat_tests, h)

numbers-apart : (f : Delivery → Option ℕ) (mk : ℕ → Claim) → IsKind f mk → (n : ℕ) (items : List Item) → is_unclaimed (Some (mk n)) items ≡ true → AllByRecursion (λ y. eqb n y ≡ false) (numbers f items)
numbers-apart f mk k n [] h = tt
numbers-apart f mk k n (i ∷ items) h = by (f i.delivery) refl (numbers-apart f mk k n items (right (not (same_claim (Some (mk n)) (claim_of i.delivery))) _ h))
  where
    by : (o : Option ℕ) → f i.delivery ≡ o → AllByRecursion (λ y. eqb n y ≡ false) (numbers f items) → AllByRecursion (λ y. eqb n y ≡ false) (more o (numbers f items))
    by None e rest = rest
    by (Some m) e rest =
        let free : not (same_claim (Some (mk n)) (claim_of i.delivery)) ≡ true = left _ (is_unclaimed (Some (mk n)) items) h in
        let own : not (n == m) ≡ true = sym (ap not (ap (same_claim (Some (mk n))) (k.says i.delivery m e) ∙ k.differ n m)) ∙ free in
        (not-equal n m own, rest)

numbers-distinct : (f : Delivery → Option ℕ) (mk : ℕ → Claim) → IsKind f mk → (items : List Item) → are_single items ≡ true → IsDistinct eqb (numbers f items)
unfolding IsDistinct
numbers-distinct f mk k [] h = tt
numbers-distinct f mk k (i ∷ items) h = by (f i.delivery) refl (numbers-distinct f mk k items (right (is_unclaimed (claim_of i.delivery) items) _ h))
  where
    by : (o : Option ℕ) → f i.delivery ≡ o → IsDistinct eqb (numbers f items) → IsDistinct eqb (more o (numbers f items))
    by None e rest = rest
    by (Some n) e rest =
        (numbers-apart f mk k n items (subst (λ (c : Option Claim). is_unclaimed c items ≡ true) (k.says i.delivery n e) (left _ (are_single items) h)), rest)

eqb-same : (a b : ℕ) → eqb a b ≡ true → a ≡ b
eqb-same a b h = grind (arith, nat_tests, h)

-- what is so of each item's number
numbers-all : (B : ℕ → Type 0) (f : Delivery → Option ℕ) (p : Delivery → Bool) → ((d : Delivery) (n : ℕ) → p d ≡ true → f d ≡ Some n → B n) → (items : List Item) → list_all (λ (i : Item). p i.delivery) items ≡ true →
    (q : ℕ) → list_any (eqb q) (numbers f items) ≡ true → B q
numbers-all B f p g [] h q e = absurd (cc e)
numbers-all B f p g (i ∷ items) h q e = by (f i.delivery) refl e (numbers-all B f p g items (right (p i.delivery) _ h) q)
  where
    by : (o : Option ℕ) → f i.delivery ≡ o → list_any (eqb q) (more o (numbers f items)) ≡ true → (list_any (eqb q) (numbers f items) ≡ true → B q) → B q
    by None z e rest = rest e
    by (Some n) z e rest = of (eqb q n) refl e
      where
        of : (c : Bool) → eqb q n ≡ c → (c || list_any (eqb q) (numbers f items)) ≡ true → B q
        of true y e = subst B (sym (eqb-same q n y)) (g i.delivery n (left (p i.delivery) _ h) z)
        of false y e = rest e

numbers-counted : (f : Delivery → Option ℕ) (items : List Item) → count_by (λ (i : Item). is_some (f i.delivery)) items ≡ length (numbers f items)
numbers-counted f [] = refl
numbers-counted f (i ∷ items) = sum_by-cons (λ (j : Item). cond (is_some (f j.delivery)) 1 0) i items ∙ by (f i.delivery) (numbers-counted f items)
  where
    by : (o : Option ℕ) → count_by (λ (j : Item). is_some (f j.delivery)) items ≡ length (numbers f items) → cond (is_some o) 1 0 + count_by (λ (j : Item). is_some (f j.delivery)) items ≡ length (more o (numbers f items))
    by None e = let z : 0 + count_by (λ (j : Item). is_some (f j.delivery)) items ≡ count_by (λ (j : Item). is_some (f j.delivery)) items = omega arith in z ∙ e
    by (Some n) e = let z : 1 + count_by (λ (j : Item). is_some (f j.delivery)) items ≡ suc (count_by (λ (j : Item). is_some (f j.delivery)) items) = omega arith in z ∙ ap suc e

-- ---- the kinds

abbrev start_of : Delivery → Option ℕ
start_of (Delivery.Start g deadline) = Some g
start_of d = None

abbrev wake_of : Delivery → Option ℕ
wake_of (Delivery.Wake g w) = Some g
wake_of d = None

abbrev late_of : Delivery → Option ℕ
late_of (Delivery.Late g deadline n) = Some g
late_of d = None

abbrev timeout_of : Delivery → Option ℕ
timeout_of (Delivery.Timeout g n deadline) = Some n
timeout_of d = None

abbrev kill_of : Delivery → Option ℕ
kill_of (Delivery.Kill g f) = Some g
kill_of d = None

abbrev link_of : Delivery → Option ℕ
link_of (Delivery.Link n g kind f) = Some n
link_of d = None

start-kind : IsKind start_of Claim.StartOf
start-kind = record { says = says; differ = λ a b. refl }
  where
    says : (d : Delivery) (n : ℕ) → start_of d ≡ Some n → claim_of d ≡ Some (Claim.StartOf n)
    says (Delivery.Start g deadline) n e = let same : g ≡ n = cc e in ap (λ z. Some (Claim.StartOf z)) same
    says (Delivery.Wake g w) n e = absurd (cc e)
    says (Delivery.Late g deadline m) n e = absurd (cc e)
    says (Delivery.Timeout g m deadline) n e = absurd (cc e)
    says (Delivery.Kill g f) n e = absurd (cc e)
    says (Delivery.Link m g kind f) n e = absurd (cc e)

wake-kind : IsKind wake_of Claim.WakeOf
wake-kind = record { says = says; differ = λ a b. refl }
  where
    says : (d : Delivery) (n : ℕ) → wake_of d ≡ Some n → claim_of d ≡ Some (Claim.WakeOf n)
    says (Delivery.Start g deadline) n e = absurd (cc e)
    says (Delivery.Wake g w) n e = let same : g ≡ n = cc e in ap (λ z. Some (Claim.WakeOf z)) same
    says (Delivery.Late g deadline m) n e = absurd (cc e)
    says (Delivery.Timeout g m deadline) n e = absurd (cc e)
    says (Delivery.Kill g f) n e = absurd (cc e)
    says (Delivery.Link m g kind f) n e = absurd (cc e)

late-kind : IsKind late_of Claim.LateOf
late-kind = record { says = says; differ = λ a b. refl }
  where
    says : (d : Delivery) (n : ℕ) → late_of d ≡ Some n → claim_of d ≡ Some (Claim.LateOf n)
    says (Delivery.Start g deadline) n e = absurd (cc e)
    says (Delivery.Wake g w) n e = absurd (cc e)
    says (Delivery.Late g deadline m) n e = let same : g ≡ n = cc e in ap (λ z. Some (Claim.LateOf z)) same
    says (Delivery.Timeout g m deadline) n e = absurd (cc e)
    says (Delivery.Kill g f) n e = absurd (cc e)
    says (Delivery.Link m g kind f) n e = absurd (cc e)

timeout-kind : IsKind timeout_of Claim.TimeoutNumbered
timeout-kind = record { says = says; differ = λ a b. refl }
  where
    says : (d : Delivery) (n : ℕ) → timeout_of d ≡ Some n → claim_of d ≡ Some (Claim.TimeoutNumbered n)
    says (Delivery.Start g deadline) n e = absurd (cc e)
    says (Delivery.Wake g w) n e = absurd (cc e)
    says (Delivery.Late g deadline m) n e = absurd (cc e)
    says (Delivery.Timeout g m deadline) n e = let same : m ≡ n = cc e in ap (λ z. Some (Claim.TimeoutNumbered z)) same
    says (Delivery.Kill g f) n e = absurd (cc e)
    says (Delivery.Link m g kind f) n e = absurd (cc e)

link-kind : IsKind link_of Claim.LinkNumbered
link-kind = record { says = says; differ = λ a b. refl }
  where
    says : (d : Delivery) (n : ℕ) → link_of d ≡ Some n → claim_of d ≡ Some (Claim.LinkNumbered n)
    says (Delivery.Start g deadline) n e = absurd (cc e)
    says (Delivery.Wake g w) n e = absurd (cc e)
    says (Delivery.Late g deadline m) n e = absurd (cc e)
    says (Delivery.Timeout g m deadline) n e = absurd (cc e)
    says (Delivery.Kill g f) n e = absurd (cc e)
    says (Delivery.Link m g kind f) n e = let same : m ≡ n = cc e in ap (λ z. Some (Claim.LinkNumbered z)) same

-- ---- each item is of one kind

counted : (t : Delivery → Bool) (i : Item) (items : List Item) (d : Delivery) → i.delivery ≡ d → count_by (λ (j : Item). t j.delivery) (i ∷ items) ≡ cond (t d) 1 0 + count_by (λ (j : Item). t j.delivery) items
counted t i items d e = sum_by-cons (λ (j : Item). cond (t j.delivery) 1 0) i items ∙ ap (λ x. cond (t x) 1 0 + count_by (λ (j : Item). t j.delivery) items) e

abbrev number_of : (Delivery → Option ℕ) → List Item → ℕ
number_of f items = count_by (λ (i : Item). is_some (f i.delivery)) items

all-kinds : (items : List Item) → length items ≡ number_of start_of items + number_of wake_of items + number_of late_of items + number_of timeout_of items + number_of kill_of items + number_of link_of items
all-kinds [] = refl
all-kinds (i ∷ items) = by i.delivery refl (all-kinds items)
  where
    by : (d : Delivery) → i.delivery ≡ d → length items ≡ number_of start_of items + number_of wake_of items + number_of late_of items + number_of timeout_of items + number_of kill_of items + number_of link_of items → suc (length items) ≡ number_of start_of (i ∷ items) + number_of wake_of (i ∷ items) + number_of late_of (i ∷ items) + number_of timeout_of (i ∷ items) + number_of kill_of (i ∷ items) + number_of link_of (i ∷ items)
    by (Delivery.Start g deadline) e rest =
        let start : number_of start_of (i ∷ items) ≡ 1 + number_of start_of items = counted (λ x. is_some (start_of x)) i items (Delivery.Start g deadline) e in
        let wake : number_of wake_of (i ∷ items) ≡ 0 + number_of wake_of items = counted (λ x. is_some (wake_of x)) i items (Delivery.Start g deadline) e in
        let late : number_of late_of (i ∷ items) ≡ 0 + number_of late_of items = counted (λ x. is_some (late_of x)) i items (Delivery.Start g deadline) e in
        let timeout : number_of timeout_of (i ∷ items) ≡ 0 + number_of timeout_of items = counted (λ x. is_some (timeout_of x)) i items (Delivery.Start g deadline) e in
        let kill : number_of kill_of (i ∷ items) ≡ 0 + number_of kill_of items = counted (λ x. is_some (kill_of x)) i items (Delivery.Start g deadline) e in
        let link : number_of link_of (i ∷ items) ≡ 0 + number_of link_of items = counted (λ x. is_some (link_of x)) i items (Delivery.Start g deadline) e in
        omega (arith, rest, start, wake, late, timeout, kill, link)
    by (Delivery.Wake g w) e rest =
        let start : number_of start_of (i ∷ items) ≡ 0 + number_of start_of items = counted (λ x. is_some (start_of x)) i items (Delivery.Wake g w) e in
        let wake : number_of wake_of (i ∷ items) ≡ 1 + number_of wake_of items = counted (λ x. is_some (wake_of x)) i items (Delivery.Wake g w) e in
        let late : number_of late_of (i ∷ items) ≡ 0 + number_of late_of items = counted (λ x. is_some (late_of x)) i items (Delivery.Wake g w) e in
        let timeout : number_of timeout_of (i ∷ items) ≡ 0 + number_of timeout_of items = counted (λ x. is_some (timeout_of x)) i items (Delivery.Wake g w) e in
        let kill : number_of kill_of (i ∷ items) ≡ 0 + number_of kill_of items = counted (λ x. is_some (kill_of x)) i items (Delivery.Wake g w) e in
        let link : number_of link_of (i ∷ items) ≡ 0 + number_of link_of items = counted (λ x. is_some (link_of x)) i items (Delivery.Wake g w) e in
        omega (arith, rest, start, wake, late, timeout, kill, link)
    by (Delivery.Late g deadline n) e rest =
        let start : number_of start_of (i ∷ items) ≡ 0 + number_of start_of items = counted (λ x. is_some (start_of x)) i items (Delivery.Late g deadline n) e in
        let wake : number_of wake_of (i ∷ items) ≡ 0 + number_of wake_of items = counted (λ x. is_some (wake_of x)) i items (Delivery.Late g deadline n) e in
        let late : number_of late_of (i ∷ items) ≡ 1 + number_of late_of items = counted (λ x. is_some (late_of x)) i items (Delivery.Late g deadline n) e in
        let timeout : number_of timeout_of (i ∷ items) ≡ 0 + number_of timeout_of items = counted (λ x. is_some (timeout_of x)) i items (Delivery.Late g deadline n) e in
        let kill : number_of kill_of (i ∷ items) ≡ 0 + number_of kill_of items = counted (λ x. is_some (kill_of x)) i items (Delivery.Late g deadline n) e in
        let link : number_of link_of (i ∷ items) ≡ 0 + number_of link_of items = counted (λ x. is_some (link_of x)) i items (Delivery.Late g deadline n) e in
        omega (arith, rest, start, wake, late, timeout, kill, link)
    by (Delivery.Timeout g n deadline) e rest =
        let start : number_of start_of (i ∷ items) ≡ 0 + number_of start_of items = counted (λ x. is_some (start_of x)) i items (Delivery.Timeout g n deadline) e in
        let wake : number_of wake_of (i ∷ items) ≡ 0 + number_of wake_of items = counted (λ x. is_some (wake_of x)) i items (Delivery.Timeout g n deadline) e in
        let late : number_of late_of (i ∷ items) ≡ 0 + number_of late_of items = counted (λ x. is_some (late_of x)) i items (Delivery.Timeout g n deadline) e in
        let timeout : number_of timeout_of (i ∷ items) ≡ 1 + number_of timeout_of items = counted (λ x. is_some (timeout_of x)) i items (Delivery.Timeout g n deadline) e in
        let kill : number_of kill_of (i ∷ items) ≡ 0 + number_of kill_of items = counted (λ x. is_some (kill_of x)) i items (Delivery.Timeout g n deadline) e in
        let link : number_of link_of (i ∷ items) ≡ 0 + number_of link_of items = counted (λ x. is_some (link_of x)) i items (Delivery.Timeout g n deadline) e in
        omega (arith, rest, start, wake, late, timeout, kill, link)
    by (Delivery.Kill g f) e rest =
        let start : number_of start_of (i ∷ items) ≡ 0 + number_of start_of items = counted (λ x. is_some (start_of x)) i items (Delivery.Kill g f) e in
        let wake : number_of wake_of (i ∷ items) ≡ 0 + number_of wake_of items = counted (λ x. is_some (wake_of x)) i items (Delivery.Kill g f) e in
        let late : number_of late_of (i ∷ items) ≡ 0 + number_of late_of items = counted (λ x. is_some (late_of x)) i items (Delivery.Kill g f) e in
        let timeout : number_of timeout_of (i ∷ items) ≡ 0 + number_of timeout_of items = counted (λ x. is_some (timeout_of x)) i items (Delivery.Kill g f) e in
        let kill : number_of kill_of (i ∷ items) ≡ 1 + number_of kill_of items = counted (λ x. is_some (kill_of x)) i items (Delivery.Kill g f) e in
        let link : number_of link_of (i ∷ items) ≡ 0 + number_of link_of items = counted (λ x. is_some (link_of x)) i items (Delivery.Kill g f) e in
        omega (arith, rest, start, wake, late, timeout, kill, link)
    by (Delivery.Link n g kind f) e rest =
        let start : number_of start_of (i ∷ items) ≡ 0 + number_of start_of items = counted (λ x. is_some (start_of x)) i items (Delivery.Link n g kind f) e in
        let wake : number_of wake_of (i ∷ items) ≡ 0 + number_of wake_of items = counted (λ x. is_some (wake_of x)) i items (Delivery.Link n g kind f) e in
        let late : number_of late_of (i ∷ items) ≡ 0 + number_of late_of items = counted (λ x. is_some (late_of x)) i items (Delivery.Link n g kind f) e in
        let timeout : number_of timeout_of (i ∷ items) ≡ 0 + number_of timeout_of items = counted (λ x. is_some (timeout_of x)) i items (Delivery.Link n g kind f) e in
        let kill : number_of kill_of (i ∷ items) ≡ 0 + number_of kill_of items = counted (λ x. is_some (kill_of x)) i items (Delivery.Link n g kind f) e in
        let link : number_of link_of (i ∷ items) ≡ 1 + number_of link_of items = counted (λ x. is_some (link_of x)) i items (Delivery.Link n g kind f) e in
        omega (arith, rest, start, wake, late, timeout, kill, link)

-- ---- how many there are of each

phase-below : (gs : List Greenlet) (g : ℕ) (p : Phase) → phase_of g gs ≡ Some p → g < length gs
phase-below [] g p e = absurd (cc e)
phase-below (x ∷ gs) zero p e = omega arith
phase-below (x ∷ gs) (suc g) p e = let r = phase-below gs g p e in omega (arith, r)

unstarted-below : (gs : List Greenlet) (g : ℕ) → is_unstarted (phase_of g gs) ≡ true → g < length gs
unstarted-below gs g e = by (phase_of g gs) refl e
  where
    by : (p : Option Phase) → phase_of g gs ≡ p → is_unstarted p ≡ true → g < length gs
    by None z e = absurd (cc e)
    by (Some p) z e = phase-below gs g p z

live-below : (gs : List Greenlet) (g : ℕ) → is_live (phase_of g gs) ≡ true → g < length gs
live-below gs g e = by (phase_of g gs) refl e
  where
    by : (p : Option Phase) → phase_of g gs ≡ p → is_live p ≡ true → g < length gs
    by None z e = absurd (cc e)
    by (Some p) z e = phase-below gs g p z

one-each : (f : Delivery → Option ℕ) (mk : ℕ → Claim) (s : State) → IsKind f mk → IsKept s → ((d : Delivery) (n : ℕ) → is_meant s d ≡ true → f d ≡ Some n → n < length s.greenlets) →
    number_of f s.items ≤ length s.greenlets
one-each f mk s k kept low =
    subst (λ n. n ≤ length s.greenlets) (sym (numbers-counted f s.items))
    (length-le_from_distinct_below (numbers f s.items) (length s.greenlets) (numbers-distinct f mk k s.items (singles s kept.sound))
    (numbers-all (λ q. q < length s.greenlets) f (is_meant s) low s.items (meants s kept.sound)))

starts-few : (s : State) → IsKept s → number_of start_of s.items ≤ length s.greenlets
starts-few s kept = one-each start_of Claim.StartOf s start-kind kept low
  where
    low : (d : Delivery) (n : ℕ) → is_meant s d ≡ true → start_of d ≡ Some n → n < length s.greenlets
    low (Delivery.Start g deadline) n h e = let same : g ≡ n = cc e in subst (λ z. z < length s.greenlets) same (unstarted-below s.greenlets g h)
    low (Delivery.Wake g w) n h e = absurd (cc e)
    low (Delivery.Late g deadline m) n h e = absurd (cc e)
    low (Delivery.Timeout g m deadline) n h e = absurd (cc e)
    low (Delivery.Kill g f) n h e = absurd (cc e)
    low (Delivery.Link m g kind f) n h e = absurd (cc e)

wakes-few : (s : State) → IsKept s → number_of wake_of s.items ≤ length s.greenlets
wakes-few s kept = one-each wake_of Claim.WakeOf s wake-kind kept low
  where
    low : (d : Delivery) (n : ℕ) → is_meant s d ≡ true → wake_of d ≡ Some n → n < length s.greenlets
    low (Delivery.Wake g w) n h e = let same : g ≡ n = cc e in subst (λ z. z < length s.greenlets) same (live-below s.greenlets g h)
    low (Delivery.Start g deadline) n h e = absurd (cc e)
    low (Delivery.Late g deadline m) n h e = absurd (cc e)
    low (Delivery.Timeout g m deadline) n h e = absurd (cc e)
    low (Delivery.Kill g f) n h e = absurd (cc e)
    low (Delivery.Link m g kind f) n h e = absurd (cc e)

lates-few : (s : State) → IsKept s → number_of late_of s.items ≤ length s.greenlets
lates-few s kept = one-each late_of Claim.LateOf s late-kind kept low
  where
    low : (d : Delivery) (n : ℕ) → is_meant s d ≡ true → late_of d ≡ Some n → n < length s.greenlets
    low (Delivery.Late g deadline m) n h e = let same : g ≡ n = cc e in subst (λ z. z < length s.greenlets) same (live-below s.greenlets g h)
    low (Delivery.Start g deadline) n h e = absurd (cc e)
    low (Delivery.Wake g w) n h e = absurd (cc e)
    low (Delivery.Timeout g m deadline) n h e = absurd (cc e)
    low (Delivery.Kill g f) n h e = absurd (cc e)
    low (Delivery.Link m g kind f) n h e = absurd (cc e)

-- links are counted from 1
record IsLinkNumber (links n : ℕ) : Type 0 where
  low : n < links + 1
  some : 0 < n

links-few : (s : State) → IsKept s → AreHeld s.greenlets s.items → number_of link_of s.items ≤ s.links
links-few s kept held =
    let ns = numbers link_of s.items in
    let each = numbers-all (IsLinkNumber s.links) link_of (λ d. is_meant s d && is_held s.greenlets d) low s.items (and-all s.items (meants s kept.sound) held) in
    let le = length-le_from_distinct_below (0 ∷ ns) (s.links + 1) (cons-distinct 0 ns (apart ns each) (numbers-distinct link_of Claim.LinkNumbered link-kind s.items (singles s kept.sound))) (under ns each) in
    let c = numbers-counted link_of s.items in
    omega (arith, le, c)
  where
    and-all : (items : List Item) → list_all (λ (i : Item). is_meant s i.delivery) items ≡ true → list_all (λ (i : Item). is_held s.greenlets i.delivery) items ≡ true →
        list_all (λ (i : Item). is_meant s i.delivery && is_held s.greenlets i.delivery) items ≡ true
    and-all [] h k = refl
    and-all (i ∷ items) h k =
        and_from (is_meant s i.delivery && is_held s.greenlets i.delivery) _ (and_from (is_meant s i.delivery) (is_held s.greenlets i.delivery) (left _ _ h) (left _ _ k))
        (and-all items (right (is_meant s i.delivery) _ h) (right (is_held s.greenlets i.delivery) _ k))

    numbered : (n : ℕ) → nat_le n s.links ≡ true → nat_lt 0 n ≡ true → IsLinkNumber s.links n
    numbered n h k = record { low = grind (arith, nat_tests, h); some = grind (arith, nat_tests, k) }

    low : (d : Delivery) (n : ℕ) → (is_meant s d && is_held s.greenlets d) ≡ true → link_of d ≡ Some n → IsLinkNumber s.links n
    low (Delivery.Link m g kind f) n h e =
        let same : m ≡ n = cc e in
        subst (IsLinkNumber s.links) same (numbered m (left (nat_le m s.links) (nat_lt 0 m) h) (right (nat_le m s.links) (nat_lt 0 m) h))
    low (Delivery.Start g deadline) n h e = absurd (cc e)
    low (Delivery.Wake g w) n h e = absurd (cc e)
    low (Delivery.Late g deadline m) n h e = absurd (cc e)
    low (Delivery.Timeout g m deadline) n h e = absurd (cc e)
    low (Delivery.Kill g f) n h e = absurd (cc e)

    itself : (n : ℕ) → eqb n n ≡ true
    itself n = grind (arith, nat_tests)

    zero-apart : (n : ℕ) → 0 < n → eqb 0 n ≡ false
    zero-apart n h = grind (arith, nat_tests, h)

    later : (a b : Bool) → b ≡ true → (a || b) ≡ true
    later true b e = refl
    later false b e = e

    apart : (ns : List ℕ) → ((q : ℕ) → list_any (eqb q) ns ≡ true → IsLinkNumber s.links q) → AllByRecursion (λ y. eqb 0 y ≡ false) ns
    apart [] f = tt
    apart (n ∷ ns) f = (zero-apart n (f n (ap (λ b. b || list_any (eqb n) ns) (itself n))).some, apart ns (λ q e. f q (later (eqb q n) (list_any (eqb q) ns) e)))

    under : (ns : List ℕ) → ((q : ℕ) → list_any (eqb q) ns ≡ true → IsLinkNumber s.links q) → (q : ℕ) → list_any (eqb q) (0 ∷ ns) ≡ true → q < s.links + 1
    under ns f q e = by (eqb q 0) refl e
      where
        by : (c : Bool) → eqb q 0 ≡ c → (c || list_any (eqb q) ns) ≡ true → q < s.links + 1
        by true z e = let same = eqb-same q 0 z in omega (arith, same)
        by false z e = (f q e).low

-- ---- timeouts

-- the numbers of all blocks in which greenlets are
abbrev blocks : List Greenlet → List ℕ
blocks [] = []
blocks (x ∷ gs) = withins_at (Some x.phase) ++ blocks gs

few-withins : (c : Scenario) (hub : Bool) (todo : List Todo) → fits_rest c hub todo ≡ true → length (withins todo) ≤ 8
few-withins c hub [] h = omega arith
few-withins c hub (Todo.Within n silent ∷ todo) h =
    let room = left (nat_lt 0 (left_in todo)) (fits_rest c hub todo) h in
    let r = few-withins c hub todo (right (nat_lt 0 (left_in todo)) (fits_rest c hub todo) h) in
    spare (length (withins todo)) room
  where
    spare : (n : ℕ) → nat_lt 0 (8 - n) ≡ true → suc n ≤ 8
    spare n h = grind (arith, nat_tests, h)
few-withins c hub (Todo.Statements ss ∷ todo) h = few-withins c hub todo (right (fits_todo c hub (left_in todo) (Todo.Statements ss)) (fits_rest c hub todo) h)
few-withins c hub (Todo.Again e body ∷ todo) h = few-withins c hub todo (right (fits_todo c hub (left_in todo) (Todo.Again e body)) (fits_rest c hub todo) h)
few-withins c hub (Todo.Guard excepts finally ∷ todo) h = few-withins c hub todo (right (fits_todo c hub (left_in todo) (Todo.Guard excepts finally)) (fits_rest c hub todo) h)
few-withins c hub (Todo.Afterwards how ∷ todo) h = few-withins c hub todo (right (fits_todo c hub (left_in todo) (Todo.Afterwards how)) (fits_rest c hub todo) h)

few-blocks : (c : Scenario) (gs : List Greenlet) → list_all (is_fit_greenlet c) gs ≡ true → length (blocks gs) ≤ 8 * length gs
few-blocks c [] h = omega arith
few-blocks c (x ∷ gs) h =
    let fit : fits_phase c (not x.raw) x.phase ≡ true = right (if x.raw then is_raw_function c x.function else true) (fits_phase c (not x.raw) x.phase) (left _ (list_all (is_fit_greenlet c) gs) h) in
    let own = by x.phase fit in
    let rest = few-blocks c gs (right (is_fit_greenlet c x) _ h) in
    let sum = length-append (withins_at (Some x.phase)) (blocks gs) in
    omega (arith, own, rest, sum)
  where
    by : (p : Phase) → fits_phase c (not x.raw) p ≡ true → length (withins_at (Some p)) ≤ 8
    by (Phase.New args) f = omega arith
    by (Phase.Live frame) f = few-withins c (not x.raw) frame.todo f
    by (Phase.Done o) f = omega arith

among-member : (n : ℕ) (ns : List ℕ) → is_among n ns ≡ true → list_any (eqb n) ns ≡ true
among-member n ns h = any-imply (λ m. m == n) (eqb n) ns (λ m e. turned m e) h
  where
    turned : (m : ℕ) → (m == n) ≡ true → eqb n m ≡ true
    turned m e = grind (arith, nat_tests, e)

in-blocks : (n g : ℕ) (gs : List Greenlet) → is_among n (withins_at (phase_of g gs)) ≡ true → list_any (eqb n) (blocks gs) ≡ true
in-blocks n g [] h = absurd (cc h)
in-blocks n zero (x ∷ gs) h = any-both (eqb n) (withins_at (Some x.phase)) (blocks gs) ∙ ap (λ b. b || list_any (eqb n) (blocks gs)) (among-member n (withins_at (Some x.phase)) h)
in-blocks n (suc g) (x ∷ gs) h = any-both (eqb n) (withins_at (Some x.phase)) (blocks gs) ∙ later (list_any (eqb n) (withins_at (Some x.phase))) (in-blocks n g gs h)
  where
    later : {b : Bool} (a : Bool) → b ≡ true → (a || b) ≡ true
    later true e = refl
    later false e = e

timeouts-few : (s : State) → IsKept s → Sides s → AreHeld s.greenlets s.items → number_of timeout_of s.items ≤ 8 * length s.greenlets
timeouts-few s kept sides held =
    let ns = numbers timeout_of s.items in
    let le = length-le_from_is_member {eq = eqb} nat_eq_equiv ns (blocks s.greenlets) (numbers-distinct timeout_of Claim.TimeoutNumbered timeout-kind s.items (singles s kept.sound))
    (numbers-all (λ q. list_any (eqb q) (blocks s.greenlets) ≡ true) timeout_of (is_held s.greenlets) low s.items held) in
    let few = few-blocks s.scenario s.greenlets sides.fit in
    let c = numbers-counted timeout_of s.items in
    omega (arith, le, few, c)
  where
    low : (d : Delivery) (n : ℕ) → is_held s.greenlets d ≡ true → timeout_of d ≡ Some n → list_any (eqb n) (blocks s.greenlets) ≡ true
    low (Delivery.Timeout g m deadline) n h e = let same : m ≡ n = cc e in subst (λ z. list_any (eqb z) (blocks s.greenlets) ≡ true) same (in-blocks m g s.greenlets h)
    low (Delivery.Start g deadline) n h e = absurd (cc e)
    low (Delivery.Wake g w) n h e = absurd (cc e)
    low (Delivery.Late g deadline m) n h e = absurd (cc e)
    low (Delivery.Kill g f) n h e = absurd (cc e)
    low (Delivery.Link m g kind f) n h e = absurd (cc e)

-- ---- all of them

kills-same : (items : List Item) → number_of kill_of items ≡ count_by (λ (i : Item). is_kill i.delivery) items
kills-same items = count-same (λ (i : Item). is_some (kill_of i.delivery)) (λ (i : Item). is_kill i.delivery) items (λ i. by i.delivery)
  where
    by : (d : Delivery) → is_some (kill_of d) ≡ is_kill d
    by (Delivery.Kill g f) = refl
    by (Delivery.Start g deadline) = refl
    by (Delivery.Wake g w) = refl
    by (Delivery.Late g deadline m) = refl
    by (Delivery.Timeout g m deadline) = refl
    by (Delivery.Link m g kind f) = refl

pub bounded : (s : State) → IsKept s → Sides s → AreHeld s.greenlets s.items → IsBounded s
bounded s kept sides held =
    let sum = all-kinds s.items in
    let a = starts-few s kept in
    let b = wakes-few s kept in
    let c = lates-few s kept in
    let d = timeouts-few s kept sides held in
    let e = links-few s kept held in
    let k = kills-same s.items in
    record { items = omega (arith, sum, a, b, c, d, e, k); kills = sides.kills }

-- ---- wherever the hub comes to stand

-- the same, where lines and posts were given out
abbrev pub hushed : Next → Next
hushed (Next.Going g s) = Next.Going g (silent s)
hushed (Next.Resting s) = Next.Resting (silent s)
hushed (Next.Over cause s) = Next.Over cause (silent s)

abbrev pub StandsSomehow : Next → Type 0
StandsSomehow next = (b : History) × At b (hushed next)

hush : (b : History) (next : Next) → At b next → StandsSomehow next
hush b (Next.Going g s) a = (a.1.story, (a.0, goes-silent b g a.0 s a.1, a.2))
hush b (Next.Resting s) a = (a.0.story, (rests-silent b s a.0, a.1))
hush b (Next.Over cause s) a = (a.story, ends-silent b s a)

rests-here : (b : History) (s : State) → s ≡ silent s → At b (Next.Resting (silent s)) → At b (Next.Resting s)
rests-here b s e a = subst (λ (z : State). At b (Next.Resting z)) (sym e) a

pub reached-stands : (c : Scenario) → IsFitText c → (next : Next) → Reached c next → StandsSomehow next
reached-stands c text next (Reached.Started) = hush at_first (starts lands 0 [] (first_state c)) (begins-at c text)
reached-stands c text next (Reached.Moved g s r) =
    let a = reached-stands c text (Next.Going g s) r in
    hush a.0 (move g (silent s)) (move-at a.0 g a.1.0 (silent s) a.1.1)
reached-stands c text next (Reached.GaveOut s r) = reached-stands c text (Next.Resting s) r
reached-stands c text next (Reached.Turned n s r) =
    let a = reached-stands c text (Next.Resting s) r in
    (a.0, (rests-turned a.0 n (silent s) a.1.0, a.1.1))
reached-stands c text next (Reached.Delivered n i s there numbered e r) =
    let a = reached-stands c text (Next.Resting s) r in
    let m = rests-here a.0 s e a.1 in
    hush a.0 (deliver i s) (deliver-at a.0 n i s there numbered m.1 m.0)
reached-stands c text next (Reached.Blocked s e r) =
    let a = reached-stands c text (Next.Resting s) r in
    let m = rests-here a.0 s e a.1 in
    hush a.0 (Next.Resting (block_line s)) (rests-block_line a.0 s m.0, settled-block_line s m.1)
reached-stands c text next (Reached.Exited s e r) =
    let a = reached-stands c text (Next.Resting s) r in
    let m = rests-here a.0 s e a.1 in
    let t = block_line s in
    let n = rests-block_line a.0 s m.0 in
    hush a.0 (interrupts 0 FaultKind.LoopExit t)
    (interrupts-at a.0 0 FaultKind.LoopExit t n.kept.main n.main n)
reached-stands c text next (Reached.Answered x s e r) =
    let a = reached-stands c text (Next.Resting s) r in
    let m = rests-here a.0 s e a.1 in
    (with_silence (moment_of x) m.0.story, (answer-unheard a.0 x s m.0, settled-answered x s))

-- a bound is the same where lines were given out
loud : (s : State) → IsBounded (silent s) → IsBounded s
loud s m = record { items = m.items; kills = m.kills }

pub reached-bounded : (c : Scenario) (next : Next) → IsFitText c → Reached c next → IsBounded (state_of_next next)
reached-bounded c next text r = by next (reached-stands c text next r)
  where
    by : (next : Next) → StandsSomehow next → IsBounded (state_of_next next)
    by (Next.Going g s) a = loud s (bounded (silent s) a.1.1.moves.kept a.1.1.sides a.1.1.held)
    by (Next.Resting s) a = loud s (bounded (silent s) a.1.0.kept a.1.0.sides a.1.0.held)
    by (Next.Over cause s) a = loud s (bounded (silent s) a.1.kept a.1.sides a.1.held)

-- ---- what the text sees to

silent-known : (s : State) → KnowsText (silent s) → KnowsText s
silent-known s k = k

reached-known : (c : Scenario) (next : Next) → IsFitText c → Reached c next → KnowsText (state_of_next next)
reached-known c next text r = by next (reached-stands c text next r)
  where
    by : (next : Next) → StandsSomehow next → KnowsText (state_of_next next)
    by (Next.Going g s) a = silent-known s a.1.1.sides.known
    by (Next.Resting s) a = silent-known s a.1.0.sides.known
    by (Next.Over cause s) a = silent-known s a.1.sides.known

-- ---- offers

silent-offered : (s : State) → AreOffered (silent s) → AreOffered s
silent-offered s m = record { waited = m.waited; apart = m.apart }

pub reached-offered : (c : Scenario) (next : Next) → IsFitText c → Reached c next → AreOffered (state_of_next next)
reached-offered c next text r = by next (reached-stands c text next r)
  where
    by : (next : Next) → StandsSomehow next → AreOffered (state_of_next next)
    by (Next.Going g s) a = silent-offered s (offered (silent s) a.1.1.sides.offers)
    by (Next.Resting s) a = silent-offered s (offered (silent s) a.1.0.sides.offers)
    by (Next.Over cause s) a = silent-offered s (offered (silent s) a.1.sides.offers)

-- ---- the next move

did-meant : (c : Scenario) (hub : Bool) (ns : List ℕ) (d : Did) → IsFitDid c hub ns d → is_meant_did hub d ≡ true
did-meant c hub ns (Did.GoesOn how locals todo) f = refl
did-meant c hub ns (Did.Enters ms silent body todo) f = f.0
did-meant c hub ns (Did.Asks request x todo) f = f.0.meant

did-fits : (c : Scenario) (hub : Bool) (ns : List ℕ) (d : Did) → IsFitDid c hub ns d → fits_did c d ≡ true
did-fits c hub ns (Did.GoesOn how locals todo) f = refl
did-fits c hub ns (Did.Enters ms silent body todo) f = refl
did-fits c hub ns (Did.Asks request x todo) f = f.0.fit

-- the next move of a greenlet that goes
going-fit : (b : History) (g h : ℕ) (s : State) → Goes b g h s → IsFitDid s.scenario (not (greenlet g s).raw) (withins (frame_of (greenlet g s).phase).todo) (next_did g s)
going-fit b g h s m =
    let frame = frame_of (greenlet g s).phase in
    body_move-fit (not (greenlet g s).raw) frame.todo (record { scenario = s.scenario; look = look g s; locals = frame.locals })
    (frame-fits s.scenario g s.greenlets frame (goes-frame b g h s m) m.sides.fit)

pub text-meant : (c : Scenario) → IsFitText c → IsMeantText c
text-meant c text =
    record {
      same = reached-same c;
      known = λ next r. reached-known c next text r;
      meant = λ g s r.
          let a = reached-stands c text (Next.Going g s) r in
          let m = a.1.1 in
          let plain = plain-not-raw s.greenlets g (live-found s.greenlets g m.moves.live) in
          let meant = did-meant s.scenario (not (greenlet g s).raw) (withins (frame_of (greenlet g s).phase).todo) (next_did g (silent s)) (going-fit a.0 g a.1.0 (silent s) m) in
          subst (λ z. is_meant_did z (next_did g s) ≡ true) (sym plain) meant;
      fit = λ g s r.
          let a = reached-stands c text (Next.Going g s) r in
          did-fits s.scenario (not (greenlet g s).raw) (withins (frame_of (greenlet g s).phase).todo) (next_did g (silent s)) (going-fit a.0 g a.1.0 (silent s) a.1.1);
    }
