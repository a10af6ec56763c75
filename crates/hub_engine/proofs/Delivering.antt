-- Deliveries one after another.
use Rattle.std.proofs.Common.{◌≡◌, refl, ap, sym, ◌∙◌, subst, ℕ, zero, suc, ◌-◌, ◌<◌, Bool, true, false, List, [], ◌++◌, map, Option, Some, None, IsSome, arith, rules}
use Rattle.std.proofs.lemmas.List.{append-nil}
use Rattle.std.specs.Prelude.{is_some}
use Rattle.trace_text.specs.declared.line.StopCause.{StopCause}
use Rattle.machine.specs.declared.items.Item.{Item}
use Rattle.machine.specs.Deliveries.{deliver}
use Rattle.machine.specs.Landing.{Next}
use Rattle.machine.specs.Run.{Passed, after_delivery, deliveries, least_below, logged, rests, runs_on}
use Rattle.machine.specs.State.{State}
use Rattle.hub_engine.specs.declared.stand.Came.{Came}
use Rattle.hub_engine.specs.Outside.{HasGiven, HasGivenPart, Outside}
use Rattle.hub_engine.specs.Written.{CameTo}
use Rattle.hub_engine.proofs.Giving.{given_nothing}
use Rattle.hub_engine.proofs.Readily.{some_item}
use Rattle.hub_engine.proofs.Passing.{HasPassed, IsPassing, at_an_end, at_rest, behind, broken, onward, over}

-- ---- one delivery, and then the others

abbrev goes_on : ℕ → ℕ → ℕ → Item → State → Passed
goes_on n budget mark i s = let p = runs_on budget s (deliver i s) in after_delivery (deliveries n budget mark) p p.next

first_one : (n budget mark : ℕ) (i : Item) (s : State) → least_below mark s.items ≡ Some i → deliveries (suc n) budget mark s ≡ goes_on n budget mark i s
first_one n budget mark i s e = rw e

-- it came to rest, and the others follow
delivered : (u v w : Outside) (p : Passed) (n budget mark : ℕ) (i : Item) (s t : State) → 0 < n →
    IsPassing u v p (deliveries n budget mark s) → least_below mark s.items ≡ Some i → (runs_on budget s (deliver i s)).next ≡ Next.Resting t →
    HasGiven v w (runs_on budget s (deliver i s)).lines (map logged (runs_on budget s (deliver i s)).posts) → IsPassing u w p (deliveries (n - 1) budget mark t)
delivered u v w p zero budget mark i s t h g e f m = grind arith
delivered u v w p (suc n) budget mark i s t h g e f m =
    let r = runs_on budget s (deliver i s) in
    let q = deliveries n budget mark t in
    let here : deliveries (suc n) budget mark s ≡ behind r.lines r.posts q = first_one n budget mark i s e ∙ ap (after_delivery (deliveries n budget mark) r) f in
    let one : suc n - 1 ≡ n = omega arith in
    rw one (onward u v w p (deliveries (suc n) budget mark s) q r.lines r.posts g here m)

-- it came to the end of the run
delivered_last : (u v w : Outside) (p : Passed) (n budget mark : ℕ) (i : Item) (c : StopCause) (s t : State) → 0 < n →
    IsPassing u v p (deliveries n budget mark s) → least_below mark s.items ≡ Some i → CameTo (Came.ToAnEnd c) (runs_on budget s (deliver i s)).next t →
    HasGiven v w (runs_on budget s (deliver i s)).lines (map logged (runs_on budget s (deliver i s)).posts) → HasPassed u w p (Came.ToAnEnd c) t
delivered_last u v w p zero budget mark i c s t h g e f m = grind arith
delivered_last u v w p (suc n) budget mark i c s t h g e f m =
    let r = runs_on budget s (deliver i s) in
    let here : deliveries (suc n) budget mark s ≡ r = first_one n budget mark i s e ∙ ap (after_delivery (deliveries n budget mark) r) f.1 in
    over u v w p r (Came.ToAnEnd c) t (subst (IsPassing u v p) here g) f m

-- its lines and posts come first
first_given : (n budget mark : ℕ) (i : Item) (s : State) →
    (rest : Passed) × (goes_on n budget mark i s ≡ behind (runs_on budget s (deliver i s)).lines (runs_on budget s (deliver i s)).posts rest)
first_given n budget mark i s = by (runs_on budget s (deliver i s)) (runs_on budget s (deliver i s)).next refl
  where
    alone : (r : Passed) → (rest : Passed) × (r ≡ behind r.lines r.posts rest)
    alone r = (
      record { lines = []; posts = []; next = r.next },
      ap (λ ls. record { lines = ls; posts = r.posts; next = r.next }) (sym (append-nil r.lines))
          ∙ ap (λ ps. record { lines = r.lines ++ []; posts = ps; next = r.next }) (sym (append-nil r.posts)),
    )

    by : (r : Passed) (next : Next) → r.next ≡ next → (rest : Passed) × (after_delivery (deliveries n budget mark) r next ≡ behind r.lines r.posts rest)
    by r (Next.Resting t) e = (deliveries n budget mark t, refl)
    by r (Next.Going g t) e = alone r
    by r (Next.Over c t) e = alone r

delivered_broken : (u v w : Outside) (p : Passed) (n budget mark : ℕ) (i : Item) (s : State) → 0 < n →
    IsPassing u v p (deliveries n budget mark s) → least_below mark s.items ≡ Some i →
    HasGivenPart v w (runs_on budget s (deliver i s)).lines (runs_on budget s (deliver i s)).posts → HasGivenPart u w p.lines p.posts
delivered_broken u v w p zero budget mark i s h g e m = grind arith
delivered_broken u v w p (suc n) budget mark i s h g e m =
    let r = first_given n budget mark i s in
    broken u v w p (deliveries (suc n) budget mark s) r.0 (runs_on budget s (deliver i s)).lines (runs_on budget s (deliver i s)).posts g (first_one n budget mark i s e ∙ r.1) m

none_more : (u v : Outside) (p : Passed) (s : State) → IsPassing u v p (rests s) → HasPassed u v p Came.ToRest s
none_more u v p s g = over u v v p (rests s) Came.ToRest s g refl (given_nothing v)

-- nothing more has a number below the mark
pub none_delivered : (u v : Outside) (p : Passed) (n budget mark : ℕ) (s : State) → 0 < n →
    IsPassing u v p (deliveries n budget mark s) → least_below mark s.items ≡ None → HasPassed u v p Came.ToRest s
none_delivered u v p zero budget mark s h g e = grind arith
none_delivered u v p (suc n) budget mark s h g e =
    let here : deliveries (suc n) budget mark s ≡ rests s = rw e in
    none_more u v p s (subst (IsPassing u v p) here g)

pub none_left : (u v : Outside) (p : Passed) (n budget mark : ℕ) (s : State) → n ≡ 0 → IsPassing u v p (deliveries n budget mark s) → HasPassed u v p Came.ToRest s
none_left u v p n budget mark s z g = none_more u v p s (subst (λ (m : ℕ). IsPassing u v p (deliveries m budget mark s)) z g)

-- ---- the item that was found

pub is_below : (mark : ℕ) (items : List Item) (b : Bool) → b ≡ is_some (least_below mark items) → b ≡ true → IsSome (least_below mark items)
is_below mark items b e h = by (least_below mark items) (sym e ∙ h)
  where
    by : (o : Option Item) → is_some o ≡ true → IsSome o
    by None g = absurd (cc)
    by (Some i) g = search rules

pub none_below : (mark : ℕ) (items : List Item) (b : Bool) → b ≡ is_some (least_below mark items) → b ≡ false → least_below mark items ≡ None
none_below mark items b e h = by (least_below mark items) (sym e ∙ h)
  where
    by : (o : Option Item) → is_some o ≡ false → o ≡ None
    by None g = refl
    by (Some i) g = absurd (cc)

pub went_on : (u v w : Outside) (p : Passed) (n budget mark : ℕ) (came : Came) (s t : State) → 0 < n →
    IsPassing u v p (deliveries n budget mark s) → IsSome (least_below mark s.items) → came ≡ Came.ToRest →
    ((i : Item) → least_below mark s.items ≡ Some i → CameTo came (runs_on budget s (deliver i s)).next t) →
    ((i : Item) → least_below mark s.items ≡ Some i → HasGiven v w (runs_on budget s (deliver i s)).lines (map logged (runs_on budget s (deliver i s)).posts)) →
    IsPassing u w p (deliveries (n - 1) budget mark t)
went_on u v w p n budget mark came s t h g k z f m =
    let r = some_item (least_below mark s.items) k in
    let next = at_rest came (runs_on budget s (deliver r.0 s)).next t z (f r.0 r.1) in
    delivered u v w p n budget mark r.0 s t h g r.1 next (m r.0 r.1)

pub went_over : (u v w : Outside) (p : Passed) (n budget mark : ℕ) (came : Came) (c : StopCause) (s t : State) → 0 < n →
    IsPassing u v p (deliveries n budget mark s) → IsSome (least_below mark s.items) → came ≡ Came.ToAnEnd c →
    ((i : Item) → least_below mark s.items ≡ Some i → CameTo came (runs_on budget s (deliver i s)).next t) →
    ((i : Item) → least_below mark s.items ≡ Some i → HasGiven v w (runs_on budget s (deliver i s)).lines (map logged (runs_on budget s (deliver i s)).posts)) →
    HasPassed u w p (Came.ToAnEnd c) t
went_over u v w p n budget mark came c s t h g k z f m =
    let r = some_item (least_below mark s.items) k in
    let next = at_an_end came c (runs_on budget s (deliver r.0 s)).next t z (f r.0 r.1) in
    delivered_last u v w p n budget mark r.0 c s t h g r.1 next (m r.0 r.1)

pub broke_off : (u v w : Outside) (p : Passed) (n budget mark : ℕ) (s : State) → 0 < n →
    IsPassing u v p (deliveries n budget mark s) → IsSome (least_below mark s.items) →
    ((i : Item) → least_below mark s.items ≡ Some i → HasGivenPart v w (runs_on budget s (deliver i s)).lines (runs_on budget s (deliver i s)).posts) →
    HasGivenPart u w p.lines p.posts
broke_off u v w p n budget mark s h g k m =
    let r = some_item (least_below mark s.items) k in
    delivered_broken u v w p n budget mark r.0 s h g r.1 (m r.0 r.1)
