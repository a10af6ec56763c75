-- Each offer of a channel has its Wake, and what is done to objects and items keeps it so.
use Rattle.std.proofs.Common.{◌≡◌, refl, ap, ◌∙◌, sym, subst, ℕ, zero, suc, ◌+◌, Bool, true, false, List, [], ◌∷◌, ◌++◌, map, cond, inl, inr, ◌⊎◌, arith}
use Rattle.std.proofs.lemmas.Bool.{and_from}
use Rattle.std.proofs.lemmas.Bool.Decides.{nat_tests}
use Rattle.std.specs.Prelude.{not, ◌==◌, ◌&&◌, ◌||◌, Option, Some, None, if◌then◌else◌, is_some, nat_le, filter, drop, slice_get, slice_set, unwrap_or}
use Rattle.std.specs.List.{list_all, list_any}
use Rattle.gv_values.specs.declared.value.Value.{Value}
use Rattle.scenario_tree.specs.declared.tree.Declaration.{Declaration}
use Rattle.scenario_tree.specs.declared.tree.Object.{Object as Declared}
use Rattle.machine.specs.declared.items.Delivery.{Delivery}
use Rattle.machine.specs.declared.items.Item.{Item}
use Rattle.machine.specs.declared.items.Waiting.{Waiting}
use Rattle.machine.specs.declared.state.Object.{Object}
use Rattle.machine.specs.declared.state.Offer.{Offer}
use Rattle.machine.specs.State.{State}
use Rattle.machine.specs.Deliveries.{since_of_wake}
use Rattle.machine.specs.Holds.{holds, is_offer_of, is_taken}
use Rattle.machine.specs.Items.{is_wait_of}
use Rattle.machine.specs.Objects.{no_object, with_flag, with_item, with_item_taken, with_member, with_offer, with_offer_taken, with_owner, with_shut, with_slot_freed, with_slot_taken, with_unit_taken, without_member, without_offer}
use Rattle.machine.specs.Questions.{is_numbered}
use Rattle.machine.specs.Run.{object_of}
use Rattle.machine.specs.Settle.{number_after, settle, settled, settled_ready}
use Rattle.machine.specs.Soundness.{Claim, are_single, claim_of, is_unclaimed, same_claim}
use Rattle.machine_soundness.specs.Going.{has_no_wait}
use Rattle.machine_soundness.specs.Laws.{is_late_of, is_wake_of}
use Rattle.machine.proofs.Halves.{left, right}
use Rattle.machine_soundness.proofs.Lists.{all-end, all-filter, all-get, all-imply, equal, itself}
use Rattle.machine_soundness.proofs.States.{all-settle}
use Rattle.machine_offers.specs.Offers.{awaits_taking, is_offered_on, offers_at, offers_of}
use Rattle.machine_offers.proofs.Anys.{any-end, any-filter, any-kept}

-- ---- what is so of offers

-- the sinces ascend, from this one on, and stay below the next
abbrev pub rise : ℕ → ℕ → List Offer → Bool
rise low next [] = nat_le low next
rise low next (f ∷ fs) = nat_le low f.since && rise (f.since + 1) next fs

-- it is the Wake of this greenlet, which offered something
abbrev pub is_offering : ℕ → Delivery → Bool
is_offering g (Delivery.Wake h (Waiting.Offered o)) = g == h
is_offering g d = false

abbrev pub HasNoLate : ℕ → List Item → Type 0
HasNoLate g items = list_all (λ (i : Item). not (is_late_of g i.delivery)) items ≡ true

abbrev pub HasNoOffer : ℕ → List Item → Type 0
HasNoOffer g items = list_all (λ (i : Item). not (is_offering g i.delivery)) items ≡ true

-- each offer has its Wake, the sinces of a channel's offers ascend, and no greenlet that offers has a Late
pub record AreKeptOffers (objects : List Object) (items : List Item) (next : ℕ) : Type 0 where
  pub waited : (o n : ℕ) → list_any (is_offer_of n) (offers_at o objects) ≡ true → list_any (awaits_taking o n) items ≡ true
  pub rising : (o : ℕ) → rise 0 next (offers_at o objects) ≡ true
  pub twins : (g : ℕ) → HasNoLate g items ⊎ HasNoOffer g items

pub free-offerless : (g : ℕ) (items : List Item) → has_no_wait g items ≡ true → HasNoOffer g items
free-offerless g items h = all-imply _ _ items (λ i. by i.delivery) h
  where
    of : (b : Bool) (w : Waiting) (k : ℕ) → (g == k) ≡ b → not b ≡ true → not (is_offering g (Delivery.Wake k w)) ≡ true
    of true w k z e = absurd (cc e)
    of false (Waiting.Offered o) k z e = ap not z
    of false w k z e = refl

    by : (d : Delivery) → not (is_wait_of g d) ≡ true → not (is_offering g d) ≡ true
    by (Delivery.Wake k w) e = of (g == k) w k refl e
    by (Delivery.Start k deadline) e = refl
    by (Delivery.Late k deadline n) e = refl
    by (Delivery.Timeout k n deadline) e = refl
    by (Delivery.Kill k f) e = refl
    by (Delivery.Link n k kind f) e = refl

pub free-lateless : (g : ℕ) (items : List Item) → has_no_wait g items ≡ true → HasNoLate g items
free-lateless g items h = all-imply _ _ items (λ i. by i.delivery) h
  where
    by : (d : Delivery) → not (is_wait_of g d) ≡ true → not (is_late_of g d) ≡ true
    by (Delivery.Late k deadline n) e = e
    by d e = refl

-- one of which no Wake stands offers nothing
pub unclaimed-offerless : (g : ℕ) (items : List Item) → is_unclaimed (Some (Claim.WakeOf g)) items ≡ true → HasNoOffer g items
unclaimed-offerless g items h = all-imply _ _ items (λ i. by i.delivery) h
  where
    by : (d : Delivery) → not (same_claim (Some (Claim.WakeOf g)) (claim_of d)) ≡ true → not (is_offering g d) ≡ true
    by (Delivery.Wake k (Waiting.Offered o)) e = e
    by d e = refl

-- ---- objects change

-- of these offers some are left
pub record IsFewer (old new : List Offer) : Type 0 where
  pub some : (n : ℕ) → list_any (is_offer_of n) new ≡ true → list_any (is_offer_of n) old ≡ true
  pub rises : (next : ℕ) → rise 0 next old ≡ true → rise 0 next new ≡ true

pub fewer-same : (old new : List Offer) → new ≡ old → IsFewer old new
fewer-same old new e = record { some = λ n h. subst (λ fs. list_any (is_offer_of n) fs ≡ true) e h; rises = λ next h. subst (λ fs. rise 0 next fs ≡ true) (sym e) h }

pub fewer-none : (old : List Offer) → IsFewer old []
fewer-none old = record { some = λ n h. absurd (cc h); rises = λ next h. low next }
  where
    low : (next : ℕ) → nat_le 0 next ≡ true
    low next = grind (arith, nat_tests)

rise-lower : (low high next : ℕ) (fs : List Offer) → nat_le low high ≡ true → rise high next fs ≡ true → rise low next fs ≡ true
rise-lower low high next [] h k = grind (arith, nat_tests, h, k)
rise-lower low high next (f ∷ fs) h k =
    let above : nat_le high f.since ≡ true = left _ (rise (f.since + 1) next fs) k in
    let lower : nat_le low f.since ≡ true = grind (arith, nat_tests, h, above) in
    and_from (nat_le low f.since) (rise (f.since + 1) next fs) lower (right (nat_le high f.since) _ k)

rise-on : (low since next : ℕ) (fs : List Offer) → nat_le low since ≡ true → rise (since + 1) next fs ≡ true → rise low next fs ≡ true
rise-on low since next fs h k = let lower : nat_le low (since + 1) ≡ true = grind (arith, nat_tests, h) in rise-lower low (since + 1) next fs lower k

fewer-taken : (old : List Offer) → IsFewer old (drop 1 old)
fewer-taken [] = fewer-same [] [] refl
fewer-taken (f ∷ fs) = record { some = λ n h. or (is_offer_of n f) (list_any (is_offer_of n) fs) h; rises = λ next h. rise-on 0 f.since next fs (left _ (rise (f.since + 1) next fs) h) (right (nat_le 0 f.since) _ h) }
  where
    or : (a b : Bool) → b ≡ true → (a || b) ≡ true
    or true b e = refl
    or false b e = e

rise-filter : (kept : Offer → Bool) (low next : ℕ) (fs : List Offer) → rise low next fs ≡ true → rise low next (filter kept fs) ≡ true
rise-filter kept low next [] h = h
rise-filter kept low next (f ∷ fs) h = by (kept f) (rise-filter kept (f.since + 1) next fs (right (nat_le low f.since) _ h))
  where
    own : nat_le low f.since ≡ true
    own = left _ (rise (f.since + 1) next fs) h

    by : (b : Bool) → rise (f.since + 1) next (filter kept fs) ≡ true → rise low next (cond b (f ∷ filter kept fs) (filter kept fs)) ≡ true
    by true e = and_from (nat_le low f.since) _ own e
    by false e = rise-on low f.since next (filter kept fs) own e

fewer-filter : (kept : Offer → Bool) (old : List Offer) → IsFewer old (filter kept old)
fewer-filter kept old = record { some = λ n h. any-filter kept (is_offer_of n) old h; rises = λ next h. rise-filter kept 0 next old h }

-- another object in the place of one
at-set : (objects : List Object) (o : ℕ) (x : Object) (p : ℕ) → (offers_at p (slice_set objects o x) ≡ offers_at p objects) ⊎ ((offers_at p (slice_set objects o x) ≡ offers_of x) × (o ≡ p))
at-set [] o x p = inl refl
at-set (y ∷ ys) zero x zero = inr (refl, refl)
at-set (y ∷ ys) zero x (suc p) = inl refl
at-set (y ∷ ys) (suc o) x zero = inl refl
at-set (y ∷ ys) (suc o) x (suc p) = by (at-set ys o x p)
  where
    by : (offers_at p (slice_set ys o x) ≡ offers_at p ys) ⊎ ((offers_at p (slice_set ys o x) ≡ offers_of x) × (o ≡ p)) →
        (offers_at p (slice_set ys o x) ≡ offers_at p ys) ⊎ ((offers_at p (slice_set ys o x) ≡ offers_of x) × (suc o ≡ suc p))
    by (inl e) = inl e
    by (inr e) = inr (e.0, ap suc e.1)

offers-objects : (objects now : List Object) (items : List Item) (next : ℕ) → ((o : ℕ) → IsFewer (offers_at o objects) (offers_at o now)) → AreKeptOffers objects items next → AreKeptOffers now items next
offers-objects objects now items next f m = record { waited = λ o n e. m.waited o n ((f o).some n e); rising = λ o. (f o).rises next (m.rising o); twins = m.twins }

pub offers-set : (objects : List Object) (o : ℕ) (x : Object) (items : List Item) (next : ℕ) → IsFewer (offers_at o objects) (offers_of x) → AreKeptOffers objects items next → AreKeptOffers (slice_set objects o x) items next
offers-set objects o x items next f m = offers-objects objects (slice_set objects o x) items next (λ p. by p (at-set objects o x p)) m
  where
    by : (p : ℕ) → (offers_at p (slice_set objects o x) ≡ offers_at p objects) ⊎ ((offers_at p (slice_set objects o x) ≡ offers_of x) × (o ≡ p)) →
        IsFewer (offers_at p objects) (offers_at p (slice_set objects o x))
    by p (inl e) = fewer-same (offers_at p objects) (offers_at p (slice_set objects o x)) e
    by p (inr e) = subst (λ fs. IsFewer (offers_at p objects) fs) (sym e.0) (subst (λ q. IsFewer (offers_at q objects) (offers_of x)) e.1 f)

-- each object changed
at-map : (f : Object → Object) (change : List Offer → List Offer) → change [] ≡ [] → ((y : Object) → offers_of (f y) ≡ change (offers_of y)) → (objects : List Object) (o : ℕ) →
    offers_at o (map f objects) ≡ change (offers_at o objects)
at-map f change none e [] o = sym none
at-map f change none e (y ∷ ys) zero = e y
at-map f change none e (y ∷ ys) (suc o) = at-map f change none e ys o

pub offers-map : (f : Object → Object) (objects : List Object) (items : List Item) (next : ℕ) → ((y : Object) → offers_of (f y) ≡ offers_of y) → AreKeptOffers objects items next → AreKeptOffers (map f objects) items next
offers-map f objects items next e m =
    offers-objects objects (map f objects) items next (λ o. fewer-same (offers_at o objects) (offers_at o (map f objects)) (at-map f (λ fs. fs) refl e objects o)) m

pub member-offers : (g : ℕ) (y : Object) → offers_of (without_member g y) ≡ offers_of y
member-offers g (Object.Crew size members) = refl
member-offers g y = refl

pub flag-offers : (b : Bool) (y : Object) → offers_of (with_flag b y) ≡ offers_of y
flag-offers true (Object.Event flag sets) = refl
flag-offers false (Object.Event flag sets) = refl
flag-offers true y = refl
flag-offers false y = refl

pub unit-offers : (y : Object) → offers_of (with_unit_taken y) ≡ offers_of y
unit-offers (Object.Semaphore counter bound) = refl
unit-offers y = refl

pub owner-offers : (g : ℕ) (y : Object) → offers_of (with_owner g y) ≡ offers_of y
owner-offers g (Object.Lock owner depth) = refl
owner-offers g y = refl

pub item-offers : (v : Value) (y : Object) → offers_of (with_item v y) ≡ offers_of y
item-offers v (Object.Queue kind size items unfinished shut) = refl
item-offers v y = refl

pub taken-offers : (y : Object) → offers_of (with_item_taken y) ≡ offers_of y
taken-offers (Object.Queue kind size items unfinished shut) = refl
taken-offers y = refl

pub shut-offers : (b : Bool) (y : Object) → offers_of (with_shut b y) ≡ offers_of y
shut-offers true (Object.Queue kind size items unfinished shut) = refl
shut-offers false (Object.Queue kind size items unfinished shut) = refl
shut-offers true y = refl
shut-offers false y = refl

pub more-offers : (g : ℕ) (y : Object) → offers_of (with_member g y) ≡ offers_of y
more-offers g (Object.Crew size members) = refl
more-offers g y = refl

pub slot-offers : (y : Object) → offers_of (with_slot_taken y) ≡ offers_of y
slot-offers (Object.Native slots outstanding) = refl
slot-offers y = refl

pub freed-offers : (y : Object) → offers_of (with_slot_freed y) ≡ offers_of y
freed-offers (Object.Native slots outstanding) = refl
freed-offers y = refl

gone-offers : (since : ℕ) (y : Object) → offers_of (without_offer since y) ≡ filter (λ (f : Offer). not (is_offer_of since f)) (offers_of y)
gone-offers since (Object.Channel offers) = refl
gone-offers since y = refl

at-gone : (since : ℕ) (objects : List Object) (o : ℕ) → offers_at o (map (without_offer since) objects) ≡ filter (λ (f : Offer). not (is_offer_of since f)) (offers_at o objects)
at-gone since objects o = at-map (without_offer since) (filter (λ (f : Offer). not (is_offer_of since f))) refl (gone-offers since) objects o

pub offers-gone : (since : ℕ) (objects : List Object) (items : List Item) (next : ℕ) → AreKeptOffers objects items next → AreKeptOffers (map (without_offer since) objects) items next
offers-gone since objects items next m =
    offers-objects objects (map (without_offer since) objects) items next
    (λ o. subst (λ fs. IsFewer (offers_at o objects) fs) (sym (at-gone since objects o)) (fewer-filter (λ (f : Offer). not (is_offer_of since f)) (offers_at o objects))) m

pub taken-fewer : (y : Object) → IsFewer (offers_of y) (offers_of (with_offer_taken y))
taken-fewer (Object.Channel offers) = fewer-taken offers
taken-fewer y = fewer-same (offers_of y) (offers_of y) refl

-- at first there is none
at-first : (ds : List Declaration) (o : ℕ) → offers_at o (map (λ (d : Declaration). object_of d.object) ds) ≡ []
at-first [] o = refl
at-first (d ∷ ds) zero = of d.object
  where
    of : (x : Declared) → offers_of (object_of x) ≡ []
    of Declared.Channel = refl
    of x = refl
at-first (d ∷ ds) (suc o) = at-first ds o

pub offers-first : (ds : List Declaration) (next : ℕ) → AreKeptOffers (map (λ (d : Declaration). object_of d.object) ds) [] next
offers-first ds next =
    let objects = map (λ (d : Declaration). object_of d.object) ds in
    record {
      waited = λ o n e. absurd (none n (subst (λ fs. list_any (is_offer_of n) fs ≡ true) (at-first ds o) e));
      rising = λ o. subst (λ fs. rise 0 next fs ≡ true) (sym (at-first ds o)) (low next);
      twins = λ g. inl refl;
    }
  where
    none : (n : ℕ) → list_any (is_offer_of n) [] ≡ true → ⊥
    none n e = cc e

    low : (n : ℕ) → nat_le 0 n ≡ true
    low n = grind (arith, nat_tests)

-- ---- items go

twins-left : (items now : List Item) (k : ℕ) → ((p : Item → Bool) → list_all p items ≡ true → list_all p now ≡ true) → HasNoLate k items ⊎ HasNoOffer k items → HasNoLate k now ⊎ HasNoOffer k now
twins-left items now k f (inl e) = inl (f (λ (i : Item). not (is_late_of k i.delivery)) e)
twins-left items now k f (inr e) = inr (f (λ (i : Item). not (is_offering k i.delivery)) e)

pub offers-items : (objects : List Object) (items now : List Item) (next : ℕ) → ((p : Item → Bool) → list_all p items ≡ true → list_all p now ≡ true) →
    ((o n : ℕ) → list_any (awaits_taking o n) items ≡ true → list_any (awaits_taking o n) now ≡ true) → AreKeptOffers objects items next → AreKeptOffers objects now next
offers-items objects items now next f g m = record { waited = λ o n e. g o n (m.waited o n e); rising = m.rising; twins = λ k. twins-left items now k f (m.twins k) }

awaits-offered : (o n : ℕ) (i : Item) → awaits_taking o n i ≡ true → is_offered_on o i.delivery ≡ true
awaits-offered o n i e = right (i.since == n) (is_offered_on o i.delivery) (left (i.since == n && is_offered_on o i.delivery) (not (is_numbered i)) e)

awaits-since : (o n : ℕ) (i : Item) → awaits_taking o n i ≡ true → i.since ≡ n
awaits-since o n i e = equal i.since n (left (i.since == n) (is_offered_on o i.delivery) (left (i.since == n && is_offered_on o i.delivery) (not (is_numbered i)) e))

-- one that is to be delivered is none of them
pub numbered-unawaited : (o n : ℕ) (i : Item) → is_numbered i ≡ true → awaits_taking o n i ≡ false
numbered-unawaited o n i e = flat (i.since == n) (is_offered_on o i.delivery) (not (is_numbered i)) (ap not e)
  where
    flat : (a b c : Bool) → c ≡ false → (a && b && c) ≡ false
    flat true true c z = z
    flat true false c z = refl
    flat false b c z = refl

-- items go that are no Wakes of offers
pub offers-drop : (test : Delivery → Bool) (objects : List Object) (items : List Item) (next : ℕ) → ((o : ℕ) (d : Delivery) → is_offered_on o d ≡ true → not (test d) ≡ true) →
    AreKeptOffers objects items next → AreKeptOffers objects (filter (λ (i : Item). not (test i.delivery)) items) next
offers-drop test objects items next f m =
    offers-items objects items (filter (λ (i : Item). not (test i.delivery)) items) next (λ p e. all-filter _ p p items (λ i k z. z) e)
    (λ o n e. any-kept (λ (i : Item). not (test i.delivery)) (awaits_taking o n) items (λ i z. f o i.delivery (awaits-offered o n i z)) e) m

any-kept-where : (r kept p : Item → Bool) (items : List Item) → list_all r items ≡ true → ((i : Item) → r i ≡ true → p i ≡ true → kept i ≡ true) → list_any p items ≡ true → list_any p (filter kept items) ≡ true
any-kept-where r kept p [] h f e = e
any-kept-where r kept p (i ∷ items) h f e = by (kept i) refl (p i) refl e (any-kept-where r kept p items (right (r i) (list_all r items) h) f)
  where
    by : (b : Bool) → kept i ≡ b → (c : Bool) → p i ≡ c → (c || list_any p items) ≡ true → (list_any p items ≡ true → list_any p (filter kept items) ≡ true) →
        list_any p (cond b (i ∷ filter kept items) (filter kept items)) ≡ true
    by true z true e h rest = ap (λ c. c || list_any p (filter kept items)) e
    by true z false e y rest = ap (λ c. c || list_any p (filter kept items)) e ∙ rest y
    by false z true e y rest = absurd (cc (z, f i (left (r i) (list_all r items) h) e))
    by false z false e y rest = rest y

-- items go of a greenlet that offers nothing
pub offers-drop_of : (g : ℕ) (test : Delivery → Bool) (objects : List Object) (items : List Item) (next : ℕ) → ((o : ℕ) (d : Delivery) → not (is_offering g d) ≡ true → is_offered_on o d ≡ true → not (test d) ≡ true) →
    HasNoOffer g items → AreKeptOffers objects items next → AreKeptOffers objects (filter (λ (i : Item). not (test i.delivery)) items) next
offers-drop_of g test objects items next f free m =
    offers-items objects items (filter (λ (i : Item). not (test i.delivery)) items) next (λ p e. all-filter _ p p items (λ i k z. z) e)
    (λ o n e. any-kept-where (λ (i : Item). not (is_offering g i.delivery)) (λ (i : Item). not (test i.delivery)) (awaits_taking o n) items free (λ i z y. f o i.delivery z (awaits-offered o n i y)) e) m

pub waits-spared : (g o : ℕ) (d : Delivery) → not (is_offering g d) ≡ true → is_offered_on o d ≡ true → not (is_wait_of g d) ≡ true
waits-spared g o (Delivery.Wake k (Waiting.Offered p)) e z = e
waits-spared g o (Delivery.Wake k w) e z = absurd (cc z)
waits-spared g o (Delivery.Start k deadline) e z = refl
waits-spared g o (Delivery.Late k deadline n) e z = absurd (cc z)
waits-spared g o (Delivery.Timeout k n deadline) e z = refl
waits-spared g o (Delivery.Kill k f) e z = refl
waits-spared g o (Delivery.Link n k kind f) e z = refl

-- who has a Late offers nothing
pub late-offerless : (g deadline k n : ℕ) (i : Item) (objects : List Object) (items : List Item) (next : ℕ) → Delivery.Late g deadline k ≡ i.delivery → slice_get items n ≡ Some i → AreKeptOffers objects items next → HasNoOffer g items
late-offerless g deadline k n i objects items next e there m = by (m.twins g)
  where
    by : HasNoLate g items ⊎ HasNoOffer g items → HasNoOffer g items
    by (inl h) =
        let free = all-get (λ (j : Item). not (is_late_of g j.delivery)) items n i there h in
        let own : not (g == g) ≡ true = subst (λ (d : Delivery). not (is_late_of g d) ≡ true) (sym e) free in
        absurd (cc (ap not (itself g), own))
    by (inr h) = h

-- ---- an item comes

-- a Wake comes where there is no Late, and a Late where nothing is offered
abbrev pub FitsTwins : Delivery → List Item → Type 0
FitsTwins (Delivery.Wake g w) items = HasNoLate g items
FitsTwins (Delivery.Late g deadline n) items = HasNoOffer g items
FitsTwins d items = Unit {0}

rise-more : (low next : ℕ) (fs : List Offer) → rise low next fs ≡ true → rise low (next + 1) fs ≡ true
rise-more low next [] h = grind (arith, nat_tests, h)
rise-more low next (f ∷ fs) h = and_from (nat_le low f.since) _ (left _ (rise (f.since + 1) next fs) h) (rise-more (f.since + 1) next fs (right (nat_le low f.since) _ h))

twins-add : (d : Delivery) (next g : ℕ) (items : List Item) → FitsTwins d items → HasNoLate g items ⊎ HasNoOffer g items →
    HasNoLate g (items ++ record { since = next; delivery = d; ready = None } ∷ []) ⊎ HasNoOffer g (items ++ record { since = next; delivery = d; ready = None } ∷ [])
twins-add d next g items f t = by d f t
  where
    new : Delivery → Item
    new d = record { since = next; delivery = d; ready = None }

    none : (d : Delivery) → not (is_late_of g d) ≡ true → not (is_offering g d) ≡ true → HasNoLate g items ⊎ HasNoOffer g items → HasNoLate g (items ++ new d ∷ []) ⊎ HasNoOffer g (items ++ new d ∷ [])
    none d y z (inl e) = inl (all-end (λ (i : Item). not (is_late_of g i.delivery)) items (new d) e y)
    none d y z (inr e) = inr (all-end (λ (i : Item). not (is_offering g i.delivery)) items (new d) e z)

    of : (w : Waiting) (k : ℕ) → (g == k) ≡ false → not (is_offering g (Delivery.Wake k w)) ≡ true
    of (Waiting.Offered o) k e = ap not e
    of w k e = refl

    wake : (k : ℕ) (w : Waiting) (b : Bool) → (g == k) ≡ b → HasNoLate k items → HasNoLate g items ⊎ HasNoOffer g items → HasNoLate g (items ++ new (Delivery.Wake k w) ∷ []) ⊎ HasNoOffer g (items ++ new (Delivery.Wake k w) ∷ [])
    wake k w true e y t = inl (all-end (λ (i : Item). not (is_late_of g i.delivery)) items (new (Delivery.Wake k w)) (subst (λ j. HasNoLate j items) (sym (equal g k e)) y) refl)
    wake k w false e y t = none (Delivery.Wake k w) refl (of w k e) t

    late : (k deadline n : ℕ) (b : Bool) → (g == k) ≡ b → HasNoOffer k items → HasNoLate g items ⊎ HasNoOffer g items → HasNoLate g (items ++ new (Delivery.Late k deadline n) ∷ []) ⊎ HasNoOffer g (items ++ new (Delivery.Late k deadline n) ∷ [])
    late k deadline n true e y t = inr (all-end (λ (i : Item). not (is_offering g i.delivery)) items (new (Delivery.Late k deadline n)) (subst (λ j. HasNoOffer j items) (sym (equal g k e)) y) refl)
    late k deadline n false e y t = none (Delivery.Late k deadline n) (ap not e) refl t

    by : (d : Delivery) → FitsTwins d items → HasNoLate g items ⊎ HasNoOffer g items → HasNoLate g (items ++ new d ∷ []) ⊎ HasNoOffer g (items ++ new d ∷ [])
    by (Delivery.Wake k w) y t = wake k w (g == k) refl y t
    by (Delivery.Late k deadline n) y t = late k deadline n (g == k) refl y t
    by (Delivery.Start k deadline) y t = none (Delivery.Start k deadline) refl refl t
    by (Delivery.Timeout k n deadline) y t = none (Delivery.Timeout k n deadline) refl refl t
    by (Delivery.Kill k fault) y t = none (Delivery.Kill k fault) refl refl t
    by (Delivery.Link n k kind fault) y t = none (Delivery.Link n k kind fault) refl refl t

pub offers-add : (d : Delivery) (objects : List Object) (items : List Item) (next : ℕ) → FitsTwins d items → AreKeptOffers objects items next →
    AreKeptOffers objects (items ++ record { since = next; delivery = d; ready = None } ∷ []) (next + 1)
offers-add d objects items next f m =
    record {
      waited = λ o n e. any-end (awaits_taking o n) items _ ∙ ap (λ b. b || awaits_taking o n (record { since = next; delivery = d; ready = None })) (m.waited o n e);
      rising = λ o. rise-more 0 next (offers_at o objects) (m.rising o);
      twins = λ g. twins-add d next g items f (m.twins g);
    }

-- ---- an offer comes, with its Wake

rise-end : (low next : ℕ) (fs : List Offer) (f : Offer) → f.since ≡ next → rise low next fs ≡ true → rise low (next + 1) (fs ++ f ∷ []) ≡ true
rise-end low next [] f e h =
    let own : nat_le low f.since ≡ true = grind (arith, nat_tests, e, h) in
    let top : nat_le (f.since + 1) (next + 1) ≡ true = grind (arith, nat_tests, e) in
    and_from (nat_le low f.since) _ own top
rise-end low next (y ∷ fs) f e h = and_from (nat_le low y.since) _ (left _ (rise (y.since + 1) next fs) h) (rise-end (y.since + 1) next fs f e (right (nat_le low y.since) _ h))

or-true : (a : Bool) → (a || true) ≡ true
or-true true = refl
or-true false = refl

-- what a channel that takes the offer comes to have
offered-offers : (v : Value) (since : ℕ) (y : Object) → (offers_of (with_offer v since y) ≡ offers_of y) ⊎ (offers_of (with_offer v since y) ≡ offers_of y ++ record { value = v; since = since } ∷ [])
offered-offers v since (Object.Channel offers) = inr refl
offered-offers v since y = inl refl

pub offers-offered : (g o : ℕ) (v : Value) (objects : List Object) (items : List Item) (next : ℕ) → HasNoLate g items → AreKeptOffers objects items next →
    AreKeptOffers (slice_set objects o (with_offer v next (unwrap_or (slice_get objects o) no_object))) (items ++ record { since = next; delivery = Delivery.Wake g (Waiting.Offered o); ready = None } ∷ []) (next + 1)
offers-offered g o v objects items next free m =
    record { waited = λ p n e. (by p (at-set objects o x p)).0 n e; rising = λ p. (by p (at-set objects o x p)).1; twins = old.twins }
  where
    x : Object
    x = with_offer v next (unwrap_or (slice_get objects o) no_object)

    new : Item
    new = record { since = next; delivery = Delivery.Wake g (Waiting.Offered o); ready = None }

    old : AreKeptOffers objects (items ++ new ∷ []) (next + 1)
    old = offers-add (Delivery.Wake g (Waiting.Offered o)) objects items next free m

    IsGood : ℕ → List Offer → Type 0
    IsGood p fs = ((n : ℕ) → list_any (is_offer_of n) fs ≡ true → list_any (awaits_taking p n) (items ++ new ∷ []) ≡ true) × (rise 0 (next + 1) fs ≡ true)

    was : (p : ℕ) → IsGood p (offers_at p objects)
    was p = (λ n e. old.waited p n e, old.rising p)

    here : (n : ℕ) (c : Bool) → (next == n) ≡ c → (list_any (is_offer_of n) (offers_at o objects) || c) ≡ true → list_any (awaits_taking o n) (items ++ new ∷ []) ≡ true
    here n true e h =
        let own : awaits_taking o n new ≡ true = and_from (next == n && o == o) true (and_from (next == n) (o == o) e (itself o)) refl in
        any-end (awaits_taking o n) items new ∙ ap (λ b. list_any (awaits_taking o n) items || b) own ∙ or-true (list_any (awaits_taking o n) items)
    here n false e h = old.waited o n (or (list_any (is_offer_of n) (offers_at o objects)) h)
      where
        or : (a : Bool) → (a || false) ≡ true → a ≡ true
        or true z = refl
        or false z = z

    own : IsGood o (offers_of x)
    own = of (offered-offers v next (unwrap_or (slice_get objects o) no_object))
      where
        of : (offers_of x ≡ offers_at o objects) ⊎ (offers_of x ≡ offers_at o objects ++ record { value = v; since = next } ∷ []) → IsGood o (offers_of x)
        of (inl e) = subst (IsGood o) (sym e) (was o)
        of (inr e) =
            subst (IsGood o) (sym e)
            (λ n h. here n (next == n) refl (sym (any-end (is_offer_of n) (offers_at o objects) (record { value = v; since = next })) ∙ h), rise-end 0 next (offers_at o objects) (record { value = v; since = next }) refl (m.rising o))

    by : (p : ℕ) → (offers_at p (slice_set objects o x) ≡ offers_at p objects) ⊎ ((offers_at p (slice_set objects o x) ≡ offers_of x) × (o ≡ p)) → IsGood p (offers_at p (slice_set objects o x))
    by p (inl e) = subst (IsGood p) (sym e) (was p)
    by p (inr e) = subst (IsGood p) (sym e.0) (subst (λ q. IsGood q (offers_of x)) e.1 own)

-- ---- a settling

-- the offer is there: it is not taken
present : (n : ℕ) (object : Option Object) → list_any (is_offer_of n) (offers_of (unwrap_or object no_object)) ≡ true → is_taken n object ≡ false
unfolding is_taken
present n None e = refl
present n (Some (Object.Channel offers)) e = ap not e
present n (Some y) e = refl

-- while the Wake doesn't hold, it gets no number
any-settled : (hold : ℕ → Delivery → Bool) (o n : ℕ) → ((g : ℕ) → hold n (Delivery.Wake g (Waiting.Offered o)) ≡ false) → (k : ℕ) (items : List Item) → list_any (awaits_taking o n) items ≡ true →
    list_any (awaits_taking o n) (settled (map (λ (i : Item). hold i.since i.delivery) items) k items) ≡ true
any-settled hold o n f k [] e = e
any-settled hold o n f k (i ∷ items) e = by (awaits_taking o n i) refl e (any-settled hold o n f (number_after (hold i.since i.delivery) i.ready k) items)
  where
    rest : List Item
    rest = settled (map (λ (j : Item). hold j.since j.delivery) items) (number_after (hold i.since i.delivery) i.ready k) items

    now : Item
    now = record i { ready = settled_ready (hold i.since i.delivery) i.ready k }

    of : (d : Delivery) → is_offered_on o d ≡ true → hold n d ≡ false
    of (Delivery.Wake g (Waiting.Offered p)) z = subst (λ q. hold n (Delivery.Wake g (Waiting.Offered q)) ≡ false) (equal o p z) (f g)
    of d z = absurd (cc z)

    own : awaits_taking o n i ≡ true → awaits_taking o n now ≡ true
    own z =
        let since : i.since ≡ n = awaits-since o n i z in
        let offered = awaits-offered o n i z in
        let out : hold i.since i.delivery ≡ false = subst (λ m. hold m i.delivery ≡ false) (sym since) (of i.delivery offered) in
        and_from (i.since == n && is_offered_on o i.delivery) _ (left (i.since == n && is_offered_on o i.delivery) (not (is_numbered i)) z) (ap (λ b. not (is_some (settled_ready b i.ready k))) out)

    or : (a b : Bool) → b ≡ true → (a || b) ≡ true
    or true b z = refl
    or false b z = z

    by : (c : Bool) → awaits_taking o n i ≡ c → (c || list_any (awaits_taking o n) items) ≡ true → (list_any (awaits_taking o n) items ≡ true → list_any (awaits_taking o n) rest ≡ true) →
        (awaits_taking o n now || list_any (awaits_taking o n) rest) ≡ true
    by true z e more = ap (λ b. b || list_any (awaits_taking o n) rest) (own z)
    by false z e more = or (awaits_taking o n now) (list_any (awaits_taking o n) rest) (more e)

pub offers-settle : (s : State) → AreKeptOffers s.objects s.items s.next_since → AreKeptOffers s.objects (settle s).items s.next_since
offers-settle s m =
    record {
      waited = λ o n e. any-settled (λ since d. holds s (record { since = since; delivery = d; ready = None })) o n (λ g. present n (slice_get s.objects o) e) s.next_ready s.items (m.waited o n e);
      rising = m.rising;
      twins = λ g. by g (m.twins g);
    }
  where
    by : (g : ℕ) → HasNoLate g s.items ⊎ HasNoOffer g s.items → HasNoLate g (settle s).items ⊎ HasNoOffer g (settle s).items
    by g (inl e) = inl (all-settle (λ d. not (is_late_of g d)) s ∙ e)
    by g (inr e) = inr (all-settle (λ d. not (is_offering g d)) s ∙ e)

-- ---- a wait is broken off, and what was offered goes with it

-- the Wake of the greenlet has this since, if it has one
abbrev has_since : ℕ → Option ℕ → Item → Bool
has_since g None i = not (is_wake_of g i.delivery)
has_since g (Some n) i = not (is_wake_of g i.delivery) || i.since == n

wake-since : (g : ℕ) (items : List Item) → are_single items ≡ true → list_all (has_since g (since_of_wake g items)) items ≡ true
wake-since g [] h = refl
wake-since g (i ∷ items) h = by i.delivery refl (left _ (are_single items) h) (wake-since g items (right (is_unclaimed (claim_of i.delivery) items) _ h))
  where
    or : (a b : Bool) → a ≡ true → (a || b) ≡ true
    or true b z = refl
    or false b z = absurd (cc z)

    second : (a b : Bool) → b ≡ true → (a || b) ≡ true
    second true b z = refl
    second false b z = z

    unsaid : (k : ℕ) (n : ℕ) → (g == k) ≡ true → is_unclaimed (Some (Claim.WakeOf k)) items ≡ true → list_all (has_since g (Some n)) items ≡ true
    unsaid k n e u = all-imply _ _ items (λ j z. or (not (is_wake_of g j.delivery)) (j.since == n) (one j.delivery z)) u
      where
        one : (d : Delivery) → not (same_claim (Some (Claim.WakeOf k)) (claim_of d)) ≡ true → not (is_wake_of g d) ≡ true
        one (Delivery.Wake m w) z = subst (λ q. not (q == m) ≡ true) (sym (equal g k e)) z
        one d z = refl

    others : (o : Option ℕ) → not (is_wake_of g i.delivery) ≡ true → has_since g o i ≡ true
    others None z = z
    others (Some n) z = or (not (is_wake_of g i.delivery)) (i.since == n) z

    other : (d : Delivery) → i.delivery ≡ d → since_of_wake g (i ∷ items) ≡ since_of_wake g items → is_wake_of g d ≡ false → list_all (has_since g (since_of_wake g items)) items ≡ true → list_all (has_since g (since_of_wake g (i ∷ items))) (i ∷ items) ≡ true
    other d e same f rest =
        subst (λ (o : Option ℕ). list_all (has_since g o) (i ∷ items) ≡ true) (sym same)
        (and_from (has_since g (since_of_wake g items) i) _ (others (since_of_wake g items) (ap (λ x. not (is_wake_of g x)) e ∙ ap not f)) rest)

    reads : (d : Delivery) → i.delivery ≡ d → (o : Option ℕ) → since_of_wake g (record { since = i.since; delivery = d; ready = i.ready } ∷ items) ≡ o → since_of_wake g (i ∷ items) ≡ o
    reads d e o z = subst (λ (x : Delivery). since_of_wake g (record { since = i.since; delivery = x; ready = i.ready } ∷ items) ≡ o) (sym e) z

    wake : (k : ℕ) (w : Waiting) → i.delivery ≡ Delivery.Wake k w → (b : Bool) → (g == k) ≡ b → is_unclaimed (Some (Claim.WakeOf k)) items ≡ true → list_all (has_since g (since_of_wake g items)) items ≡ true →
        list_all (has_since g (since_of_wake g (i ∷ items))) (i ∷ items) ≡ true
    wake k w e true z u rest =
        subst (λ (o : Option ℕ). list_all (has_since g o) (i ∷ items) ≡ true)
        (sym (reads (Delivery.Wake k w) e (Some i.since) (ap (λ (b : Bool). if b then Some i.since else since_of_wake g items) z)))
        (and_from (has_since g (Some i.since) i) _ (second (not (is_wake_of g i.delivery)) (i.since == i.since) (itself i.since)) (unsaid k i.since z u))
    wake k w e false z u rest =
        other (Delivery.Wake k w) e (reads (Delivery.Wake k w) e (since_of_wake g items) (ap (λ (b : Bool). if b then Some i.since else since_of_wake g items) z)) z rest

    by : (d : Delivery) → i.delivery ≡ d → is_unclaimed (claim_of i.delivery) items ≡ true → list_all (has_since g (since_of_wake g items)) items ≡ true → list_all (has_since g (since_of_wake g (i ∷ items))) (i ∷ items) ≡ true
    by (Delivery.Wake k w) e u rest = wake k w e (g == k) refl (subst (λ (x : Delivery). is_unclaimed (claim_of x) items ≡ true) e u) rest
    by (Delivery.Start k deadline) e u rest = other (Delivery.Start k deadline) e (reads (Delivery.Start k deadline) e (since_of_wake g items) refl) refl rest
    by (Delivery.Late k deadline n) e u rest = other (Delivery.Late k deadline n) e (reads (Delivery.Late k deadline n) e (since_of_wake g items) refl) refl rest
    by (Delivery.Timeout k n deadline) e u rest = other (Delivery.Timeout k n deadline) e (reads (Delivery.Timeout k n deadline) e (since_of_wake g items) refl) refl rest
    by (Delivery.Kill k f) e u rest = other (Delivery.Kill k f) e (reads (Delivery.Kill k f) e (since_of_wake g items) refl) refl rest
    by (Delivery.Link n k kind f) e u rest = other (Delivery.Link n k kind f) e (reads (Delivery.Link n k kind f) e (since_of_wake g items) refl) refl rest

-- no Wake of the greenlet has the since of an offer that is left
left-over : (n m : ℕ) (fs : List Offer) → list_any (is_offer_of m) (filter (λ (f : Offer). not (is_offer_of n f)) fs) ≡ true → (m == n) ≡ false
left-over n m [] h = absurd (cc h)
left-over n m (f ∷ fs) h = by (is_offer_of n f) refl h (left-over n m fs)
  where
    apart : (b : Bool) → (m == n) ≡ b → (f.since == n) ≡ false → (f.since == m) ≡ true → b ≡ false
    apart true e y z = absurd (cc (y, ap (λ q. q == n) (equal f.since m z) ∙ e))
    apart false e y z = refl

    rest : List Offer
    rest = filter (λ (x : Offer). not (is_offer_of n x)) fs

    of : (c : Bool) → (f.since == m) ≡ c → (f.since == n) ≡ false → (c || list_any (is_offer_of m) rest) ≡ true → (list_any (is_offer_of m) rest ≡ true → (m == n) ≡ false) → (m == n) ≡ false
    of true z y e more = apart (m == n) refl y z
    of false z y e more = more e

    by : (b : Bool) → (f.since == n) ≡ b → list_any (is_offer_of m) (cond (not b) (f ∷ rest) rest) ≡ true → (list_any (is_offer_of m) rest ≡ true → (m == n) ≡ false) → (m == n) ≡ false
    by true y e more = more e
    by false y e more = of (f.since == m) refl y e more

pub offers-broken_off : (g since : ℕ) (objects : List Object) (items : List Item) (next : ℕ) → are_single items ≡ true → since_of_wake g items ≡ Some since → AreKeptOffers objects items next →
    AreKeptOffers (map (without_offer since) objects) (filter (λ (i : Item). not (is_wait_of g i.delivery)) items) next
offers-broken_off g since objects items next single found m =
    let fewer = offers-gone since objects items next m in
    record {
      waited = λ o n e.
          let rest = subst (λ fs. list_any (is_offer_of n) fs ≡ true) (at-gone since objects o) e in
          any-kept-where (has_since g (Some since)) (λ (i : Item). not (is_wait_of g i.delivery)) (awaits_taking o n) items
          (subst (λ (x : Option ℕ). list_all (has_since g x) items ≡ true) found (wake-since g items single))
          (λ i z y. spared o n i (left-over since n (offers_at o objects) rest) z y) (fewer.waited o n e);
      rising = fewer.rising;
      twins = λ k. twins-left items (filter (λ (i : Item). not (is_wait_of g i.delivery)) items) k (λ p e. all-filter _ p p items (λ i z y. y) e) (m.twins k);
    }
  where
    by : (d : Delivery) (o : ℕ) → is_offered_on o d ≡ true → (c : Bool) → c ≡ false → (not (is_wake_of g d) || c) ≡ true → not (is_wait_of g d) ≡ true
    by d o e true z y = absurd (cc z)
    by (Delivery.Wake k (Waiting.Offered p)) o e false z y = or (not (g == k)) y
      where
        or : (a : Bool) → (a || false) ≡ true → a ≡ true
        or true z = refl
        or false z = z
    by d o e false z y = absurd (cc e)

    spared : (o n : ℕ) (i : Item) → (n == since) ≡ false → has_since g (Some since) i ≡ true → awaits_taking o n i ≡ true → not (is_wait_of g i.delivery) ≡ true
    spared o n i apart h e =
        by i.delivery o (awaits-offered o n i e) (i.since == since) (ap (λ q. q == since) (awaits-since o n i e) ∙ apart) h

-- who has no Wake offered nothing
pub unfound-offerless : (g : ℕ) (items : List Item) → are_single items ≡ true → since_of_wake g items ≡ None → HasNoOffer g items
unfound-offerless g items single e =
    all-imply _ _ items (λ i. by i.delivery) (subst (λ (x : Option ℕ). list_all (has_since g x) items ≡ true) e (wake-since g items single))
  where
    by : (d : Delivery) → not (is_wake_of g d) ≡ true → not (is_offering g d) ≡ true
    by (Delivery.Wake k (Waiting.Offered o)) z = z
    by d z = refl
