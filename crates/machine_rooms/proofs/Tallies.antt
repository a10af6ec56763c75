-- Sums over items, greenlets and objects, as these come, change and go.
use Rattle.std.proofs.Common.{◌≡◌, refl, ap, ◌∙◌, sym, subst, ℕ, zero, suc, ◌+◌, ◌≤◌, Bool, true, false, List, [], ◌∷◌, ◌++◌, length, length-append, length-drop, length-take, map, cond, take, drop, arith}
use Rattle.std.proofs.lemmas.Bool.Decides.{nat_tests}
use Rattle.std.proofs.lemmas.List.Sums.{sum_by-cons}
use Rattle.std.specs.Prelude.{not, ◌==◌, Option, Some, None, count_by, filter, if◌then◌else◌, nat_le, slice_get, slice_set, unwrap_or}
use Rattle.gv_values.specs.declared.value.Value.{Value}
use Rattle.machine.specs.declared.items.Delivery.{Delivery}
use Rattle.machine.specs.declared.items.Item.{Item}
use Rattle.machine.specs.declared.items.Waiting.{Waiting}
use Rattle.machine.specs.declared.state.Greenlet.{Greenlet}
use Rattle.machine.specs.declared.state.Object.{Object}
use Rattle.machine.specs.declared.state.Phase.{Phase}
use Rattle.machine.specs.Deliveries.{without}
use Rattle.machine.specs.Greenlets.{nobody}
use Rattle.machine.specs.Objects.{next_place, no_object, with_flag, with_item, with_item_taken, with_member, with_offer, with_offer_taken, with_owner, with_shut, with_slot_freed, with_slot_taken, with_unit_taken, without_member, without_offer}
use Rattle.machine.specs.Request.{is_kill}
use Rattle.machine.specs.Settle.{number_after, numbers_after, settled}
use Rattle.machine.specs.Soundness.{ascend, is_live, is_unstarted, phase_of}
use Rattle.machine.proofs.Halves.{right}
use Rattle.machine_soundness.proofs.Deliveries.{later}
use Rattle.machine_soundness.proofs.Greenlets.{at}
use Rattle.machine.specs.Counts.{object_count}
use Rattle.machine_rooms.specs.Steps.{ends, gone, kill, other, tally, wait_weight}

-- ---- items

pub tally-end : (f : Delivery → ℕ) (items : List Item) (i : Item) → tally f (items ++ i ∷ []) ≡ tally f items + f i.delivery
tally-end f [] i = omega arith
tally-end f (j ∷ items) i = let rest = tally-end f items i in omega (arith, rest)

pub tally-filter : (f : Delivery → ℕ) (test : Delivery → Bool) (items : List Item) → tally f (filter (λ i. not (test i.delivery)) items) ≤ tally f items
tally-filter f test [] = omega arith
tally-filter f test (i ∷ items) = by (test i.delivery) (tally-filter f test items)
  where
    by : (b : Bool) → tally f (filter (λ j. not (test j.delivery)) items) ≤ tally f items →
        tally f (cond (not b) (i ∷ filter (λ j. not (test j.delivery)) items) (filter (λ j. not (test j.delivery)) items)) ≤ f i.delivery + tally f items
    by true rest = omega (arith, rest)
    by false rest = omega (arith, rest)

-- what goes counts nothing
pub tally-kept : (f : Delivery → ℕ) (test : Delivery → Bool) (items : List Item) → ((d : Delivery) → test d ≡ true → f d ≡ 0) →
    tally f (filter (λ i. not (test i.delivery)) items) ≡ tally f items
tally-kept f test [] none = refl
tally-kept f test (i ∷ items) none = by (test i.delivery) refl (tally-kept f test items none)
  where
    by : (b : Bool) → test i.delivery ≡ b → tally f (filter (λ j. not (test j.delivery)) items) ≡ tally f items →
        tally f (cond (not b) (i ∷ filter (λ j. not (test j.delivery)) items) (filter (λ j. not (test j.delivery)) items)) ≡ f i.delivery + tally f items
    by true e rest = let nothing = none i.delivery e in omega (arith, rest, nothing)
    by false e rest = omega (arith, rest)

pub tally-settled : (f : Delivery → ℕ) (hs : List Bool) (next : ℕ) (items : List Item) → tally f (settled hs next items) ≡ tally f items
tally-settled f [] next [] = refl
tally-settled f [] next (i ∷ items) = refl
tally-settled f (h ∷ hs) next [] = refl
tally-settled f (h ∷ hs) next (i ∷ items) = ap (λ n. f i.delivery + n) (tally-settled f hs _ items)

pub tally-without : (f : Delivery → ℕ) (low next n : ℕ) (items : List Item) (i : Item) → ascend low next items ≡ true → slice_get items n ≡ Some i →
    tally f (without i.since items) + f i.delivery ≡ tally f items
tally-without f low next n [] i h there = absurd (cc there)
tally-without f low next zero (j ∷ items) i h there =
    let same : j ≡ i = cc there in
    let own : (j.since == i.since) ≡ true = let s : j.since ≡ i.since = ap (λ (x : Item). x.since) same in grind (arith, nat_tests) in
    let counted : f j.delivery ≡ f i.delivery = ap (λ (x : Item). f x.delivery) same in
    subst (λ (b : Bool). tally f (if b then items else (j ∷ without i.since items)) + f i.delivery ≡ f j.delivery + tally f items) (sym own) (omega (arith, counted))
tally-without f low next (suc n) (j ∷ items) i h there =
    let above : nat_le (j.since + 1) i.since ≡ true = later (j.since + 1) next n items i (right (nat_le low j.since) _ h) there in
    let other : (j.since == i.since) ≡ false = grind (arith, nat_tests) in
    let rest = tally-without f (j.since + 1) next n items i (right (nat_le low j.since) _ h) there in
    subst (λ (b : Bool). tally f (if b then items else (j ∷ without i.since items)) + f i.delivery ≡ f j.delivery + tally f items) (sym other) (omega (arith, rest))

-- a settling gives no more numbers than there are items
pub numbers-few : (hs : List Bool) (next : ℕ) (items : List Item) → numbers_after hs next items ≤ next + length items
numbers-few [] next [] = omega arith
numbers-few [] next (i ∷ items) = omega arith
numbers-few (h ∷ hs) next [] = omega arith
numbers-few (h ∷ hs) next (i ∷ items) = let rest = numbers-few hs (number_after h i.ready next) items in let one = by h i.ready in omega (arith, rest, one)
  where
    by : (h : Bool) (ready : Option ℕ) → number_after h ready next ≤ next + 1
    by true None = omega arith
    by true (Some n) = omega arith
    by false ready = omega arith

-- ---- what items count

pub wait-weight-few : (w : Waiting) → wait_weight w ≤ 6
wait-weight-few w = by w
  where
    by : (w : Waiting) → wait_weight w ≤ 6
    by (Waiting.MapPlace o f xs made) = omega arith
    by w = omega arith

pub kill-or-other : (d : Delivery) → kill d + other d ≡ 1
kill-or-other (Delivery.Kill g f) = refl
kill-or-other d = refl

pub kills-tallied : (items : List Item) → count_by (λ (i : Item). is_kill i.delivery) items ≡ tally kill items
kills-tallied [] = refl
kills-tallied (i ∷ items) = sum_by-cons (λ (j : Item). cond (is_kill j.delivery) 1 0) i items ∙ by i.delivery (kills-tallied items)
  where
    by : (d : Delivery) → count_by (λ (j : Item). is_kill j.delivery) items ≡ tally kill items → cond (is_kill d) 1 0 + count_by (λ (j : Item). is_kill j.delivery) items ≡ kill d + tally kill items
    by (Delivery.Kill g f) rest = ap (λ n. 1 + n) rest
    by (Delivery.Start g deadline) rest = ap (λ n. 0 + n) rest
    by (Delivery.Wake g w) rest = ap (λ n. 0 + n) rest
    by (Delivery.Late g deadline n) rest = ap (λ n. 0 + n) rest
    by (Delivery.Timeout g n deadline) rest = ap (λ n. 0 + n) rest
    by (Delivery.Link n g kind f) rest = ap (λ n. 0 + n) rest

pub kills-and-others : (items : List Item) → length items ≡ tally kill items + tally other items
kills-and-others [] = refl
kills-and-others (i ∷ items) = by i.delivery (kills-and-others items)
  where
    by : (d : Delivery) → length items ≡ tally kill items + tally other items → suc (length items) ≡ kill d + tally kill items + (other d + tally other items)
    by (Delivery.Kill g f) rest = omega (arith, rest)
    by (Delivery.Start g deadline) rest = omega (arith, rest)
    by (Delivery.Wake g w) rest = omega (arith, rest)
    by (Delivery.Late g deadline n) rest = omega (arith, rest)
    by (Delivery.Timeout g n deadline) rest = omega (arith, rest)
    by (Delivery.Link n g kind f) rest = omega (arith, rest)

-- ---- greenlets that have ended

-- there is such a greenlet, and it has not ended
abbrev pub is_open : Option Phase → Bool
is_open (Some (Phase.New args)) = true
is_open (Some (Phase.Live frame)) = true
is_open p = false

pub live-open : (p : Option Phase) → is_live p ≡ true → is_open p ≡ true
live-open None h = absurd (cc h)
live-open (Some (Phase.New args)) h = refl
live-open (Some (Phase.Live frame)) h = refl
live-open (Some (Phase.Done o)) h = absurd (cc h)

pub unstarted-open : (p : Option Phase) → is_unstarted p ≡ true → is_open p ≡ true
unstarted-open None h = absurd (cc h)
unstarted-open (Some (Phase.New args)) h = refl
unstarted-open (Some (Phase.Live frame)) h = refl
unstarted-open (Some (Phase.Done o)) h = absurd (cc h)

-- a greenlet that is looked at and has not ended is there
pub open-at : (gs : List Greenlet) (g : ℕ) → is_open (Some (at gs g).phase) ≡ true → is_open (phase_of g gs) ≡ true
open-at gs g h = by (slice_get gs g) h
  where
    by : (o : Option Greenlet) → is_open (Some (unwrap_or o nobody).phase) ≡ true → is_open (elim o [ None ↦ None | Some x ↦ Some x.phase ]) ≡ true
    by None h = absurd (cc h)
    by (Some x) h = h

open-gone : (p : Phase) → is_open (Some p) ≡ true → gone p ≡ 0
open-gone (Phase.New args) h = refl
open-gone (Phase.Live frame) h = refl
open-gone (Phase.Done o) h = absurd (cc h)

pub ends-made : (gs : List Greenlet) (x : Greenlet) → gone x.phase ≡ 0 → ends (gs ++ x ∷ []) ≡ ends gs
ends-made [] x e = omega (arith, e)
ends-made (y ∷ gs) x e = ap (λ n. gone y.phase + n) (ends-made gs x e)

pub ends-few : (gs : List Greenlet) → ends gs ≤ length gs
ends-few [] = omega arith
ends-few (x ∷ gs) = by x.phase (ends-few gs)
  where
    by : (p : Phase) → ends gs ≤ length gs → gone p + ends gs ≤ suc (length gs)
    by (Phase.New args) rest = omega (arith, rest)
    by (Phase.Live frame) rest = omega (arith, rest)
    by (Phase.Done o) rest = omega (arith, rest)

-- one that was open comes further
pub ends-set : (gs : List Greenlet) (g : ℕ) (x : Greenlet) → is_open (phase_of g gs) ≡ true → ends (slice_set gs g x) ≡ ends gs + gone x.phase
ends-set [] g x h = absurd (cc h)
ends-set (y ∷ gs) zero x h = let none = open-gone y.phase h in omega (arith, none)
ends-set (y ∷ gs) (suc g) x h = let rest = ends-set gs g x h in omega (arith, rest)

-- one that comes no further
pub ends-same : (gs : List Greenlet) (g : ℕ) (x : Greenlet) → x.phase ≡ (at gs g).phase → ends (slice_set gs g x) ≡ ends gs
ends-same [] g x e = refl
ends-same (y ∷ gs) zero x e = ap (λ p. gone p + ends gs) e
ends-same (y ∷ gs) (suc g) x e = ap (λ n. gone y.phase + n) (ends-same gs g x e)

-- ---- objects

pub count-set : (objects : List Object) (o p k : ℕ) (x : Object) → object_count (Some x) ≤ object_count (slice_get objects o) + k →
    object_count (slice_get (slice_set objects o x) p) ≤ object_count (slice_get objects p) + k
count-set [] o p k x h = omega arith
count-set (y ∷ objects) zero zero k x h = h
count-set (y ∷ objects) zero (suc p) k x h = omega arith
count-set (y ∷ objects) (suc o) zero k x h = omega arith
count-set (y ∷ objects) (suc o) (suc p) k x h = count-set objects o p k x h

pub count-map : (f : Object → Object) → ((x : Object) → object_count (Some (f x)) ≤ object_count (Some x)) → (objects : List Object) (p : ℕ) →
    object_count (slice_get (map f objects) p) ≤ object_count (slice_get objects p)
count-map f less [] p = omega arith
count-map f less (x ∷ objects) zero = less x
count-map f less (x ∷ objects) (suc p) = count-map f less objects p

pub count-at : (objects : List Object) (o : ℕ) → object_count (Some (unwrap_or (slice_get objects o) no_object)) ≡ object_count (slice_get objects o)
count-at objects o = by (slice_get objects o)
  where
    by : (x : Option Object) → object_count (Some (unwrap_or x no_object)) ≡ object_count x
    by None = refl
    by (Some x) = refl

length-filter : {X : Type 0} (p : X → Bool) (xs : List X) → length (filter p xs) ≤ length xs
length-filter p [] = omega arith
length-filter p (x ∷ xs) = by (p x) (length-filter p xs)
  where
    by : (b : Bool) → length (filter p xs) ≤ length xs → length (cond b (x ∷ filter p xs) (filter p xs)) ≤ suc (length xs)
    by true rest = omega (arith, rest)
    by false rest = omega (arith, rest)

pub member-gone : (g : ℕ) (x : Object) → object_count (Some (without_member g x)) ≤ object_count (Some x)
member-gone g (Object.Crew size members) = length-filter (λ h. not (h == g)) members
member-gone g x = omega arith

pub offer-gone : (since : ℕ) (x : Object) → object_count (Some (without_offer since x)) ≤ object_count (Some x)
offer-gone since (Object.Channel offers) = omega arith
offer-gone since x = omega arith

pub flag-counted : (b : Bool) (x : Object) → object_count (Some (with_flag b x)) ≤ object_count (Some x) + 1
flag-counted true (Object.Event flag sets) = omega arith
flag-counted false (Object.Event flag sets) = omega arith
flag-counted b x = by b x
  where
    by : (b : Bool) (x : Object) → object_count (Some (with_flag b x)) ≤ object_count (Some x) + 1
    by true (Object.Event flag sets) = omega arith
    by false (Object.Event flag sets) = omega arith
    by true x = omega arith
    by false x = omega arith

pub unit-counted : (x : Object) → object_count (Some (with_unit_taken x)) ≤ object_count (Some x)
unit-counted (Object.Semaphore counter bound) = omega arith
unit-counted x = omega arith

pub owner-counted : (g : ℕ) (x : Object) → object_count (Some (with_owner g x)) ≤ object_count (Some x) + 1
owner-counted g (Object.Lock owner depth) = omega arith
owner-counted g x = omega arith

pub item-counted : (v : Value) (x : Object) → object_count (Some (with_item v x)) ≤ object_count (Some x) + 2
item-counted v (Object.Queue kind size items unfinished shut) = let sum = length-append items (v ∷ []) in omega (arith, sum)
item-counted v x = omega arith

shorter : (n : ℕ) (vs : List Value) → length (take n vs ++ drop (n + 1) vs) ≤ length vs
shorter n vs = let sum = length-append (take n vs) (drop (n + 1) vs) in let a = length-take n vs in let b = length-drop (n + 1) vs in omega (arith, sum, a, b)

pub taken-counted : (x : Object) → object_count (Some (with_item_taken x)) ≤ object_count (Some x)
taken-counted (Object.Queue kind size items unfinished shut) = let fewer = shorter (next_place kind items) items in omega (arith, fewer)
taken-counted x = omega arith

pub shut-counted : (b : Bool) (x : Object) → object_count (Some (with_shut b x)) ≤ object_count (Some x)
shut-counted b x = by b x
  where
    by : (b : Bool) (x : Object) → object_count (Some (with_shut b x)) ≤ object_count (Some x)
    by true (Object.Queue kind size items unfinished shut) = omega arith
    by false (Object.Queue kind size items unfinished shut) = omega arith
    by true x = omega arith
    by false x = omega arith

pub member-counted : (g : ℕ) (x : Object) → object_count (Some (with_member g x)) ≤ object_count (Some x) + 1
member-counted g (Object.Crew size members) = let sum = length-append members (g ∷ []) in omega (arith, sum)
member-counted g x = omega arith

pub slot-counted : (x : Object) → object_count (Some (with_slot_taken x)) ≤ object_count (Some x) + 1
slot-counted (Object.Native slots outstanding) = omega arith
slot-counted x = omega arith

pub freed-counted : (x : Object) → object_count (Some (with_slot_freed x)) ≤ object_count (Some x)
freed-counted (Object.Native slots outstanding) = omega arith
freed-counted x = omega arith

pub offer-counted : (v : Value) (since : ℕ) (x : Object) → object_count (Some (with_offer v since x)) ≤ object_count (Some x)
offer-counted v since (Object.Channel offers) = omega arith
offer-counted v since x = omega arith

pub offer_taken-counted : (x : Object) → object_count (Some (with_offer_taken x)) ≤ object_count (Some x)
offer_taken-counted (Object.Channel offers) = omega arith
offer_taken-counted x = omega arith
