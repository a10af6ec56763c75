-- Lines hold from the front.
use Rattle.std.proofs.Common.{◌≡◌, refl, sym, ◌∙◌, ap, subst, ℕ, ◌-◌, ◌≤◌, Bool, true, false, List, [], ◌∷◌, length, ◌⊎◌, inl, inr, arith}
use Rattle.std.proofs.lemmas.Bool.{eqb-true, or_parts, true≢false}
use Rattle.std.proofs.lemmas.Bool.Decides.{nat_tests}
use Rattle.std.proofs.lemmas.List.Elements.{All-from_recursion, recursion_from_All}
use Rattle.std.specs.List.{All, AllByRecursion, Contains}
use Rattle.std.specs.Prelude.{◌==◌, ◌&&◌, ◌||◌, not, cond, IsTrue, map, Option, Some, None, is_some, nat_lt, slice_get}
use Rattle.machine.specs.declared.items.Delivery.{Delivery}
use Rattle.machine.specs.declared.items.Item.{Item}
use Rattle.machine.specs.declared.items.Waiting.{Waiting}
use Rattle.machine.specs.declared.state.Object.{Object}
use Rattle.machine.specs.State.{State}
use Rattle.machine.specs.Holds.{below_room, delivery_holds, earlier, has_item, has_offer, has_place, has_room, has_slot, has_unit, holds, is_acquire, is_free, is_lock, is_place, is_put, is_slot, is_take, is_take_offer, job_at, wait_holds, wakes}
use Rattle.machine.specs.Questions.{is_numbered}
use Rattle.machine.specs.Settle.{settle}
use Rattle.machine_settling.specs.Classes.{class_of, class_of_wait}
use Rattle.machine_settling.specs.Fronts.{IsInFront, IsNumberedBefore, IsStill, NumbersStandInFront, in_one_line, is_open, line_with}
use Rattle.machine_settling.specs.Lasting.{is_off_objects}
use Rattle.machine_settling.specs.Numbers.{IsAscending, gives_number, renumbered, since_of, takes_number, with_ready}
use Rattle.machine_settling.specs.Steps.{Step, after, nothing}
use Rattle.machine_settling.proofs.Agreements.{agrees-settle, in_filter, in_last, in_without, items_arrived, since_below}
use Rattle.machine_settling.proofs.Members.{In, in_of_Contains}
use Rattle.machine_settling.proofs.Parts.{all_by, at_in}
use Rattle.machine_settling.proofs.Settles.{earlier-cons}

-- ---- fewer are before one in front

earlier-fewer : (test : Waiting → Bool) (a b : ℕ) (items : List Item) → a ≤ b → earlier test a items ≤ earlier test b items
earlier-fewer test a b [] l = omega arith
earlier-fewer test a b (i ∷ items) l =
    let rest = earlier-fewer test a b items l in
    let one = here (nat_lt i.since a) (nat_lt i.since b) (wakes test i.delivery) (λ e. grind (arith, nat_tests)) in
    let before = earlier-cons test a i items in
    let now = earlier-cons test b i items in
    omega (arith, rest, one, before, now)
  where
    here : (x y w : Bool) → (x ≡ true → y ≡ true) → cond (x && w) 1 0 ≤ cond (y && w) 1 0
    here true true w f = omega arith
    here true false w f = absurd (true≢false (sym (f refl)))
    here false true true f = omega arith
    here false true false f = omega arith
    here false false w f = omega arith

-- it holds for fewer before it too
abbrev pub KeepsForFewer : (ℕ → Option Object → Bool) → Type 0
KeepsForFewer f = (m n : ℕ) (x : Option Object) → m ≤ n → f n x ≡ true → f m x ≡ true

lower : (m n k : ℕ) → m ≤ n → nat_lt n k ≡ true → nat_lt m k ≡ true
lower m n k l h = grind (arith, nat_tests)

or_keeps : (a b c : Bool) → (b ≡ true → c ≡ true) → (a || b) ≡ true → (a || c) ≡ true
or_keeps true b c f h = refl
or_keeps false b c f h = f h

and_keeps : (a b c : Bool) → (b ≡ true → c ≡ true) → (a && b) ≡ true → (a && c) ≡ true
and_keeps true b c f h = f h
and_keeps false b c f h = h

room-fewer : (m n : ℕ) (size : Option ℕ) (held : ℕ) → m ≤ n → below_room n size held ≡ true → below_room m size held ≡ true
room-fewer m n None held l h = refl
room-fewer m n (Some size) held l h = lower m n (size - held) l h

unit-fewer : KeepsForFewer has_unit
unfolding has_unit
unit-fewer m n (Some (Object.Semaphore counter bound)) l h = lower m n counter l h
unit-fewer m n x l h = h

free-fewer : KeepsForFewer is_free
unfolding is_free
free-fewer m n (Some (Object.Lock owner depth)) l h = and_keeps _ (n == 0) (m == 0) (λ e. grind (arith, nat_tests)) h
free-fewer m n x l h = h

put-fewer : KeepsForFewer has_room
unfolding has_room
put-fewer m n (Some (Object.Queue kind size items unfinished shut)) l h = or_keeps shut (below_room n size (length items)) (below_room m size (length items)) (room-fewer m n size (length items) l) h
put-fewer m n x l h = h

item-fewer : KeepsForFewer has_item
unfolding has_item
item-fewer m n (Some (Object.Queue kind size items unfinished shut)) l h = or_keeps shut (nat_lt n (length items)) (nat_lt m (length items)) (lower m n (length items) l) h
item-fewer m n x l h = h

place-fewer : KeepsForFewer has_place
unfolding has_place
place-fewer m n (Some (Object.Crew size members)) l h = room-fewer m n size (length members) l h
place-fewer m n x l h = h

slot-fewer : KeepsForFewer has_slot
unfolding has_slot
slot-fewer m n (Some (Object.Native slots outstanding)) l h = lower m n (slots - outstanding) l h
slot-fewer m n x l h = h

offer-fewer : KeepsForFewer has_offer
unfolding has_offer
offer-fewer m n (Some (Object.Channel offers)) l h = lower m n (length offers) l h
offer-fewer m n x l h = h

-- ---- one line

-- the later holds at the same object, with no fewer before it
front : (f : ℕ → Option Object → Bool) (test : ℕ → Waiting → Bool) (o p a b : ℕ) (s : State) → KeepsForFewer f → (o == p) ≡ true → a ≤ b →
    f (earlier (test p) b s.items) (slice_get s.objects p) ≡ true → f (earlier (test o) a s.items) (slice_get s.objects o) ≡ true
front f test o p a b s keeps e l h =
    keeps (earlier (test o) a s.items) (earlier (test o) b s.items) (slice_get s.objects o) (earlier-fewer (test o) a b s.items l)
    (subst (λ q. f (earlier (test q) b s.items) (slice_get s.objects q) ≡ true) (sym (eqb-true o p e)) h)

wait-front : (s : State) (a b : ℕ) (w v : Waiting) → line_with w v ≡ true → a ≤ b → wait_holds s b v ≡ true → wait_holds s a w ≡ true
wait-front s a b (Waiting.Acquire o) (Waiting.Acquire p) e l h = front has_unit is_acquire o p a b s unit-fewer e l h
wait-front s a b (Waiting.Lock o) (Waiting.Lock p) e l h = front is_free is_lock o p a b s free-fewer e l h
wait-front s a b (Waiting.Put o x) (Waiting.Put p y) e l h = front has_room is_put o p a b s put-fewer e l h
wait-front s a b (Waiting.Take o) (Waiting.Take p) e l h = front has_item is_take o p a b s item-fewer e l h
wait-front s a b (Waiting.Place o f xs) (Waiting.Place p g ys) e l h = front has_place is_place o p a b s place-fewer e l h
wait-front s a b (Waiting.Place o f xs) (Waiting.MapPlace p g ys made) e l h = front has_place is_place o p a b s place-fewer e l h
wait-front s a b (Waiting.MapPlace o f xs done) (Waiting.Place p g ys) e l h = front has_place is_place o p a b s place-fewer e l h
wait-front s a b (Waiting.MapPlace o f xs done) (Waiting.MapPlace p g ys made) e l h = front has_place is_place o p a b s place-fewer e l h
wait-front s a b (Waiting.Slot o j t) (Waiting.Slot p k u) e l h = front has_slot is_slot o p a b s slot-fewer e l h
wait-front s a b (Waiting.TakeOffer o) (Waiting.TakeOffer p) e l h = front has_offer is_take_offer o p a b s offer-fewer e l h
wait-front s a b w v e l h = absurd (true≢false (sym e))

delivery-front : (s : State) (a b : ℕ) (d e : Delivery) → in_one_line d e ≡ true → a ≤ b → delivery_holds s b e ≡ true → delivery_holds s a d ≡ true
delivery-front s a b (Delivery.Wake g w) (Delivery.Wake h v) k l t = wait-front s a b w v k l t
delivery-front s a b d e k l t = absurd (true≢false (sym k))

pub line_holds : (s : State) (i j : Item) → IsInFront i j → IsTrue (holds s j) → IsTrue (holds s i)
line_holds s i j f h = delivery-front s i.since j.since i.delivery j.delivery f.line f.older h

-- ---- who stands in a line waits for an object

wait-off : (w v : Waiting) → line_with w v ≡ true → (is_off_objects (class_of_wait w) ≡ false) × (is_off_objects (class_of_wait v) ≡ false)
wait-off (Waiting.Acquire o) (Waiting.Acquire p) e = (refl, refl)
wait-off (Waiting.Lock o) (Waiting.Lock p) e = (refl, refl)
wait-off (Waiting.Put o x) (Waiting.Put p y) e = (refl, refl)
wait-off (Waiting.Take o) (Waiting.Take p) e = (refl, refl)
wait-off (Waiting.Place o f xs) (Waiting.Place p g ys) e = (refl, refl)
wait-off (Waiting.Place o f xs) (Waiting.MapPlace p g ys made) e = (refl, refl)
wait-off (Waiting.MapPlace o f xs done) (Waiting.Place p g ys) e = (refl, refl)
wait-off (Waiting.MapPlace o f xs done) (Waiting.MapPlace p g ys made) e = (refl, refl)
wait-off (Waiting.Slot o j t) (Waiting.Slot p k u) e = (refl, refl)
wait-off (Waiting.TakeOffer o) (Waiting.TakeOffer p) e = (refl, refl)
wait-off w v e = absurd (true≢false (sym e))

line-off : (d e : Delivery) → in_one_line d e ≡ true → (is_off_objects (class_of d) ≡ false) × (is_off_objects (class_of e) ≡ false)
line-off (Delivery.Wake g w) (Delivery.Wake h v) k = wait-off w v k
line-off d e k = absurd (true≢false (sym k))

-- ---- who has a number

-- of these two of the state
pub in_front : (s : State) (i j : Item) → NumbersStandInFront s → In i s.items → In j s.items → IsNumberedBefore i j
in_front s i j h k l = at_in (IsNumberedBefore i) s.items j (at_in (λ i. All (IsNumberedBefore i) s.items) s.items i h k) l

front_by : (s : State) → ((i j : Item) → In i s.items → In j s.items → IsNumberedBefore i j) → NumbersStandInFront s
front_by s f =
    All-from_recursion (λ i. All (IsNumberedBefore i) s.items) s.items
    (all_by (λ i. All (IsNumberedBefore i) s.items) s.items (λ i k. All-from_recursion (IsNumberedBefore i) s.items (all_by (IsNumberedBefore i) s.items (λ j l. f i j k l))))

-- of items that are left
front_left : (s t : State) → ((i : Item) → In i t.items → In i s.items) → NumbersStandInFront s → NumbersStandInFront t
front_left s t k h = front_by t (λ i j u v. in_front s i j h (k i u) (k j v))

front_added : (d : Delivery) (s : State) → IsAscending s → NumbersStandInFront s → NumbersStandInFront (after (Step.Adds d) s)
front_added d s a h = front_by (after (Step.Adds d) s) (λ i j u v. by i j (in_last s.items new i u) (in_last s.items new j v))
  where
    new : Item
    new = record { since = s.next_since; delivery = d; ready = None }

    by : (i j : Item) → In i s.items ⊎ (new ≡ i) → In j s.items ⊎ (new ≡ j) → IsNumberedBefore i j
    by i j (inl k) (inl l) = in_front s i j h k l
    by i j k (inr e) = λ f n. absurd (true≢false (sym n ∙ ap is_numbered (sym e)))
    by i j (inr e) (inl l) = λ f n.
        let below = since_below 0 s.next_since s.items j a l in
        let older = f.older in
        let same : s.next_since ≡ i.since = ap since_of e in
        absurd (omega (arith, below, older, same))

pub fronts_stepped : (step : Step) (s : State) → IsAscending s → NumbersStandInFront s → NumbersStandInFront (after step s)
fronts_stepped (Step.Adds d) s a h = front_added d s a h
fronts_stepped (Step.Drops gone) s a h = front_left s (after (Step.Drops gone) s) (in_filter (λ j. not (gone j.delivery)) s.items) h
fronts_stepped (Step.Takes x) s a h = front_left s (after (Step.Takes x) s) (in_without x.since s.items) h
fronts_stepped (Step.Withdraws None) s a h = h
fronts_stepped (Step.Arrives j outcome) s a h =
    front_left s (after (Step.Arrives j outcome) s) (λ i k. subst (λ (items : List Item). In i items) (items_arrived j outcome (job_at j s.jobs) s) k) h
fronts_stepped (Step.Changes o x) s a h = h
fronts_stepped (Step.Leaves g) s a h = h
fronts_stepped (Step.Withdraws (Some n)) s a h = h
fronts_stepped (Step.Comes g phase) s a h = h
fronts_stepped (Step.Parents child parent) s a h = h
fronts_stepped (Step.Makes raw parent f args) s a h = h
fronts_stepped (Step.Posts g o job takes) s a h = h
fronts_stepped (Step.Reaches moment) s a h = h
fronts_stepped (Step.Says line) s a h = h
fronts_stepped (Step.Counts turns moves timeouts links) s a h = h
fronts_stepped Step.GivesOut s a h = h

pub fronts_settled : (s : State) → NumbersStandInFront (settle s)
fronts_settled s = front_by (settle s) (λ i j k l f n. agrees i k ∙ line_holds (settle s) i j f (sym (agrees j l) ∙ n))
  where
    agrees : (i : Item) → In i (settle s).items → is_numbered i ≡ holds (settle s) i
    agrees i k = at_in (λ x. nothing (class_of x.delivery) ≡ false → is_numbered x ≡ holds (settle s) x) (settle s).items i (agrees-settle s) k refl

-- ---- numbers of others

-- what an item was before
pub record Was (items : List Item) (j : Item) : Type 0 where
  pub item : Item
  pub among : In item items
  pub still : IsStill item j

was : (change : Item → Item) (items : List Item) (j : Item) → AllByRecursion (λ i. IsStill i (change i)) items → In j (map change items) → Was items j
was change [] j a h = absurd h
was change (i ∷ items) j a (inl e) = record { item = i; among = inl refl; still = subst (IsStill i) e a.0 }
was change (i ∷ items) j a (inr h) = let w = was change items j a.1 h in record { item = w.item; among = inr w.among; still = w.still }

pub fronts_others : (change : Item → Item) (s : State) → All (λ i. IsStill i (change i)) s.items → NumbersStandInFront s → NumbersStandInFront (record s { items = map change s.items })
fronts_others change s still h =
    let each = recursion_from_All (λ i. IsStill i (change i)) s.items still in
    front_by (record s { items = map change s.items }) (λ i j k l. by i j (was change s.items i each k) (was change s.items j each l))
  where
    by : (i j : Item) → Was s.items i → Was s.items j → IsNumberedBefore i j
    by i j v w f m =
        let line : in_one_line v.item.delivery w.item.delivery ≡ true = ap (λ d. in_one_line d w.item.delivery) (sym v.still.delivery) ∙ ap (in_one_line i.delivery) (sym w.still.delivery) ∙ f.line in
        let off = line-off v.item.delivery w.item.delivery line in
        let older : v.item.since ≤ w.item.since = let a = v.still.since in let b = w.still.since in let c = f.older in omega (arith, a, b, c) in
        ap is_some (v.still.ready off.0)
        ∙ in_front s v.item w.item h v.among w.among (record { line = line; older = older }) (sym (ap is_some (w.still.ready off.1)) ∙ m)

renumbered_still : (since : ℕ) (r : Option ℕ) (i : Item) → (i.since ≡ since → is_off_objects (class_of i.delivery) ≡ true) → IsStill i (cond (i.since == since) (with_ready r i) i)
renumbered_still since r i off = by (i.since == since) refl
  where
    by : (b : Bool) → (i.since == since) ≡ b → IsStill i (cond b (with_ready r i) i)
    by true e = record { since = refl; delivery = refl; ready = λ k. absurd (true≢false (sym (off (eqb-true i.since since e)) ∙ k)) }
    by false e = record { since = refl; delivery = refl; ready = λ k. refl }

pub fronts_numbered : (since : ℕ) (s : State) → All (λ i. i.since ≡ since → IsTrue (is_off_objects (class_of i.delivery))) s.items → NumbersStandInFront s →
    NumbersStandInFront (takes_number since s) × NumbersStandInFront (gives_number since s)
fronts_numbered since s off h = (one None, one (Some s.next_ready))
  where
    still : (r : Option ℕ) → All (λ i. IsStill i (cond (i.since == since) (with_ready r i) i)) s.items
    still r =
        All-from_recursion (λ i. IsStill i (cond (i.since == since) (with_ready r i) i)) s.items
        (all_by (λ i. IsStill i (cond (i.since == since) (with_ready r i) i)) s.items
        (λ i k. renumbered_still since r i (at_in (λ x. x.since ≡ since → IsTrue (is_off_objects (class_of x.delivery))) s.items i off k)))

    one : (r : Option ℕ) → NumbersStandInFront (record s { items = renumbered since r s.items })
    one r = fronts_others (λ i. cond (i.since == since) (with_ready r i) i) s (still r) h

-- ---- where a walk stops

not_later : (b c : Bool) → (c ≡ true → b ≡ true) → b ≡ false → c ≡ false
not_later b true f e = sym (f refl) ∙ e
not_later b false f e = refl

neither : (b c : Bool) → b ≡ false → c ≡ false → (b || c) ≡ false
neither true c e f = e
neither false c e f = f

pub walk_stops : (s : State) (i j : Item) → NumbersStandInFront s → Contains s.items i → Contains s.items j → IsInFront i j → is_open s i ≡ false → is_open s j ≡ false
walk_stops s i j h k l f e =
    let parts = or_parts (holds s i) (is_numbered i) e in
    neither (holds s j) (is_numbered j)
    (not_later (holds s i) (holds s j) (line_holds s i j f) parts.0)
    (not_later (is_numbered i) (is_numbered j) (in_front s i j h (in_of_Contains s.items i k) (in_of_Contains s.items j l) f) parts.1)
