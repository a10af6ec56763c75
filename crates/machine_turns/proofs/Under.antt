-- How many items have a number below a mark.
use Rattle.std.proofs.Common.{◌≡◌, refl, ap, ◌∙◌, sym, subst, ℕ, zero, suc, ◌+◌, ◌≤◌, Bool, true, false, List, [], ◌∷◌, ◌++◌, length, map, arith}
use Rattle.std.proofs.lemmas.Bool.Decides.{nat_tests}
use Rattle.std.specs.Prelude.{not, ◌==◌, slice_get, Option, Some, None, nat_lt, nat_le, filter, cond, if◌then◌else◌}
use Rattle.machine.specs.declared.items.Delivery.{Delivery}
use Rattle.machine.specs.declared.items.Item.{Item}
use Rattle.machine.specs.State.{State}
use Rattle.machine.specs.Holds.{holds}
use Rattle.machine.specs.Items.{add_item, drop_items}
use Rattle.machine.specs.Settle.{settle, settled, settled_ready, number_after, numbers_after}
use Rattle.machine.specs.Soundness.{ascend}
use Rattle.machine.specs.Deliveries.{without, without_item}
use Rattle.machine.specs.Run.{least_below, nearer, with_this}
use Rattle.machine.proofs.Soundness.{ascend-settled, ascend-filter, ascend-append}
use Rattle.machine.proofs.Halves.{right}
use Rattle.machine_soundness.proofs.Deliveries.{ascend-without, later}
use Rattle.machine_turns.proofs.Steps.{Keeps, Core}

pub one_if : Bool → ℕ
one_if true = 1
one_if false = 0

pub is_low : ℕ → Option ℕ → Bool
is_low mark None = false
is_low mark (Some n) = nat_lt n mark

-- so many have one
pub low : ℕ → List Item → ℕ
low mark [] = 0
low mark (i ∷ items) = one_if (is_low mark i.ready) + low mark items

-- the sinces ascend, few items have a number below the mark, and no such number is given any more
pub record Under (mark n : ℕ) (s : State) : Type 0 where
  pub ascends : ascend 0 s.next_since s.items ≡ true
  pub few : low mark s.items ≤ n
  pub ready : mark ≤ s.next_ready

-- ---- lists

low-append : (mark : ℕ) (xs : List Item) (i : Item) → i.ready ≡ None → low mark (xs ++ i ∷ []) ≡ low mark xs
unfolding low is_low one_if
low-append mark [] i e = ap (λ r. one_if (is_low mark r) + 0) e
low-append mark (x ∷ xs) i e = ap (λ k. one_if (is_low mark x.ready) + k) (low-append mark xs i e)

low-filter : (mark : ℕ) (p : Item → Bool) (xs : List Item) → low mark (filter p xs) ≤ low mark xs
unfolding low
low-filter mark p [] = omega arith
low-filter mark p (x ∷ xs) =
    let rest = low-filter mark p xs in
    elim (p x) as (λ b. low mark (cond b (x ∷ filter p xs) (filter p xs)) ≤ one_if (is_low mark x.ready) + low mark xs) [ true ↦ omega (arith, rest) | false ↦ omega (arith, rest) ]

next-more : (h : Bool) (r : Option ℕ) (next : ℕ) → next ≤ number_after h r next
next-more true None next = omega arith
next-more true (Some n) next = omega arith
next-more false r next = omega arith

numbers-more : (hs : List Bool) (next : ℕ) (xs : List Item) → next ≤ numbers_after hs next xs
numbers-more [] next xs = omega arith
numbers-more (h ∷ hs) next [] = omega arith
numbers-more (h ∷ hs) next (x ∷ xs) =
    let a = next-more h x.ready next in let b = numbers-more hs (number_after h x.ready next) xs in omega (arith, a, b)

low-one : (mark : ℕ) (h : Bool) (r : Option ℕ) (next : ℕ) → mark ≤ next → one_if (is_low mark (settled_ready h r next)) ≤ one_if (is_low mark r)
unfolding is_low one_if
low-one mark false r next le = omega arith
low-one mark true (Some n) next le = omega arith
low-one mark true None next le =
    let e : nat_lt next mark ≡ false = grind (arith, nat_tests) in
    rw e (omega arith)

low-settled : (mark : ℕ) (hs : List Bool) (next : ℕ) (xs : List Item) → mark ≤ next → low mark (settled hs next xs) ≤ low mark xs
unfolding low
low-settled mark [] next xs le = omega arith
low-settled mark (h ∷ hs) next [] le = omega arith
low-settled mark (h ∷ hs) next (x ∷ xs) le =
    let a = low-one mark h x.ready next le in
    let m = next-more h x.ready next in
    let b = low-settled mark hs (number_after h x.ready next) xs (omega (arith, le, m)) in
    omega (arith, a, b)

-- without one of them one less has a number below the mark
low-without : (mark low' next n : ℕ) (items : List Item) (i : Item) → ascend low' next items ≡ true → slice_get items n ≡ Some i → is_low mark i.ready ≡ true →
    suc (low mark (without i.since items)) ≡ low mark items
unfolding low one_if
low-without mark low' next n [] i h e l = absurd (cc e)
low-without mark low' next zero (j ∷ items) i h e l =
    let same : j ≡ i = cc e in
    let own : (j.since == i.since) ≡ true = let s : j.since ≡ i.since = ap (λ (x : Item). x.since) same in grind (arith, nat_tests) in
    let mine : is_low mark j.ready ≡ true = ap (λ (x : Item). is_low mark x.ready) same ∙ l in
    subst (λ (b : Bool). suc (low mark (if b then items else (j ∷ without i.since items))) ≡ one_if (is_low mark j.ready) + low mark items) (sym own)
    (let z : one_if (is_low mark j.ready) ≡ 1 = ap one_if mine in omega (arith, z))
low-without mark low' next (suc n) (j ∷ items) i h e l =
    let above : nat_le (j.since + 1) i.since ≡ true = later (j.since + 1) next n items i (right (nat_le low' j.since) _ h) e in
    let other : (j.since == i.since) ≡ false = grind (arith, nat_tests) in
    let rest : suc (low mark (without i.since items)) ≡ low mark items = low-without mark (j.since + 1) next n items i (right (nat_le low' j.since) _ h) e l in
    subst (λ (b : Bool). suc (low mark (if b then items else (j ∷ without i.since items))) ≡ one_if (is_low mark j.ready) + low mark items) (sym other)
    (omega (arith, rest))

-- ---- the least

pub low-none : (mark : ℕ) (items : List Item) → low mark items ≤ 0 → least_below mark items ≡ None
unfolding low one_if is_low
low-none mark [] h = refl
low-none mark (i ∷ items) h = by i.ready (low-none mark items) h
  where
    under : (n : ℕ) → (low mark items ≤ 0 → least_below mark items ≡ None) → (b : Bool) → nat_lt n mark ≡ b → one_if (nat_lt n mark) + low mark items ≤ 0 →
        (if nat_lt n mark then nearer i n (least_below mark items) else least_below mark items) ≡ None
    under n rest true e k = let z : one_if (nat_lt n mark) ≡ 1 = ap one_if e in absurd (omega (arith, k, z))
    under n rest false e k = rw e (rest (let z : one_if (nat_lt n mark) ≡ 0 = ap one_if e in omega (arith, k, z)))

    by : (r : Option ℕ) → (low mark items ≤ 0 → least_below mark items ≡ None) → one_if (is_low mark r) + low mark items ≤ 0 → with_this i mark r (least_below mark items) ≡ None
    by None rest k = rest (omega (arith, k))
    by (Some n) rest k = under n rest (nat_lt n mark) refl k

-- the item stands there, with a number below the mark
pub record IsLowAt (mark n : ℕ) (items : List Item) (i : Item) : Type 0 where
  pub there : slice_get items n ≡ Some i
  pub is : is_low mark i.ready ≡ true

pub least-found : (mark : ℕ) (items : List Item) (j : Item) → least_below mark items ≡ Some j → (n : ℕ) × IsLowAt mark n items j
unfolding is_low
least-found mark [] j e = absurd (cc e)
least-found mark (i ∷ items) j e = by i.ready refl (least-found mark items j) e
  where
    Rest : Type 0
    Rest = least_below mark items ≡ Some j → (n : ℕ) × IsLowAt mark n items j

    behind : (n : ℕ) × IsLowAt mark n items j → (n : ℕ) × IsLowAt mark n (i ∷ items) j
    behind w = (suc w.0, record { there = w.1.there; is = w.1.is })

    low-some : (n : ℕ) → i.ready ≡ Some n → nat_lt n mark ≡ true → is_low mark i.ready ≡ true
    low-some n r l = ap (is_low mark) r ∙ l

    here : (n : ℕ) → i.ready ≡ Some n → nat_lt n mark ≡ true → ◌≡◌ {A = Option Item} (Some i) (Some j) → (n : ℕ) × IsLowAt mark n (i ∷ items) j
    here n r l k =
        let same : i ≡ j = cc k in
        (zero, record { there = ap (λ (x : Item). Some x) same; is = ap (λ (x : Item). is_low mark x.ready) (sym same) ∙ low-some n r l })

    less : (n : ℕ) → i.ready ≡ Some n → nat_lt n mark ≡ true → (x : Item) → least_below mark items ≡ Some x → Rest → (b : Bool) → (if b then Some x else Some i) ≡ Some j → (n : ℕ) × IsLowAt mark n (i ∷ items) j
    less n r l x z rest true w = behind (rest (z ∙ w))
    less n r l x z rest false w = here n r l w

    pick : (n : ℕ) → i.ready ≡ Some n → nat_lt n mark ≡ true → (x : Item) → least_below mark items ≡ Some x → Rest → (q : Option ℕ) →
        (elim q [ None ↦ Some i | Some m ↦ if nat_lt m n then Some x else Some i ]) ≡ Some j → (n : ℕ) × IsLowAt mark n (i ∷ items) j
    pick n r l x z rest None k = here n r l k
    pick n r l x z rest (Some m) k = less n r l x z rest (nat_lt m n) k

    near : (n : ℕ) → i.ready ≡ Some n → nat_lt n mark ≡ true → Rest → (o : Option Item) → least_below mark items ≡ o → nearer i n o ≡ Some j → (n : ℕ) × IsLowAt mark n (i ∷ items) j
    near n r l rest None z k = here n r l k
    near n r l rest (Some x) z k = pick n r l x z rest x.ready k

    under : (n : ℕ) → i.ready ≡ Some n → Rest → (b : Bool) → nat_lt n mark ≡ b → (if b then nearer i n (least_below mark items) else least_below mark items) ≡ Some j → (n : ℕ) × IsLowAt mark n (i ∷ items) j
    under n r rest true l w = near n r l rest (least_below mark items) refl w
    under n r rest false l w = behind (rest w)

    by : (r : Option ℕ) → i.ready ≡ r → Rest → with_this i mark r (least_below mark items) ≡ Some j → (n : ℕ) × IsLowAt mark n (i ∷ items) j
    by None r rest k = behind (rest k)
    by (Some n) r rest k = under n r rest (nat_lt n mark) refl k

-- ---- states

pub adds-under : (mark n : ℕ) (d : Delivery) (s : State) → Under mark n s → Under mark n (add_item d s)
adds-under mark n d s u =
    let same = low-append mark s.items (record { since = s.next_since; delivery = d; ready = None }) refl in
    let few = u.few in
    record { ascends = ascend-append 0 s.next_since s.items _ u.ascends refl; few = omega (arith, same, few); ready = u.ready }

pub drops-under : (mark n : ℕ) (test : Delivery → Bool) (s : State) → Under mark n s → Under mark n (drop_items test s)
drops-under mark n test s u =
    let less = low-filter mark (λ i. not (test i.delivery)) s.items in
    let few = u.few in
    record { ascends = ascend-filter _ 0 s.next_since s.items u.ascends; few = omega (arith, less, few); ready = u.ready }

pub settles-under : (mark n : ℕ) (s : State) → Under mark n s → Under mark n (settle s)
settles-under mark n s u =
    let hs = map (holds s) s.items in
    let less = low-settled mark hs s.next_ready s.items u.ready in
    let more = numbers-more hs s.next_ready s.items in
    let few = u.few in
    let ready = u.ready in
    record { ascends = ascend-settled hs s.next_ready s.items 0 s.next_since ∙ u.ascends; few = omega (arith, less, few); ready = omega (arith, ready, more) }

-- so is what a step does
pub under-kept : (mark n : ℕ) → Keeps (Under mark n)
under-kept mark n = record {
  says = λ line s e u. record { ascends = u.ascends; few = u.few; ready = u.ready };
  adds = adds-under mark n;
  drops = drops-under mark n;
  settles = settles-under mark n;
  posts = λ g o job takes s u. record { ascends = u.ascends; few = u.few; ready = u.ready };
  alike = λ s t e u. record {
    ascends = subst (λ (c : Core). ascend 0 c.next_since c.items ≡ true) (sym e) u.ascends;
    few = subst (λ (c : Core). low mark c.items ≤ n) (sym e) u.few;
    ready = subst (λ (c : Core). mark ≤ c.next_ready) (sym e) u.ready;
  };
}

-- one that has a number below the mark is taken
pub takes-under : (mark n at : ℕ) (i : Item) (s : State) → IsLowAt mark at s.items i → Under mark (suc n) s → Under mark n (without_item i s)
takes-under mark n at i s w u =
    let one = low-without mark 0 s.next_since at s.items i u.ascends w.there w.is in
    let few = u.few in
    record { ascends = ascend-without i.since 0 s.next_since s.items u.ascends; few = omega (arith, one, few); ready = u.ready }

pub low-length : (mark : ℕ) (items : List Item) → low mark items ≤ length items
unfolding low one_if
low-length mark [] = omega arith
low-length mark (i ∷ items) =
    let rest = low-length mark items in
    elim (is_low mark i.ready) as (λ b. one_if b + low mark items ≤ suc (length items)) [ true ↦ omega (arith, rest) | false ↦ omega (arith, rest) ]
