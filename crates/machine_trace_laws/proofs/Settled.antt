-- Settled states: each item has a number exactly where it holds.
use Rattle.std.proofs.Common.{◌≡◌, refl, ap, ◌∙◌, sym, subst, ℕ, zero, suc, ◌+◌, Bool, true, false, List, [], ◌∷◌, ◌++◌, cond, arith}
use Rattle.std.proofs.lemmas.Bool.{and_from}
use Rattle.std.proofs.lemmas.Bool.Decides.{nat_tests}
use Rattle.std.proofs.lemmas.List.Sums.{sum_by-cons}
use Rattle.std.specs.Prelude.{not, ◌==◌, ◌&&◌, Option, Some, None, is_some, if◌then◌else◌, nat_lt, nat_le, filter, count_by, slice_get, slice_set, map}
use Rattle.std.specs.List.{list_all}
use Rattle.gv_values.specs.declared.value.Outcome.{Outcome}
use Rattle.gv_values.specs.declared.value.Whom.{Whom}
use Rattle.machine.specs.declared.items.Delivery.{Delivery}
use Rattle.machine.specs.declared.items.Item.{Item}
use Rattle.machine.specs.declared.items.Waiting.{Waiting}
use Rattle.machine.specs.declared.state.Frame.{Frame}
use Rattle.machine.specs.declared.state.Greenlet.{Greenlet}
use Rattle.machine.specs.declared.state.Object.{Object}
use Rattle.machine.specs.declared.state.Phase.{Phase}
use Rattle.machine.specs.State.{State}
use Rattle.machine.specs.Questions.{is_numbered}
use Rattle.machine.specs.Deliveries.{without, without_item}
use Rattle.machine.specs.Holds.{holds, delivery_holds, wait_holds, link_holds, earlier, wakes, outcome_of, outcome_of_phase, is_done, has_set_since, has_result, has_unit, is_free, has_room, has_item, all_finished, has_place, is_deserted, has_slot, is_acquire, is_lock, is_put, is_take, is_place, is_slot, is_taken, has_offer, is_take_offer}
use Rattle.machine.specs.Soundness.{phase_of, ascend}
use Rattle.machine.specs.Items.{drop_items, is_timeout_of}
use Rattle.machine.specs.Greenlets.{greenlet, with_phase}
use Rattle.machine.specs.Settle.{settle, settled, settled_ready, number_after}
use Rattle.machine.proofs.Halves.{right}
use Rattle.machine_soundness.proofs.Lists.{all-imply, all-filter, equal, unequal}
use Rattle.machine_soundness.proofs.Greenlets.{phase-other}
use Rattle.machine_soundness.proofs.Deliveries.{all-without, later}
use Rattle.machine_trace_laws.proofs.Ties.{is_over, phase-here}

abbrev pub same_bool : Bool → Bool → Bool
same_bool true b = b
same_bool false b = not b

pub same-equal : (a b : Bool) → same_bool a b ≡ true → a ≡ b
same-equal true true e = refl
same-equal true false e = absurd (cc e)
same-equal false true e = absurd (cc e)
same-equal false false e = refl

abbrev pub is_settled : State → Bool
is_settled s = list_all (λ i. same_bool (is_numbered i) (holds s i)) s.items

-- ---- counts

pub count-same : {X : Type 0} (p q : X → Bool) (xs : List X) → ((x : X) → p x ≡ q x) → count_by p xs ≡ count_by q xs
count-same p q [] f = refl
count-same p q (x ∷ xs) f =
    sum_by-cons (λ y. cond (p y) 1 0) x xs ∙ ap (λ b. cond b 1 0 + count_by p xs) (f x) ∙ ap (λ n. cond (q x) 1 0 + n) (count-same p q xs f)
    ∙ sym (sum_by-cons (λ y. cond (q y) 1 0) x xs)

pub all-same : {X : Type 0} (p q : X → Bool) (xs : List X) → ((x : X) → p x ≡ q x) → list_all p xs ≡ list_all q xs
all-same p q [] f = refl
all-same p q (x ∷ xs) f = ap (λ b. b && list_all p xs) (f x) ∙ ap (λ b. q x && b) (all-same p q xs f)

pub count-settled : (q : ℕ → Delivery → Bool) (hs : List Bool) (n : ℕ) (items : List Item) →
    count_by (λ (i : Item). q i.since i.delivery) (settled hs n items) ≡ count_by (λ (i : Item). q i.since i.delivery) items
count-settled q [] n items = refl
count-settled q (b ∷ hs) n [] = refl
count-settled q (b ∷ hs) n (i ∷ items) =
    sum_by-cons (λ (j : Item). cond (q j.since j.delivery) 1 0) (record i { ready = settled_ready b i.ready n }) (settled hs (number_after b i.ready n) items)
    ∙ ap (λ c. cond (q i.since i.delivery) 1 0 + c) (count-settled q hs (number_after b i.ready n) items)
    ∙ sym (sum_by-cons (λ (j : Item). cond (q j.since j.delivery) 1 0) i items)

-- those that are counted are kept
pub count-kept : {X : Type 0} (kept p : X → Bool) (xs : List X) → ((x : X) → p x ≡ true → kept x ≡ true) → count_by p (filter kept xs) ≡ count_by p xs
count-kept kept p [] f = refl
count-kept kept p (x ∷ xs) f = by (kept x) refl (p x) refl (count-kept kept p xs f)
  where
    by : (b : Bool) → kept x ≡ b → (c : Bool) → p x ≡ c → count_by p (filter kept xs) ≡ count_by p xs → count_by p (cond b (x ∷ filter kept xs) (filter kept xs)) ≡ count_by p (x ∷ xs)
    by true z c e rest = sum_by-cons (λ y. cond (p y) 1 0) x (filter kept xs) ∙ ap (λ n. cond (p x) 1 0 + n) rest ∙ sym (sum_by-cons (λ y. cond (p y) 1 0) x xs)
    by false z true e rest = absurd (cc (z, f x e))
    by false z false e rest =
        let none : cond (p x) 1 0 + count_by p xs ≡ count_by p xs = ap (λ d. cond d 1 0 + count_by p xs) e ∙ (let zero : 0 + count_by p xs ≡ count_by p xs = omega arith in zero) in
        rest ∙ sym none ∙ sym (sum_by-cons (λ y. cond (p y) 1 0) x xs)

-- the one that is taken is not counted
pub count-without : (p : Item → Bool) (low next n : ℕ) (items : List Item) (i : Item) → ascend low next items ≡ true → slice_get items n ≡ Some i → p i ≡ false →
    count_by p (without i.since items) ≡ count_by p items
count-without p low next n [] i h e f = refl
count-without p low next zero (j ∷ items) i h e f =
    let same : j ≡ i = cc e in
    let own : (j.since == i.since) ≡ true = let s : j.since ≡ i.since = ap (λ (x : Item). x.since) same in grind (arith, nat_tests) in
    let uncounted : p j ≡ false = ap p same ∙ f in
    let none : cond (p j) 1 0 + count_by p items ≡ count_by p items = ap (λ d. cond d 1 0 + count_by p items) uncounted ∙ (let zero : 0 + count_by p items ≡ count_by p items = omega arith in zero) in
    ap (λ (b : Bool). count_by p (if b then items else (j ∷ without i.since items))) own ∙ sym none ∙ sym (sum_by-cons (λ y. cond (p y) 1 0) j items)
count-without p low next (suc n) (j ∷ items) i h e f =
    let above : nat_le (j.since + 1) i.since ≡ true = later (j.since + 1) next n items i (right (nat_le low j.since) _ h) e in
    let other : (j.since == i.since) ≡ false = grind (arith, nat_tests) in
    ap (λ (b : Bool). count_by p (if b then items else (j ∷ without i.since items))) other
    ∙ sum_by-cons (λ y. cond (p y) 1 0) j (without i.since items)
    ∙ ap (λ c. cond (p j) 1 0 + c) (count-without p (j.since + 1) next n items i (right (nat_le low j.since) _ h) e f)
    ∙ sym (sum_by-cons (λ y. cond (p y) 1 0) j items)

-- ---- states that say the same of what holds

pub record AreAlike (s t : State) : Type 0 where
  pub moment : t.moment ≡ s.moment
  pub objects : t.objects ≡ s.objects
  pub outcomes : (w : Whom) → outcome_of t w ≡ outcome_of s w
  pub before : (test : Waiting → Bool) (since : ℕ) → earlier test since t.items ≡ earlier test since s.items

ranked : (f : ℕ → Option Object → Bool) (test : Waiting → Bool) (since o : ℕ) (s t : State) → AreAlike s t →
    f (earlier test since t.items) (slice_get t.objects o) ≡ f (earlier test since s.items) (slice_get s.objects o)
ranked f test since o s t a =
    ap (λ n. f n (slice_get t.objects o)) (a.before test since) ∙ ap (λ os. f (earlier test since s.items) (slice_get os o)) a.objects

unranked : (f : Option Object → Bool) (o : ℕ) (s t : State) → AreAlike s t → f (slice_get t.objects o) ≡ f (slice_get s.objects o)
unranked f o s t a = ap (λ os. f (slice_get os o)) a.objects

dones : (s t : State) → AreAlike s t → (k : ℕ) → is_done t k ≡ is_done s k
dones s t a k = ap is_some (a.outcomes (Whom.Greenlet k))

alike-wait : (s t : State) → AreAlike s t → (since : ℕ) (w : Waiting) → wait_holds t since w ≡ wait_holds s since w
alike-wait s t a since (Waiting.Sleep until) = ap (nat_le until) a.moment
alike-wait s t a since (Waiting.Join g) = dones s t a g
alike-wait s t a since (Waiting.Get whom) = ap is_some (a.outcomes whom)
alike-wait s t a since (Waiting.Kill gs) = all-same (is_done t) (is_done s) gs (dones s t a)
alike-wait s t a since (Waiting.JoinAll gs need) = ap (nat_le need) (count-same (is_done t) (is_done s) gs (dones s t a))
alike-wait s t a since (Waiting.Event o sets) = unranked (has_set_since sets) o s t a
alike-wait s t a since (Waiting.ResultGet o) = unranked has_result o s t a
alike-wait s t a since (Waiting.ResultWait o) = unranked has_result o s t a
alike-wait s t a since (Waiting.Acquire o) = ranked has_unit (is_acquire o) since o s t a
alike-wait s t a since (Waiting.Lock o) = ranked is_free (is_lock o) since o s t a
alike-wait s t a since (Waiting.Put o v) = ranked has_room (is_put o) since o s t a
alike-wait s t a since (Waiting.Take o) = ranked has_item (is_take o) since o s t a
alike-wait s t a since (Waiting.Peek o) = ranked has_item (is_take o) since o s t a
alike-wait s t a since (Waiting.Tasks o) = unranked all_finished o s t a
alike-wait s t a since (Waiting.Place o f vs) = ranked has_place (is_place o) since o s t a
alike-wait s t a since (Waiting.MapPlace o f xs made) = ranked has_place (is_place o) since o s t a
alike-wait s t a since (Waiting.MapEnd o made) = all-same (is_done t) (is_done s) made (dones s t a)
alike-wait s t a since (Waiting.Members o) = unranked is_deserted o s t a
alike-wait s t a since (Waiting.Slot o job takes) = ranked has_slot (is_slot o) since o s t a
alike-wait s t a since (Waiting.Offered o) = unranked (is_taken since) o s t a
alike-wait s t a since (Waiting.TakeOffer o) = ranked has_offer (is_take_offer o) since o s t a

pub alike-holds : (s t : State) → AreAlike s t → (since : ℕ) (d : Delivery) → delivery_holds t since d ≡ delivery_holds s since d
alike-holds s t a since (Delivery.Start g None) = refl
alike-holds s t a since (Delivery.Start g (Some deadline)) = ap (nat_le deadline) a.moment
alike-holds s t a since (Delivery.Wake g w) = alike-wait s t a since w
alike-holds s t a since (Delivery.Late g deadline n) = ap (nat_le deadline) a.moment
alike-holds s t a since (Delivery.Timeout g n deadline) = ap (nat_le deadline) a.moment
alike-holds s t a since (Delivery.Kill g f) = refl
alike-holds s t a since (Delivery.Link k g kind f) = ap (link_holds kind) (a.outcomes (Whom.Greenlet g))

-- ---- what keeps a state settled

pub settled-alike : (s t : State) → AreAlike s t → ((p : Item → Bool) → list_all p s.items ≡ true → list_all p t.items ≡ true) → is_settled s ≡ true → is_settled t ≡ true
settled-alike s t a f h =
    all-imply _ _ t.items (λ i e. subst (λ b. same_bool (is_numbered i) b ≡ true) (sym (alike-holds s t a i.since i.delivery)) e) (f (λ i. same_bool (is_numbered i) (holds s i)) h)

settled-numbers : (hold : ℕ → Delivery → Bool) (n : ℕ) (items : List Item) →
    list_all (λ (i : Item). same_bool (is_numbered i) (hold i.since i.delivery)) (settled (map (λ (i : Item). hold i.since i.delivery) items) n items) ≡ true
settled-numbers hold n [] = refl
settled-numbers hold n (i ∷ items) =
    and_from _ _ (by (hold i.since i.delivery) i.ready) (settled-numbers hold (number_after (hold i.since i.delivery) i.ready n) items)
  where
    by : (b : Bool) (r : Option ℕ) → same_bool (is_some (settled_ready b r n)) b ≡ true
    by true None = refl
    by true (Some m) = refl
    by false r = refl

alike-settle : (s : State) → AreAlike s (settle s)
alike-settle s = record {
  moment = refl;
  objects = refl;
  outcomes = λ w. refl;
  before = λ test since. count-settled (λ n d. nat_lt n since && wakes test d) (map (holds s) s.items) s.next_ready s.items;
}

pub settled-settle : (s : State) → is_settled (settle s) ≡ true
settled-settle s =
    all-imply _ _ (settle s).items (λ i e. subst (λ b. same_bool (is_numbered i) b ≡ true) (sym (alike-holds s (settle s) (alike-settle s) i.since i.delivery)) e)
    (settled-numbers (delivery_holds s) s.next_ready s.items)

-- timeouts go
pub settled-timeouts : (g : ℕ) (ns : List ℕ) (s : State) → is_settled s ≡ true → is_settled (drop_items (is_timeout_of g ns) s) ≡ true
settled-timeouts g ns s h =
    settled-alike s (drop_items (is_timeout_of g ns) s)
    (record {
      moment = refl;
      objects = refl;
      outcomes = λ w. refl;
      before = λ test since. count-kept (λ (i : Item). not (is_timeout_of g ns i.delivery)) (λ (i : Item). nat_lt i.since since && wakes test i.delivery) s.items
          (λ i e. kept test i.delivery (right (nat_lt i.since since) _ e));
    })
    (λ p e. all-filter _ p p s.items (λ i k z. z) e) h
  where
    kept : (test : Waiting → Bool) (d : Delivery) → wakes test d ≡ true → not (is_timeout_of g ns d) ≡ true
    kept test (Delivery.Wake k w) e = refl
    kept test (Delivery.Start k deadline) e = refl
    kept test (Delivery.Late k deadline n) e = refl
    kept test (Delivery.Timeout k n deadline) e = absurd (cc e)
    kept test (Delivery.Kill k f) e = refl
    kept test (Delivery.Link n k kind f) e = refl

-- an item goes that is no Wake
pub settled-taken : (n : ℕ) (i : Item) (s : State) → ascend 0 s.next_since s.items ≡ true → slice_get s.items n ≡ Some i →
    ((test : Waiting → Bool) → wakes test i.delivery ≡ false) → is_settled s ≡ true → is_settled (without_item i s) ≡ true
settled-taken n i s a there w h =
    settled-alike s (without_item i s)
    (record {
      moment = refl;
      objects = refl;
      outcomes = λ w. refl;
      before = λ test since. count-without (λ (j : Item). nat_lt j.since since && wakes test j.delivery) 0 s.next_since n s.items i a there (uncounted test since);
    })
    (λ p e. all-without p i.since s.items e) h
  where
    uncounted : (test : Waiting → Bool) (since : ℕ) → (nat_lt i.since since && wakes test i.delivery) ≡ false
    uncounted test since = ap (λ b. nat_lt i.since since && b) (w test) ∙ by (nat_lt i.since since)
      where
        by : (b : Bool) → (b && false) ≡ false
        by true = refl
        by false = refl

-- ---- greenlets

abbrev pub outcome_at : Option Phase → Option Outcome
outcome_at None = None
outcome_at (Some p) = outcome_of_phase p

pub outcome-phase : (s : State) (k : ℕ) → outcome_of s (Whom.Greenlet k) ≡ outcome_at (phase_of k s.greenlets)
outcome-phase s k = by (slice_get s.greenlets k)
  where
    by : (o : Option Greenlet) → ◌≡◌ {A = Option Outcome} (elim o [ None ↦ None | Some x ↦ outcome_of_phase x.phase ]) (outcome_at (elim o [ None ↦ None | Some x ↦ Some x.phase ]))
    by None = refl
    by (Some x) = refl

not-over-none : (p : Option Phase) → is_over p ≡ false → outcome_at p ≡ None
not-over-none None e = refl
not-over-none (Some (Phase.New args)) e = refl
not-over-none (Some (Phase.Live frame)) e = refl
not-over-none (Some (Phase.Done o)) e = absurd (cc e)

pub settled-greenlets : (fs : List Greenlet) (s : State) → ((k : ℕ) → outcome_at (phase_of k fs) ≡ outcome_at (phase_of k s.greenlets)) → is_settled s ≡ true →
    is_settled (record s { greenlets = fs }) ≡ true
settled-greenlets fs s f h =
    settled-alike s (record s { greenlets = fs }) (record { moment = refl; objects = refl; outcomes = outcomes; before = λ test since. refl }) (λ p e. e) h
  where
    outcomes : (w : Whom) → outcome_of (record s { greenlets = fs }) w ≡ outcome_of s w
    outcomes (Whom.Greenlet k) = outcome-phase (record s { greenlets = fs }) k ∙ f k ∙ sym (outcome-phase s k)
    outcomes (Whom.Job j) = refl

-- one comes to be live that has not ended
pub settled-live : (g : ℕ) (frame : Frame) (s : State) → is_over (phase_of g s.greenlets) ≡ false → slice_get s.greenlets g ≡ Some (greenlet g s) →
    is_settled s ≡ true → is_settled (with_phase g (Phase.Live frame) s) ≡ true
settled-live g frame s u there h = settled-greenlets (slice_set s.greenlets g new) s (λ k. by k (g == k) refl) h
  where
    new : Greenlet
    new = record (greenlet g s) { phase = Phase.Live frame }

    by : (k : ℕ) (b : Bool) → (g == k) ≡ b → outcome_at (phase_of k (slice_set s.greenlets g new)) ≡ outcome_at (phase_of k s.greenlets)
    by k true e =
        subst (λ i. outcome_at (phase_of i (slice_set s.greenlets g new)) ≡ outcome_at (phase_of i s.greenlets)) (equal g k e)
        (ap outcome_at (phase-here s.greenlets g new (greenlet g s) there) ∙ sym (not-over-none (phase_of g s.greenlets) u))
    by k false e = ap outcome_at (phase-other s.greenlets g k new (unequal g k e))

outcome-more : (gs : List Greenlet) (y : Greenlet) (k : ℕ) → is_over (Some y.phase) ≡ false → outcome_at (phase_of k (gs ++ y ∷ [])) ≡ outcome_at (phase_of k gs)
outcome-more [] y zero e = not-over-none (Some y.phase) e
outcome-more [] y (suc k) e = refl
outcome-more (z ∷ gs) y zero e = refl
outcome-more (z ∷ gs) y (suc k) e = outcome-more gs y k e

-- one is made
pub settled-more : (y : Greenlet) (s : State) → is_over (Some y.phase) ≡ false → is_settled s ≡ true → is_settled (record s { greenlets = s.greenlets ++ y ∷ [] }) ≡ true
settled-more y s e h = settled-greenlets (s.greenlets ++ y ∷ []) s (λ k. outcome-more s.greenlets y k e) h
