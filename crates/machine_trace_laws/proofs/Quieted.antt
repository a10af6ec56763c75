-- A settled state in which no item has a number is quiet, and so is each state at a block line.
use Rattle.std.proofs.Common.{◌≡◌, refl, ap, ◌∙◌, sym, subst, ℕ, zero, suc, ◌+◌, ◌-◌, Bool, true, false, List, [], ◌∷◌, ◌++◌, length, cond, arith}
use Rattle.std.proofs.lemmas.Bool.{and_from}
use Rattle.std.proofs.lemmas.Bool.Decides.{nat_tests}
use Rattle.std.proofs.lemmas.List.Sums.{sum_by-cons}
use Rattle.std.specs.Prelude.{not, ◌&&◌, ◌||◌, Option, Some, None, is_none, if◌then◌else◌, nat_le, nat_lt, slice_get, slice_set}
use Rattle.std.specs.List.{list_any, list_all}
use Rattle.gv_values.specs.declared.job.Answer.{Answer}
use Rattle.gv_values.specs.declared.job.JobOutcome.{JobOutcome}
use Rattle.world_rules.specs.declared.question.Question.{Question}
use Rattle.world_rules.specs.Legal.{is_answered, is_done_of, moment_of}
use Rattle.world_rules.specs.Script.{scripted, without_done}
use Rattle.scenario_tree.specs.declared.tree.Scenario.{Scenario}
use Rattle.trace_text.specs.declared.line.Line.{Line}
use Rattle.machine.specs.declared.items.Delivery.{Delivery}
use Rattle.machine.specs.declared.items.Item.{Item}
use Rattle.machine.specs.declared.items.Waiting.{Waiting}
use Rattle.machine.specs.declared.state.JobState.{JobState}
use Rattle.machine.specs.declared.state.Object.{Object}
use Rattle.machine.specs.State.{State, say}
use Rattle.machine.specs.Questions.{any_numbered, arrives, block_line, is_numbered, job_done, question, take_answer}
use Rattle.machine.specs.Objects.{with_slot_freed, object_at}
use Rattle.machine.specs.Holds.{delivery_holds, earlier, has_item, has_offer, has_place, has_room, has_slot, has_unit, holds, is_acquire, is_free, is_lock, is_place, is_put, is_slot, is_take, is_take_offer, job_at, wait_holds, wakes}
use Rattle.machine.specs.Landing.{Next, lands, starts}
use Rattle.machine.specs.Quiet.{could_go_on, is_quiet, is_restless}
use Rattle.machine.specs.Blocked.{blocked_states}
use Rattle.machine.specs.Run.{GoingOn, Source, after_exit, after_question, after_start, after_turn, asks, blocked_at, first_state, loop_exit, run_turns, runs, silent, turn, with_posts}
use Rattle.machine.specs.Settle.{settle}
use Rattle.machine.specs.Soundness.{ascend}
use Rattle.machine_soundness.specs.Going.{IsKept}
use Rattle.machine_soundness.specs.Laws.{is_wake_of}
use Rattle.machine_soundness.proofs.Deliveries.{take_answer-kept}
use Rattle.machine.proofs.Halves.{left, right}
use Rattle.machine_soundness.proofs.Lists.{all-get, all-imply2, equal, itself, length-set}
use Rattle.machine_soundness.proofs.States.{all-settle, ascends}
use Rattle.machine_well_formed.specs.Texts.{IsFitText, is_held}
use Rattle.machine_trace_laws.specs.Reached.{Reached}
use Rattle.machine_well_formed.specs.Kinds.{kinds}
use Rattle.machine_well_formed.proofs.KindLemmas.{freed-kept, kinds-set}
use Rattle.machine_trace_laws.proofs.Histories.{History, at_first, tells-nothing}
use Rattle.machine_trace_laws.proofs.Settled.{is_settled, same_bool, settled-settle}
use Rattle.machine_offers.specs.Offers.{offers_at, offers_of}
use Rattle.machine_offers.proofs.Offers.{AreKeptOffers, fewer-same, freed-offers, offers-set}
use Rattle.machine_offers.proofs.Anys.{any-all, any-end}
use Rattle.machine_trace_laws.proofs.Ties.{IsJobTold, Ties, any-settle, count-other, told-other, ties-say, ties-settle}
use Rattle.machine_trace_laws.proofs.Goings.{Rests, sides-settle, known-objects}
use Rattle.machine.specs.TraceLaws.{is_job_line}
use Rattle.machine_trace_laws.proofs.Delivered.{begins-at, last-end, still-open}
use Rattle.machine_trace_laws.proofs.Runs.{IsReady, Left, exit-passed, ready-block_line, rests-silent, runs-passed, turn-passed}

-- ---- lists

all-by-get : {X : Type 0} (p : X → Bool) (xs : List X) → ((n : ℕ) (x : X) → slice_get xs n ≡ Some x → p x ≡ true) → list_all p xs ≡ true
all-by-get p [] f = refl
all-by-get p (x ∷ xs) f = and_from (p x) _ (f zero x refl) (all-by-get p xs (λ n y e. f (suc n) y e))

any-get : {X : Type 0} (p : X → Bool) (xs : List X) (n : ℕ) (x : X) → slice_get xs n ≡ Some x → p x ≡ true → list_any p xs ≡ true
any-get p [] n x e h = absurd (cc e)
any-get p (y ∷ xs) zero x e h = let same : y ≡ x = cc e in ap (λ b. b || list_any p xs) (ap p same ∙ h)
any-get p (y ∷ xs) (suc n) x e h = by (p y) (any-get p xs n x e h)
  where
    by : (b : Bool) → list_any p xs ≡ true → (b || list_any p xs) ≡ true
    by true r = refl
    by false r = r

-- ---- the first waiter of its kind

none-earlier : (test : Waiting → Bool) (since low next : ℕ) (items : List Item) → nat_le since low ≡ true → ascend low next items ≡ true → earlier test since items ≡ 0
none-earlier test since low next [] l h = refl
none-earlier test since low next (i ∷ items) l h =
    let here : nat_le low i.since ≡ true = left _ (ascend (i.since + 1) next items) h in
    let late : nat_lt i.since since ≡ false = grind (arith, nat_tests, here, l) in
    let more : nat_le since (i.since + 1) ≡ true = grind (arith, nat_tests, here, l) in
    let rest = none-earlier test since (i.since + 1) next items more (right (nat_le low i.since) _ h) in
    let out : ◌≡◌ {A = ℕ} (cond (nat_lt i.since since && wakes test i.delivery) 1 0) 0 = ap (λ b. cond (b && wakes test i.delivery) 1 0) late in
    let counted : earlier test since (i ∷ items) ≡ cond (nat_lt i.since since && wakes test i.delivery) 1 0 + earlier test since items =
    sum_by-cons (λ (j : Item). cond (nat_lt j.since since && wakes test j.delivery) 1 0) i items in
    omega (arith, counted, out, rest)

record IsFirst (test : Waiting → Bool) (items : List Item) (n : ℕ) (i : Item) : Type 0 where
  there : slice_get items n ≡ Some i
  is_one : wakes test i.delivery ≡ true
  alone : earlier test i.since items ≡ 0

first-of : (test : Waiting → Bool) (low next : ℕ) (items : List Item) → ascend low next items ≡ true → list_any (λ i. wakes test i.delivery) items ≡ true → (n : ℕ) × (i : Item) × IsFirst test items n i
first-of test low next [] h e = absurd (cc e)
first-of test low next (i ∷ items) h e = by (wakes test i.delivery) refl e (first-of test (i.since + 1) next items (right (nat_le low i.since) _ h))
  where
    counted : (since : ℕ) → earlier test since (i ∷ items) ≡ cond (nat_lt i.since since && wakes test i.delivery) 1 0 + earlier test since items
    counted since = sum_by-cons (λ (j : Item). cond (nat_lt j.since since && wakes test j.delivery) 1 0) i items

    by : (b : Bool) → wakes test i.delivery ≡ b → (b || list_any (λ (j : Item). wakes test j.delivery) items) ≡ true →
        (list_any (λ (j : Item). wakes test j.delivery) items ≡ true → (n : ℕ) × (j : Item) × IsFirst test items n j) → (n : ℕ) × (j : Item) × IsFirst test (i ∷ items) n j
    by true w f rest =
        let here : nat_lt i.since i.since ≡ false = grind (arith, nat_tests) in
        let out : ◌≡◌ {A = ℕ} (cond (nat_lt i.since i.since && wakes test i.delivery) 1 0) 0 = ap (λ b. cond (b && wakes test i.delivery) 1 0) here in
        let more : nat_le i.since (i.since + 1) ≡ true = grind (arith, nat_tests) in
        let none = none-earlier test i.since (i.since + 1) next items more (right (nat_le low i.since) _ h) in
        let sum = counted i.since in
        (zero, i, record { there = refl; is_one = w; alone = omega (arith, sum, out, none) })
    by false w f rest =
        let r = rest f in
        let j = r.1 in
        let off : ◌≡◌ {A = ℕ} (cond (nat_lt i.since j.since && wakes test i.delivery) 1 0) 0 = ap (λ b. cond (nat_lt i.since j.since && b) 1 0) w ∙ flat (nat_lt i.since j.since) in
        let none = r.2.alone in
        let sum = counted j.since in
        (suc r.0, j, record { there = r.2.there; is_one = r.2.is_one; alone = omega (arith, sum, off, none) })
      where
        flat : (b : Bool) → ◌≡◌ {A = ℕ} (cond (b && false) 1 0) 0
        flat true = refl
        flat false = refl

-- ---- no wait could go on

-- what such a wait holds by
abbrev IsRanked : (ℕ → Option Object → Bool) → (Waiting → Bool) → ℕ → State → Type 0
IsRanked f test o s = (since : ℕ) (w : Waiting) → test w ≡ true → wait_holds s since w ≡ f (earlier test since s.items) (slice_get s.objects o)

acquire-ranked : (o : ℕ) (s : State) → IsRanked has_unit (is_acquire o) o s
acquire-ranked o s since (Waiting.Acquire p) e = subst (λ z. wait_holds s since (Waiting.Acquire z) ≡ has_unit (earlier (is_acquire o) since s.items) (slice_get s.objects o)) (equal o p e) refl
acquire-ranked o s since w e = absurd (cc e)

lock-ranked : (o : ℕ) (s : State) → IsRanked is_free (is_lock o) o s
lock-ranked o s since (Waiting.Lock p) e = subst (λ z. wait_holds s since (Waiting.Lock z) ≡ is_free (earlier (is_lock o) since s.items) (slice_get s.objects o)) (equal o p e) refl
lock-ranked o s since w e = absurd (cc e)

put-ranked : (o : ℕ) (s : State) → IsRanked has_room (is_put o) o s
put-ranked o s since (Waiting.Put p v) e = subst (λ z. wait_holds s since (Waiting.Put z v) ≡ has_room (earlier (is_put o) since s.items) (slice_get s.objects o)) (equal o p e) refl
put-ranked o s since w e = absurd (cc e)

take-ranked : (o : ℕ) (s : State) → IsRanked has_item (is_take o) o s
take-ranked o s since (Waiting.Take p) e = subst (λ z. wait_holds s since (Waiting.Take z) ≡ has_item (earlier (is_take o) since s.items) (slice_get s.objects o)) (equal o p e) refl
take-ranked o s since w e = absurd (cc e)

place-ranked : (o : ℕ) (s : State) → IsRanked has_place (is_place o) o s
place-ranked o s since (Waiting.Place p f vs) e = subst (λ z. wait_holds s since (Waiting.Place z f vs) ≡ has_place (earlier (is_place o) since s.items) (slice_get s.objects o)) (equal o p e) refl
place-ranked o s since (Waiting.MapPlace p f xs made) e =
    subst (λ z. wait_holds s since (Waiting.MapPlace z f xs made) ≡ has_place (earlier (is_place o) since s.items) (slice_get s.objects o)) (equal o p e) refl
place-ranked o s since w e = absurd (cc e)

slot-ranked : (o : ℕ) (s : State) → IsRanked has_slot (is_slot o) o s
slot-ranked o s since (Waiting.Slot p job takes) e = subst (λ z. wait_holds s since (Waiting.Slot z job takes) ≡ has_slot (earlier (is_slot o) since s.items) (slice_get s.objects o)) (equal o p e) refl
slot-ranked o s since w e = absurd (cc e)

offer-ranked : (o : ℕ) (s : State) → IsRanked has_offer (is_take_offer o) o s
offer-ranked o s since (Waiting.TakeOffer p) e = subst (λ z. wait_holds s since (Waiting.TakeOffer z) ≡ has_offer (earlier (is_take_offer o) since s.items) (slice_get s.objects o)) (equal o p e) refl
offer-ranked o s since w e = absurd (cc e)

-- no item holds
abbrev pub HoldsNone : State → Type 0
HoldsNone s = list_all (λ i. not (holds s i)) s.items ≡ true

not-false : (b : Bool) → not b ≡ true → b ≡ false
not-false true e = absurd (cc e)
not-false false e = refl

-- where there is a waiter of the kind, the first of them could not go on
ranked-none : (f : ℕ → Option Object → Bool) (test : Waiting → Bool) (o : ℕ) (s : State) → IsRanked f test o s → ascend 0 s.next_since s.items ≡ true → HoldsNone s →
    list_any (λ i. wakes test i.delivery) s.items ≡ true → f 0 (slice_get s.objects o) ≡ false
ranked-none f test o s r a none any =
    let q = first-of test 0 s.next_since s.items a any in
    let i = q.1 in
    let out : holds s i ≡ false = not-false (holds s i) (all-get (λ (j : Item). not (holds s j)) s.items q.0 i q.2.there none) in
    sym (ap (λ n. f n (slice_get s.objects o)) q.2.alone) ∙ sym (of i.delivery q.2.is_one i.since) ∙ out
  where
    of : (d : Delivery) → wakes test d ≡ true → (since : ℕ) → delivery_holds s since d ≡ f (earlier test since s.items) (slice_get s.objects o)
    of (Delivery.Wake g w) e since = r since w e
    of (Delivery.Start g deadline) e since = absurd (cc e)
    of (Delivery.Late g deadline n) e since = absurd (cc e)
    of (Delivery.Timeout g n deadline) e since = absurd (cc e)
    of (Delivery.Kill g k) e since = absurd (cc e)
    of (Delivery.Link k g kind x) e since = absurd (cc e)

-- an item of the state, with its wait
waiter-none : (f : ℕ → Option Object → Bool) (test : Waiting → Bool) (o n : ℕ) (i : Item) (s : State) → IsRanked f test o s → ascend 0 s.next_since s.items ≡ true → HoldsNone s →
    slice_get s.items n ≡ Some i → wakes test i.delivery ≡ true → f 0 (slice_get s.objects o) ≡ false
waiter-none f test o n i s r a none there e = ranked-none f test o s r a none (any-get (λ (j : Item). wakes test j.delivery) s.items n i there e)

-- one that only peeks is first, or some getter is
peek-none : (o n : ℕ) (i : Item) (s : State) (g : ℕ) → i.delivery ≡ Delivery.Wake g (Waiting.Peek o) → ascend 0 s.next_since s.items ≡ true → HoldsNone s → slice_get s.items n ≡ Some i →
    has_item 0 (slice_get s.objects o) ≡ false
peek-none o n i s g is a none there = by (list_any (λ (j : Item). wakes (is_take o) j.delivery) s.items) refl
  where
    uncounted : (items : List Item) → list_any (λ (j : Item). wakes (is_take o) j.delivery) items ≡ false → earlier (is_take o) i.since items ≡ 0
    uncounted [] e = refl
    uncounted (j ∷ items) e = of (wakes (is_take o) j.delivery) refl e (uncounted items)
      where
        flat : (b : Bool) → ◌≡◌ {A = ℕ} (cond (b && false) 1 0) 0
        flat true = refl
        flat false = refl

        of : (b : Bool) → wakes (is_take o) j.delivery ≡ b → (b || list_any (λ (k : Item). wakes (is_take o) k.delivery) items) ≡ false →
            (list_any (λ (k : Item). wakes (is_take o) k.delivery) items ≡ false → earlier (is_take o) i.since items ≡ 0) → earlier (is_take o) i.since (j ∷ items) ≡ 0
        of true w f rest = absurd (cc f)
        of false w f rest =
            let off : ◌≡◌ {A = ℕ} (cond (nat_lt j.since i.since && wakes (is_take o) j.delivery) 1 0) 0 = ap (λ b. cond (nat_lt j.since i.since && b) 1 0) w ∙ flat (nat_lt j.since i.since) in
            let sum : earlier (is_take o) i.since (j ∷ items) ≡ cond (nat_lt j.since i.since && wakes (is_take o) j.delivery) 1 0 + earlier (is_take o) i.since items =
            sum_by-cons (λ (k : Item). cond (nat_lt k.since i.since && wakes (is_take o) k.delivery) 1 0) j items in
            let r = rest f in
            omega (arith, off, sum, r)

    by : (b : Bool) → list_any (λ (j : Item). wakes (is_take o) j.delivery) s.items ≡ b → has_item 0 (slice_get s.objects o) ≡ false
    by true e = ranked-none has_item (is_take o) o s (take-ranked o s) a none e
    by false e =
        let out : holds s i ≡ false = not-false (holds s i) (all-get (λ (j : Item). not (holds s j)) s.items n i there none) in
        sym (ap (λ m. has_item m (slice_get s.objects o)) (uncounted s.items e)) ∙ ap (λ (d : Delivery). delivery_holds s i.since d) (sym is) ∙ out

pub none-quiet : (s : State) → ascend 0 s.next_since s.items ≡ true → HoldsNone s → is_quiet s ≡ true
none-quiet s a none = sym (any-all (λ (i : Item). is_restless s i.since i.delivery) s.items) ∙ all-by-get (λ (i : Item). not (is_restless s i.since i.delivery)) s.items (λ n i there. each n i i.delivery refl there)
  where
    still : (n : ℕ) (i : Item) (d : Delivery) → d ≡ i.delivery → slice_get s.items n ≡ Some i → delivery_holds s i.since d ≡ false
    still n i d e there = ap (λ (x : Delivery). delivery_holds s i.since x) e ∙ not-false (holds s i) (all-get (λ (j : Item). not (holds s j)) s.items n i there none)

    waits : (n : ℕ) (i : Item) (g : ℕ) (w : Waiting) → Delivery.Wake g w ≡ i.delivery → slice_get s.items n ≡ Some i → could_go_on s i.since w ≡ false
    waits n i g (Waiting.Acquire o) e there = waiter-none has_unit (is_acquire o) o n i s (acquire-ranked o s) a none there (ap (wakes (is_acquire o)) (sym e) ∙ itself o)
    waits n i g (Waiting.Lock o) e there = waiter-none is_free (is_lock o) o n i s (lock-ranked o s) a none there (ap (wakes (is_lock o)) (sym e) ∙ itself o)
    waits n i g (Waiting.Put o v) e there = waiter-none has_room (is_put o) o n i s (put-ranked o s) a none there (ap (wakes (is_put o)) (sym e) ∙ itself o)
    waits n i g (Waiting.Take o) e there = waiter-none has_item (is_take o) o n i s (take-ranked o s) a none there (ap (wakes (is_take o)) (sym e) ∙ itself o)
    waits n i g (Waiting.Peek o) e there = peek-none o n i s g (sym e) a none there
    waits n i g (Waiting.Place o f vs) e there = waiter-none has_place (is_place o) o n i s (place-ranked o s) a none there (ap (wakes (is_place o)) (sym e) ∙ itself o)
    waits n i g (Waiting.MapPlace o f xs made) e there = waiter-none has_place (is_place o) o n i s (place-ranked o s) a none there (ap (wakes (is_place o)) (sym e) ∙ itself o)
    waits n i g (Waiting.Slot o job takes) e there = waiter-none has_slot (is_slot o) o n i s (slot-ranked o s) a none there (ap (wakes (is_slot o)) (sym e) ∙ itself o)
    waits n i g (Waiting.TakeOffer o) e there = waiter-none has_offer (is_take_offer o) o n i s (offer-ranked o s) a none there (ap (wakes (is_take_offer o)) (sym e) ∙ itself o)
    waits n i g (Waiting.Offered o) e there = still n i (Delivery.Wake g (Waiting.Offered o)) e there
    waits n i g (Waiting.Sleep until) e there = still n i (Delivery.Wake g (Waiting.Sleep until)) e there
    waits n i g (Waiting.Join h) e there = still n i (Delivery.Wake g (Waiting.Join h)) e there
    waits n i g (Waiting.Get whom) e there = still n i (Delivery.Wake g (Waiting.Get whom)) e there
    waits n i g (Waiting.Kill gs) e there = still n i (Delivery.Wake g (Waiting.Kill gs)) e there
    waits n i g (Waiting.JoinAll gs need) e there = still n i (Delivery.Wake g (Waiting.JoinAll gs need)) e there
    waits n i g (Waiting.Event o sets) e there = still n i (Delivery.Wake g (Waiting.Event o sets)) e there
    waits n i g (Waiting.ResultGet o) e there = still n i (Delivery.Wake g (Waiting.ResultGet o)) e there
    waits n i g (Waiting.ResultWait o) e there = still n i (Delivery.Wake g (Waiting.ResultWait o)) e there
    waits n i g (Waiting.Tasks o) e there = still n i (Delivery.Wake g (Waiting.Tasks o)) e there
    waits n i g (Waiting.MapEnd o made) e there = still n i (Delivery.Wake g (Waiting.MapEnd o made)) e there
    waits n i g (Waiting.Members o) e there = still n i (Delivery.Wake g (Waiting.Members o)) e there

    each : (n : ℕ) (i : Item) (d : Delivery) → d ≡ i.delivery → slice_get s.items n ≡ Some i → not (is_restless s i.since i.delivery) ≡ true
    each n i d e there = subst (λ (x : Delivery). not (is_restless s i.since x) ≡ true) e (ap not (of d e))
      where
        of : (d : Delivery) → d ≡ i.delivery → is_restless s i.since d ≡ false
        of (Delivery.Wake g w) e = waits n i g w e there
        of (Delivery.Start g None) e = still n i (Delivery.Start g None) e there
        of (Delivery.Start g (Some deadline)) e = still n i (Delivery.Start g (Some deadline)) e there
        of (Delivery.Late g deadline m) e = still n i (Delivery.Late g deadline m) e there
        of (Delivery.Timeout g m deadline) e = still n i (Delivery.Timeout g m deadline) e there
        of (Delivery.Kill g f) e = still n i (Delivery.Kill g f) e there
        of (Delivery.Link k g kind f) e = still n i (Delivery.Link k g kind f) e there

pub settled-quiet : (s : State) → ascend 0 s.next_since s.items ≡ true → is_settled s ≡ true → any_numbered s.items ≡ false → is_quiet s ≡ true
settled-quiet s a st e =
    none-quiet s a
    (all-imply2 (λ (i : Item). not (is_numbered i)) (λ (i : Item). same_bool (is_numbered i) (holds s i)) (λ (i : Item). not (holds s i)) s.items
    (λ i n m. by (is_numbered i) (holds s i) n m) (any-all is_numbered s.items ∙ ap not e) st)
  where
    by : (b c : Bool) → not b ≡ true → same_bool b c ≡ true → not c ≡ true
    by true c n m = absurd (cc n)
    by false c n m = m

-- ---- an answer, legal or not, in place of which the history has one that only lets time pass

abbrev pub with_silence : ℕ → History → History
with_silence moment h = record { past = Line.Turn 0 (Answer.Elapsed moment) ∷ h.past; posts = h.posts; answers = h.answers ++ Answer.Elapsed moment ∷ [] }

or-none : (b : Bool) → (b || false) ≡ b
or-none true = refl
or-none false = refl

unheard : (b : History) (line : Line) (moment : ℕ) (objects : List Object) (jobs : List JobState) (s : State) → kinds objects ≡ kinds s.objects → AreKeptOffers objects s.items s.next_since → length jobs ≡ length s.jobs →
    ((p : ℕ) (x : JobState) → slice_get jobs p ≡ Some x → is_none x.outcome ≡ true → slice_get s.jobs p ≡ Some x) → (m : Rests b s) →
    IsKept (settle (say line (record s { moment = moment; objects = objects; jobs = jobs }))) →
    Rests (with_silence moment m.story) (silent (settle (say line (record s { moment = moment; objects = objects; jobs = jobs }))))
unheard b line moment objects jobs s all offers same still m kept =
    let t = record s { moment = moment; objects = objects; jobs = jobs } in
    let story = with_silence moment m.story in
    let passing = Line.Turn 0 (Answer.Elapsed moment) in
    let ties : Ties None story t = record {
      ended = m.ties.ended;
      fresh = m.ties.fresh;
      parked = m.ties.parked;
      links = m.ties.links;
      jobs = λ j job c. subst (λ n. IsJobTold n j job (passing ∷ m.story.past)) (sym same) (told-other (length s.jobs) j job passing m.story.past refl (m.ties.jobs j job c));
      fewer = λ j e. count-other (is_job_line j) passing m.story.past refl ∙ m.ties.fewer j (ap (nat_le j) (sym same) ∙ e);
      done = λ j. m.ties.done j ∙ sym (any-end (is_done_of j) m.story.answers (Answer.Elapsed moment) ∙ or-none (is_answered j m.story.answers));
      rising = sym (last-end m.story.answers (Answer.Elapsed moment));
      heard = record {
        now = sym (last-end m.story.answers (Answer.Elapsed moment));
        many = m.ties.heard.many ∙ sym same;
        counted = m.ties.heard.counted;
        later = λ j e.
            any-end (is_done_of j) m.story.answers (Answer.Elapsed moment) ∙ or-none (is_answered j m.story.answers) ∙ m.ties.heard.later j (ap (nat_le j) (sym same) ∙ e);
        unanswered = λ p x e z.
            let u = m.ties.heard.unanswered p x (still p x e z) z in
            (u.0, any-end (is_done_of (p + 1)) m.story.answers (Answer.Elapsed moment) ∙ or-none (is_answered (p + 1) m.story.answers) ∙ u.1);
      };
    } in
    let more = ties-settle None story (say line t) (ties-say None story line t ties) in
    let sides = sides-settle (say line t)
    (record { kills = m.sides.kills; bodies = m.sides.bodies; fit = m.sides.fit; known = known-objects s.scenario s.greenlets s.items s.objects objects (λ w d. all) m.sides.known; offers = offers }) in
    record {
      kept = record { sound = kept.sound; owners = kept.owners; members = kept.members; main = kept.main };
      story = story;
      tells = tells-nothing story;
      ties = record {
        ended = more.ended;
        fresh = more.fresh;
        parked = more.parked;
        links = more.links;
        jobs = more.jobs;
        fewer = more.fewer;
        done = more.done;
        rising = more.rising;
        heard = more.heard;
      };
      parking = λ k e p d. any-settle (is_wake_of k) (say line t) ∙ m.parking k e p d;
      main = m.main;
      sides = record { kills = sides.kills; bodies = sides.bodies; fit = sides.fit; known = sides.known; offers = sides.offers };
      held = all-settle (is_held s.greenlets) (say line t) ∙ m.held;
    }

pub answer-unheard : (b : History) (a : Answer) (s : State) → (m : Rests b s) → Rests (with_silence (moment_of a) m.story) (silent (take_answer a s))
unfolding take_answer
answer-unheard b a s m = by a refl
  where
    kept : IsKept (settle (say (Line.Turn s.turns a) (job_done a (record s { moment = moment_of a }))))
    kept = take_answer-kept a s m.kept

    of : (j : ℕ) (o : JobOutcome) (job : Option JobState) → job_at j s.jobs ≡ job → IsKept (settle (say (Line.Turn s.turns a) (arrives j o job (record s { moment = moment_of a })))) →
        Rests (with_silence (moment_of a) m.story) (silent (settle (say (Line.Turn s.turns a) (arrives j o job (record s { moment = moment_of a })))))
    of j o None there k = unheard b (Line.Turn s.turns a) (moment_of a) s.objects s.jobs s refl m.sides.offers refl (λ p x e z. e) m k
    of j o (Some job) there k =
        unheard b (Line.Turn s.turns a) (moment_of a) (slice_set s.objects job.pool (with_slot_freed (object_at job.pool s))) (slice_set s.jobs (j - 1) (record job { outcome = Some o })) s
        (kinds-set s.objects job.pool (with_slot_freed (object_at job.pool s)) (freed-kept (object_at job.pool s)))
        (offers-set s.objects job.pool (with_slot_freed (object_at job.pool s)) s.items s.next_since (fewer-same (offers_at job.pool s.objects) (offers_of (with_slot_freed (object_at job.pool s))) (freed-offers (object_at job.pool s))) m.sides.offers) (length-set s.jobs (j - 1) (record job { outcome = Some o })) (λ p x e z. (still-open s.jobs j o job there p x e z).0) m k

    by : (c : Answer) → a ≡ c → Rests (with_silence (moment_of a) m.story) (silent (settle (say (Line.Turn s.turns a) (job_done a (record s { moment = moment_of a })))))
    by (Answer.Done j o t) e =
        subst (λ z. Rests (with_silence (moment_of a) m.story) (silent (settle (say (Line.Turn s.turns a) (job_done z (record s { moment = moment_of a })))))) (sym e)
        (of j o (job_at j s.jobs) refl (subst (λ z. IsKept (settle (say (Line.Turn s.turns a) (job_done z (record s { moment = moment_of a }))))) e kept))
    by (Answer.Elapsed t) e =
        subst (λ z. Rests (with_silence (moment_of a) m.story) (silent (settle (say (Line.Turn s.turns a) (job_done z (record s { moment = moment_of a })))))) (sym e)
        (unheard b (Line.Turn s.turns a) (moment_of a) s.objects s.jobs s refl m.sides.offers refl (λ p x f z. f) m (subst (λ z. IsKept (settle (say (Line.Turn s.turns a) (job_done z (record s { moment = moment_of a }))))) e kept))
    by (Answer.Nothing t) e =
        subst (λ z. Rests (with_silence (moment_of a) m.story) (silent (settle (say (Line.Turn s.turns a) (job_done z (record s { moment = moment_of a })))))) (sym e)
        (unheard b (Line.Turn s.turns a) (moment_of a) s.objects s.jobs s refl m.sides.offers refl (λ p x f z. f) m (subst (λ z. IsKept (settle (say (Line.Turn s.turns a) (job_done z (record s { moment = moment_of a }))))) e kept))

pub settled-answered : (a : Answer) (s : State) → is_settled (silent (take_answer a s)) ≡ true
unfolding take_answer
settled-answered a s = settled-settle (say (Line.Turn s.turns a) (job_done a (record s { moment = moment_of a })))

pub ready-answered : (c : Scenario) (b : History) (a : Answer) (s : State) → s ≡ silent s → (m : IsReady c b s) → IsReady c (with_silence (moment_of a) m.rests.story) (silent (take_answer a s))
ready-answered c b a s e m =
    record { rests = answer-unheard b a s m.rests; is_calm = settled-answered a s; reached = Reached.GaveOut (take_answer a s) (Reached.Answered a s e m.reached) }

pub ready-silent : (c : Scenario) (b : History) (s : State) → (m : IsReady c b s) → IsReady c m.rests.story (silent s)
ready-silent c b s m = record { rests = rests-silent b s m.rests; is_calm = m.is_calm; reached = Reached.GaveOut s m.reached }

-- ---- the states at block lines

abbrev GoesQuietly : Scenario → GoingOn → Type 0
GoesQuietly c go = (source : Source) (b : History) (s : State) → s ≡ silent s → IsReady c b s → list_all is_quiet (go source s).blocked ≡ true

quiet-at : (c : Scenario) (b : History) (s : State) → IsReady c b s → any_numbered s.items ≡ false → is_quiet s ≡ true
quiet-at c b s m e = settled-quiet s (ascends s m.rests.kept.sound) m.is_calm e

exit-quiet : (c : Scenario) (go : GoingOn) → GoesQuietly c go → (source : Source) (h : History) (next : Next) → Left c h next → list_all is_quiet (after_exit go source next).blocked ≡ true
exit-quiet c go f source h (Next.Over cause s) l = refl
exit-quiet c go f source h (Next.Resting s) l = f source h s l.2 (record { rests = l.0; is_calm = l.1; reached = l.3 })
exit-quiet c go f source h (Next.Going g s) l = refl

asks-quiet : (c : Scenario) (go : GoingOn) → GoesQuietly c go → (q : Question) (source : Source) (b : History) (s : State) → s ≡ silent s → IsReady c b s → list_all is_quiet (asks go q source s).blocked ≡ true
asks-quiet c go f q (Source.Given []) b s e m = refl
asks-quiet c go f q (Source.Given (a ∷ answers)) b s e m = f (Source.Given answers) (with_silence (moment_of a) m.rests.story) (silent (take_answer a s)) refl (ready-answered c b a s e m)
asks-quiet c go f q (Source.Scripted tick jobs) b s e m =
    let a = scripted tick jobs s.moment q in f (Source.Scripted tick (without_done a jobs)) (with_silence (moment_of a) m.rests.story) (silent (take_answer a s)) refl (ready-answered c b a s e m)

unasked : (d : Bool) (rest : Option Question) → ◌≡◌ {A = Option Question} (if d then Some Question.Poll else rest) None → d ≡ false
unasked true rest e = absurd (cc e)
unasked false rest e = refl

-- where the question is a wait, no item has a number
pub unpolled : (d : Bool) (rest : Option Question) (until : Option ℕ) → ◌≡◌ {A = Option Question} (if d then Some Question.Poll else rest) (Some (Question.Wait until)) → d ≡ false
unpolled true rest until e = absurd (cc e)
unpolled false rest until e = refl

block-quiet : (c : Scenario) (b : History) (q : Question) (s : State) (states : List State) → question s ≡ Some q → IsReady c b s → list_all is_quiet states ≡ true →
    list_all is_quiet (blocked_at q s ++ states) ≡ true
block-quiet c b Question.Poll s states z m h = h
block-quiet c b (Question.Wait until) s states z m h = and_from _ _ (quiet-at c b s m (unpolled (any_numbered s.items) _ until z)) h

question-quiet : (c : Scenario) → (go : GoingOn) → GoesQuietly c go → (budget : ℕ) (q : Option Question) (source : Source) (b : History) (s : State) → question s ≡ q → s ≡ silent s →
    IsReady c b s → list_all is_quiet (after_question go budget q source s).blocked ≡ true
question-quiet c go f budget None source b s z e m =
    let p = exit-passed c budget b s e m in
    let part = loop_exit budget (block_line s) in
    and_from _ _ (quiet-at c b s m (unasked (any_numbered s.items) _ z)) (exit-quiet c go f (with_posts s.moment part.posts source) p.0 part.next p.2)
question-quiet c go f budget (Some q) source b s z e m =
    let ready = ready-block_line c b s e m in
    block-quiet c b q s (asks go q source (silent (block_line s))).blocked z m
    (asks-quiet c go f q source ready.rests.story (silent (block_line s)) refl (ready-silent c b (block_line s) ready))

turn-quiet : (c : Scenario) → (go : GoingOn) → GoesQuietly c go → (budget : ℕ) (source : Source) (h : History) (next : Next) → Left c h next → list_all is_quiet (after_turn go budget source next).blocked ≡ true
turn-quiet c go f budget source h (Next.Over cause s) l = refl
turn-quiet c go f budget source h (Next.Resting s) l = question-quiet c go f budget (question s) source h s refl l.2 (record { rests = l.0; is_calm = l.1; reached = l.3 })
turn-quiet c go f budget source h (Next.Going g s) l = refl

turns-quiet : (c : Scenario) → (n budget : ℕ) → GoesQuietly c (run_turns n budget)
turns-quiet c zero budget source b s e m = refl
turns-quiet c (suc n) budget source b s e m =
    let part = turn budget s in
    let p = turn-passed c budget b s e m in
    turn-quiet c (run_turns n budget) (turns-quiet c n budget) budget (with_posts s.moment part.posts source) p.0 part.next p.2

start-quiet : (c : Scenario) → (source : Source) (turns moves : ℕ) (h : History) (next : Next) → Left c h next → list_all is_quiet (after_start source turns moves next).blocked ≡ true
start-quiet c source turns moves h (Next.Over cause s) l = refl
start-quiet c source turns moves h (Next.Resting s) l = turns-quiet c turns moves source h s l.2 (record { rests = l.0; is_calm = l.1; reached = l.3 })
start-quiet c source turns moves h (Next.Going g s) l = refl

pub run-quiet : (c : Scenario) (source : Source) (turns moves : ℕ) → IsFitText c → list_all is_quiet (blocked_states source turns moves c) ≡ true
run-quiet c source turns moves text =
    let part = runs moves (starts lands 0 [] (first_state c)) in
    let p = runs-passed c moves at_first (starts lands 0 [] (first_state c)) (begins-at c text) Reached.Started in
    start-quiet c (with_posts 0 part.posts source) turns moves p.0 part.next p.2
