-- A moment is reached, whether it is a later one or not.
use Rattle.std.proofs.Common.{◌≡◌, refl, ap, sym, ◌∙◌, subst, ℕ, ◌+◌, ◌^◌, ◌<◌, ◌≤◌, ◌&&◌, Bool, true, false, cond, not, List, [], ◌∷◌, ◌++◌, length, map, ◌⊎◌, inl, inr, Option, Some, None, arith}
use Rattle.std.specs.Prelude.{◌||◌, IsTrue, is_some}
use Rattle.std.specs.List.{AllByRecursion}
use Rattle.std.proofs.lemmas.Bool.{and_cases, and_parts, lt-leb, ltb-false, ltb-true, true≢false}
use Rattle.std.proofs.lemmas.List.{append_assoc, length-map, map-append}
use Rattle.std.proofs.lemmas.List.Elements.{All-from_recursion, recursion_from_All}
use Rattle.item_places.specs.Items.{Differ}
use Rattle.slot_chains.specs.Chained.{first_of}
use Rattle.gv_values.specs.declared.job.Answer.{Answer}
use Rattle.trace_text.specs.declared.line.Line.{Line}
use Rattle.machine.specs.declared.items.Delivery.{Delivery}
use Rattle.machine.specs.declared.items.Item.{Item}
use Rattle.machine.specs.declared.items.Waiting.{Waiting}
use Rattle.machine.specs.declared.state.JobState.{JobState}
use Rattle.machine.specs.State.{State, say}
use Rattle.machine.specs.Holds.{delivery_holds, holds, job_at}
use Rattle.machine.specs.Questions.{arrives, is_numbered, take_answer}
use Rattle.machine.specs.Settle.{number_after, numbers_after, settle, settled, settled_ready}
use Rattle.machine_settling.specs.Classes.{Class, class_of}
use Rattle.machine_settling.specs.Fronts.{IsStill}
use Rattle.machine_settling.specs.Lasting.{is_off_objects}
use Rattle.machine_settling.specs.Numbers.{IsAscending}
use Rattle.machine_settling.specs.Steps.{Step, either, the_moments}
use Rattle.machine_settling.proofs.Agreements.{Agrees, agrees-after}
use Rattle.machine_settling.proofs.Fronts.{fronts_others}
use Rattle.machine_settling.proofs.Members.{In}
use Rattle.machine_settling.proofs.Parts.{at_in}
use Rattle.machine_settling.proofs.Settles.{bare, holds-numbered}
use Rattle.hub_items.specs.Sound.{AscendTo, IsSound}
use Rattle.hub_state.proofs.Sounds.{sound_settled}
use Rattle.held_items.specs.Entries.{Entry, SeenItems, flat, item_in, slots_of, with_ready}
use Rattle.held_items.specs.Held.{unnumbered}
use Rattle.held_items.proofs.Dropping.{behind}
use Rattle.hub_state.specs.Forgotten.{all_forgotten, came, forgotten, is_after, is_early, reached}
use Rattle.hub_state.specs.Touched.{HasCome, HasMark, HasPlaces, IsKept, IsMade, IsPast, IsPending, IsUpToDate, SeenTouched, reopened}
use Rattle.hub_state.specs.Over.{over, with_held}
use Rattle.hub_state.proofs.Keeping.{hub_moved}
use Rattle.hub_state.proofs.Touching.{come_later, grows_same, kept_after, kept_beside}
use Rattle.hub_state.proofs.UpToDate.{ascending}
use Rattle.hub_state.proofs.Walks.{IsFirst, first_is, item_there, left_is, none_is, ready_there, slots_there}

-- ---- the walk over the items

-- the items before the one that the walk stands at are forgotten, and the others are as they were
pub record IsForgetting (moment : ℕ) (all now : SeenItems) (at : Option ℕ) : Type 0 where
  pub front : List Entry
  pub rest : List Entry
  pub parts : all.entries ≡ front ++ rest
  pub are : now.entries ≡ all_forgotten moment front ++ rest
  pub here : at ≡ first_of (slots_of rest) None
  pub next : now.next ≡ all.next
  pub since : now.next_since ≡ all.next_since

pub forgetting_none : (moment : ℕ) (all : SeenItems) (at : Option ℕ) → at ≡ first_of (slots_of all.entries) None → IsForgetting moment all all at
forgetting_none moment all at h = record { front = []; rest = all.entries; parts = refl; are = refl; here = h; next = refl; since = refl }

nothing : (xs : List Entry) → xs ++ [] ≡ xs
nothing [] = refl
nothing (x ∷ xs) = ap (λ ys. x ∷ ys) (nothing xs)

pub forgetting_all : (moment : ℕ) (all now : SeenItems) (at : Option ℕ) → IsForgetting moment all now at → at ≡ None → now.entries ≡ all_forgotten moment all.entries
forgetting_all moment all now at f e =
    let last = none_is at f.rest f.here e in
    let before : all.entries ≡ f.front = f.parts ∙ ap (λ xs. f.front ++ xs) last ∙ nothing f.front in
    f.are ∙ ap (λ xs. all_forgotten moment f.front ++ xs) last ∙ nothing (all_forgotten moment f.front) ∙ ap (all_forgotten moment) (sym before)

same_slots : (moment : ℕ) (es : List Entry) → slots_of (all_forgotten moment es) ≡ slots_of es
same_slots moment [] = refl
same_slots moment (e ∷ es) = ap (λ qs. e.0 ∷ qs) (same_slots moment es)

-- the item that the walk stands at
pub record IsNext (moment : ℕ) (all now : SeenItems) (at : Option ℕ) (q : ℕ) (f : IsForgetting moment all now at) : Type 0 where
  pub first : IsFirst q f.rest
  pub after : now.entries ≡ all_forgotten moment f.front ++ (q, first.item) ∷ first.others
  pub differ : Differ (slots_of now.entries)
  pub there : item_in q now.entries ≡ Some first.item

pub forgetting_now : (moment : ℕ) (all now : SeenItems) (at : Option ℕ) (q : ℕ) (f : IsForgetting moment all now at) → Differ (slots_of all.entries) → at ≡ Some q → IsNext moment all now at q f
forgetting_now moment all now at q f d e =
    let i = first_is q at f.rest f.here e in
    let after : now.entries ≡ all_forgotten moment f.front ++ (q, i.item) ∷ i.others = f.are ∙ ap (λ xs. all_forgotten moment f.front ++ xs) i.is in
    let same : slots_of now.entries ≡ slots_of all.entries =
    ap slots_of f.are
    ∙ map-append (λ (x : Entry). x.0) (all_forgotten moment f.front) f.rest
    ∙ ap (λ qs. qs ++ slots_of f.rest) (same_slots moment f.front)
    ∙ sym (map-append (λ (x : Entry). x.0) f.front f.rest)
    ∙ sym (ap slots_of f.parts) in
    let apart : Differ (slots_of now.entries) = subst Differ (sym same) d in
    record {
      first = i;
      after = after;
      differ = apart;
      there = subst (λ xs. item_in q xs ≡ Some i.item) (sym after) (item_there q i.item (all_forgotten moment f.front) i.others (subst (λ xs. Differ (slots_of xs)) after apart));
    }

-- what the walk has to do at each item
pub record IsForgettingOn (moment : ℕ) (all now new : SeenItems) (at next : Option ℕ) : Type 0 where
  pub forgetting : IsForgetting moment all new next
  pub smaller : behind next (slots_of new.entries) < behind at (slots_of now.entries)

pub forgetting_on : (moment : ℕ) (all now new : SeenItems) (at next : Option ℕ) (q : ℕ) (i : Item) (b : Bool) → Differ (slots_of all.entries) → IsForgetting moment all now at → at ≡ Some q → item_in q now.entries ≡ Some i →
    b ≡ is_early moment i → new ≡ cond b (unnumbered q now) now → ((xs ys : List ℕ) → slots_of now.entries ≡ xs ++ q ∷ ys → next ≡ first_of ys None) → IsForgettingOn moment all now new at next
forgetting_on moment all now new at next q i b d f e got test sets follows =
    let n = forgetting_now moment all now at q f d e in
    let item = n.first.item in
    let others = n.first.others in
    let done = all_forgotten moment f.front in
    let same : i ≡ item = cc (got, n.there) in
    let entries : new.entries ≡ done ++ (q, forgotten moment item) ∷ others = by b item done others n.after n.differ (test ∙ ap (is_early moment) same) sets in
    let to : next ≡ first_of (slots_of others) None = follows (slots_of done) (slots_of others) (ap slots_of n.after ∙ slots_there done q item others) in
    let more : all_forgotten moment (f.front ++ (q, item) ∷ []) ≡ done ++ (q, forgotten moment item) ∷ [] = map-append (λ (x : Entry). (x.0, forgotten moment x.1)) f.front ((q, item) ∷ []) in
    let onward : new.entries ≡ (done ++ (q, forgotten moment item) ∷ []) ++ others = entries ∙ sym (append_assoc done ((q, forgotten moment item) ∷ []) others) in
    let slots : slots_of new.entries ≡ slots_of now.entries =
    ap slots_of entries ∙ slots_there done q (forgotten moment item) others ∙ sym (ap slots_of n.after ∙ slots_there done q item others) in
    let differ : Differ (slots_of new.entries) = subst Differ (sym slots) n.differ in
    let old = ap (λ xs. behind at (slots_of xs)) f.are ∙ left_is at done f.rest (subst (λ xs. Differ (slots_of xs)) f.are n.differ) f.here in
    let newer = ap (λ xs. behind next (slots_of xs)) onward ∙ left_is next (done ++ (q, forgotten moment item) ∷ []) others (subst (λ xs. Differ (slots_of xs)) onward differ) to in
    let longer = ap length n.first.is in
    record {
      forgetting = record {
        front = f.front ++ (q, item) ∷ [];
        rest = others;
        parts = f.parts ∙ ap (λ xs. f.front ++ xs) n.first.is ∙ sym (append_assoc f.front ((q, item) ∷ []) others);
        are = onward ∙ ap (λ xs. xs ++ others) (sym more);
        here = to;
        next = ap (λ (s : SeenItems). s.next) sets ∙ same_next b ∙ f.next;
        since = ap (λ (s : SeenItems). s.next_since) sets ∙ same_since b ∙ f.since;
      };
      smaller = omega (arith, old, newer, longer);
    }
  where
    same_next : (c : Bool) → (cond c (unnumbered q now) now).next ≡ now.next
    same_next true = refl
    same_next false = refl

    same_since : (c : Bool) → (cond c (unnumbered q now) now).next_since ≡ now.next_since
    same_since true = refl
    same_since false = refl

    by : (c : Bool) (x : Item) (front others : List Entry) → now.entries ≡ front ++ (q, x) ∷ others → Differ (slots_of now.entries) → c ≡ is_early moment x → new ≡ cond c (unnumbered q now) now →
        new.entries ≡ front ++ (q, forgotten moment x) ∷ others
    by true x front others after apart t s =
        let gone : forgotten moment x ≡ record x { ready = None } = rw (sym t) refl in
        ap (λ (y : SeenItems). y.entries) s
        ∙ ap (with_ready q None) after
        ∙ ready_there q None x front others (subst (λ xs. Differ (slots_of xs)) after apart)
        ∙ ap (λ y. front ++ (q, y) ∷ others) (sym gone)
    by false x front others after apart t s =
        let kept : forgotten moment x ≡ x = rw (sym t) refl in
        ap (λ (y : SeenItems). y.entries) s ∙ after ∙ ap (λ y. front ++ (q, y) ∷ others) (sym kept)

-- ---- the state

flat_forgotten : (moment : ℕ) (es : List Entry) → flat (all_forgotten moment es) ≡ map (forgotten moment) (flat es)
flat_forgotten moment [] = refl
flat_forgotten moment (e ∷ es) = ap (λ xs. forgotten moment e.1 ∷ xs) (flat_forgotten moment es)

-- it keeps its number
stays : ℕ → Item → Bool
stays moment i = is_numbered i && not (is_after moment (class_of i.delivery))

-- so it is after a settling in which just these hold
settled_forgotten : (moment n : ℕ) (items : List Item) → settled (map (stays moment) items) n items ≡ map (forgotten moment) items
unfolding stays
settled_forgotten moment n [] = refl
settled_forgotten moment n (i ∷ items) = by i.ready (is_after moment (class_of i.delivery)) (settled_forgotten moment n items)
  where
    by : (r : Option ℕ) (b : Bool) → settled (map (stays moment) items) n items ≡ map (forgotten moment) items →
        record i { ready = settled_ready (is_some r && not b) r n } ∷ settled (map (stays moment) items) (number_after (is_some r && not b) r n) items
        ≡ cond (is_some r && b) (record i { ready = None }) (record i { ready = r }) ∷ map (forgotten moment) items
    by None b e = ap (λ xs. record i { ready = None } ∷ xs) e
    by (Some k) true e = ap (λ xs. record i { ready = None } ∷ xs) e
    by (Some k) false e = ap (λ xs. record i { ready = Some k } ∷ xs) e

bare_forgotten : (moment : ℕ) (items : List Item) → map bare (map (forgotten moment) items) ≡ map bare items
bare_forgotten moment [] = refl
bare_forgotten moment (i ∷ items) = by (is_early moment i) (bare_forgotten moment items)
  where
    by : (b : Bool) → map bare (map (forgotten moment) items) ≡ map bare items → bare (cond b (record i { ready = None }) i) ∷ map bare (map (forgotten moment) items) ≡ bare i ∷ map bare items
    by true e = ap (λ xs. bare i ∷ xs) e
    by false e = ap (λ xs. bare i ∷ xs) e

-- what waits for a later moment doesn't hold
early_fails : (s : State) (since : ℕ) (d : Delivery) → is_after s.moment (class_of d) ≡ true → delivery_holds s since d ≡ false
early_fails s since (Delivery.Start g None) e = absurd (true≢false (sym e))
early_fails s since (Delivery.Start g (Some deadline)) e = lt-leb deadline s.moment (ltb-true s.moment deadline e)
early_fails s since (Delivery.Wake g (Waiting.Sleep until)) e = lt-leb until s.moment (ltb-true s.moment until e)
early_fails s since (Delivery.Wake g w) e = absurd (true≢false (sym e))
early_fails s since (Delivery.Late g deadline n) e = lt-leb deadline s.moment (ltb-true s.moment deadline e)
early_fails s since (Delivery.Timeout g n deadline) e = lt-leb deadline s.moment (ltb-true s.moment deadline e)
early_fails s since (Delivery.Kill g f) e = absurd (true≢false (sym e))
early_fails s since (Delivery.Link k g kind f) e = absurd (true≢false (sym e))

-- a settling takes these numbers anyway
record SettleAlike (s : State) (n : ℕ) (items : List Item) : Type 0 where
  items_same : settled (map (holds s) (map (forgotten s.moment) items)) n (map (forgotten s.moment) items) ≡ settled (map (holds s) items) n items
  next_same : numbers_after (map (holds s) (map (forgotten s.moment) items)) n (map (forgotten s.moment) items) ≡ numbers_after (map (holds s) items) n items

settles_alike : (s : State) (n : ℕ) (items : List Item) → SettleAlike s n items
settles_alike s n [] = record { items_same = refl; next_same = refl }
settles_alike s n (i ∷ items) = by (is_early s.moment i) refl (λ m. settles_alike s m items)
  where
    by : (b : Bool) → is_early s.moment i ≡ b → ((m : ℕ) → SettleAlike s m items) → SettleAlike s n (i ∷ items)
    by true e rest =
        let gone : forgotten s.moment i ≡ record i { ready = None } = rw e refl in
        let fails : holds s i ≡ false = early_fails s i.since i.delivery (and_parts (is_numbered i) (is_after s.moment (class_of i.delivery)) e).1 in
        let r = rest n in
        record {
          items_same = rw gone (rw fails (ap (λ xs. record i { ready = None } ∷ xs) r.items_same));
          next_same = rw gone (rw fails r.next_same);
        }
    by false e rest =
        let kept : forgotten s.moment i ≡ i = rw e refl in
        let r = rest (number_after (holds s i) i.ready n) in
        record {
          items_same = rw kept (ap (λ xs. record i { ready = settled_ready (holds s i) i.ready n } ∷ xs) r.items_same);
          next_same = rw kept r.next_same;
        }

settle_forgotten : (s : State) → settle (record s { items = map (forgotten s.moment) s.items }) ≡ settle s
settle_forgotten s =
    let ys = map (forgotten s.moment) s.items in
    let k = settles_alike s s.next_ready s.items in
    ap (λ (p : Item → Bool). record s { items = settled (map p ys) s.next_ready ys; next_ready = numbers_after (map p ys) s.next_ready ys }) (holds-numbered s ys s.next_ready (bare_forgotten s.moment s.items))
    ∙ ap (λ items. record s { items = items; next_ready = numbers_after (map (holds s) ys) s.next_ready ys }) k.items_same
    ∙ ap (λ n. record s { items = settled (map (holds s) s.items) s.next_ready s.items; next_ready = n }) k.next_same

-- so an answer is taken
pub taken_so : (answer : Answer) (s : State) → settle (say (Line.Turn s.turns answer) (came answer s)) ≡ take_answer answer s
unfolding take_answer
taken_so (Answer.Done j o at) s = by (job_at j s.jobs)
  where
    by : (found : Option JobState) → settle (say (Line.Turn s.turns (Answer.Done j o at)) (arrives j o found (reached at s))) ≡ settle (say (Line.Turn s.turns (Answer.Done j o at)) (arrives j o found (record s { moment = at })))
    by None = settle_forgotten (say (Line.Turn s.turns (Answer.Done j o at)) (record s { moment = at }))
    by (Some job) = settle_forgotten (say (Line.Turn s.turns (Answer.Done j o at)) (arrives j o (Some job) (record s { moment = at })))
taken_so (Answer.Elapsed at) s = settle_forgotten (say (Line.Turn s.turns (Answer.Elapsed at)) (record s { moment = at }))
taken_so (Answer.Nothing at) s = settle_forgotten (say (Line.Turn s.turns (Answer.Nothing at)) (record s { moment = at }))

-- an answer leaves room for the settling that it brings
came-next : (answer : Answer) (s : State) → (came answer s).next_ready ≡ s.next_ready
came-next (Answer.Done j o at) s = by (job_at j (reached at s).jobs)
  where
    by : (found : Option JobState) → (arrives j o found (reached at s)).next_ready ≡ s.next_ready
    by None = refl
    by (Some job) = refl
came-next (Answer.Elapsed at) s = refl
came-next (Answer.Nothing at) s = refl

came-items : (answer : Answer) (s : State) → length (came answer s).items ≡ length s.items
came-items (Answer.Done j o at) s = by (job_at j (reached at s).jobs)
  where
    by : (found : Option JobState) → length (arrives j o found (reached at s)).items ≡ length s.items
    by None = length-map s.items (forgotten at)
    by (Some job) = length-map s.items (forgotten at)
came-items (Answer.Elapsed at) s = length-map s.items (forgotten at)
came-items (Answer.Nothing at) s = length-map s.items (forgotten at)

pub came_fits : (answer : Answer) (line : Line) (s t u : State) → t ≡ came answer s → u ≡ say line t → s.next_ready + length s.items ≤ 2 ^ 63 → u.next_ready + length u.items ≤ 2 ^ 63
came_fits answer line s t u e f h =
    let next = came-next answer s in
    let items = came-items answer s in
    let there : (came answer s).next_ready + length (came answer s).items ≤ 2 ^ 63 = omega (arith, next, items, h) in
    subst (λ (x : State). x.next_ready + length x.items ≤ 2 ^ 63) (sym f) (subst (λ (x : State). x.next_ready + length x.items ≤ 2 ^ 63) (sym e) there)

-- ---- the hub is kept

-- a later moment, or the same
pub hub_later : (moment : ℕ) (held : SeenItems) (t : SeenTouched) (s : State) → IsAscending s → s.moment ≤ moment → IsKept held t s → IsKept held t (record s { moment = moment })
hub_later moment held t s a l h =
    hub_moved held t t s (record s { moment = moment }) (grows_same t) refl (kept_after (Step.Reaches moment) t t s a tt (grows_same t) covers (λ i k. k) l h.current.rooms h.current) h
  where
    covers : (c : Class) → HasPlaces t c → IsTrue (the_moments s.moment moment c) → IsTrue (reopened t c)
    covers Class.Always m e = refl
    covers (Class.AtMoment deadline) m e = refl
    covers (Class.OfEnds targets need) m e = absurd (true≢false (sym e))
    covers (Class.AtObject o) m e = absurd (true≢false (sym e))

-- then no number is taken
early_none : (moment : ℕ) (i : Item) → (IsTrue (is_numbered i) → HasCome moment (class_of i.delivery)) → forgotten moment i ≡ i
early_none moment i h = by (is_early moment i) refl
  where
    not_after : (c : Class) → HasCome moment c → is_after moment c ≡ true → ⊥
    not_after Class.Always k e = true≢false (sym e)
    not_after (Class.AtMoment deadline) k e = let l = ltb-true moment deadline e in omega (arith, l, k)
    not_after (Class.OfEnds targets need) k e = true≢false (sym e)
    not_after (Class.AtObject o) k e = true≢false (sym e)

    by : (b : Bool) → is_early moment i ≡ b → cond b (record i { ready = None }) i ≡ i
    by true e =
        let parts = and_parts (is_numbered i) (is_after moment (class_of i.delivery)) e in
        absurd (not_after (class_of i.delivery) (h parts.0) parts.1)
    by false e = refl

pub none_forgotten : (moment : ℕ) (t : SeenTouched) (s : State) → s.moment ≤ moment → IsUpToDate t s → map (forgotten moment) s.items ≡ s.items
none_forgotten moment t s l h = each s.items (recursion_from_All (IsPast s.moment) s.items h.past)
  where
    each : (items : List Item) → AllByRecursion (IsPast s.moment) items → map (forgotten moment) items ≡ items
    each [] a = refl
    each (i ∷ items) a =
        let here = early_none moment i (λ n. come_later s.moment moment (class_of i.delivery) l (a.0 n)) in
        ap (λ x. x ∷ map (forgotten moment) items) here ∙ ap (λ xs. i ∷ xs) (each items a.1)

each_map : {X Y : Type 0} (Q : Y → Type 0) (f : X → Y) (xs : List X) → ((x : X) → In x xs → Q (f x)) → AllByRecursion Q (map f xs)
each_map Q f [] h = tt
each_map Q f (x ∷ xs) h = (h x (inl refl), each_map Q f xs (λ y k. h y (inr k)))

not_after_come : (moment : ℕ) (c : Class) → is_after moment c ≡ false → HasCome moment c
not_after_come moment Class.Always e = tt
not_after_come moment (Class.AtMoment deadline) e = ltb-false moment deadline e
not_after_come moment (Class.OfEnds targets need) e = tt
not_after_come moment (Class.AtObject o) e = tt

reopens_after : (t : SeenTouched) (moment : ℕ) (c : Class) → is_after moment c ≡ true → reopened t c ≡ true
reopens_after t moment Class.Always e = refl
reopens_after t moment (Class.AtMoment deadline) e = refl
reopens_after t moment (Class.OfEnds targets need) e = absurd (true≢false (sym e))
reopens_after t moment (Class.AtObject o) e = absurd (true≢false (sym e))

off_objects : (moment : ℕ) (c : Class) → is_after moment c ≡ true → is_off_objects c ≡ true
off_objects moment Class.Always e = refl
off_objects moment (Class.AtMoment deadline) e = refl
off_objects moment (Class.OfEnds targets need) e = refl
off_objects moment (Class.AtObject o) e = absurd (true≢false (sym e))

reopens_moments : (t : SeenTouched) (before now : ℕ) (c : Class) → reopened t c ≡ false → the_moments before now c ≡ false
reopens_moments t before now Class.Always e = refl
reopens_moments t before now (Class.AtMoment deadline) e = absurd (true≢false e)
reopens_moments t before now (Class.OfEnds targets need) e = refl
reopens_moments t before now (Class.AtObject o) e = refl

or_false : (x y : Bool) → x ≡ false → y ≡ false → (x || y) ≡ false
or_false true y e f = e
or_false false y e f = f

kept_reached : (moment : ℕ) (t : SeenTouched) (s : State) → IsAscending s → IsUpToDate t s → IsUpToDate t (reached moment s)
kept_reached moment t s a h = record {
  agrees = All-from_recursion (Agrees (reopened t) (holds (reached moment s))) (reached moment s).items (each_map (Agrees (reopened t) (holds (reached moment s))) (forgotten moment) s.items (λ i k. agrees i k (is_early moment i) refl));
  front = fronts_others (forgotten moment) s (All-from_recursion (λ i. IsStill i (forgotten moment i)) s.items (every s.items (λ i. still i (is_early moment i) refl))) h.front;
  past = All-from_recursion (IsPast moment) (reached moment s).items (each_map (IsPast moment) (forgotten moment) s.items (λ i k. past i (is_early moment i) refl));
  marked = All-from_recursion (HasMark t) (reached moment s).items (each_map (HasMark t) (forgotten moment) s.items (λ i k. marked i (is_early moment i) (at_in (HasMark t) s.items i h.marked k)));
  rooms = h.rooms;
}
  where
    now : State
    now = record s { moment = moment }

    agrees : (i : Item) → In i s.items → (b : Bool) → is_early moment i ≡ b → Agrees (reopened t) (holds (reached moment s)) (cond b (record i { ready = None }) i)
    agrees i k true e = λ u.
        let parts = and_parts (is_numbered i) (is_after moment (class_of i.delivery)) e in
        absurd (true≢false (sym (reopens_after t moment (class_of i.delivery) parts.1) ∙ u))
    agrees i k false e = λ u.
        let c = class_of i.delivery in
        let same = ap (λ (p : Item → Bool). p i) (holds-numbered now (map (forgotten moment) s.items) s.next_ready (bare_forgotten moment s.items)) in
        at_in (Agrees (either (reopened t) (the_moments s.moment moment)) (holds now)) s.items i (agrees-after (Step.Reaches moment) (reopened t) s a tt h.agrees) k
        (or_false (reopened t c) (the_moments s.moment moment c) u (reopens_moments t s.moment moment c u))
        ∙ sym same

    every : (items : List Item) → ((i : Item) → IsStill i (forgotten moment i)) → AllByRecursion (λ i. IsStill i (forgotten moment i)) items
    every [] f = tt
    every (i ∷ items) f = (f i, every items f)

    still : (i : Item) (b : Bool) → is_early moment i ≡ b → IsStill i (cond b (record i { ready = None }) i)
    still i true e = record { since = refl; delivery = refl; ready = λ k. absurd (true≢false (sym (off_objects moment (class_of i.delivery) (and_parts (is_numbered i) (is_after moment (class_of i.delivery)) e).1) ∙ k)) }
    still i false e = record { since = refl; delivery = refl; ready = λ k. refl }

    past : (i : Item) (b : Bool) → is_early moment i ≡ b → IsPast moment (cond b (record i { ready = None }) i)
    past i true e = λ n. absurd (true≢false (sym n))
    past i false e = λ n. by (and_cases (is_numbered i) (is_after moment (class_of i.delivery)) e) n
      where
        by : (is_numbered i ≡ false) ⊎ (is_after moment (class_of i.delivery) ≡ false) → is_numbered i ≡ true → HasCome moment (class_of i.delivery)
        by (inl u) n = absurd (true≢false (sym n ∙ u))
        by (inr u) n = not_after_come moment (class_of i.delivery) u

    marked : (i : Item) (b : Bool) → HasMark t i → HasMark t (cond b (record i { ready = None }) i)
    marked i true m = m
    marked i false m = m

-- the numbers are taken, and it is this moment
pub hub_reached : (moment : ℕ) (held now : SeenItems) (t : SeenTouched) (s : State) → AscendTo 0 held.next_since (flat held.entries) → now.entries ≡ all_forgotten moment held.entries → now.next ≡ held.next →
    now.next_since ≡ held.next_since → IsKept held t (with_held held s) → IsKept now t (record (with_held now s) { moment = moment })
hub_reached moment held now t s a e n m h =
    let items : flat now.entries ≡ map (forgotten moment) (flat held.entries) = ap flat e ∙ flat_forgotten moment held.entries in
    record {
      sound = subst IsSound (settled_forgotten moment 0 (flat held.entries) ∙ sym items) (sound_settled (map (stays moment) (flat held.entries)) 0 (flat held.entries) h.sound);
      current =
          subst (λ xs. IsUpToDate t (record (over xs now.next now.next_since s) { moment = moment })) (sym items)
          (kept_beside now.next now.next_since s.lines s.posts t (reached moment (with_held held s)) (kept_reached moment t (with_held held s) (ascending 0 held.next_since (flat held.entries) a) h.current));
      pending = subst (IsPending t.made) (sym e) (All-from_recursion (IsMade t.made) (all_forgotten moment held.entries) (each_map (IsMade t.made) (λ (x : Entry). (x.0, forgotten moment x.1)) held.entries (λ x k. made x k (is_early moment x.1) refl)));
      few = h.few;
    }
  where
    made : (x : Entry) → In x held.entries → (b : Bool) → is_early moment x.1 ≡ b → IsMade t.made (x.0, cond b (record x.1 { ready = None }) x.1)
    made x k true u = λ c r.
        let parts = and_parts (is_numbered x.1) (is_after moment (class_of x.1.delivery)) u in
        absurd (true≢false (sym parts.1 ∙ ap (is_after moment) c))
    made x k false u = at_in (IsMade t.made) held.entries x h.pending k

pub reached_is : (moment : ℕ) (held now : SeenItems) (s : State) → now.entries ≡ all_forgotten moment held.entries → now.next ≡ held.next → now.next_since ≡ held.next_since →
    record (with_held now s) { moment = moment } ≡ reached moment (with_held held s)
reached_is moment held now s e n m =
    ap (λ items. record (over items now.next now.next_since s) { moment = moment }) (ap flat e ∙ flat_forgotten moment held.entries)
    ∙ ap (λ k. record (over (map (forgotten moment) (flat held.entries)) k now.next_since s) { moment = moment }) n
    ∙ ap (λ k. record (over (map (forgotten moment) (flat held.entries)) held.next k s) { moment = moment }) m
