-- Those whose moment has come.
use Rattle.std.proofs.Common.{◌≡◌, refl, sym, ap, ◌∙◌, subst, ℕ, ◌≤◌, Bool, true, not, List, [], ◌∷◌, ◌++◌, Option, Some, None, ◌⊎◌, inl, inr, arith}
use Rattle.std.proofs.lemmas.Bool.{and_parts, le-leb, leb-true, or_cases, or_left, or_right, true≢false}
use Rattle.std.proofs.lemmas.List.{map-append}
use Rattle.std.proofs.lemmas.List.Elements.{Contains-append_cases, Contains-append_left, Contains-append_right}
use Rattle.std.specs.List.{All, Contains}
use Rattle.std.specs.Prelude.{is_none, is_some}
use Rattle.item_places.specs.Items.{Differ}
use Rattle.item_places.proofs.ItemLemmas.{lacks_joined, lacks_of_absent}
use Rattle.machine.specs.declared.items.Delivery.{Delivery}
use Rattle.machine.specs.declared.items.Item.{Item}
use Rattle.machine.specs.declared.items.Waiting.{Waiting}
use Rattle.machine.specs.Holds.{holds}
use Rattle.machine.specs.Questions.{deadline_of}
use Rattle.machine.specs.State.{State}
use Rattle.machine_settling.specs.Classes.{Class, class_of}
use Rattle.machine_settling.specs.Numbers.{loses_number, needs_number}
use Rattle.machine_settling.specs.Steps.{either}
use Rattle.machine_settling.proofs.Parts.{at_in}
use Rattle.held_items.specs.Entries.{Entry, flat, item_in}
use Rattle.held_items.specs.Lined.{waits_until}
use Rattle.held_items.specs.Moments.{AreDueBy, Gathers, slots_in}
use Rattle.held_items.proofs.Ordering.{same_item}
use Rattle.hub_state.specs.Found.{AreFound, IsFound, IsOf, LooksAt, SeenFound, is_moment}
use Rattle.hub_state.specs.Touched.{HasCome, IsPast}
use Rattle.hub_state.proofs.Classes.{due_holds, is_due}
use Rattle.hub_state.proofs.Finding.{found_as, in_flat, pair_of}
use Rattle.hub_state.proofs.Looking.{AreNew, none_is_none}

-- ---- moments and deadlines

-- the moment of the class, if it is that of one
abbrev pub moment_of : Class → Option ℕ
moment_of (Class.AtMoment deadline) = Some deadline
moment_of c = None

pub deadline_is : (d : Delivery) → deadline_of d ≡ moment_of (class_of d)
deadline_is (Delivery.Start g None) = refl
deadline_is (Delivery.Start g (Some deadline)) = refl
deadline_is (Delivery.Wake g (Waiting.Sleep until)) = refl
deadline_is (Delivery.Wake g w) = refl
deadline_is (Delivery.Late g deadline n) = refl
deadline_is (Delivery.Timeout g n deadline) = refl
deadline_is (Delivery.Kill g f) = refl
deadline_is (Delivery.Link k g kind f) = refl

at_moment : (c : Class) (deadline : ℕ) → moment_of c ≡ Some deadline → c ≡ Class.AtMoment deadline
at_moment (Class.AtMoment deadline) n e = ap Class.AtMoment (cc e)
at_moment Class.Always n e = absurd (cc e)
at_moment (Class.OfEnds targets need) n e = absurd (cc e)
at_moment (Class.AtObject o) n e = absurd (cc e)

-- an item that waits until this moment has no number, and is of its class
record Waits (i : Item) (deadline : ℕ) : Type 0 where
  pub none : i.ready ≡ None
  pub class : class_of i.delivery ≡ Class.AtMoment deadline

waits_parts : (i : Item) (deadline : ℕ) → waits_until i ≡ Some deadline → Waits i deadline
waits_parts i n w = by i.ready refl w
  where
    by : (r : Option ℕ) → i.ready ≡ r → waits_until (record i { ready = r }) ≡ Some n → Waits i n
    by None e v = record { none = e; class = at_moment (class_of i.delivery) n (sym (deadline_is i.delivery) ∙ v) }
    by (Some m) e v = absurd (cc v)

waits_of : (i : Item) (deadline : ℕ) → i.ready ≡ None → class_of i.delivery ≡ Class.AtMoment deadline → waits_until i ≡ Some deadline
waits_of i n e c = by i.ready refl e
  where
    by : (r : Option ℕ) → i.ready ≡ r → r ≡ None → waits_until (record i { ready = r }) ≡ Some n
    by None s t = deadline_is i.delivery ∙ ap moment_of c
    by (Some m) s t = absurd (cc t)

-- ---- they are found

differ_both : (xs ys : List ℕ) → Differ xs → Differ ys → ((q : ℕ) → Contains xs q → Contains ys q → ⊥) → Differ (xs ++ ys)
differ_both [] ys d e f = e
differ_both (x ∷ xs) ys d e f = (lacks_joined x xs ys d.0 (lacks_of_absent x ys (λ a. f x (0, omega arith, refl) a)), differ_both xs ys d.1 e (λ q a b. f q (later q a) b))
  where
    later : (q : ℕ) → Contains xs q → Contains (x ∷ xs) q
    later q c = Contains-append_right (x ∷ []) xs q c

module _ (moment : ℕ) (s : State) (now : s.moment ≡ moment) (es : List Entry) (done : Class → Bool) (new : AreNew is_moment done) where
  abbrev Both : Entry → Type 0
  Both = IsOf (either done is_moment)

  first : (q : ℕ) (i : Item) → IsOf done (q, i) → Both (q, i)
  first q i t = or_left (done (class_of i.delivery)) (is_moment (class_of i.delivery)) t

  due_now : (i : Item) (deadline : ℕ) → class_of i.delivery ≡ Class.AtMoment deadline → deadline ≤ moment → holds s i ≡ true
  due_now i n c l = due_holds s i n c ∙ le-leb n s.moment (omega (arith, l, now))

  none_lost : (ps : List (ℕ × ℕ)) → All (IsPast moment) (flat es) → AreFound (IsOf done) (loses_number (holds s)) es ps → AreFound Both (loses_number (holds s)) es ps
  none_lost ps past a = found_as (IsOf done) Both (loses_number (holds s)) es ps (λ q i t u m. first q i m) (λ q i t u m. back q i t u (or_cases (done (class_of i.delivery)) (is_moment (class_of i.delivery)) m)) a
    where
      back : (q : ℕ) (i : Item) → item_in q es ≡ Some i → loses_number (holds s) i ≡ true → (done (class_of i.delivery) ≡ true) ⊎ (is_moment (class_of i.delivery) ≡ true) → IsOf done (q, i)
      back q i t u (inl m) = m
      back q i t u (inr m) =
          let parts = and_parts (not (holds s i)) (is_some i.ready) u in
          let d = is_due (class_of i.delivery) m in
          let come : d.0 ≤ moment = subst (HasCome moment) d.1 (at_in (IsPast moment) (flat es) i past (in_flat q i es t) parts.1) in
          absurd (true≢false (sym parts.0 ∙ ap not (due_now i d.0 d.1 come)))

  all_gained : (ps due : List (ℕ × ℕ)) → AreDueBy moment es due → AreFound (IsOf done) (needs_number (holds s)) es ps → AreFound Both (needs_number (holds s)) es (ps ++ due)
  all_gained ps due d a = record {
    apart = subst Differ (sym slots) (differ_both (slots_in ps) (slots_in due) a.apart d.apart (λ q b c. apart (pair_of ps q b) (pair_of due q c)));
    sound = λ p h. sound p (Contains-append_cases ps due p h);
    complete = λ q i t m u. subst (λ qs. Contains qs q) (sym slots) (complete q i t u (or_cases (done (class_of i.delivery)) (is_moment (class_of i.delivery)) m));
  }
    where
      slots : slots_in (ps ++ due) ≡ slots_in ps ++ slots_in due
      slots = map-append (λ (p : ℕ × ℕ). p.1) ps due

      apart : {q : ℕ} → (p : ℕ × ℕ) × Contains ps p × (p.1 ≡ q) → (p : ℕ × ℕ) × Contains due p × (p.1 ≡ q) → ⊥
      apart {q} (p, h, e) (r, k, f) =
          let b = a.sound p h in
          let c = d.sound r k in
          let same : c.item ≡ b.item = same_item r.1 es c.item b.item c.there (ap (λ x. item_in x es) (f ∙ sym e) ∙ b.there) in
          let w = waits_parts c.item c.deadline c.waits in
          true≢false (sym b.looked ∙ ap (λ (x : Item). done (class_of x.delivery)) (sym same) ∙ new (class_of c.item.delivery) (ap is_moment w.class))

      sound : (p : ℕ × ℕ) → Contains ps p ⊎ Contains due p → IsFound Both (needs_number (holds s)) es p
      sound p (inl h) = let f = a.sound p h in record { item = f.item; there = f.there; since = f.since; looked = first p.1 f.item f.looked; passes = f.passes }
      sound p (inr h) =
          let c = d.sound p h in
          let w = waits_parts c.item c.deadline c.waits in
          record {
            item = c.item;
            there = c.there;
            since = c.since;
            looked = or_right (done (class_of c.item.delivery)) (is_moment (class_of c.item.delivery)) (ap is_moment w.class);
            passes = rw (due_now c.item c.deadline w.class c.due) (ap is_none w.none);
          }

      complete : (q : ℕ) (i : Item) → item_in q es ≡ Some i → needs_number (holds s) i ≡ true → (done (class_of i.delivery) ≡ true) ⊎ (is_moment (class_of i.delivery) ≡ true) → Contains (slots_in ps ++ slots_in due) q
      complete q i t u (inl m) = Contains-append_left (slots_in ps) (slots_in due) q (a.complete q i t m u)
      complete q i t u (inr m) =
          let parts = and_parts (holds s i) (is_none i.ready) u in
          let c = is_due (class_of i.delivery) m in
          let come : c.0 ≤ moment = let l = leb-true c.0 s.moment (sym (due_holds s i c.0 c.1) ∙ parts.0) in omega (arith, l, now) in
          Contains-append_right (slots_in ps) (slots_in due) q (d.complete q i c.0 t (waits_of i c.0 (none_is_none i.ready parts.1) c.1) come)

pub looks_due : (moment : ℕ) (es : List Entry) (old new : SeenFound) → Gathers moment es old.gained new.gained → new.lost ≡ old.lost → new.room ≡ old.room → (s : State) → s.moment ≡ moment → All (IsPast moment) (flat es) → LooksAt is_moment s es old new
looks_due moment es old new g lost room s now past = record {
  finds = λ done apart h. (record {
    lost = subst (λ ps. AreFound (IsOf (either done is_moment)) (loses_number (holds s)) es ps) (sym lost) (none_lost moment s now es done apart old.lost past h.lost);
    gained = subst (λ ps. AreFound (IsOf (either done is_moment)) (needs_number (holds s)) es ps) (sym g.is) (all_gained moment s now es done apart old.gained g.due g.all h.gained);
  });
  room = room;
}
