-- Whether anybody waits at an object, where nobody does what is done to it touches nobody.
use Rattle.std.proofs.Common.{◌≡◌, refl, sym, ap, ◌∙◌, ℕ, ◌+◌, ◌==◌, Bool, true, false, List, [], ◌∷◌, ◌++◌, Option, Some, None, if◌then◌else◌, inl, inr}
use Rattle.std.proofs.lemmas.Bool.{eq-eqb, ne_eqb, or_parts, true≢false}
use Rattle.std.specs.List.{list_any}
use Rattle.std.specs.Prelude.{◌||◌, filter, is_some, nat_lt}
use Rattle.machine.specs.declared.items.Delivery.{Delivery}
use Rattle.machine.specs.declared.items.Item.{Item}
use Rattle.machine.specs.Holds.{holds}
use Rattle.machine.specs.State.{State}
use Rattle.machine_settling.specs.Classes.{Class, class_of, is_at}
use Rattle.machine_settling.proofs.Agreements.{Agrees}
use Rattle.machine_settling.proofs.Members.{In}
use Rattle.machine_settling.proofs.Parts.{at_in}
use Rattle.hub_items.specs.declared.waits.WaitKind.{WaitKind}
use Rattle.number_set.specs.Sets.{inserted, is_among}
use Rattle.slot_chains.specs.Chained.{first_of}
use Rattle.held_items.specs.Entries.{Entry, flat, index, slots_of}
use Rattle.held_items.specs.Waits.{line_column, waits_at, waits_in_line, waits_in_none}
use Rattle.held_items.proofs.WaitPlaces.{line_key, none_key}
use Rattle.hub_state.specs.Unawaited.{has_line, has_waiters}
use Rattle.hub_state.specs.Touched.{HasMark, IsUpToDate, SeenTouched, reopened, with_touched}
use Rattle.hub_state.proofs.Columns.{all_columns, columns_more, in_column, in_columns, no_columns}
use Rattle.hub_state.proofs.Joining.{any_more}
use Rattle.hub_state.proofs.Touching.{each_of}

-- ---- who waits

-- an item delivers what passes the test
abbrev any : (Delivery → Bool) → List Item → Bool
any test items = list_any (λ i. test i.delivery) items

-- the index has a first where some item passes
pub any_indexed : (test : Delivery → Bool) (es : List Entry) (first : Option ℕ) (found : Bool) → first ≡ first_of (index test es) None → found ≡ is_some first →
    found ≡ list_any (λ (i : Item). test i.delivery) (flat es)
any_indexed test es first found e f = f ∙ ap is_some e ∙ whole es
  where
    one : (b rest : Bool) (x : Entry) (es : List Entry) → is_some (first_of (slots_of es) None) ≡ rest → is_some (first_of (slots_of (if b then x ∷ es else es)) None) ≡ (b || rest)
    one true rest x es h = refl
    one false rest x es h = h

    whole : (es : List Entry) → is_some (first_of (index test es) None) ≡ any test (flat es)
    whole [] = refl
    whole (x ∷ es) = one (test x.1.delivery) (any test (flat es)) x (filter (λ (y : Entry). test y.1.delivery) es) (whole es)

or_four : (a b c d : Bool) → ((a || b) || (c || d)) ≡ ((a || c) || (b || d))
or_four true b c d = refl
or_four false true true d = refl
or_four false true false d = refl
or_four false false c d = refl

-- who passes one of two tests
any_either : (p q r : Delivery → Bool) (items : List Item) → ((d : Delivery) → (p d || q d) ≡ r d) → (any p items || any q items) ≡ any r items
any_either p q r [] e = refl
any_either p q r (i ∷ items) e =
    or_four (p i.delivery) (any p items) (q i.delivery) (any q items) ∙ ap (λ b. b || (any p items || any q items)) (e i.delivery) ∙ ap (λ b. r i.delivery || b) (any_either p q r items e)

any_same : (p q : Delivery → Bool) (items : List Item) → ((d : Delivery) → p d ≡ q d) → any p items ≡ any q items
any_same p q [] e = refl
any_same p q (i ∷ items) e = ap (λ b. b || any p items) (e i.delivery) ∙ ap (λ b. q i.delivery || b) (any_same p q items e)

any_none : (p : Delivery → Bool) (items : List Item) → ((d : Delivery) → p d ≡ false) → any p items ≡ false
any_none p [] e = refl
any_none p (i ∷ items) e = ap (λ b. b || any p items) (e i.delivery) ∙ any_none p items e

-- one column more
any_column : (o n : ℕ) (front : Bool) (test : Delivery → Bool) (items : List Item) → front ≡ any (in_columns o n) items → ((d : Delivery) → in_column o n d ≡ test d) → (front || any test items) ≡ any (in_columns o (n + 1)) items
any_column o n front test items e same =
    ap (λ b. b || any test items) e ∙ ap (λ b. any (in_columns o n) items || b) (any_same test (in_column o n) items (λ d. sym (same d))) ∙ any_either (in_columns o n) (in_column o n) (in_columns o (n + 1)) items (columns_more o n)

-- who waits at an object waits in one of its lines, or in none
pub any_waiting : (o : ℕ) (items : List Item) → has_waiters o items ≡ list_any (λ (i : Item). waits_at o i.delivery) items
any_waiting o items =
    let c1 = more 0 false WaitKind.Acquire refl (sym (any_none (in_columns o 0) items (no_columns o))) in
    let c2 = more 1 _ WaitKind.Lock refl c1 in
    let c3 = more 2 _ WaitKind.Put refl c2 in
    let c4 = more 3 _ WaitKind.Take refl c3 in
    let c5 = more 4 _ WaitKind.Place refl c4 in
    let c6 = more 5 _ WaitKind.Slot refl c5 in
    let c7 = more 6 _ WaitKind.TakeOffer refl c6 in
    any_column o 7 _ (waits_in_none o) items c7 (none_key o) ∙ any_same (in_columns o 8) (waits_at o) items (all_columns o)
  where
    more : (n : ℕ) (front : Bool) (kind : WaitKind) → line_column kind ≡ n → front ≡ any (in_columns o n) items → (front || has_line kind o items) ≡ any (in_columns o (n + 1)) items
    more n front kind at e = any_column o n front (waits_in_line kind o) items e (λ d. ap (λ m. in_column o m d) (sym at) ∙ line_key kind o d)

-- ---- where nobody does

not_any : {X : Type 0} (p : X → Bool) (xs : List X) (x : X) → list_any p xs ≡ false → In x xs → p x ≡ false
not_any p [] x e h = absurd h
not_any p (y ∷ xs) x e (inl same) = ap p (sym same) ∙ (or_parts (p y) (list_any p xs) e).0
not_any p (y ∷ xs) x e (inr h) = not_any p xs x (or_parts (p y) (list_any p xs) e).1 h

-- a class at another object is not touched by touching this one
still-closed : (o : ℕ) (t : SeenTouched) (c : Class) → is_at o c ≡ false → reopened t c ≡ false → reopened (record t { objects = inserted o t.objects }) c ≡ false
still-closed o t Class.Always other e = e
still-closed o t (Class.AtMoment deadline) other e = e
still-closed o t (Class.OfEnds targets need) other e = e
still-closed o t (Class.AtObject p) other e = by (is_among o t.objects)
  where
    apart : (p == o) ≡ false
    apart = ne_eqb p o (λ s. true≢false (sym (eq-eqb o p (sym s)) ∙ other))

    by : (b : Bool) → list_any (λ r. p == r) (if b then t.objects else (t.objects ++ o ∷ [])) ≡ false
    by true = e
    by false = sym (any_more p t.objects o) ∙ ap (λ b. b || (p == o)) e ∙ apart

-- where nobody waits at an object, it need not be touched
pub kept_unawaited : (o : ℕ) (t : SeenTouched) (s : State) → list_any (λ (i : Item). waits_at o i.delivery) s.items ≡ false → IsUpToDate (with_touched (Some o) t) s → IsUpToDate t s
kept_unawaited o t s none h = by (nat_lt o t.rooms) h
  where
    u : SeenTouched
    u = record t { objects = inserted o t.objects }

    by : (b : Bool) → IsUpToDate (if b then u else t) s → IsUpToDate t s
    by false k = k
    by true k = record {
      agrees = each_of (Agrees (reopened t) (holds s)) s.items (λ i m e. at_in (Agrees (reopened u) (holds s)) s.items i k.agrees m (still-closed o t (class_of i.delivery) (not_any (λ (j : Item). waits_at o j.delivery) s.items i none m) e));
      front = k.front;
      past = k.past;
      marked = each_of (HasMark t) s.items (λ i m. at_in (HasMark u) s.items i k.marked m);
      rooms = k.rooms;
    }
