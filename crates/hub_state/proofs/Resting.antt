-- Where nothing was touched since the last settling, and no moment has come, another changes nothing.
use Rattle.std.proofs.Common.{◌≡◌, refl, sym, ap, ◌∙◌, subst, ℕ, ◌≤◌, Bool, true, false, cond, List, [], ◌∷◌, length, Option, Some, None, inl, inr, arith}
use Rattle.std.proofs.lemmas.Bool.{le-leb, true≢false}
use Rattle.std.proofs.lemmas.Bool.Decides.{nat_tests}
use Rattle.std.specs.List.{Contains, list_any}
use Rattle.std.specs.Prelude.{◌==◌, filter, is_none, is_some}
use Rattle.machine.specs.declared.items.Item.{Item}
use Rattle.machine.specs.Holds.{holds}
use Rattle.machine.specs.Questions.{deadline_of, is_numbered, least_deadline, lesser}
use Rattle.machine.specs.Settle.{settle}
use Rattle.machine.specs.State.{State}
use Rattle.machine_settling.specs.Classes.{Class, class_of, is_of}
use Rattle.machine_settling.specs.Locality.{AgreesOutside}
use Rattle.machine_settling.specs.Numbers.{losing, needing}
use Rattle.machine_settling.specs.Steps.{nothing}
use Rattle.machine_settling.proofs.Members.{In}
use Rattle.machine_settling.proofs.Parts.{at_in, only_touched}
use Rattle.machine_settling.proofs.Settles.{settle-rest}
use Rattle.held_items.specs.Entries.{Entry, SeenItems, flat}
use Rattle.held_items.specs.Lined.{is_unnumbered}
use Rattle.held_items.specs.Waits.{target_of}
use Rattle.held_items.specs.declared.waits.Target.{Target}
use Rattle.hub_state.specs.Rest.{has_come}
use Rattle.hub_state.specs.Touched.{HasCome, IsKept, IsMade, IsPast, SeenTouched, is_touched, reopened}
use Rattle.hub_state.proofs.Classes.{due_holds}
use Rattle.hub_state.proofs.Coming.{deadline_is, moment_of}
use Rattle.hub_state.proofs.Finding.{map_in}
use Rattle.hub_state.proofs.Touching.{each_of}
use Rattle.hub_state.proofs.UpToDate.{holds_always}

-- ---- deadlines

-- where the lesser of two has not come, neither has
neither : (moment : ℕ) (a b : Option ℕ) → has_come moment (lesser a b) ≡ false → (has_come moment a ≡ false) × (has_come moment b ≡ false)
neither moment None b e = (refl, e)
neither moment (Some a) None e = (e, refl)
neither moment (Some a) (Some b) e = (grind (arith, nat_tests, e), grind (arith, nat_tests, e))

-- where the least of those without a number has not come, none has
not_come : (moment : ℕ) (items : List Item) (i : Item) → In i items → is_unnumbered i ≡ true → has_come moment (least_deadline (filter is_unnumbered items)) ≡ false →
    has_come moment (deadline_of i.delivery) ≡ false
not_come moment [] i k n e = absurd k
not_come moment (j ∷ items) i (inl q) n e = first (is_unnumbered j) (ap is_unnumbered q ∙ n) e
  where
    first : (b : Bool) → b ≡ true → has_come moment (least_deadline (cond b (j ∷ filter is_unnumbered items) (filter is_unnumbered items))) ≡ false → has_come moment (deadline_of i.delivery) ≡ false
    first true t h = ap (λ (x : Item). has_come moment (deadline_of x.delivery)) (sym q) ∙ (neither moment (deadline_of j.delivery) (least_deadline (filter is_unnumbered items)) h).0
    first false t h = absurd (true≢false (sym t))
not_come moment (j ∷ items) i (inr k) n e = later (is_unnumbered j) e (not_come moment items i k n)
  where
    later : (b : Bool) → has_come moment (least_deadline (cond b (j ∷ filter is_unnumbered items) (filter is_unnumbered items))) ≡ false →
        (has_come moment (least_deadline (filter is_unnumbered items)) ≡ false → has_come moment (deadline_of i.delivery) ≡ false) → has_come moment (deadline_of i.delivery) ≡ false
    later true h rest = rest (neither moment (deadline_of j.delivery) (least_deadline (filter is_unnumbered items)) h).1
    later false h rest = rest h

-- ---- all items

pub nothing_listed : (xs : List ℕ) (b : Bool) → b ≡ (length xs == 0) → b ≡ true → xs ≡ []
nothing_listed [] b e f = refl
nothing_listed (x ∷ xs) b e f = absurd (let some : (length (x ∷ xs) == 0) ≡ false = grind (arith, nat_tests) in true≢false (sym f ∙ e ∙ some))

in_entry : (es : List Entry) (i : Item) → In i (flat es) → (e : Entry) × In e es × (e.1 ≡ i)
in_entry es i k = map_in (λ (e : Entry). e.1) es i k

none_of_nothing : (items : List Item) → filter (is_of nothing) items ≡ []
none_of_nothing [] = refl
none_of_nothing (i ∷ items) = none_of_nothing items

-- each item has a number exactly where it holds
agrees_all : (held : SeenItems) (t : SeenTouched) (s : State) → s.items ≡ flat held.entries → IsKept held t s → t.several ≡ false → t.ends ≡ [] → t.objects ≡ [] → t.made ≡ [] →
    has_come s.moment (least_deadline (filter is_unnumbered (flat held.entries))) ≡ false → AgreesOutside nothing s
agrees_all held t s items k several ends objects made none = each_of (λ i. nothing (class_of i.delivery) ≡ false → is_numbered i ≡ holds s i) s.items (λ i h e. each i h (class_of i.delivery) refl)
  where
    apart : (i : Item) → In i s.items → reopened t (class_of i.delivery) ≡ false → is_numbered i ≡ holds s i
    apart i h e = at_in (λ j. reopened t (class_of j.delivery) ≡ false → is_numbered j ≡ holds s j) s.items i k.current.agrees h e

    off : (target : Target) → is_touched t target ≡ false
    off Target.Several = several
    off (Target.One n) = ap (list_any (λ m. n == m)) ends

    free : (i : Item) → In i s.items → class_of i.delivery ≡ Class.Always → (r : Option ℕ) → i.ready ≡ r → is_some r ≡ true
    free i h c (Some n) e = refl
    free i h c None e =
        let there = in_entry held.entries i (subst (In i) items h) in
        let x = there.0 in
        let m = at_in (IsMade t.made) held.entries x k.pending there.1 (ap (λ (j : Item). class_of j.delivery) there.2 ∙ c) (ap (λ (j : Item). j.ready) there.2 ∙ e) in
        let none = (subst (λ qs. Contains qs x.0) made m).1 in
        absurd (omega (arith, none))

    timed : (i : Item) → In i s.items → (deadline : ℕ) → class_of i.delivery ≡ Class.AtMoment deadline → (r : Option ℕ) → i.ready ≡ r → is_some r ≡ holds s i
    timed i h deadline c (Some n) e =
        let past : deadline ≤ s.moment = subst (HasCome s.moment) c (at_in (IsPast s.moment) s.items i k.current.past h (ap is_some e)) in
        sym (due_holds s i deadline c ∙ le-leb deadline s.moment past)
    timed i h deadline c None e =
        let not_yet = not_come s.moment (flat held.entries) i (subst (In i) items h) (ap is_none e) none in
        sym (due_holds s i deadline c ∙ subst (λ o. has_come s.moment o ≡ false) (deadline_is i.delivery ∙ ap moment_of c) not_yet)

    each : (i : Item) → In i s.items → (c : Class) → class_of i.delivery ≡ c → is_numbered i ≡ holds s i
    each i h Class.Always c = free i h c i.ready refl ∙ sym (holds_always s i.since i.delivery c)
    each i h (Class.AtMoment deadline) c = timed i h deadline c i.ready refl
    each i h (Class.OfEnds targets need) c = apart i h (ap (reopened t) c ∙ off (target_of targets))
    each i h (Class.AtObject o) c = apart i h (ap (reopened t) c ∙ ap (λ ps. list_any (λ p. o == p) ps) objects)

-- so a settling changes nothing
pub settled_at_rest : (held : SeenItems) (t : SeenTouched) (s : State) → s.items ≡ flat held.entries → IsKept held t s → t.several ≡ false → t.ends ≡ [] → t.objects ≡ [] → t.made ≡ [] →
    has_come s.moment (least_deadline (filter is_unnumbered (flat held.entries))) ≡ false → settle s ≡ s
settled_at_rest held t s items k several ends objects made none =
    let only = only_touched nothing s (agrees_all held t s items k several ends objects made none) in
    settle-rest s (only.needs_is ∙ ap (needing (holds s)) (none_of_nothing s.items)) (only.loses_is ∙ ap (losing (holds s)) (none_of_nothing s.items))
