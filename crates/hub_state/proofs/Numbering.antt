-- Numbers of slots are taken and given, one after another.
use Rattle.std.proofs.Common.{◌≡◌, ◌≢◌, refl, sym, ap, ◌∙◌, subst, ℕ, ◌+◌, ◌<◌, ◌==◌, Bool, true, false, cond, List, [], ◌∷◌, Option, Some, None, inl, inr, arith}
use Rattle.std.proofs.lemmas.Bool.{eq-eqb, eqb-true, ne_eqb}
use Rattle.std.proofs.lemmas.List.Sorted.{Contains-permutation, IsPermutation-map, IsPermutation-sym}
use Rattle.std.specs.List.{Contains}
use Rattle.std.specs.List.Sorted.{IsPermutation}
use Rattle.std.specs.Prelude.{is_some, option_map}
use Rattle.item_places.specs.Items.{Differ, Lacks}
use Rattle.item_places.proofs.ItemLemmas.{absent_of_lacks}
use Rattle.machine.specs.declared.items.Item.{Item}
use Rattle.machine.specs.State.{State}
use Rattle.machine_settling.specs.Numbers.{gives_all, gives_number, renumbered, takes_all, takes_number}
use Rattle.machine_settling.proofs.Members.{In, contains_of_in}
use Rattle.hub_items.specs.Sound.{AscendTo}
use Rattle.held_items.specs.Entries.{Entry, SeenItems, flat, item_in, slots_of, with_ready}
use Rattle.held_items.specs.Held.{numbered, unnumbered}
use Rattle.held_items.specs.Moments.{slots_in}
use Rattle.held_items.proofs.EntryLemmas.{item_renumbered}
use Rattle.held_items.proofs.Ordering.{since_above}
use Rattle.hub_state.specs.Found.{AreReady, HasReady, sinces_in}
use Rattle.hub_state.specs.Over.{over, with_held}
use Rattle.hub_state.proofs.Finding.{in_map}
use Rattle.hub_state.proofs.Sorting.{differ_moved}
use Rattle.hub_state.proofs.Walks.{absent}

-- ---- a number is written

-- later items have other sinces
renumbered_later : (since : ℕ) (n : Option ℕ) (low next : ℕ) (items : List Item) → since < low → AscendTo low next items → renumbered since n items ≡ items
renumbered_later since n low next [] l a = refl
renumbered_later since n low next (i ∷ items) l a =
    let above = a.above in
    rw (ne_eqb i.since since (λ e. omega (arith, e, above, l))) (ap (λ xs. i ∷ xs) (renumbered_later since n (i.since + 1) next items (omega (arith, above, l)) a.rest))

-- what is written in a slot is written to the item of its since
flat_ready : (q : ℕ) (n : Option ℕ) (low next : ℕ) (es : List Entry) (i : Item) → AscendTo low next (flat es) → Differ (slots_of es) → item_in q es ≡ Some i → flat (with_ready q n es) ≡ renumbered i.since n (flat es)
flat_ready q n low next [] i a d h = absurd (cc h)
flat_ready q n low next (e ∷ es) i a d h = by (e.0 == q) refl h (flat_ready q n (e.1.since + 1) next es i a.rest d.1)
  where
    by : (b : Bool) → (e.0 == q) ≡ b → cond b (Some e.1) (item_in q es) ≡ Some i → (item_in q es ≡ Some i → flat (with_ready q n es) ≡ renumbered i.since n (flat es)) →
        flat (cond b (e.0, record e.1 { ready = n }) e ∷ with_ready q n es) ≡ renumbered i.since n (e.1 ∷ flat es)
    by true t g more =
        let same : e.1 ≡ i = cc g in
        let none : with_ready q n es ≡ es = absent q n es (subst (λ p. Lacks p (slots_of es)) (eqb-true e.0 q t) d.0) in
        rw (eq-eqb e.1.since i.since (ap (λ (x : Item). x.since) same))
        (ap (λ xs. record e.1 { ready = n } ∷ xs) (ap flat none ∙ sym (renumbered_later i.since n (e.1.since + 1) next (flat es) (let s : e.1.since ≡ i.since = ap (λ (x : Item). x.since) same in omega (arith, s)) a.rest)))
    by false t g more =
        let above = since_above (e.1.since + 1) next q es i a.rest g in
        rw (ne_eqb e.1.since i.since (λ s. omega (arith, above, s))) (ap (λ xs. e.1 ∷ xs) (more g))

-- another slot has the item that it had
ready_elsewhere : (numbered : Bool) (q : ℕ) (n : Option ℕ) (es : List Entry) (p : ℕ × ℕ) → p.1 ≢ q → HasReady numbered es p → HasReady numbered (with_ready q n es) p
ready_elsewhere b q n es p apart h = record {
  item = h.item;
  there = item_renumbered p.1 q n es ∙ ap (λ c. cond c (option_map (λ (i : Item). record i { ready = n }) (item_in p.1 es)) (item_in p.1 es)) (ne_eqb q p.1 (λ e. apart (sym e))) ∙ h.there;
  since = h.since;
  ready = h.ready;
}

apart_from : (q : ℕ) (ps : List (ℕ × ℕ)) (p : ℕ × ℕ) → Lacks q (slots_in ps) → In p ps → p.1 ≢ q
apart_from q ps p l h e = absent_of_lacks q (slots_in ps) l (subst (λ x. Contains (slots_in ps) x) e (contains_of_in (slots_in ps) p.1 (in_map (λ (r : ℕ × ℕ). r.1) ps p h)))

-- ---- numbers are taken

-- who has none has none afterwards
kept_none : (q : ℕ) (es : List Entry) (p : ℕ × ℕ) → HasReady false es p → HasReady false (with_ready q None es) p
kept_none q es p h = by (q == p.1) refl
  where
    by : (b : Bool) → (q == p.1) ≡ b → HasReady false (with_ready q None es) p
    by true t = record {
      item = record h.item { ready = None };
      there = item_renumbered p.1 q None es ∙ ap (λ c. cond c (option_map (λ (i : Item). record i { ready = None }) (item_in p.1 es)) (item_in p.1 es)) t ∙ ap (λ o. option_map (λ (i : Item). record i { ready = None }) o) h.there;
      since = h.since;
      ready = refl;
    }
    by false t = record {
      item = h.item;
      there = item_renumbered p.1 q None es ∙ ap (λ c. cond c (option_map (λ (i : Item). record i { ready = None }) (item_in p.1 es)) (item_in p.1 es)) t ∙ h.there;
      since = h.since;
      ready = h.ready;
    }

-- what is left to take is all that there was to take
pub record Takes (all rest : List (ℕ × ℕ)) (old now : SeenItems) : Type 0 where
  pub apart : Differ (slots_in rest)
  pub there : (p : ℕ × ℕ) → In p rest → HasReady true now.entries p
  pub states : (s : State) → takes_all (sinces_in rest) (with_held now s) ≡ takes_all (sinces_in all) (with_held old s)
  pub kept : (p : ℕ × ℕ) → HasReady false old.entries p → HasReady false now.entries p
  pub next : now.next ≡ old.next

pub takes_none : (all : List (ℕ × ℕ)) (old : SeenItems) → AreReady true old.entries all → Takes all all old old
takes_none all old a = record { apart = a.apart; there = λ p h. a.there p (contains_of_in all p h); states = λ s. refl; kept = λ p h. h; next = refl }

pub takes_more : (all rest : List (ℕ × ℕ)) (p : ℕ × ℕ) (old now : SeenItems) → Differ (slots_of now.entries) → AscendTo 0 now.next_since (flat now.entries) → Takes all (p ∷ rest) old now → Takes all rest old (unnumbered p.1 now)
takes_more all rest p old now d a t =
    let h = t.there p (inl refl) in
    record {
      apart = t.apart.1;
      there = λ r k. ready_elsewhere true p.1 None now.entries r (apart_from p.1 rest r t.apart.0 k) (t.there r (inr k));
      states = λ s. (let written : with_held (unnumbered p.1 now) s ≡ takes_number p.0 (with_held now s) =
          ap (λ xs. over xs now.next now.next_since s) (flat_ready p.1 None 0 now.next_since now.entries h.item a d h.there ∙ ap (λ n. renumbered n None (flat now.entries)) h.since) in
          ap (takes_all (sinces_in rest)) written ∙ t.states s);
      kept = λ r k. kept_none p.1 now.entries r (t.kept r k);
      next = t.next;
    }

-- ---- numbers are given

-- what is left to give is all that there was to give
pub record Gives (all rest : List (ℕ × ℕ)) (k : ℕ) (old now : SeenItems) : Type 0 where
  pub apart : Differ (slots_in rest)
  pub there : (p : ℕ × ℕ) → In p rest → HasReady false now.entries p
  pub states : (s : State) → gives_all (sinces_in rest) (with_held now s) ≡ gives_all (sinces_in all) (with_held old s)
  pub next : now.next ≡ old.next + k

pub gives_none : (all : List (ℕ × ℕ)) (old : SeenItems) → AreReady false old.entries all → Gives all all 0 old old
gives_none all old a = record { apart = a.apart; there = λ p h. a.there p (contains_of_in all p h); states = λ s. refl; next = omega arith }

pub gives_more : (all rest : List (ℕ × ℕ)) (k : ℕ) (p : ℕ × ℕ) (old now : SeenItems) → Differ (slots_of now.entries) → AscendTo 0 now.next_since (flat now.entries) → Gives all (p ∷ rest) k old now →
    Gives all rest (k + 1) old (numbered p.1 now)
gives_more all rest k p old now d a t =
    let h = t.there p (inl refl) in
    record {
      apart = t.apart.1;
      there = λ r m. ready_elsewhere false p.1 (Some now.next) now.entries r (apart_from p.1 rest r t.apart.0 m) (t.there r (inr m));
      states = λ s. (let written : with_held (numbered p.1 now) s ≡ gives_number p.0 (with_held now s) =
          ap (λ xs. over xs (now.next + 1) now.next_since s) (flat_ready p.1 (Some now.next) 0 now.next_since now.entries h.item a d h.there ∙ ap (λ n. renumbered n (Some now.next) (flat now.entries)) h.since) in
          ap (gives_all (sinces_in rest)) written ∙ t.states s);
      next = let e = t.next in omega (arith, e);
    }

-- in another order they are the same
pub ready_moved : (numbered : Bool) (es : List Entry) (ps qs : List (ℕ × ℕ)) → IsPermutation ps qs → AreReady numbered es ps → AreReady numbered es qs
ready_moved b es ps qs m a = record {
  apart = differ_moved (slots_in ps) (slots_in qs) (IsPermutation-map (λ p. p.1) ps qs m) a.apart;
  there = λ p h. a.there p (Contains-permutation qs ps p (IsPermutation-sym ps qs m) h);
}

-- the item of the slot may lose its number, or get one
pub may_lose : (es : List Entry) (p : ℕ × ℕ) → HasReady true es p → (i : Item) × (item_in p.1 es ≡ Some i) × (is_some i.ready ≡ true)
may_lose es p h = (h.item, h.there, h.ready)

pub may_gain : (es : List Entry) (p : ℕ × ℕ) → HasReady false es p → (i : Item) × (item_in p.1 es ≡ Some i) × (i.ready ≡ None)
may_gain es p h = (h.item, h.there, none h.item.ready h.ready)
  where
    none : (r : Option ℕ) → is_some r ≡ false → r ≡ None
    none None e = refl
    none (Some n) e = absurd (cc e)
