-- The due line as a chain, as a slot gets or loses its number; and what holds of each slot that has an item.
use Rattle.std.proofs.Common.{◌≡◌, ℕ, ◌+◌, ◌≤◌, ◌==◌, Bool, true, false, cond, List, [], ◌∷◌, ◌++◌, Option, Some, None, refl, sym, ap, ◌∙◌, subst, arith, inl, inr, Contains}
use Rattle.std.specs.Prelude.{is_some, option_map}
use Rattle.std.proofs.lemmas.Bool.{cases_eq}
use Rattle.std.proofs.lemmas.Bool.Decides.{nat_tests}
use Rattle.item_places.specs.Items.{items_of, without_entry, without_number, Lacks}
use Rattle.item_places.proofs.ItemLemmas.{test_keeps, test_drops, items_joined, items_without, lacks_of_absent}
use Rattle.slot_chains.specs.Tables.{no_chains}
use Rattle.slot_chains.specs.Chained.{AreChains, pushed}
use Rattle.slot_chains.proofs.Chaining.{chains_none, chains_alike, standing}
use Rattle.machine.specs.declared.items.Item.{Item}
use Rattle.held_items.specs.Entries.{Entry, item_in, with_ready, without_slot}
use Rattle.held_items.specs.Due.{AreDue, IsRising, IsDueLine, HasDueRoom, only}
use Rattle.held_items.specs.declared.due.DueLine.{DueLine}
use Rattle.held_items.proofs.EntryLemmas.{item_pushed, item_without, item_renumbered}
use Rattle.held_items.proofs.LineSteps.{due_there, due_absent, due_ready, due_unready, due_gone}

-- ---- one chain

only_nothing : (k : ℕ) → only [] k ≡ []
only_nothing k = by (k == 0)
  where
    by : (b : Bool) → ◌≡◌ {A = List ℕ} (cond b [] []) []
    by true = refl
    by false = refl

only_pushed : (q : ℕ) (qs : List ℕ) (k : ℕ) → only (qs ++ q ∷ []) k ≡ pushed 0 q (only qs) k
only_pushed q qs k = by (k == 0)
  where
    by : (b : Bool) → cond b (qs ++ q ∷ []) [] ≡ cond b (cond b qs [] ++ q ∷ []) (cond b qs [])
    by true = refl
    by false = refl

only_without : (q : ℕ) (qs : List ℕ) (k : ℕ) → only (without_number q qs) k ≡ without_number q (only qs k)
only_without q qs k = by (k == 0)
  where
    by : (b : Bool) → cond b (without_number q qs) [] ≡ without_number q (cond b qs [])
    by true = refl
    by false = refl

only_lacks : (q : ℕ) (qs : List ℕ) (k : ℕ) → Lacks q qs → Lacks q (only qs k)
only_lacks q qs k l = by (k == 0)
  where
    by : (b : Bool) → Lacks q (cond b qs [])
    by true = l
    by false = tt

-- ---- numbers that rise

rising_lower : (low low' : ℕ) (es : List (ℕ × ℕ)) (high : ℕ) → low ≤ low' → IsRising low' es high → IsRising low es high
rising_lower low low' [] high le h = omega arith
rising_lower low low' (e ∷ es) high le h = (let a = h.0 in omega arith, h.1)

rising_last : (low : ℕ) (es : List (ℕ × ℕ)) (high x : ℕ) → IsRising low es high → IsRising low (es ++ (x, high) ∷ []) (high + 1)
rising_last low [] high x h = (h, omega arith)
rising_last low (e ∷ es) high x h = (h.0, rising_last (e.1 + 1) es high x h.1)

rising_without : (low : ℕ) (es : List (ℕ × ℕ)) (high x : ℕ) → IsRising low es high → IsRising low (without_entry x es) high
rising_without low [] high x h = h
rising_without low (e ∷ es) high x h = elim (cases_eq e.0 x) [
  | inl same ↦ rw (test_drops e.0 x same) (rising_lower low (e.1 + 1) (without_entry x es) high (let a = h.0 in omega arith) (rising_without (e.1 + 1) es high x h.1))
  | inr differs ↦ rw (test_keeps e.0 x (λ g. differs (sym g))) (h.0, rising_without (e.1 + 1) es high x h.1)
]

-- ---- the line

pub line_none : (d : DueLine) (m : ℕ → Option ℕ) → d.order ≡ no_chains → ((q : ℕ) → m q ≡ None) → IsDueLine d m
line_none d m e none = record {
  line = [];
  chain = chains_none d.order (only []) e only_nothing;
  rising = omega arith;
  due = record { has = λ q n h. absurd (let g = none q in cc); only = λ q n h. absurd (omega (arith, h.1)) };
}

pub line_longer : (d d' : DueLine) (m : ℕ → Option ℕ) → ((f : ℕ → List ℕ) → AreChains d.order f → AreChains d'.order f) → d'.next ≡ d.next → IsDueLine d m → IsDueLine d' m
line_longer d d' m chains next is = record {
  line = is.line;
  chain = chains (only (items_of is.line)) is.chain;
  rising = subst (λ h. IsRising 0 is.line h) (sym next) is.rising;
  due = is.due;
}

pub line_ready : (d d' : DueLine) (m n : ℕ → Option ℕ) (q : ℕ) → IsDueLine d m → m q ≡ None → ((p : ℕ) → n p ≡ cond (q == p) (Some d.next) (m p)) →
    ((f : ℕ → List ℕ) → AreChains d.order f → ((k : ℕ) → Lacks q (f k)) → AreChains d'.order (pushed 0 q f)) → d'.next ≡ d.next + 1 → IsDueLine d' n
line_ready d d' m n q is free e chains next = record {
  line = is.line ++ (q, d.next) ∷ [];
  chain = chains_alike d'.order (pushed 0 q (only (items_of is.line))) (only (items_of (is.line ++ (q, d.next) ∷ [])))
      (λ k. ap (λ qs. only qs k) (items_joined is.line ((q, d.next) ∷ [])) ∙ only_pushed q (items_of is.line) k)
      (chains (only (items_of is.line)) is.chain (λ k. only_lacks q (items_of is.line) k (lacks_of_absent q (items_of is.line) (due_absent is.line m q is.due free))));
  rising = subst (λ h. IsRising 0 (is.line ++ (q, d.next) ∷ []) h) (sym next) (rising_last 0 is.line d.next q is.rising);
  due = due_ready is.line m n q d.next free e is.due;
}

-- a slot with a number stands in the line
line_there : (line : List (ℕ × ℕ)) (m : ℕ → Option ℕ) (q : ℕ) → AreDue line m → is_some (m q) ≡ true → Contains (items_of line) q
line_there line m q due some = by (m q) refl some
  where
    by : (o : Option ℕ) → m q ≡ o → is_some o ≡ true → Contains (items_of line) q
    by None e s = absurd (cc)
    by (Some n) e s = due_there line m q n due e

pub line_room : (d : DueLine) (m : ℕ → Option ℕ) (q : ℕ) → IsDueLine d m → is_some (m q) ≡ true → HasDueRoom d q
line_room d m q is some = standing d.order (only (items_of is.line)) 0 q is.chain (line_there is.line m q is.due some)

pub line_unready : (d d' : DueLine) (m n : ℕ → Option ℕ) (q : ℕ) → IsDueLine d m → is_some (m q) ≡ true → ((p : ℕ) → n p ≡ cond (q == p) None (m p)) →
    ((f : ℕ → List ℕ) → AreChains d.order f → Contains (f 0) q → AreChains d'.order (λ k. without_number q (f k))) → d'.next ≡ d.next → IsDueLine d' n
line_unready d d' m n q is some e chains next = record {
  line = without_entry q is.line;
  chain = chains_alike d'.order (λ k. without_number q (only (items_of is.line) k)) (only (items_of (without_entry q is.line)))
      (λ k. ap (λ qs. only qs k) (items_without q is.line) ∙ only_without q (items_of is.line) k)
      (chains (only (items_of is.line)) is.chain (line_there is.line m q is.due some));
  rising = subst (λ h. IsRising 0 (without_entry q is.line) h) (sym next) (rising_without 0 is.line d.next q is.rising);
  due = due_unready is.line m n q e is.due;
}

-- who has no number loses none
pub line_gone : (d : DueLine) (m n : ℕ → Option ℕ) (q : ℕ) → m q ≡ None → ((p : ℕ) → n p ≡ cond (q == p) None (m p)) → IsDueLine d m → IsDueLine d n
line_gone d m n q none e is = record { line = is.line; chain = is.chain; rising = is.rising; due = due_gone is.line m n q none e is.due }

-- ---- what holds of each slot that has an item

pub held_pushed : (R : ℕ → Type 0) (es : List Entry) (q : ℕ) (i : Item) → item_in q es ≡ None → R q → ((p : ℕ) → is_some (item_in p es) ≡ true → R p) →
    (p : ℕ) → is_some (item_in p (es ++ (q, i) ∷ [])) ≡ true → R p
held_pushed R es q i none here each p h = by (q == p) refl (ap is_some (sym (item_pushed p q i es none)) ∙ h)
  where
    by : (b : Bool) → (q == p) ≡ b → is_some (cond b (Some i) (item_in p es)) ≡ true → R p
    by true t g = let same : q ≡ p = grind (arith, nat_tests) in subst R same here
    by false t g = each p g

pub held_without : (R : ℕ → Type 0) (es : List Entry) (q : ℕ) → ((p : ℕ) → is_some (item_in p es) ≡ true → R p) → (p : ℕ) → is_some (item_in p (without_slot q es)) ≡ true → R p
held_without R es q each p h = by (q == p) (ap is_some (sym (item_without p q es)) ∙ h)
  where
    by : (b : Bool) → is_some (cond b None (item_in p es)) ≡ true → R p
    by true g = absurd (cc)
    by false g = each p g

pub held_renumbered : (R : ℕ → Type 0) (es : List Entry) (q : ℕ) (n : Option ℕ) → ((p : ℕ) → is_some (item_in p es) ≡ true → R p) → (p : ℕ) → is_some (item_in p (with_ready q n es)) ≡ true → R p
held_renumbered R es q n each p h = by (q == p) (item_in p es) refl (ap is_some (sym (item_renumbered p q n es)) ∙ h)
  where
    by : (b : Bool) (o : Option Item) → item_in p es ≡ o → is_some (cond b (option_map (λ (j : Item). record j { ready = n }) o) o) ≡ true → R p
    by b (Some i) e g = each p (ap is_some e)
    by true None e g = absurd (cc)
    by false None e g = absurd (cc)
