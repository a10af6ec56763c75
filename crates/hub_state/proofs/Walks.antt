-- A walk over the items in order of making.
use Rattle.std.proofs.Common.{◌≡◌, ◌≢◌, refl, ap, sym, ◌∙◌, subst, ℕ, suc, Bool, true, false, cond, not, List, [], ◌∷◌, ◌++◌, filter, length, Option, Some, None, IsSome, rules}
use Rattle.std.proofs.lemmas.List.{map-append}
use Rattle.item_places.specs.Items.{Lacks, Differ}
use Rattle.slot_chains.specs.Chained.{first_of}
use Rattle.machine.specs.declared.items.Delivery.{Delivery}
use Rattle.machine.specs.declared.items.Item.{Item}
use Rattle.held_items.specs.Entries.{Entry, flat, item_in, slots_of, with_ready}
use Rattle.held_items.proofs.Dropping.{behind, behind_is}
use Rattle.held_items.proofs.EntryLemmas.{is_other, is_same}

pub length_flat : (es : List Entry) → length es ≡ length (flat es)
length_flat [] = refl
length_flat (e ∷ es) = ap suc (length_flat es)

pub flat_kept : (test : Delivery → Bool) (es : List Entry) → flat (filter (λ (e : Entry). not (test e.1.delivery)) es) ≡ filter (λ (i : Item). not (test i.delivery)) (flat es)
flat_kept test [] = refl
flat_kept test (e ∷ es) = by (test e.1.delivery) (flat_kept test es)
  where
    by : (b : Bool) → flat (filter (λ (x : Entry). not (test x.1.delivery)) es) ≡ filter (λ (i : Item). not (test i.delivery)) (flat es) →
        flat (cond (not b) (e ∷ filter (λ (x : Entry). not (test x.1.delivery)) es) (filter (λ (x : Entry). not (test x.1.delivery)) es)) ≡ cond (not b) (e.1 ∷ filter (λ (i : Item). not (test i.delivery)) (flat es)) (filter (λ (i : Item). not (test i.delivery)) (flat es))
    by true r = r
    by false r = ap (λ xs. e.1 ∷ xs) r

-- ---- where a walk stands

-- an item in this slot is the first of these, and the others follow
pub record IsFirst (q : ℕ) (rest : List Entry) : Type 0 where
  pub item : Item
  pub others : List Entry
  pub is : rest ≡ (q, item) ∷ others

pub first_is : (q : ℕ) (at : Option ℕ) (rest : List Entry) → at ≡ first_of (slots_of rest) None → at ≡ Some q → IsFirst q rest
first_is q at [] h e = absurd (cc)
first_is q at (x ∷ rest) h e = let same : x.0 ≡ q = cc in record { item = x.1; others = rest; is = ap (λ p. (p, x.1) ∷ rest) same }

pub none_is : (at : Option ℕ) (rest : List Entry) → at ≡ first_of (slots_of rest) None → at ≡ None → rest ≡ []
none_is at [] h e = refl
none_is at (x ∷ rest) h e = absurd (cc)

-- the slots of the items before this one, its own, and those of the others
pub slots_there : (front : List Entry) (q : ℕ) (i : Item) (others : List Entry) → slots_of (front ++ (q, i) ∷ others) ≡ slots_of front ++ q ∷ slots_of others
slots_there front q i others = map-append (λ (e : Entry). e.0) front ((q, i) ∷ others)

pub flat_there : (front : List Entry) (q : ℕ) (i : Item) (others : List Entry) → flat (front ++ (q, i) ∷ others) ≡ flat front ++ i ∷ flat others
flat_there front q i others = map-append (λ (e : Entry). e.1) front ((q, i) ∷ others)

apart_there : (q p : ℕ) (i : Item) (front others : List Entry) → Lacks p (slots_of (front ++ (q, i) ∷ others)) → p ≢ q
apart_there q p i [] others l = l.0
apart_there q p i (x ∷ front) others l = apart_there q p i front others l.1

pub item_there : (q : ℕ) (i : Item) (front others : List Entry) → Differ (slots_of (front ++ (q, i) ∷ others)) → item_in q (front ++ (q, i) ∷ others) ≡ Some i
item_there q i [] others d = rw (is_same q q refl) refl
item_there q i (x ∷ front) others d = rw (is_other x.0 q (apart_there q x.0 i front others d.0)) (item_there q i front others d.1)

pub absent : (q : ℕ) (n : Option ℕ) (es : List Entry) → Lacks q (slots_of es) → with_ready q n es ≡ es
absent q n [] l = refl
absent q n (x ∷ es) l = rw (is_other x.0 q (λ g. l.0 (sym g))) (ap (λ xs. x ∷ xs) (absent q n es l.1))

pub ready_there : (q : ℕ) (n : Option ℕ) (i : Item) (front others : List Entry) → Differ (slots_of (front ++ (q, i) ∷ others)) →
    with_ready q n (front ++ (q, i) ∷ others) ≡ front ++ (q, record i { ready = n }) ∷ others
ready_there q n i [] others d = rw (is_same q q refl) (ap (λ xs. (q, record i { ready = n }) ∷ xs) (absent q n others d.0))
ready_there q n i (x ∷ front) others d = rw (is_other x.0 q (apart_there q x.0 i front others d.0)) (ap (λ xs. x ∷ xs) (ready_there q n i front others d.1))

-- how many items a walk still comes to
pub left_is : (at : Option ℕ) (front rest : List Entry) → Differ (slots_of (front ++ rest)) → at ≡ first_of (slots_of rest) None → behind at (slots_of (front ++ rest)) ≡ length rest
left_is at front rest d e =
    let apart : slots_of (front ++ rest) ≡ slots_of front ++ slots_of rest = map-append (λ (x : Entry). x.0) front rest in
    ap (λ a. behind a (slots_of (front ++ rest))) e
    ∙ ap (λ qs. behind (first_of (slots_of rest) None) qs) apart
    ∙ behind_is (slots_of front) (slots_of rest) (subst Differ apart d)
    ∙ slots_length rest
  where
    slots_length : (es : List Entry) → length (slots_of es) ≡ length es
    slots_length [] = refl
    slots_length (x ∷ es) = ap suc (slots_length es)

-- ---- one item is looked at

pub is_there : (o : Option Item) (i : Item) → o ≡ Some i → IsSome o
is_there None i e = absurd (cc)
is_there (Some j) i e = search rules
