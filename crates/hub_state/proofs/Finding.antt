-- What is found as items are looked at, one after another.
use Rattle.std.proofs.Common.{◌≡◌, refl, sym, ap, ◌∙◌, subst, ℕ, Bool, true, false, List, [], ◌∷◌, ◌++◌, Some, ◌⊎◌, inl, inr}
use Rattle.std.proofs.lemmas.Bool.{eq-eqb, eqb-true, ne_eqb, true≢false}
use Rattle.std.proofs.lemmas.List.{map-append}
use Rattle.std.proofs.lemmas.List.Elements.{Contains-append_left, Contains-push, Contains-push_cases}
use Rattle.std.specs.List.{Contains}
use Rattle.std.specs.Prelude.{◌==◌, cond, map}
use Rattle.item_places.specs.Items.{Differ}
use Rattle.item_places.proofs.ItemLemmas.{absent_of_lacks, differ_snoc, lacks_of_absent}
use Rattle.machine.specs.declared.items.Item.{Item}
use Rattle.machine.specs.Holds.{holds}
use Rattle.machine.specs.State.{State}
use Rattle.machine_settling.specs.Numbers.{loses_number, needs_number}
use Rattle.machine_settling.proofs.Members.{In, contains_of_in, in_of_Contains}
use Rattle.held_items.specs.Entries.{Entry, flat, item_in, slots_of}
use Rattle.held_items.specs.Moments.{slots_in}
use Rattle.held_items.proofs.Ordering.{same_item}
use Rattle.hub_state.specs.Found.{AreFound, Finds, IsFound, SeenFound, listed, noted}

-- ---- elements

pub in_map : {X Y : Type 0} (f : X → Y) (xs : List X) (x : X) → In x xs → In (f x) (map f xs)
in_map f [] x h = absurd h
in_map f (y ∷ xs) x (inl e) = inl (ap f e)
in_map f (y ∷ xs) x (inr h) = inr (in_map f xs x h)

pub map_in : {X Y : Type 0} (f : X → Y) (xs : List X) (y : Y) → In y (map f xs) → (x : X) × In x xs × (f x ≡ y)
map_in f [] y h = absurd h
map_in f (x ∷ xs) y (inl e) = (x, inl refl, e)
map_in f (x ∷ xs) y (inr h) = let r = map_in f xs y h in (r.0, inr r.1, r.2)

-- one of these that has this slot
pub pair_of : (ps : List (ℕ × ℕ)) (q : ℕ) → Contains (slots_in ps) q → (p : ℕ × ℕ) × Contains ps p × (p.1 ≡ q)
pair_of ps q h = let r = map_in (λ (p : ℕ × ℕ). p.1) ps q (in_of_Contains (slots_in ps) q h) in (r.0, contains_of_in ps r.0 r.1, r.2)

-- the item of a slot is among the items, in its entry
pub entry_there : (q : ℕ) (es : List Entry) (i : Item) → item_in q es ≡ Some i → In (q, i) es
entry_there q [] i h = absurd (cc h)
entry_there q (e ∷ es) i h = by (e.0 == q) refl h (entry_there q es i)
  where
    by : (b : Bool) → (e.0 == q) ≡ b → cond b (Some e.1) (item_in q es) ≡ Some i → (item_in q es ≡ Some i → In (q, i) es) → In (q, i) (e ∷ es)
    by true t g more = let same : e.1 ≡ i = cc g in let slot : e.0 ≡ q = eqb-true e.0 q t in inl (λ k. (slot k, same k))
    by false t g more = inr (more g)

pub item_of_in : (es : List Entry) (e : Entry) → Differ (slots_of es) → In e es → item_in e.0 es ≡ Some e.1
item_of_in [] e d h = absurd h
item_of_in (x ∷ es) e d (inl s) = rw (eq-eqb x.0 e.0 (ap (λ (y : Entry). y.0) s)) (ap (λ (y : Entry). Some y.1) s)
item_of_in (x ∷ es) e d (inr h) =
    rw (ne_eqb x.0 e.0 (λ s. absent_of_lacks x.0 (slots_of es) d.0 (subst (Contains (slots_of es)) (sym s) (contains_of_in (slots_of es) e.0 (in_map (λ (y : Entry). y.0) es e h))))) (item_of_in es e d.1 h)

pub in_flat : (q : ℕ) (i : Item) (es : List Entry) → item_in q es ≡ Some i → In i (flat es)
in_flat q i es h = in_map (λ (e : Entry). e.1) es (q, i) (entry_there q es i h)

-- ---- the same items were looked at, otherwise said

pub found_as : (seen other : Entry → Type 0) (test : Item → Bool) (es : List Entry) (ps : List (ℕ × ℕ)) →
    ((q : ℕ) (i : Item) → item_in q es ≡ Some i → test i ≡ true → seen (q, i) → other (q, i)) →
    ((q : ℕ) (i : Item) → item_in q es ≡ Some i → test i ≡ true → other (q, i) → seen (q, i)) → AreFound seen test es ps → AreFound other test es ps
found_as seen other test es ps to from a = record {
  apart = a.apart;
  sound = λ p h. (let f = a.sound p h in record { item = f.item; there = f.there; since = f.since; looked = to p.1 f.item f.there f.passes f.looked; passes = f.passes });
  complete = λ q i there o t. a.complete q i there (from q i there t o) t;
}

-- ---- one more is looked at

-- looked at before, or in this slot
abbrev pub Or : (Entry → Type 0) → ℕ → Entry → Type 0
Or seen q e = seen e ⊎ (e.0 ≡ q)

module _ (seen : Entry → Type 0) (test : Item → Bool) (es : List Entry) (q : ℕ) (i : Item) (there : item_in q es ≡ Some i) (ps : List (ℕ × ℕ)) where
  before : AreFound seen test es ps → (p : ℕ × ℕ) → Contains ps p → IsFound (Or seen q) test es p
  before a p h = let f = a.sound p h in record { item = f.item; there = f.there; since = f.since; looked = inl f.looked; passes = f.passes }

  same_in : (r : ℕ) (j : Item) → item_in r es ≡ Some j → r ≡ q → j ≡ i
  same_in r j h e = same_item q es j i (ap (λ p. item_in p es) (sym e) ∙ h) there

  passed : test i ≡ true → (seen (q, i) → ⊥) → AreFound seen test es ps → AreFound (Or seen q) test es (ps ++ (i.since, q) ∷ [])
  passed t new a = record {
    apart = subst Differ (sym slots) (differ_snoc (slots_in ps) q a.apart (lacks_of_absent q (slots_in ps) (λ h. absent (pair_of ps q h))));
    sound = λ p h. sound p (Contains-push_cases ps (i.since, q) p h);
    complete = λ r j h l u. subst (λ qs. Contains qs r) (sym slots) (complete r j h l u);
  }
    where
      slots : slots_in (ps ++ (i.since, q) ∷ []) ≡ slots_in ps ++ q ∷ []
      slots = map-append (λ (p : ℕ × ℕ). p.1) ps ((i.since, q) ∷ [])

      absent : (p : ℕ × ℕ) × Contains ps p × (p.1 ≡ q) → ⊥
      absent (p, h, e) =
          let f = a.sound p h in
          let same : f.item ≡ i = same_in p.1 f.item f.there e in
          new (subst (λ (x : Entry). seen x) (λ k. (e k, same k)) f.looked)

      sound : (p : ℕ × ℕ) → Contains ps p ⊎ ((i.since, q) ≡ p) → IsFound (Or seen q) test es p
      sound p (inl h) = before a p h
      sound p (inr e) = subst (λ (x : ℕ × ℕ). IsFound (Or seen q) test es x) e (record { item = i; there = there; since = refl; looked = inr refl; passes = t })

      complete : (r : ℕ) (j : Item) → item_in r es ≡ Some j → Or seen q (r, j) → test j ≡ true → Contains (slots_in ps ++ q ∷ []) r
      complete r j h (inl l) u = Contains-append_left (slots_in ps) (q ∷ []) r (a.complete r j h l u)
      complete r j h (inr e) u = subst (λ x. Contains (slots_in ps ++ q ∷ []) x) (sym e) (Contains-push (slots_in ps) q)

  failed : test i ≡ false → AreFound seen test es ps → AreFound (Or seen q) test es ps
  failed t a = record { apart = a.apart; sound = before a; complete = λ r j h l u. complete r j h l u }
    where
      complete : (r : ℕ) (j : Item) → item_in r es ≡ Some j → Or seen q (r, j) → test j ≡ true → Contains (slots_in ps) r
      complete r j h (inl l) u = a.complete r j h l u
      complete r j h (inr e) u = absurd (true≢false (sym u ∙ ap test (same_in r j h e) ∙ t))

  found_more : (seen (q, i) → ⊥) → AreFound seen test es ps → AreFound (Or seen q) test es (listed (test i) (i.since, q) ps)
  found_more new a = by (test i) refl
    where
      by : (b : Bool) → test i ≡ b → AreFound (Or seen q) test es (listed b (i.since, q) ps)
      by true t = passed t new a
      by false t = failed t a

-- the item of this slot was noted, which was not looked at before
pub noted_more : (seen : Entry → Type 0) (s : State) (es : List Entry) (f : SeenFound) (q : ℕ) (i : Item) → item_in q es ≡ Some i → (seen (q, i) → ⊥) → Finds seen s es f →
    Finds (Or seen q) s es (noted q i (holds s i) f)
noted_more seen s es f q i there new a = record {
  lost = found_more seen (loses_number (holds s)) es q i there f.lost new a.lost;
  gained = found_more seen (needs_number (holds s)) es q i there f.gained new a.gained;
}

pub finds_as : (seen other : Entry → Type 0) (s : State) (es : List Entry) (f : SeenFound) →
    ((q : ℕ) (i : Item) → item_in q es ≡ Some i → seen (q, i) → other (q, i)) →
    ((q : ℕ) (i : Item) → item_in q es ≡ Some i → other (q, i) → seen (q, i)) → Finds seen s es f → Finds other s es f
finds_as seen other s es f to from a = record {
  lost = found_as seen other (loses_number (holds s)) es f.lost (λ q i h t. to q i h) (λ q i h t. from q i h) a.lost;
  gained = found_as seen other (needs_number (holds s)) es f.gained (λ q i h t. to q i h) (λ q i h t. from q i h) a.gained;
}
