-- A walk over the items of an index in order of making, which changes none of them.
use Rattle.std.proofs.Common.{◌≡◌, ◌≢◌, ℕ, ◌<◌, ◌==◌, Bool, true, false, cond, List, [], ◌∷◌, ◌++◌, length, Option, Some, None, refl, sym, ap, ◌∙◌, subst, arith, append_assoc}
use Rattle.std.specs.Prelude.{filter}
use Rattle.std.proofs.lemmas.List.{map-append}
use Rattle.item_places.specs.Items.{Lacks, Differ}
use Rattle.slot_chains.specs.Chained.{first_of}
use Rattle.machine.specs.declared.items.Delivery.{Delivery}
use Rattle.machine.specs.declared.items.Item.{Item}
use Rattle.held_items.specs.Entries.{Entry, item_in, slots_of, index, flat}
use Rattle.held_items.proofs.EntryLemmas.{is_same, is_other, length_slots}
use Rattle.held_items.proofs.IndexLemmas.{some}
use Rattle.held_items.proofs.Dropping.{behind, behind_is, index_differ}

-- ---- the entries whose items pass a test

pub flat_some : (test : Delivery → Bool) (es : List Entry) → flat (some test es) ≡ filter (λ (i : Item). test i.delivery) (flat es)
flat_some test [] = refl
flat_some test (e ∷ es) = by (test e.1.delivery) (flat_some test es)
  where
    by : (b : Bool) → flat (some test es) ≡ filter (λ (i : Item). test i.delivery) (flat es) →
        flat (cond b (e ∷ some test es) (some test es)) ≡ cond b (e.1 ∷ filter (λ (i : Item). test i.delivery) (flat es)) (filter (λ (i : Item). test i.delivery) (flat es))
    by true r = ap (λ is. e.1 ∷ is) r
    by false r = r

-- an item that passes is in its slot among them too
pub some_has : (test : Delivery → Bool) (q : ℕ) (es : List Entry) (i : Item) → item_in q es ≡ Some i → test i.delivery ≡ true → item_in q (some test es) ≡ Some i
some_has test q [] i there t = there
some_has test q (e ∷ es) i there t = by (e.0 == q) (test e.1.delivery) refl refl there (some_has test q es i)
  where
    by : (a b : Bool) → (e.0 == q) ≡ a → test e.1.delivery ≡ b → cond a (Some e.1) (item_in q es) ≡ Some i → (item_in q es ≡ Some i → test i.delivery ≡ true → item_in q (some test es) ≡ Some i) →
        item_in q (cond b (e ∷ some test es) (some test es)) ≡ Some i
    by true true s u g more = rw s g
    by true false s u g more = absurd (let same : e.1 ≡ i = cc in let v : test e.1.delivery ≡ true = ap (λ (x : Item). test x.delivery) same ∙ t in cc)
    by false true s u g more = rw s (more g t)
    by false false s u g more = more g t

-- where one of them stands among all: these come before it, and these behind it
pub record IsAmong (test : Delivery → Bool) (es front others : List Entry) (e : Entry) : Type 0 where
  pub before : List Entry
  pub after : List Entry
  pub is : es ≡ before ++ e ∷ after
  pub passed : some test before ≡ front
  pub left : some test after ≡ others
  pub passes : test e.1.delivery ≡ true

pub among : (test : Delivery → Bool) (es front others : List Entry) (e : Entry) → some test es ≡ front ++ e ∷ others → IsAmong test es front others e
among test [] [] others e h = absurd (cc)
among test [] (f ∷ front) others e h = absurd (cc)
among test (x ∷ es) front others e h = by (test x.1.delivery) refl front h (λ xs. among test es xs others e)
  where
    by : (b : Bool) → test x.1.delivery ≡ b → (front : List Entry) → cond b (x ∷ some test es) (some test es) ≡ front ++ e ∷ others →
        ((xs : List Entry) → some test es ≡ xs ++ e ∷ others → IsAmong test es xs others e) → IsAmong test (x ∷ es) front others e
    by true t [] g later =
        let same : x ≡ e = cc in record {
          before = [];
          after = es;
          is = ap (λ y. y ∷ es) same;
          passed = refl;
          left = cc;
          passes = ap (λ (y : Entry). test y.1.delivery) (sym same) ∙ t;
        }
    by true t (f ∷ front) g later =
        let same : x ≡ f = cc in
        let more : IsAmong test es front others e = later front (cc) in record {
          before = x ∷ more.before;
          after = more.after;
          is = ap (λ ys. x ∷ ys) more.is;
          passed = rw t (ap (λ ys. x ∷ ys) more.passed ∙ ap (λ y. y ∷ front) same);
          left = more.left;
          passes = more.passes;
        }
    by false t front g later =
        let more : IsAmong test es front others e = later front g in record {
          before = x ∷ more.before;
          after = more.after;
          is = ap (λ ys. x ∷ ys) more.is;
          passed = rw t more.passed;
          left = more.left;
          passes = more.passes;
        }

-- ---- the walk

-- the items of the index were looked at up to this one
pub record IsAlong (test : Delivery → Bool) (es : List Entry) (at : Option ℕ) : Type 0 where
  pub front : List Entry
  pub rest : List Entry
  pub parts : some test es ≡ front ++ rest
  pub here : at ≡ first_of (slots_of rest) None

abbrev pub along_none : (test : Delivery → Bool) (es : List Entry) (at : Option ℕ) → at ≡ first_of (index test es) None → IsAlong test es at
along_none test es at h = record { front = []; rest = some test es; parts = refl; here = h }

pub along_all : (test : Delivery → Bool) (es : List Entry) (at : Option ℕ) (a : IsAlong test es at) → at ≡ None → some test es ≡ a.front
along_all test es at a e = a.parts ∙ ap (λ xs. a.front ++ xs) (last a.rest (sym e ∙ a.here)) ∙ nothing a.front
  where
    last : (xs : List Entry) → None ≡ first_of (slots_of xs) None → xs ≡ []
    last [] h = refl
    last (x ∷ xs) h = absurd (cc)

    nothing : (xs : List Entry) → xs ++ [] ≡ xs
    nothing [] = refl
    nothing (x ∷ xs) = ap (λ ys. x ∷ ys) (nothing xs)

-- the item that the walk stands at
pub record IsStanding (test : Delivery → Bool) (es : List Entry) (at : Option ℕ) (q : ℕ) (a : IsAlong test es at) : Type 0 where
  pub item : Item
  pub others : List Entry
  pub parts : some test es ≡ a.front ++ (q, item) ∷ others
  pub rest_is : a.rest ≡ (q, item) ∷ others
  pub among : IsAmong test es a.front others (q, item)
  pub there : item_in q es ≡ Some item

item_between : (q : ℕ) (i : Item) (front others : List Entry) → Differ (slots_of (front ++ (q, i) ∷ others)) → item_in q (front ++ (q, i) ∷ others) ≡ Some i
item_between q i [] others d = rw (is_same q q refl) refl
item_between q i (x ∷ front) others d = rw (is_other x.0 q (apart front d.0)) (item_between q i front others d.1)
  where
    apart : (xs : List Entry) → Lacks x.0 (slots_of (xs ++ (q, i) ∷ others)) → x.0 ≢ q
    apart [] l = l.0
    apart (y ∷ xs) l = apart xs l.1

pub along_at : (test : Delivery → Bool) (es : List Entry) (at : Option ℕ) (q : ℕ) (a : IsAlong test es at) → Differ (slots_of es) → at ≡ Some q → IsStanding test es at q a
along_at test es at q a d e = by a.rest (sym e ∙ a.here) a.parts refl
  where
    by : (xs : List Entry) → Some q ≡ first_of (slots_of xs) None → some test es ≡ a.front ++ xs → a.rest ≡ xs → IsStanding test es at q a
    by [] h p r = absurd (cc)
    by (x ∷ xs) h p r =
        let same : x.0 ≡ q = cc in
        let it : x ∷ xs ≡ (q, x.1) ∷ xs = ap (λ k. (k, x.1) ∷ xs) same in
        let parts : some test es ≡ a.front ++ (q, x.1) ∷ xs = p ∙ ap (λ ys. a.front ++ ys) it in
        let w : IsAmong test es a.front xs (q, x.1) = among test es a.front xs (q, x.1) parts in record {
          item = x.1;
          others = xs;
          parts = parts;
          rest_is = r ∙ it;
          among = w;
          there = subst (λ ys. item_in q ys ≡ Some x.1) (sym w.is) (item_between q x.1 w.before w.after (subst (λ ys. Differ (slots_of ys)) w.is d));
        }

slots_between : (front : List Entry) (q : ℕ) (i : Item) (others : List Entry) → slots_of (front ++ (q, i) ∷ others) ≡ slots_of front ++ q ∷ slots_of others
slots_between front q i others = map-append (λ (e : Entry). e.0) front ((q, i) ∷ others)

-- what follows in the index
pub follows : (test : Delivery → Bool) (es : List Entry) (at next : Option ℕ) (q : ℕ) (a : IsAlong test es at) (s : IsStanding test es at q a) →
    ((xs ys : List ℕ) → index test es ≡ xs ++ q ∷ ys → next ≡ first_of ys None) → next ≡ first_of (slots_of s.others) None
follows test es at next q a s after = after (slots_of a.front) (slots_of s.others) (ap slots_of s.parts ∙ slots_between a.front q s.item s.others)

-- one item further
abbrev pub along_next : (test : Delivery → Bool) (es : List Entry) (at next : Option ℕ) (q : ℕ) (a : IsAlong test es at) (s : IsStanding test es at q a) →
    ((xs ys : List ℕ) → index test es ≡ xs ++ q ∷ ys → next ≡ first_of ys None) → IsAlong test es next
along_next test es at next q a s after = record {
  front = a.front ++ (q, s.item) ∷ [];
  rest = s.others;
  parts = s.parts ∙ sym (append_assoc a.front ((q, s.item) ∷ []) s.others);
  here = follows test es at next q a s after;
}

-- so many are still to come
left_to : (test : Delivery → Bool) (es : List Entry) (at : Option ℕ) (a : IsAlong test es at) → Differ (slots_of es) → behind at (index test es) ≡ length a.rest
left_to test es at a d =
    let apart : index test es ≡ slots_of a.front ++ slots_of a.rest = ap slots_of a.parts ∙ map-append (λ (e : Entry). e.0) a.front a.rest in
    ap (λ o. behind o (index test es)) a.here
    ∙ ap (λ qs. behind (first_of (slots_of a.rest) None) qs) apart
    ∙ behind_is (slots_of a.front) (slots_of a.rest) (subst Differ apart (index_differ test es d))
    ∙ length_slots a.rest

pub along_smaller : (test : Delivery → Bool) (es : List Entry) (at next : Option ℕ) (q : ℕ) (a : IsAlong test es at) (s : IsStanding test es at q a) → Differ (slots_of es) →
    ((xs ys : List ℕ) → index test es ≡ xs ++ q ∷ ys → next ≡ first_of ys None) → behind next (index test es) < behind at (index test es)
along_smaller test es at next q a s d after =
    let old = left_to test es at a d in
    let new : behind next (index test es) ≡ length s.others = left_to test es next (along_next test es at next q a s after) d in
    let longer = ap length s.rest_is in
    omega (arith, old, new, longer)
