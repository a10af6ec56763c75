-- Lists of items: what they have, how they differ, and what they are without one.
use Rattle.std.proofs.Common.{Bool, cond, filter, ◌≡◌, ◌≢◌, ℕ, zero, suc, ◌+◌, ◌-◌, ◌<◌, ◌==◌, true, false, not, List, [], ◌∷◌, ◌++◌, length, get_or, Some, refl, sym, inl, inr, ap, ◌∙◌, subst, arith, slice_get, Contains}
use Rattle.std.proofs.lemmas.Bool.Decides.{nat_tests}
use Rattle.std.proofs.lemmas.Bool.{cases_eq}
use Rattle.std.proofs.lemmas.Option.{slice_get_within, get_or_from_slice_get}
use Rattle.std.proofs.lemmas.List.Elements.{filter-append}
use Rattle.item_places.specs.Items.{items_of, without_number, without_entry, Lacks, Differ}

pub test_keeps : (a x : ℕ) → x ≢ a → not (a == x) ≡ true
test_keeps a x h = grind (arith, nat_tests)

pub test_drops : (a x : ℕ) → a ≡ x → not (a == x) ≡ false
test_drops a x h = grind (arith, nat_tests)

-- entries and their items
pub items_joined : (xs ys : List (ℕ × ℕ)) → items_of (xs ++ ys) ≡ items_of xs ++ items_of ys
items_joined [] ys = refl
items_joined (x ∷ xs) ys = ap (λ l. x.0 ∷ l) (items_joined xs ys)

pub items_without : (x : ℕ) (es : List (ℕ × ℕ)) → items_of (without_entry x es) ≡ without_number x (items_of es)
items_without x [] = refl
items_without x (e ∷ es) = elim (cases_eq e.0 x) [
  | inl same ↦ rw (test_drops e.0 x same) (items_without x es)
  | inr differs ↦ rw (test_keeps e.0 x (λ h. differs (sym h))) (ap (λ l. e.0 ∷ l) (items_without x es))
]

-- what a list lacks
pub lacks_front : (x : ℕ) (xs ys : List ℕ) → Lacks x (xs ++ ys) → Lacks x xs
lacks_front x [] ys a = tt
lacks_front x (y ∷ xs) ys a = (a.0, lacks_front x xs ys a.1)

pub lacks_back : (x : ℕ) (xs ys : List ℕ) → Lacks x (xs ++ ys) → Lacks x ys
lacks_back x [] ys a = a
lacks_back x (y ∷ xs) ys a = lacks_back x xs ys a.1

pub lacks_joined : (x : ℕ) (xs ys : List ℕ) → Lacks x xs → Lacks x ys → Lacks x (xs ++ ys)
lacks_joined x [] ys a b = b
lacks_joined x (y ∷ xs) ys a b = (a.0, lacks_joined x xs ys a.1 b)

pub lacks_of_absent : (x : ℕ) (xs : List ℕ) → (Contains xs x → ⊥) → Lacks x xs
lacks_of_absent x [] a = tt
lacks_of_absent x (y ∷ xs) a =
    (λ h. a (zero, omega arith, sym h), lacks_of_absent x xs (λ p. a (suc p.0, omega (arith, p.1), p.2)))

pub absent_of_lacks : (x : ℕ) (xs : List ℕ) → Lacks x xs → Contains xs x → ⊥
absent_of_lacks x [] a p = omega (arith, p.1)
absent_of_lacks x (y ∷ xs) a p = by_index (absent_of_lacks x xs a.1) p.0 p.1 p.2
  where
    by_index : (Contains xs x → ⊥) → (k : ℕ) → k < suc (length xs) → get_or (y ∷ xs) k x ≡ x → ⊥
    by_index more zero within found = a.0 (sym found)
    by_index more (suc k) within found = more (k, omega arith, found)

pub lacks_without : (x y : ℕ) (xs : List ℕ) → Lacks x xs → Lacks x (without_number y xs)
lacks_without x y [] a = tt
lacks_without x y (z ∷ xs) a = elim (cases_eq z y) [
  | inl same ↦ rw (test_drops z y same) (lacks_without x y xs a.1)
  | inr differs ↦ rw (test_keeps z y (λ h. differs (sym h))) (a.0, lacks_without x y xs a.1)
]

-- lists of different items
pub differ_snoc : (xs : List ℕ) (x : ℕ) → Differ xs → Lacks x xs → Differ (xs ++ x ∷ [])
differ_snoc [] x a b = (tt, tt)
differ_snoc (y ∷ xs) x a b =
    (lacks_joined y xs (x ∷ []) a.0 (λ h. b.0 (sym h), tt), differ_snoc xs x a.1 b.1)

pub differ_front : (xs ys : List ℕ) → Differ (xs ++ ys) → Differ xs
differ_front [] ys a = tt
differ_front (x ∷ xs) ys a = (lacks_front x xs ys a.0, differ_front xs ys a.1)

pub differ_back : (xs ys : List ℕ) → Differ (xs ++ ys) → Differ ys
differ_back [] ys a = a
differ_back (x ∷ xs) ys a = differ_back xs ys a.1

pub differ_from_front : (xs ys : List ℕ) (x : ℕ) → Differ (xs ++ x ∷ ys) → Lacks x xs
differ_from_front [] ys x a = tt
differ_from_front (y ∷ xs) ys x a =
    let here = lacks_back y xs (x ∷ ys) a.0 in
    (λ h. here.0 (sym h), differ_from_front xs ys x a.1)

pub differ_from_back : (xs ys : List ℕ) (x : ℕ) → Differ (xs ++ x ∷ ys) → Lacks x ys
differ_from_back [] ys x a = a.0
differ_from_back (y ∷ xs) ys x a = differ_from_back xs ys x a.1

pub differ_of_without : (x : ℕ) (xs : List ℕ) → Differ xs → Differ (without_number x xs)
differ_of_without x [] a = tt
differ_of_without x (y ∷ xs) a = elim (cases_eq y x) [
  | inl same ↦ rw (test_drops y x same) (differ_of_without x xs a.1)
  | inr differs ↦ rw (test_keeps y x (λ h. differs (sym h))) (lacks_without y x xs a.0, differ_of_without x xs a.1)
]

-- a list without an item
pub without_absent : (x : ℕ) (xs : List ℕ) → Lacks x xs → without_number x xs ≡ xs
without_absent x [] l = refl
without_absent x (y ∷ xs) l = rw (test_keeps y x l.0) (ap (λ r. y ∷ r) (without_absent x xs l.1))

pub without_joined : (x : ℕ) (xs ys : List ℕ) → without_number x (xs ++ ys) ≡ without_number x xs ++ without_number x ys
without_joined x xs ys = filter-append (λ y. not (y == x)) xs ys

pub without_back : (x : ℕ) (xs ys : List ℕ) → Lacks x xs → without_number x (xs ++ ys) ≡ xs ++ without_number x ys
without_back x xs ys l = without_joined x xs ys ∙ ap (λ r. r ++ without_number x ys) (without_absent x xs l)

pub without_length : (x : ℕ) (xs : List ℕ) → Differ xs → Contains xs x → length (without_number x xs) + 1 ≡ length xs
without_length x [] d p = absurd (omega (arith, p.1))
without_length x (y ∷ xs) d p = by_index (without_length x xs d.1) p.0 p.1 p.2
  where
    by_index : (Contains xs x → length (without_number x xs) + 1 ≡ length xs) → (k : ℕ) → k < suc (length xs) → get_or (y ∷ xs) k x ≡ x → length (without_number x (y ∷ xs)) + 1 ≡ length (y ∷ xs)
    by_index more zero within found =
        let l : Lacks x xs = subst (λ z. Lacks z xs) found d.0 in
        rw (test_drops y x found) (let e = ap length (without_absent x xs l) in omega arith)
    by_index more (suc k) within found =
        let there : Contains xs x = (k, omega arith, found) in
        let apart : x ≢ y = λ h. absent_of_lacks y xs d.0 (subst (λ z. Contains xs z) h there) in
        rw (test_keeps y x apart) (let e = more there in omega arith)

-- the first and the last of a list
pub first_is : (es : List (ℕ × ℕ)) (e : ℕ × ℕ) → slice_get es 0 ≡ Some e → (rest : List (ℕ × ℕ)) × (es ≡ e ∷ rest)
first_is [] e h = absurd (cc)
first_is (x ∷ es) e h = (es, let same : x ≡ e = cc in ap (λ y. y ∷ es) same)

pub last_is : (es : List (ℕ × ℕ)) (e : ℕ × ℕ) → slice_get es (length es - 1) ≡ Some e → (front : List (ℕ × ℕ)) × (es ≡ front ++ e ∷ [])
last_is [] e h = absurd (cc)
last_is (x ∷ []) e h = ([], let same : x ≡ e = cc in ap (λ y. y ∷ []) same)
last_is (x ∷ y ∷ es) e h =
    let more = last_is (y ∷ es) e (shorter x y es e h) in
    (x ∷ more.0, ap (λ l. x ∷ l) more.1)
  where
    shorter : (x y : ℕ × ℕ) (es : List (ℕ × ℕ)) (e : ℕ × ℕ) → slice_get (x ∷ y ∷ es) (length (x ∷ y ∷ es) - 1) ≡ Some e → slice_get (y ∷ es) (length (y ∷ es) - 1) ≡ Some e
    shorter x y es e h =
        let a : length (x ∷ y ∷ es) - 1 ≡ suc (length es) = omega arith in
        let b : length (y ∷ es) - 1 ≡ length es = omega arith in
        ap (slice_get (y ∷ es)) b ∙ sym (ap (slice_get (x ∷ y ∷ es)) a) ∙ h

-- an item leaves the middle
pub differ_without : (xs ys : List ℕ) (x : ℕ) → Differ (xs ++ x ∷ ys) → Differ (xs ++ ys)
differ_without [] ys x a = a.1
differ_without (y ∷ xs) ys x a =
    (lacks_joined y xs ys (lacks_front y xs (x ∷ ys) a.0) (lacks_back y xs (x ∷ ys) a.0).1, differ_without xs ys x a.1)

-- a list of different items has each at one place
pub contains_at : (xs : List ℕ) (k x : ℕ) → slice_get xs k ≡ Some x → Contains xs x
contains_at xs k x at = (k, slice_get_within xs k x at, get_or_from_slice_get xs k x x at)

pub places_differ : (xs : List ℕ) (j k x : ℕ) → Differ xs → slice_get xs j ≡ Some x → slice_get xs k ≡ Some x → j ≡ k
places_differ [] j k x d a b = absurd (cc)
places_differ (y ∷ xs) zero zero x d a b = refl
places_differ (y ∷ xs) zero (suc k) x d a b =
    let same : y ≡ x = cc in absurd (absent_of_lacks y xs d.0 (subst (λ z. Contains xs z) (sym same) (contains_at xs k x b)))
places_differ (y ∷ xs) (suc j) zero x d a b =
    let same : y ≡ x = cc in absurd (absent_of_lacks y xs d.0 (subst (λ z. Contains xs z) (sym same) (contains_at xs j x a)))
places_differ (y ∷ xs) (suc j) (suc k) x d a b = ap suc (places_differ xs j k x d.1 a b)

-- what a filter leaves is in the list, and passes
pub contains_of_filter : {A : Type 0} (p : A → Bool) (xs : List A) (x : A) → Contains (filter p xs) x → Contains xs x × (p x ≡ true)
contains_of_filter p [] x h = absurd (omega (arith, h.1))
contains_of_filter p (y ∷ xs) x h = by_test (p y) refl (contains_of_filter p xs x) h
  where
    later : Contains xs x × (p x ≡ true) → Contains (y ∷ xs) x × (p x ≡ true)
    later q = ((suc q.0.0, omega (arith, q.0.1), q.0.2), q.1)

    by_index : (Contains (filter p xs) x → Contains xs x × (p x ≡ true)) → p y ≡ true → (k : ℕ) → k < suc (length (filter p xs)) → get_or (y ∷ filter p xs) k x ≡ x → Contains (y ∷ xs) x × (p x ≡ true)
    by_index more passes zero within found = ((zero, omega arith, found), ap p (sym found) ∙ passes)
    by_index more passes (suc k) within found = later (more (k, omega arith, found))

    by_test : (b : Bool) → p y ≡ b → (Contains (filter p xs) x → Contains xs x × (p x ≡ true)) → Contains (cond b (y ∷ filter p xs) (filter p xs)) x → Contains (y ∷ xs) x × (p x ≡ true)
    by_test true e more q = by_index more e q.0 q.1 q.2
    by_test false e more q = later (more q)

-- the entry at a place of the list of items
pub entry_at : (es : List (ℕ × ℕ)) (k item : ℕ) → slice_get (items_of es) k ≡ Some item → (n : ℕ) × (slice_get es k ≡ Some (item, n))
entry_at [] k item at = absurd (cc)
entry_at (e ∷ es) zero item at = let same : e.0 ≡ item = cc in (e.1, ap (λ x. Some (x, e.1)) same)
entry_at (e ∷ es) (suc k) item at = entry_at es k item at

pub item_at : (es : List (ℕ × ℕ)) (k : ℕ) (e : ℕ × ℕ) → slice_get es k ≡ Some e → slice_get (items_of es) k ≡ Some e.0
item_at [] k e at = absurd (cc)
item_at (x ∷ es) zero e at = let same : x ≡ e = cc in ap (λ y. Some y.0) same
item_at (x ∷ es) (suc k) e at = item_at es k e at

-- what stays when another item leaves
pub contains_without : (x q : ℕ) (xs : List ℕ) → q ≢ x → Contains xs q → Contains (without_number x xs) q
contains_without x q [] apart there = absurd (omega (arith, there.1))
contains_without x q (y ∷ ys) apart there = by_index (contains_without x q ys apart) there.0 there.1 there.2
  where
    kept : Contains (without_number x ys) q → Contains (without_number x (y ∷ ys)) q
    kept more = elim (cases_eq y x) [
      | inl same ↦ rw (test_drops y x same) more
      | inr differs ↦ rw (test_keeps y x (λ h. differs (sym h))) (suc more.0, omega (arith, more.1), more.2)
    ]

    by_index : (Contains ys q → Contains (without_number x ys) q) → (k : ℕ) → k < suc (length ys) → get_or (y ∷ ys) k q ≡ q → Contains (without_number x (y ∷ ys)) q
    by_index more zero within found = rw (test_keeps y x (λ h. apart (sym (h ∙ found)))) (zero, omega arith, found)
    by_index more (suc k) within found = kept (more (k, omega arith, found))
