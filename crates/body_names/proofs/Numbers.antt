-- Names with their numbers.
use Rattle.std.proofs.Common.{◌≡◌, refl, ap, sym, subst, ◌∙◌, ℕ, zero, suc, ◌+◌, Bool, true, false, cond, List, [], ◌∷◌, ◌++◌, length, nat_eq, Option, Some, None, slice_get, inl, inr, arith}
use mathlib.Core.Logic.{◌⊎◌}
use Rattle.std.proofs.lemmas.Bool.{and_parts}
use Rattle.std.proofs.lemmas.Bool.Decides.{nat_tests}
use Rattle.std.specs.Prelude.{◌&&◌, nat_le}
use Rattle.std.proofs.lemmas.Slice.Eq.{bytes_eq-Decides}
use Rattle.std.specs.Cmp.Lexicographic.{pointwise}
use Rattle.std.specs.Map.{lookup}
use Rattle.gv_values.specs.declared.name.Name.{Name}
use Rattle.name_table.specs.Tables.{found, Holds}
use Rattle.name_table.specs.declared.names.Names.{Names}
use Rattle.gv_values.specs.Name.{is_lower, is_name}
use Rattle.body_names.specs.Naming.{AreOnce, AreWords, IsKept, IsNaming, name_of, numbered}

-- ---- a name that has its number

-- the name that is found stands at its place
Stands : ℕ → ℕ → List Name → Name → Type 0
Stands k n ys x = (i : ℕ) × (n ≡ k + i) × (slice_get ys i ≡ Some x)

found_there : (x : Name) (k n : ℕ) (ys : List Name) → lookup (pointwise nat_eq x) (numbered k ys) ≡ Some n → Stands k n ys x
unfolding Stands
found_there x k n [] h = cc
found_there x k n (y ∷ ys) h = by (pointwise nat_eq x y) refl h (λ there. found_there x (k + 1) n ys there)
  where
    by : (b : Bool) → pointwise nat_eq x y ≡ b → cond b (Some k) (lookup (pointwise nat_eq x) (numbered (k + 1) ys)) ≡ Some n →
        (lookup (pointwise nat_eq x) (numbered (k + 1) ys) ≡ Some n → Stands (k + 1) n ys x) → Stands k n (y ∷ ys) x
    by true e here further =
        let same : x ≡ y = (bytes_eq-Decides x y).0 e in
        let first : k ≡ n = cc in
        (0, omega (arith, first), ap Some (sym same))
    by false e there further =
        let rest = further there in
        let place = rest.1 in
        (suc rest.0, omega (arith, place), rest.2)

get_before : (ys more : List Name) (i : ℕ) (x : Name) → slice_get ys i ≡ Some x → slice_get (ys ++ more) i ≡ Some x
get_before [] more i x h = cc
get_before (y ∷ ys) more zero x h = h
get_before (y ∷ ys) more (suc i) x h = get_before ys more i x h

name_at : (names : List Name) (n : ℕ) (x : Name) → slice_get names n ≡ Some x → name_of names n ≡ x
name_at names n x h = rw (h, name_of) refl

pub found_named : (numbers : Names ℕ) (names more : List Name) (x : Name) (n : ℕ) → IsKept numbers names → found numbers x ≡ Some n → name_of (names ++ more) n ≡ x
unfolding Stands
found_named numbers names more x n kept h =
    let there = found_there x 0 n names (sym (kept.0 x) ∙ h) in
    let place = there.1 in
    let same : there.0 ≡ n = omega (arith, place) in
    name_at (names ++ more) n x (ap (slice_get (names ++ more)) (sym same) ∙ get_before names more there.0 x there.2)

-- ---- a name that is given the next number

get_last : (names more : List Name) (x : Name) → slice_get ((names ++ x ∷ []) ++ more) (length names) ≡ Some x
get_last [] more x = refl
get_last (y ∷ ys) more x = get_last ys more x

pub new_named : (names new more : List Name) (x : Name) (n : ℕ) → new ≡ names ++ x ∷ [] → n ≡ length names → name_of (new ++ more) n ≡ x
new_named names new more x n e k =
    name_at (new ++ more) n x (ap (λ (ys : List Name). slice_get (ys ++ more) n) e ∙ ap (slice_get ((names ++ x ∷ []) ++ more)) k ∙ get_last names more x)

numbered-push : (n : ℕ) (xs : List Name) (x : Name) → numbered n (xs ++ x ∷ []) ≡ numbered n xs ++ (x, n + length xs) ∷ []
numbered-push n [] x = let same : n ≡ n + 0 = omega arith in ap (λ m. (x, m) ∷ []) same
numbered-push n (y ∷ ys) x =
    let same : n + 1 + length ys ≡ n + length (y ∷ ys) = omega arith in
    ap (λ (ps : List (Name × ℕ)). (y, n) ∷ ps) (numbered-push (n + 1) ys x) ∙ ap (λ m. (y, n) ∷ numbered (n + 1) ys ++ (x, m) ∷ []) same

holds_more : (numbers : Names ℕ) (names new : List Name) (x : Name) (n : ℕ) → Holds numbers (numbered 0 names ++ (x, n) ∷ []) → n ≡ length names → new ≡ names ++ x ∷ [] →
    Holds numbers (numbered 0 new)
holds_more numbers names new x n holds k e =
    let same : n ≡ 0 + length names = omega (arith, k) in
    let all : numbered 0 names ++ (x, n) ∷ [] ≡ numbered 0 new =
    ap (λ m. numbered 0 names ++ (x, m) ∷ []) same ∙ sym (numbered-push 0 names x) ∙ ap (numbered 0) (sym e) in
    λ y. holds y ∙ ap (lookup (pointwise nat_eq y)) all

-- a name of the longer list is one of the shorter, or the last
get_more : (names : List Name) (x y : Name) (i : ℕ) → slice_get (names ++ x ∷ []) i ≡ Some y → (slice_get names i ≡ Some y) ⊎ ((i ≡ length names) × (x ≡ y))
get_more [] x y zero h = inr (refl, cc)
get_more [] x y (suc i) h = cc
get_more (z ∷ zs) x y zero h = inl h
get_more (z ∷ zs) x y (suc i) h = elim (get_more zs x y i h) [ inl a ↦ inl a | inr b ↦ inr (ap suc b.0, b.1) ]

-- a name that is not found stands nowhere
not_there : (x : Name) (k : ℕ) (ys : List Name) (i : ℕ) → lookup (pointwise nat_eq x) (numbered k ys) ≡ None → slice_get ys i ≡ Some x → ⊥
not_there x k [] i h there = cc
not_there x k (y ∷ ys) i h there = by (pointwise nat_eq x y) refl h i there (λ j rest at. not_there x (k + 1) ys j rest at)
  where
    by : (b : Bool) → pointwise nat_eq x y ≡ b → cond b (Some k) (lookup (pointwise nat_eq x) (numbered (k + 1) ys)) ≡ None → (j : ℕ) → slice_get (y ∷ ys) j ≡ Some x →
        ((j : ℕ) → lookup (pointwise nat_eq x) (numbered (k + 1) ys) ≡ None → slice_get ys j ≡ Some x → ⊥) → ⊥
    by true e none j at further = cc
    by false e none zero at further =
        let same : x ≡ y = cc in
        let equal : pointwise nat_eq x y ≡ true = (bytes_eq-Decides x y).1 same in
        cc
    by false e none (suc j) at further = further j none at

once_more : (names : List Name) (x : Name) → AreOnce names → ((i : ℕ) → slice_get names i ≡ Some x → ⊥) → AreOnce (names ++ x ∷ [])
once_more names x once none i j y h k = elim (get_more names x y i h) [
  | inl a ↦ elim (get_more names x y j k) [
    | inl b ↦ once i j y a b
    | inr b ↦ absurd (none i (a ∙ ap Some (sym b.1)))
  ]
  | inr a ↦ elim (get_more names x y j k) [
    | inl b ↦ absurd (none j (b ∙ ap Some (sym a.1)))
    | inr b ↦ a.0 ∙ sym b.0
  ]
]

words_more : (names : List Name) (x : Name) → AreWords names → is_name x ≡ true → AreWords (names ++ x ∷ [])
words_more names x words one i y h = elim (get_more names x y i h) [ inl a ↦ words i y a | inr b ↦ ap is_name (sym b.1) ∙ one ]

pub kept_more : (old numbers : Names ℕ) (names new : List Name) (x : Name) (n : ℕ) → IsKept old names → found old x ≡ None → is_name x ≡ true →
    Holds numbers (numbered 0 names ++ (x, n) ∷ []) → n ≡ length names → new ≡ names ++ x ∷ [] → IsKept numbers new
kept_more old numbers names new x n kept none word holds k e = (
  holds_more numbers names new x n holds k e,
  subst AreOnce (sym e) (once_more names x kept.1 (λ i at. not_there x 0 names i (sym (kept.0 x) ∙ none) at)),
  subst AreWords (sym e) (words_more names x kept.2 word),
)

-- ---- numbers are told by their names

too_large : (n : ℕ) → is_name ((256 + n) ∷ []) ≡ true → ⊥
too_large n h =
    let first = and_parts (is_lower (256 + n) && true) true h in
    let lower = and_parts (is_lower (256 + n)) true first.0 in
    let both = and_parts (nat_le 97 (256 + n)) (nat_le (256 + n) 122) lower.0 in
    let most = both.1 in
    grind (arith, nat_tests, most)

same_name : (names : List Name) (m n : ℕ) → AreOnce names → AreWords names → name_of names m ≡ name_of names n → m ≡ n
same_name names m n once words h = by (slice_get names m) (slice_get names n) refl refl h
  where
    by : (a b : Option Name) → slice_get names m ≡ a → slice_get names n ≡ b →
        ◌≡◌ {A = Name} (elim a [ None ↦ (256 + m) ∷ [] | Some x ↦ x ]) (elim b [ None ↦ (256 + n) ∷ [] | Some x ↦ x ]) → m ≡ n
    by (Some x) (Some y) e f g = once m n x e (f ∙ ap Some (sym g))
    by (Some x) None e f g = absurd (too_large n (subst (λ (z : Name). is_name z ≡ true) g (words m x e)))
    by None (Some y) e f g = absurd (too_large m (subst (λ (z : Name). is_name z ≡ true) (sym g) (words n y f)))
    by None None e f g = let heads : 256 + m ≡ 256 + n = cc in omega (arith, heads)

tests_agree : (p q : Bool) (P : Type 0) (Q : Type 0) → (p ≡ true → P) → (P → p ≡ true) → (q ≡ true → Q) → (Q → q ≡ true) → (P → Q) → (Q → P) → p ≡ q
tests_agree true true P Q a b c d f g = refl
tests_agree false false P Q a b c d f g = refl
tests_agree true false P Q a b c d f g = let h = d (f (a refl)) in cc
tests_agree false true P Q a b c d f g = let h = b (g (c refl)) in cc

equal_numbers : (m n : ℕ) → nat_eq m n ≡ true → m ≡ n
equal_numbers m n h = grind (arith, nat_tests)

numbers_equal : (m n : ℕ) → m ≡ n → nat_eq m n ≡ true
numbers_equal m n h = grind (arith, nat_tests)

pub kept_naming : (numbers : Names ℕ) (names : List Name) → IsKept numbers names → IsNaming names
kept_naming numbers names kept m n =
    let decides = bytes_eq-Decides (name_of names m) (name_of names n) in
    tests_agree (pointwise nat_eq (name_of names m) (name_of names n)) (nat_eq m n) (name_of names m ≡ name_of names n) (m ≡ n) decides.0 decides.1 (equal_numbers m n)
    (numbers_equal m n) (same_name names m n kept.1 kept.2) (λ e. ap (name_of names) e)
