-- Where two texts that are the same are cut at different places.
use Rattle.std.proofs.Common.{◌≡◌, ◌≢◌, ℕ, true, false, List, [], ◌∷◌, ◌++◌, refl, ap, sym, ◌∙◌, subst}
use Rattle.std.proofs.lemmas.Bool.{and_from, and_parts, false≢true}
use Rattle.std.specs.List.{list_all}
use Rattle.gv_values.specs.Texts.{Text}
use Rattle.trace_laws.proofs.Printed.{ArePrinted, is_printed}

-- a line feed is not printed
pub feed_printed : (b : ℕ) → b ≡ 10 → is_printed b ≡ true → ⊥
feed_printed b e h = let f : false ≡ true = subst (λ n. is_printed n ≡ true) e h in false≢true f

-- two lines, each with its LF and a rest, that are the same bytes are the same line with the same rest
pub line_split : (xs ys r s : Text) → ArePrinted xs → ArePrinted ys → xs ++ 10 ∷ r ≡ ys ++ 10 ∷ s → (xs ≡ ys) × (r ≡ s)
line_split [] [] r s h k e = (refl, let f : r ≡ s = cc e in f)
line_split [] (y ∷ ys) r s h k e = absurd (feed_printed y (let f : y ≡ 10 = cc e in f) (and_parts (is_printed y) (list_all is_printed ys) k).0)
line_split (x ∷ xs) [] r s h k e = absurd (feed_printed x (let f : x ≡ 10 = cc e in f) (and_parts (is_printed x) (list_all is_printed xs) h).0)
line_split (x ∷ xs) (y ∷ ys) r s h k e =
    let first : x ≡ y = cc e in
    let tails : xs ++ 10 ∷ r ≡ ys ++ 10 ∷ s = cc e in
    let rest = line_split xs ys r s (and_parts (is_printed x) (list_all is_printed xs) h).1 (and_parts (is_printed y) (list_all is_printed ys) k).1 tails in
    (ap (λ z. z ∷ xs) first ∙ ap (λ zs. y ∷ zs) rest.0, rest.1)

-- the byte b behind m stands in w with c, or behind them
pub data Cut (m : Text) (b : ℕ) (z w : Text) (c : ℕ) (rest : Text) : Type 0 where
  Inside : (back : Text) → w ++ c ∷ [] ≡ m ++ b ∷ back → Cut m b z w c rest
  Behind : (front : Text) → m ≡ w ++ c ∷ front → front ++ b ∷ z ≡ rest → Cut m b z w c rest

pub cut : (m : Text) (b : ℕ) (z w : Text) (c : ℕ) (rest : Text) → m ++ b ∷ z ≡ w ++ c ∷ rest → Cut m b z w c rest
cut [] b z [] c rest e = Cut.Inside [] (ap (λ n. n ∷ []) (let f : c ≡ b = cc e in f))
cut [] b z (y ∷ w) c rest e = Cut.Inside (w ++ c ∷ []) (ap (λ n. n ∷ w ++ c ∷ []) (let f : y ≡ b = cc e in f))
cut (x ∷ m) b z [] c rest e =
    let first : x ≡ c = cc e in
    let rests : m ++ b ∷ z ≡ rest = cc e in
    Cut.Behind m (ap (λ n. n ∷ m) first) rests
cut (x ∷ m) b z (y ∷ w) c rest e = by (cut m b z w c rest (let f : m ++ b ∷ z ≡ w ++ c ∷ rest = cc e in f))
  where
    first : x ≡ y
    first = cc e

    by : Cut m b z w c rest → Cut (x ∷ m) b z (y ∷ w) c rest
    by (Cut.Inside back f) = Cut.Inside back (ap (λ t. y ∷ t) f ∙ ap (λ n. n ∷ m ++ b ∷ back) (sym first))
    by (Cut.Behind front f g) = Cut.Behind front (ap (λ t. x ∷ t) f ∙ ap (λ n. n ∷ w ++ c ∷ front) first) g

-- a front of a printed text is printed
pub front_printed : (xs ys : Text) → ArePrinted (xs ++ ys) → ArePrinted xs
front_printed [] ys h = refl
front_printed (x ∷ xs) ys h =
    let p = and_parts (is_printed x) (list_all is_printed (xs ++ ys)) h in
    and_from (is_printed x) (list_all is_printed xs) p.0 (front_printed xs ys p.1)

-- ---- where a text departs from another

-- the byte does not come next
abbrev pub NotNext : ℕ → Text → Type 0
NotNext b text = (more : Text) → text ≢ b ∷ more

-- What both have, the part that is the same has: u is the same in both, and then one goes on with b and the other does
-- not.
pub common_front : (u : Text) (b : ℕ) (v after h p q : Text) → NotNext b after → u ++ b ∷ v ≡ h ++ q → u ++ after ≡ h ++ p → (more : Text) × (u ≡ h ++ more)
common_front u b v after [] p q n e f = (u, refl)
common_front [] b v after (c ∷ h) p q n e f =
    let same : b ≡ c = cc e in
    absurd (n (h ++ p) (f ∙ ap (λ x. x ∷ h ++ p) (sym same)))
common_front (x ∷ u) b v after (c ∷ h) p q n e f =
    let first : x ≡ c = cc e in
    let rest = common_front u b v after h p q n (let z : u ++ b ∷ v ≡ h ++ q = cc e in z) (let z : u ++ after ≡ h ++ p = cc f in z) in
    (rest.0, ap (λ z. x ∷ z) rest.1 ∙ ap (λ z. z ∷ h ++ rest.0) first)

-- a list that is a front of h, or goes on behind h with c
pub data Reach {A : Type 0} (u h : List A) (c : A) : Type 0 where
  Within : (d : List A) → h ≡ u ++ d → Reach u h c
  Past : (more : List A) → u ≡ h ++ c ∷ more → Reach u h c

pub reach : {A : Type 0} (u after h : List A) (c : A) (p : List A) → u ++ after ≡ h ++ c ∷ p → Reach u h c
reach [] after h c p e = Reach.Within h refl
reach (x ∷ u) after [] c p e = Reach.Past u (ap (λ z. z ∷ u) (let z : x ≡ c = cc e in z))
reach (x ∷ u) after (y ∷ h) c p e = by (reach u after h c p (let z : u ++ after ≡ h ++ c ∷ p = cc e in z))
  where
    first : x ≡ y
    first = cc e

    by : Reach u h c → Reach (x ∷ u) (y ∷ h) c
    by (Reach.Within d f) = Reach.Within d (ap (λ z. y ∷ z) f ∙ ap (λ z. z ∷ u ++ d) (sym first))
    by (Reach.Past more f) = Reach.Past more (ap (λ z. x ∷ z) f ∙ ap (λ z. z ∷ h ++ c ∷ more) first)
