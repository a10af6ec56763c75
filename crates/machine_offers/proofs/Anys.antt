-- Tests on one of a list.
use Rattle.std.proofs.Common.{◌≡◌, refl, ap, ◌∙◌, Bool, true, false, List, [], ◌∷◌, ◌++◌, cond}
use Rattle.std.specs.Prelude.{not, ◌&&◌, ◌||◌, filter}
use Rattle.std.specs.List.{list_all, list_any}

pub any-all : {X : Type 0} (p : X → Bool) (xs : List X) → list_all (λ x. not (p x)) xs ≡ not (list_any p xs)
any-all p [] = refl
any-all p (x ∷ xs) = by (p x) (any-all p xs)
  where
    by : (b : Bool) → list_all (λ x. not (p x)) xs ≡ not (list_any p xs) → (not b && list_all (λ x. not (p x)) xs) ≡ not (b || list_any p xs)
    by true e = refl
    by false e = e

pub any-imply : {X : Type 0} (p q : X → Bool) (xs : List X) → ((x : X) → p x ≡ true → q x ≡ true) → list_any p xs ≡ true → list_any q xs ≡ true
any-imply p q [] f h = h
any-imply p q (x ∷ xs) f h = by (p x) (q x) (f x) h (any-imply p q xs f)
  where
    by : (b c : Bool) → (b ≡ true → c ≡ true) → (b || list_any p xs) ≡ true → (list_any p xs ≡ true → list_any q xs ≡ true) → (c || list_any q xs) ≡ true
    by b true g e rest = refl
    by true false g e rest = absurd (cc (g refl))
    by false false g e rest = rest e

pub any-filter : {X : Type 0} (kept p : X → Bool) (xs : List X) → list_any p (filter kept xs) ≡ true → list_any p xs ≡ true
any-filter kept p [] h = h
any-filter kept p (x ∷ xs) h = by (kept x) h (any-filter kept p xs)
  where
    or : (b c : Bool) → c ≡ true → (b || c) ≡ true
    or true c e = refl
    or false c e = e

    same : (b : Bool) → (b || list_any p (filter kept xs)) ≡ true → (list_any p (filter kept xs) ≡ true → list_any p xs ≡ true) → (b || list_any p xs) ≡ true
    same true e rest = refl
    same false e rest = rest e

    by : (b : Bool) → list_any p (cond b (x ∷ filter kept xs) (filter kept xs)) ≡ true → (list_any p (filter kept xs) ≡ true → list_any p xs ≡ true) → (p x || list_any p xs) ≡ true
    by true e rest = same (p x) e rest
    by false e rest = or (p x) (list_any p xs) (rest e)

-- those that pass are kept
pub any-kept : {X : Type 0} (kept p : X → Bool) (xs : List X) → ((x : X) → p x ≡ true → kept x ≡ true) → list_any p xs ≡ true → list_any p (filter kept xs) ≡ true
any-kept kept p [] f h = h
any-kept kept p (x ∷ xs) f h = by (kept x) refl (p x) refl h (any-kept kept p xs f)
  where
    by : (b : Bool) → kept x ≡ b → (c : Bool) → p x ≡ c → (c || list_any p xs) ≡ true → (list_any p xs ≡ true → list_any p (filter kept xs) ≡ true) →
        list_any p (cond b (x ∷ filter kept xs) (filter kept xs)) ≡ true
    by true z true e h rest = ap (λ c. c || list_any p (filter kept xs)) e
    by true z false e h rest = ap (λ c. c || list_any p (filter kept xs)) e ∙ rest h
    by false z true e h rest = absurd (cc (z, f x e))
    by false z false e h rest = rest h

pub any-end : {X : Type 0} (p : X → Bool) (xs : List X) (x : X) → list_any p (xs ++ x ∷ []) ≡ (list_any p xs || p x)
any-end p [] x = by (p x)
  where
    by : (b : Bool) → (b || false) ≡ (false || b)
    by true = refl
    by false = refl
any-end p (y ∷ xs) x = by (p y) (any-end p xs x)
  where
    by : (b : Bool) → list_any p (xs ++ x ∷ []) ≡ (list_any p xs || p x) → (b || list_any p (xs ++ x ∷ [])) ≡ (b || list_any p xs || p x)
    by true e = refl
    by false e = e
