-- Lists of which only some items are kept.
use Rattle.std.proofs.Common.{◌≡◌, Bool, true, false, not, cond, List, [], ◌∷◌, map, refl, ap, ◌∙◌, ◌||◌}
use Rattle.std.specs.Prelude.{filter}

-- the images that pass a test are those of the items whose image passes it
pub map-filter : {A B : Type 0} (f : A → B) (q : B → Bool) (xs : List A) → map f (filter (λ x. q (f x)) xs) ≡ filter q (map f xs)
map-filter f q [] = refl
map-filter f q (x ∷ xs) = kept (q (f x)) (map-filter f q xs)
  where
    kept : (b : Bool) → map f (filter (λ x. q (f x)) xs) ≡ filter q (map f xs)
        → map f (cond b (x ∷ filter (λ x. q (f x)) xs) (filter (λ x. q (f x)) xs)) ≡ cond b (f x ∷ filter q (map f xs)) (filter q (map f xs))
    kept true e = ap (λ l. f x ∷ l) e
    kept false e = e

-- two tests, one after the other
pub filter-filter : {A : Type 0} (p q : A → Bool) (xs : List A) → filter (λ x. not (p x || (q x || false))) xs ≡ filter (λ x. not (q x)) (filter (λ x. not (p x)) xs)
filter-filter p q [] = refl
filter-filter p q (x ∷ xs) = kept (p x) (q x) refl (filter-filter p q xs)
  where
    kept : (a b : Bool) → q x ≡ b → filter (λ x. not (p x || (q x || false))) xs ≡ filter (λ x. not (q x)) (filter (λ x. not (p x)) xs)
        → cond (not (a || (b || false))) (x ∷ filter (λ x. not (p x || (q x || false))) xs) (filter (λ x. not (p x || (q x || false))) xs)
        ≡ filter (λ x. not (q x)) (cond (not a) (x ∷ filter (λ x. not (p x)) xs) (filter (λ x. not (p x)) xs))
    kept true b is e = e
    kept false true is e = e ∙ rw is refl
    kept false false is e = ap (λ l. x ∷ l) e ∙ rw is refl
