-- A list of greenlets that are not raw, one after another.
use Rattle.std.proofs.Common.{◌≡◌, refl, ap, sym, subst, ◌∙◌, ℕ, zero, suc, ◌+◌, ◌<◌, Bool, true, false, List, [], ◌∷◌, ◌++◌, length, drop, get_or, append_assoc, Option, Some, None, arith}
use Rattle.std.specs.Prelude.{if◌then◌else◌}
use Rattle.gv_values.specs.declared.scalar.Scalar.{Scalar}
use Rattle.machine.specs.Greenlets.{greenlet}
use Rattle.machine.specs.Request.{plain_greenlets}
use Rattle.machine.specs.State.{State}
use Rattle.hub_requests.specs.Operands.{plain_scalar}

-- those that were found, and the others
abbrev pub joined : List ℕ → Option (List ℕ) → Option (List ℕ)
joined gs None = None
joined gs (Some hs) = Some (gs ++ hs)

first : (s : State) (x : Scalar) (xs : List Scalar) (g : ℕ) → plain_scalar s x ≡ Some g → plain_greenlets s (x ∷ xs) ≡ joined (g ∷ []) (plain_greenlets s xs)
first s (Scalar.Greenlet k) xs g e = by (plain_greenlets s xs) (greenlet k s).raw e
  where
    by : (o : Option (List ℕ)) (b : Bool) → ◌≡◌ {A = Option ℕ} (if b then None else Some k) (Some g) →
        ◌≡◌ {A = Option (List ℕ)} (elim o [ None ↦ None | Some gs ↦ if b then None else Some (k ∷ gs) ]) (joined (g ∷ []) o)
    by None b e = refl
    by (Some gs) true e = absurd (cc e)
    by (Some gs) false e = let same : k ≡ g = cc e in ap (λ (n : ℕ). Some (n ∷ gs)) same
first s x xs g e = absurd (cc e)

none : (s : State) (x : Scalar) (xs : List Scalar) → plain_scalar s x ≡ None → plain_greenlets s (x ∷ xs) ≡ None
none s (Scalar.Greenlet k) xs e = by (plain_greenlets s xs) (greenlet k s).raw e
  where
    by : (o : Option (List ℕ)) (b : Bool) → ◌≡◌ {A = Option ℕ} (if b then None else Some k) None →
        ◌≡◌ {A = Option (List ℕ)} (elim o [ None ↦ None | Some gs ↦ if b then None else Some (k ∷ gs) ]) None
    by None b e = refl
    by (Some gs) true e = refl
    by (Some gs) false e = absurd (cc e)
none s x xs e = refl

join-again : (gs : List ℕ) (g : ℕ) (o : Option (List ℕ)) → joined gs (joined (g ∷ []) o) ≡ joined (gs ++ g ∷ []) o
join-again gs g None = refl
join-again gs g (Some hs) = ap (λ (ks : List ℕ). Some ks) (sym (append_assoc gs (g ∷ []) hs))

pub listed_more : (s : State) (xs : List Scalar) (i : ℕ) (d : Scalar) (g : ℕ) (gs : List ℕ) (whole : Option (List ℕ)) → i < length xs → whole ≡ joined gs (plain_greenlets s (drop i xs)) →
    plain_scalar s (get_or xs i d) ≡ Some g → whole ≡ joined (gs ++ g ∷ []) (plain_greenlets s (drop (i + 1) xs))
listed_more s [] i d g gs whole h e f = absurd (omega (arith, h))
listed_more s (x ∷ xs) zero d g gs whole h e f = e ∙ ap (joined gs) (first s x xs g f) ∙ join-again gs g (plain_greenlets s xs)
listed_more s (x ∷ xs) (suc i) d g gs whole h e f =
    let one : suc i + 1 ≡ suc (i + 1) = omega arith in
    subst (λ (n : ℕ). whole ≡ joined (gs ++ g ∷ []) (plain_greenlets s (drop n (x ∷ xs)))) (sym one) (listed_more s xs i d g gs whole (omega (arith, h)) e f)

pub not_listed : (s : State) (xs : List Scalar) (i : ℕ) (d : Scalar) (gs : List ℕ) (whole : Option (List ℕ)) → i < length xs → whole ≡ joined gs (plain_greenlets s (drop i xs)) →
    plain_scalar s (get_or xs i d) ≡ None → whole ≡ None
not_listed s [] i d gs whole h e f = absurd (omega (arith, h))
not_listed s (x ∷ xs) zero d gs whole h e f = e ∙ ap (joined gs) (none s x xs f)
not_listed s (x ∷ xs) (suc i) d gs whole h e f = not_listed s xs i d gs whole (omega (arith, h)) e f
