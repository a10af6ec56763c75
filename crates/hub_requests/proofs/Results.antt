-- A map's results that are gathered one after another.
use Rattle.std.proofs.Common.{◌≡◌, refl, ap, sym, subst, ◌∙◌, ℕ, zero, suc, ◌+◌, ◌<◌, Bool, true, false, List, [], ◌∷◌, ◌++◌, length, drop, get_or, Option, Some, None, arith}
use Rattle.std.specs.Prelude.{map, reverse}
use Rattle.std.proofs.lemmas.List.{reverse-append}
use Rattle.gv_values.specs.declared.fault.FaultKind.{FaultKind}
use Rattle.gv_values.specs.declared.scalar.Scalar.{Scalar}
use Rattle.gv_values.specs.declared.value.Outcome.{Outcome}
use Rattle.gv_values.specs.declared.value.Value.{Value}
use Rattle.gv_values.specs.Value.{scalar_of_value}
use Rattle.machine.specs.Expressions.{scalars}
use Rattle.machine.specs.Waits.{gathered, outcome_of_greenlet}
use Rattle.machine.specs.State.{State}
use Rattle.hub_requests.specs.Gathering.{IsGathering}

-- a scalar before the others
abbrev before : Option Scalar → Option (List Scalar) → Option (List Scalar)
before (Some x) (Some xs) = Some (x ∷ xs)
before (Some x) None = None
before None o = None

-- a scalar after the others
abbrev after : Option (List Scalar) → Option Scalar → Option (List Scalar)
after (Some xs) (Some x) = Some (xs ++ x ∷ [])
after (Some xs) None = None
after None o = None

scalars-cons : (v : Value) (vs : List Value) → scalars (v ∷ vs) ≡ before (scalar_of_value v) (scalars vs)
scalars-cons v vs = by (scalar_of_value v) (scalars vs) refl refl
  where
    by : (a : Option Scalar) (o : Option (List Scalar)) → scalar_of_value v ≡ a → scalars vs ≡ o → scalars (v ∷ vs) ≡ before a o
    by None None e f = rw e
    by None (Some xs) e f = rw e
    by (Some x) None e f = rw (e, f)
    by (Some x) (Some xs) e f = rw (e, f)

moved : (a : Option Scalar) (o : Option (List Scalar)) (b : Option Scalar) → before a (after o b) ≡ after (before a o) b
moved None o b = refl
moved (Some x) None b = refl
moved (Some x) (Some xs) None = refl
moved (Some x) (Some xs) (Some y) = refl

scalars-end : (vs : List Value) (v : Value) → scalars (vs ++ v ∷ []) ≡ after (scalars vs) (scalar_of_value v)
scalars-end [] v = scalars-cons v [] ∙ by (scalar_of_value v)
  where
    by : (a : Option Scalar) → before a (Some []) ≡ after (Some []) a
    by None = refl
    by (Some x) = refl
scalars-end (w ∷ vs) v =
    scalars-cons w (vs ++ v ∷ []) ∙ ap (before (scalar_of_value w)) (scalars-end vs v)
    ∙ moved (scalar_of_value w) (scalars vs) (scalar_of_value v) ∙ ap (λ (o : Option (List Scalar)). after o (scalar_of_value v)) (sym (scalars-cons w vs))

more-seen : (v : Value) (seen : List Value) → scalars (reverse (v ∷ seen)) ≡ after (scalars (reverse seen)) (scalar_of_value v)
more-seen v seen = ap scalars (reverse-append (v ∷ []) seen) ∙ scalars-end (reverse seen) v

pub gathers_scalar : (whole : Outcome) (os : List Outcome) (found : List Scalar) (v : Value) (x : Scalar) → scalar_of_value v ≡ Some x →
    IsGathering whole (Outcome.Value v ∷ os) found false → IsGathering whole os (found ++ x ∷ []) false
gathers_scalar whole os found v x e g =
    record {
      seen = v ∷ g.seen;
      rest = g.rest;
      values = more-seen v g.seen ∙ ap (λ (o : Option (List Scalar)). after o (scalar_of_value v)) g.values ∙ ap (after (Some found)) e;
    }

pub gathers_list : (whole : Outcome) (os : List Outcome) (found later : List Scalar) (v : Value) (b : Bool) → scalar_of_value v ≡ None →
    IsGathering whole (Outcome.Value v ∷ os) found b → IsGathering whole os later true
gathers_list whole os found later v b e g =
    record {
      seen = v ∷ g.seen;
      rest = g.rest;
      values = more-seen v g.seen ∙ ap (after (scalars (reverse g.seen))) e ∙ by (scalars (reverse g.seen));
    }
  where
    by : (o : Option (List Scalar)) → after o None ≡ None
    by None = refl
    by (Some xs) = refl

pub gathers_on : (whole : Outcome) (os : List Outcome) (found later : List Scalar) (v : Value) → IsGathering whole (Outcome.Value v ∷ os) found true → IsGathering whole os later true
gathers_on whole os found later v g =
    record {
      seen = v ∷ g.seen;
      rest = g.rest;
      values = more-seen v g.seen ∙ ap (λ (o : Option (List Scalar)). after o (scalar_of_value v)) g.values;
    }

pub first-of : {X : Type 0} (xs : List X) (i : ℕ) (d : X) → i < length xs → drop i xs ≡ get_or xs i d ∷ drop (i + 1) xs
first-of [] i d h = absurd (omega (arith, h))
first-of (x ∷ xs) zero d h = refl
first-of (x ∷ xs) (suc i) d h = let one : suc i + 1 ≡ suc (i + 1) = omega arith in rw one (first-of xs i d (omega (arith, h)))

-- the next one is this
pub gathers_next : (s : State) (made : List ℕ) (i d : ℕ) (whole o : Outcome) (found : List Scalar) (b : Bool) → i < length made → o ≡ outcome_of_greenlet s (get_or made i d) →
    IsGathering whole (map (outcome_of_greenlet s) (drop i made)) found b → IsGathering whole (o ∷ map (outcome_of_greenlet s) (drop (i + 1) made)) found b
gathers_next s made i d whole o found b h e g =
    subst (λ (x : Outcome). IsGathering whole (x ∷ map (outcome_of_greenlet s) (drop (i + 1) made)) found b) (sym e)
    (subst (λ (ks : List ℕ). IsGathering whole (map (outcome_of_greenlet s) ks) found b) (first-of made i d h) g)

pub gathers_fault : (whole o : Outcome) (os : List Outcome) (f : FaultKind) (found : List Scalar) (b : Bool) → o ≡ Outcome.Fault f → IsGathering whole (o ∷ os) found b → whole ≡ Outcome.Fault f
gathers_fault whole o os f found b e g = g.rest ∙ ap (λ (x : Outcome). gathered (x ∷ os) g.seen) e

pub gathers_end : (whole : Outcome) (found : List Scalar) → IsGathering whole [] found false → whole ≡ Outcome.Value (Value.List found)
gathers_end whole found g = g.rest ∙ ap (λ (o : Option (List Scalar)). elim o [ Some xs ↦ Outcome.Value (Value.List xs) | None ↦ Outcome.Fault FaultKind.TypeError ]) g.values

pub gathers_none : (whole : Outcome) (found : List Scalar) → IsGathering whole [] found true → whole ≡ Outcome.Fault FaultKind.TypeError
gathers_none whole found g = g.rest ∙ ap (λ (o : Option (List Scalar)). elim o [ Some xs ↦ Outcome.Value (Value.List xs) | None ↦ Outcome.Fault FaultKind.TypeError ]) g.values

pub gathers_first : (whole : Outcome) (os : List Outcome) → whole ≡ gathered os [] → IsGathering whole os [] false
gathers_first whole os e = record { seen = []; rest = e; values = refl }
