-- Operands one after another: what is evaluated so far, before what is left.
use Rattle.std.proofs.Common.{◌≡◌, ap, sym, ◌∙◌, refl, ℕ, suc, ◌<◌, ◌≤◌, nat_lt, true, false, List, [], ◌∷◌, ◌++◌, length, drop, Option, Some, None, arith}
use Rattle.std.specs.Option.{is_some}
use Rattle.std.specs.Prelude.{Result, Ok, Err, IfSome}
use Rattle.std.proofs.lemmas.List.{drop_all}
use Rattle.gv_values.specs.declared.fault.FaultKind.{FaultKind}
use Rattle.gv_values.specs.declared.value.Value.{Value}
use Rattle.gv_values.specs.declared.value.Outcome.{Outcome}
use Rattle.gv_values.specs.declared.scalar.Scalar.{Scalar}
use Rattle.gv_values.specs.Value.{scalar_of_value}
use Rattle.machine.specs.Expressions.{scalars, listed, type_error}
use Rattle.gv_values.specs.declared.limits.TheConstants.{MOST_ELEMENTS}

-- these values before those of the rest
abbrev pub prepended : List Value → Result (List Value) FaultKind → Result (List Value) FaultKind
prepended vs (Ok ws) = Ok (vs ++ ws)
prepended vs (Err f) = Err f

-- these scalars before those of the rest
abbrev pub preceded : List Scalar → Option (List Scalar) → Option (List Scalar)
preceded xs (Some ys) = Some (xs ++ ys)
preceded xs None = None

-- ---- a list of values

-- where all are scalars, they are as many
as_many_more : (v : Value) (vs : List Value) (s : Option Scalar) (r : Option (List Scalar)) → scalar_of_value v ≡ s → scalars vs ≡ r →
    IfSome r (λ xs. length xs ≡ length vs) → IfSome (scalars (v ∷ vs)) (λ xs. length xs ≡ suc (length vs))
as_many_more v vs (Some x) (Some xs) hs hr h = rw (hs, hr) (ap suc h)
as_many_more v vs (Some x) None hs hr h = rw (hs, hr) tt
as_many_more v vs None r hs hr h = rw hs tt

as_many : (vs : List Value) → IfSome (scalars vs) (λ xs. length xs ≡ length vs)
as_many [] = refl
as_many (v ∷ vs) = as_many_more v vs (scalar_of_value v) (scalars vs) refl refl (as_many vs)

many_refused : (vs : List Value) (r : Option (List Scalar)) → scalars vs ≡ r → IfSome r (λ xs. length xs ≡ length vs) → MOST_ELEMENTS < length vs →
    is_some r ≡ true → Outcome.Fault FaultKind.ValueError ≡ listed (Ok vs)
many_refused vs (Some xs) e same many some = let full : nat_lt MOST_ELEMENTS (length xs) ≡ true = grind (arith, same, many) in rw (e, full)
many_refused vs None e same many some = cc

-- all were read, and none was a list
pub listed_many : (vs : List Value) (i : ℕ) → MOST_ELEMENTS < length vs → length vs ≤ i → is_some (scalars vs) ≡ is_some (scalars (drop i vs)) →
    Outcome.Fault FaultKind.ValueError ≡ listed (Ok vs)
listed_many vs i many read same =
    many_refused vs (scalars vs) refl (as_many vs) many (same ∙ ap (λ ws. is_some (scalars ws)) (drop_all i vs read))

-- a list among them
refused : (vs : List Value) (r : Option (List Scalar)) → scalars vs ≡ r → is_some r ≡ false → type_error ≡ listed (Ok vs)
refused vs (Some xs) e none = cc
refused vs None e none = rw e

pub listed_mixed : (vs : List Value) → is_some (scalars vs) ≡ false → type_error ≡ listed (Ok vs)
listed_mixed vs none = refused vs (scalars vs) refl none

pub stays_some : (v : Value) (vs : List Value) (s : Option Scalar) → s ≡ scalar_of_value v → is_some s ≡ true → is_some (scalars (v ∷ vs)) ≡ is_some (scalars vs)
stays_some v vs (Some x) h some = kept (scalars vs) refl
  where
    kept : (r : Option (List Scalar)) → scalars vs ≡ r → is_some (scalars (v ∷ vs)) ≡ is_some r
    kept (Some xs) e = rw (sym h, e)
    kept None e = rw (sym h, e)
stays_some v vs None h some = cc
