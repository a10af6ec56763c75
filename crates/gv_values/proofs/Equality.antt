-- The derived `==` of faults and scalars says what `fault_eq` and `scalar_eq` say.
use Rattle.std.proofs.Common.{rules, ◌≡◌, Bool, List, [], ◌∷◌, ◌&&◌, refl, ap, ◌∙◌, pos, negsuc}
use Rattle.std.specs.Cmp.Lexicographic.{pointwise}
use Rattle.gv_values.specs.declared.scalar.Scalar.{Scalar}
use Rattle.gv_values.specs.declared.fault.FaultKind.{FaultKind}
use Rattle.gv_values.specs.Fault.{fault_eq}
use Rattle.gv_values.specs.Value.{scalar_eq, scalars_eq}
use Rattle.gv_values.specs.contracts.scalar.ScalarPartialEq.TheImpl.{eq-value as scalar}
use Rattle.gv_values.specs.contracts.fault.FaultKindPartialEq.TheImpl.{eq-value as fault}

pub same_fault : (x y : FaultKind) → fault.it x y ≡ fault_eq x y
same_fault FaultKind.GreenletExit FaultKind.GreenletExit = refl
same_fault (FaultKind.Timeout a) (FaultKind.Timeout b) = refl
same_fault (FaultKind.Error a) (FaultKind.Error b) = refl
same_fault FaultKind.LoopExit FaultKind.LoopExit = refl
same_fault FaultKind.Empty FaultKind.Empty = refl
same_fault FaultKind.Full FaultKind.Full = refl
same_fault FaultKind.ShutDown FaultKind.ShutDown = refl
same_fault FaultKind.ValueError FaultKind.ValueError = refl
same_fault FaultKind.RuntimeError FaultKind.RuntimeError = refl
same_fault FaultKind.TypeError FaultKind.TypeError = refl
same_fault FaultKind.OverflowError FaultKind.OverflowError = refl
same_fault FaultKind.ZeroDivisionError FaultKind.ZeroDivisionError = refl
same_fault FaultKind.InvalidSwitch FaultKind.InvalidSwitch = refl
same_fault x y = refl

pub same_scalar : (x y : Scalar) → scalar.it x y ≡ scalar_eq x y
same_scalar Scalar.Nothing Scalar.Nothing = refl
same_scalar (Scalar.Bool a) (Scalar.Bool b) = refl
same_scalar (Scalar.Int a) (Scalar.Int b) = refl
same_scalar (Scalar.Fault a) (Scalar.Fault b) = same_fault a b
same_scalar (Scalar.Greenlet a) (Scalar.Greenlet b) = refl
same_scalar (Scalar.Job a) (Scalar.Job b) = refl
same_scalar x y = refl

pub same_scalars : (xs ys : List Scalar) → pointwise scalar.it xs ys ≡ scalars_eq xs ys
same_scalars [] [] = refl
same_scalars [] (y ∷ ys) = refl
same_scalars (x ∷ xs) [] = refl
same_scalars (x ∷ xs) (y ∷ ys) = ap (λ b. b && pointwise scalar.it xs ys) (same_scalar x y) ∙ ap (λ b. scalar_eq x y && b) (same_scalars xs ys)
