-- There are as many values as expressions.
use Rattle.std.proofs.Common.{◌≡◌, refl, ap, ℕ, suc, List, [], ◌∷◌, length, map, Result, Ok, Err}
use Rattle.gv_values.specs.declared.fault.FaultKind.{FaultKind}
use Rattle.gv_values.specs.declared.value.Outcome.{Outcome}
use Rattle.gv_values.specs.declared.value.Value.{Value}
use Rattle.scenario_tree.specs.declared.tree.Expression.{Expression}
use Rattle.machine.specs.Expressions.{Around, Meaning, meaning, meanings}
use Rattle.machine.specs.BodyMoves.{values}

-- so many values, if no argument has a fault
abbrev pub HasLength : ℕ → Result (List Value) FaultKind → Type 0
HasLength n (Ok vs) = length vs ≡ n
HasLength n (Err f) = Unit {0}

more-values : (n : ℕ) (m : Meaning) (ms : List Meaning) (a : Around) (o : Outcome) (r : Result (List Value) FaultKind) → m a ≡ o → meanings ms a ≡ r → HasLength n r →
    HasLength (suc n) (meanings (m ∷ ms) a)
more-values n m ms a (Outcome.Value v) (Ok vs) d e h = rw (d, e) (ap suc h)
more-values n m ms a (Outcome.Value v) (Err f) d e h = rw (d, e) tt
more-values n m ms a (Outcome.Fault f) r d e h = rw d tt

pub values-length : (es : List Expression) (a : Around) → HasLength (length es) (values es a)
values-length [] a = refl
values-length (e ∷ es) a = more-values (length es) (meaning e) (map meaning es) a (meaning e a) (values es a) refl refl (values-length es a)
