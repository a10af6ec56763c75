-- Parameters, by the numbers of their names, with their arguments.
use Rattle.std.specs.Prelude.{ℕ, List, [], ◌∷◌}
use Rattle.gv_values.specs.declared.value.Value.{Value}
use Rattle.body_locals.specs.declared.locals.Bound.{Bound}

-- each number with its argument, as far as there are both
abbrev pub given : List ℕ → List Value → List Bound
given (n ∷ ns) (v ∷ vs) = record { number = n; value = v } ∷ given ns vs
given ns vs = []
