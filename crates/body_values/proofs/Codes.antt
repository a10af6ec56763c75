-- The functions of some code, by their blocks.
use Rattle.std.proofs.Common.{◌≡◌, refl, ℕ, zero, suc, ◌<◌, List, [], ◌∷◌, length, map, get_or, slice_get, unwrap_or, arith}
use Rattle.body_blocks.specs.Trees.{Coded}
use Rattle.machine.specs.Greenlets.{no_function}
use Rattle.body_values.specs.declared.functions.FlatFunction.{FlatFunction}
use Rattle.body_values.specs.Codes.{function_of}

pub function_there : (t : Coded) (fs : List FlatFunction) (n : ℕ) (d : FlatFunction) → n < length fs →
    unwrap_or (slice_get (map (function_of t) fs) n) no_function ≡ function_of t (get_or fs n d)
function_there t [] n d h = grind (arith, h)
function_there t (f ∷ fs) zero d h = refl
function_there t (f ∷ fs) (suc n) d h = function_there t fs n d (omega (arith, h))
