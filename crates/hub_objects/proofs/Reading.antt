-- What is read of a declared object.
use Rattle.std.proofs.Common.{◌≡◌, refl, ℕ, zero, suc, ◌<◌, List, [], ◌∷◌, length, slice_index_or, arith}
use Rattle.scenario_tree.specs.declared.tree.Declaration.{Declaration}
use Rattle.machine.specs.Objects.{name_at}

pub named : (ds : List Declaration) (o : ℕ) (d : Declaration) → o < length ds → (slice_index_or ds o d).name ≡ name_at o ds
named [] o d h = absurd (omega (arith, h))
named (x ∷ ds) zero d h = refl
named (x ∷ ds) (suc o) d h = named ds o d (omega (arith, h))
