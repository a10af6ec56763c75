-- Whether objects were declared so far.
use Rattle.std.proofs.Common.{◌≡◌, ◌∙◌, ap, refl, true, false, List, [], ◌∷◌, Bool}
use Rattle.scenario_tree.specs.declared.tree.Declaration.{Declaration}
use Rattle.scenario_grammar.specs.Building.{Building}
use Rattle.scenario_grammar.specs.Parsed.{has_objects}

pub none_declared : (b : Building) → b.objects ≡ [] → has_objects b ≡ false
none_declared b e = ap (λ (ds : List Declaration). elim ds [ [] ↦ false | d ∷ rest ↦ true ]) e

pub some_declared : (b : Building) → (b.objects ≡ [] → ⊥) → has_objects b ≡ true
some_declared b other = by b.objects refl
  where
    by : (ds : List Declaration) → b.objects ≡ ds → ◌≡◌ {A = Bool} (elim b.objects [ [] ↦ false | d ∷ rest ↦ true ]) true
    by [] e = absurd (other e)
    by (d ∷ ds) e = ap (λ (xs : List Declaration). elim xs [ [] ↦ false | y ∷ rest ↦ true ]) e
