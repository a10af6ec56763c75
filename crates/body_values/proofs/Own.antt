-- The numbers of the own blocks' names.
use Rattle.std.proofs.Common.{◌≡◌, subst, ℕ, List, Some, slice_get}
use Rattle.std.proofs.lemmas.Option.{get_or_from_slice_get, slice_get_within}
use Rattle.gv_values.specs.declared.name.Name.{Name}
use Rattle.scenario_tree.specs.declared.tree.Scenario.{Scenario}
use Rattle.body_values.specs.declared.numbers.NameNumbers.{NameNumbers}
use Rattle.body_values.specs.Numbers.{HasNumbersOf, HaveNumbers}

-- an entry at a place has the numbers of its name
at_place : (s : Scenario) (own : List NameNumbers) (n : ℕ) (e : NameNumbers) → HaveNumbers s own → slice_get own n ≡ Some e → HasNumbersOf e.name s e
at_place s own n e h there = subst (λ (y : NameNumbers). HasNumbersOf y.name s y) (get_or_from_slice_get own n e e there) (h n e (slice_get_within own n e there))

-- so it has those of another name that is the same
pub own_found : (s : Scenario) (own : List NameNumbers) (n : ℕ) (e : NameNumbers) (x : Name) → HaveNumbers s own → slice_get own n ≡ Some e → e.name ≡ x → HasNumbersOf x s e
own_found s own n e x h there same = subst (λ (y : Name). HasNumbersOf y s e) same (at_place s own n e h there)
