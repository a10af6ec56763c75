-- What a refusal of a scenario says.
use Rattle.std.specs.Prelude.{◌≡◌, Some, Result, Ok, Err}
use Rattle.scenario_tree.specs.declared.tree.Scenario.{Scenario}
use Rattle.scenario_rules.specs.Rules.{IsWellFormed, place_of}
use Rattle.scenario_lang.specs.declared.text.ParseRefusal.{ParseRefusal}
use Rattle.scenario_lang.specs.declared.text.ParseRefusal.TheVariants as refusal

-- a refused scenario is refused at its place, and is not well formed
abbrev pub IsPlaced : {A : Type 0} → Scenario → Result A ParseRefusal → Type 0
IsPlaced s (Ok c) = Unit {0}
IsPlaced s (Err (refusal.Refused p)) = (place_of s ≡ Some p) × (IsWellFormed s → ⊥)
IsPlaced s (Err refusal.Memory) = Unit {0}
