-- The run of a scenario, by the status of the call.
use Rattle.std.specs.Prelude.{◌≡◌, ◌≢◌, ◌⊎◌, ℕ, List, Option}
use Rattle.world_rules.specs.declared.question.LogEntry.{LogEntry}
use Rattle.world.specs.Outside.{WorldMeaning}
use Rattle.scenario_tree.specs.declared.tree.Scenario.{Scenario}
use Rattle.command_words.specs.declared.command.RunOptions.{RunOptions}
use Rattle.command_words.specs.declared.command.RunWorld.TheVariants.{Native, Held}
use Rattle.run_command.specs.Running.{IsBegun, RanHeld, RanNatively, run_of}

-- no run was begun: out is as it was, and the status is that of a fault or of want of memory
abbrev pub IsUnbegun : ℕ → Option (List ℕ) → Option (List ℕ) → Type 0
IsUnbegun n out0 out1 = (out1 ≡ out0) × ((n ≡ 4) ⊎ (n ≡ 5) ⊎ (n ≡ 7))

-- What holds of the run of a scenario with these options, by the status.
pub record RanWith (n : ℕ) (options : RunOptions) (s : Scenario) (after : WorldMeaning) (stands : List LogEntry → Type 0) (out0 out1 : Option (List ℕ)) : Type 0 where
  -- It was begun so; or no run was begun, and out is as it was, with the status 4, 5 or 7.
  pub begun : IsBegun options s after.answers out0 out1 ⊎ IsUnbegun n out0 out1
  -- With every other status native workers, if the words ask for them, ran so, or in the order of a script.
  pub native : (workers : ℕ) → options.world ≡ Native workers → n ≢ 4 → n ≢ 5 → n ≢ 7 → RanNatively workers (run_of options after.answers s) after stands
  pub held : (workers : ℕ) → options.world ≡ Held workers → n ≢ 4 → n ≢ 5 → n ≢ 7 → RanHeld workers (run_of options after.answers s) after stands
