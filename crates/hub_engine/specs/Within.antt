-- How far a run has come, within the budgets that it may be given.
use Rattle.std.specs.Prelude.{◌≡◌, ◌≤◌, ℕ, Bool}
use Rattle.gv_values.specs.declared.limits.TheConstants.{MOST_MOVES, MOST_TURNS}
use Rattle.scenario_tree.specs.declared.tree.Scenario.{Scenario}
use Rattle.scenario_rules.specs.Rules.{IsWellFormed}
use Rattle.machine.specs.Landing.{Next}
use Rattle.machine.specs.Run.{first_state, silent}
use Rattle.machine.specs.State.{State}
use Rattle.machine_trace_laws.specs.Reached.{state_of_next}
use Rattle.machine_rooms.specs.Counts.{AreCountable}
use Rattle.machine_reached.specs.Turns.{ReachedIn}
use Rattle.hub_engine.specs.declared.run.EngineRefusal.{EngineRefusal}
use Rattle.hub_engine.specs.Ready.{IsPrepared}

-- a run may be given no more turns and moves
pub record AreFewBudgets (turns moves : ℕ) : Type 0 where
  pub few_turns : turns ≤ MOST_TURNS
  pub few_moves : moves ≤ MOST_MOVES

-- an engine is refused for its budgets exactly where a run may not be given these
abbrev pub IsRefusedFor : (turns moves : ℕ) → EngineRefusal → Type 0
IsRefusedFor turns moves EngineRefusal.Budgets = AreFewBudgets turns moves → ⊥
IsRefusedFor turns moves EngineRefusal.Memory = AreFewBudgets turns moves

-- nothing of the run has begun, which is given so many turns and moves
pub record IsGiven (turns moves : ℕ) (s : State) : Type 0 where
  pub prepared : IsPrepared s
  pub few : AreFewBudgets turns moves

-- The hub comes to stand so after this many turns of a run of a well-formed scenario whose objects count little as they
-- are declared, within the budgets that a run may be given. It is told whether the turn under way may still take its
-- answer.
pub record IsWithinAt (may : Bool) (turns : ℕ) (next : Next) : Type 0 where
  pub scenario : Scenario
  pub well_formed : IsWellFormed scenario
  pub countable : AreCountable (first_state scenario).objects
  pub reached : ReachedIn scenario may next
  pub same_turns : (state_of_next next).turns ≡ turns
  pub few_turns : turns ≤ MOST_TURNS
  pub few_moves : (state_of_next next).moves ≤ MOST_MOVES

-- it rests so, however far the run has come
pub record IsWithinSomehow (s : State) : Type 0 where
  pub may : Bool
  pub turns : ℕ
  pub within : IsWithinAt may turns (Next.Resting s)

-- the greenlet is at its next move so, however far the run has come, and all that was said is given out
pub record IsWithinToMove (g : ℕ) (s : State) : Type 0 where
  pub may : Bool
  pub turns : ℕ
  pub before : State
  pub within : IsWithinAt may turns (Next.Going g before)
  pub same : s ≡ silent before
