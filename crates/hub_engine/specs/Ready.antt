-- What is so of the states of a run, and of the state that it begins from.
use Rattle.std.specs.Prelude.{◌≡◌, ℕ}
use Rattle.scenario_tree.specs.declared.tree.Scenario.{Scenario}
use Rattle.scenario_rules.specs.Rules.{IsWellFormed}
use Rattle.body_values.specs.Functions.{IsFunction}
use Rattle.machine.specs.State.{State}
use Rattle.machine.specs.Greenlets.{greenlet}
use Rattle.machine.specs.Landing.{Next}
use Rattle.machine.specs.Run.{first_state, silent}
use Rattle.machine_trace_laws.specs.Reached.{Reached}
use Rattle.machine_rooms.specs.Counts.{AreCountable}
use Rattle.machine_soundness.specs.Going.{IsSoundAt}
use Rattle.machine_well_formed.specs.Texts.{HasMain}

-- the hub comes to stand so in a run of a well-formed scenario that has a main
pub record IsReadyAt (next : Next) : Type 0 where
  pub scenario : Scenario
  pub well_formed : IsWellFormed scenario
  pub main : HasMain scenario
  pub reached : Reached scenario next
  pub sound : IsSoundAt next

-- it rests so, and all that was said is given out
pub record IsReady (s : State) : Type 0 where
  pub silent : s ≡ silent s
  pub at : IsReadyAt (Next.Resting s)

-- the greenlet is at its next move so, and all that was said is given out
pub record IsReadyToMove (g : ℕ) (s : State) : Type 0 where
  pub before : State
  pub ready : IsReadyAt (Next.Going g before)
  pub same : s ≡ silent before

-- each greenlet, of whatever number, runs a function of the scenario
pub record AreDeclared (s : State) : Type 0 where
  pub each : (g : ℕ) → IsFunction s.scenario (greenlet g s).function

-- the scenario may be run: it is well formed, has a main, and declares its objects with few counts
pub record MayRun (c : Scenario) : Type 0 where
  pub well_formed : IsWellFormed c
  pub main : HasMain c
  pub countable : AreCountable (first_state c).objects

-- nothing of the run has begun
pub record IsPrepared (s : State) : Type 0 where
  pub may_run : MayRun s.scenario
  pub first : s ≡ first_state s.scenario
