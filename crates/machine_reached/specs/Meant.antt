-- What a well-formed text sees to in every state of its runs. This project's own.
use Rattle.std.specs.Prelude.{◌≡◌, ℕ, Bool, true}
use Rattle.scenario_tree.specs.declared.tree.Scenario.{Scenario}
use Rattle.scenario_rules.specs.Rules.{IsWellFormed}
use Rattle.machine.specs.State.{State}
use Rattle.machine.specs.BodyMoves.{Did}
use Rattle.machine.specs.Landing.{Next}
use Rattle.machine_soundness.specs.Going.{is_meant_move, next_did}
use Rattle.machine_well_formed.specs.Texts.{HasMain, IsKnown, fits_request}
use Rattle.machine_trace_laws.specs.Reached.{Reached, state_of_next}

-- what a move asks for is there and of the kind that it wants, and a raw body asks nothing of the hub
abbrev pub fits_did : Scenario → Did → Bool
fits_did c (Did.Asks request x todo) = fits_request c request
fits_did c did = true

-- functions and objects are there, each object as it was declared, and each wait and link names what it wants
abbrev pub KnowsText : State → Type 0
KnowsText s = HasMain s.scenario → IsKnown s.scenario s.greenlets s.items s.objects

pub record IsMeantText (c : Scenario) : Type 0 where
  -- the scenario is the one that the run began with
  pub same : (next : Next) → Reached c next → (state_of_next next).scenario ≡ c
  pub known : (next : Next) → Reached c next → KnowsText (state_of_next next)
  -- the next move is one that a scenario may have
  pub meant : (g : ℕ) (s : State) → Reached c (Next.Going g s) → is_meant_move g s ≡ true
  pub fit : (g : ℕ) (s : State) → Reached c (Next.Going g s) → fits_did s.scenario (next_did g s) ≡ true

-- so it is in every state of a run of a well-formed scenario
abbrev pub TextsAreMeant : Type 0
TextsAreMeant = (c : Scenario) → IsWellFormed c → IsMeantText c
