-- What ties the hub to the world between two steps: each knows of the same jobs and answers. The hub stands within the
-- budgets that a run may be given.
use Rattle.std.specs.Prelude.{◌≡◌, ℕ, Bool, true, ⊤}
use Rattle.machine.specs.Landing.{Next}
use Rattle.machine.specs.State.{State}
use Rattle.machine_turns.specs.Logs.{KnowsJobs, StandsKnowing}
use Rattle.world.specs.Outside.{WorldMeaning}
use Rattle.hub_engine.specs.declared.stand.Came.{Came}
use Rattle.hub_engine.specs.Ready.{IsReady, IsReadyAt}
use Rattle.hub_engine.specs.Within.{IsWithinAt}

-- the world runs, and the hub, wherever it stands, knows what was posted and answered
pub record IsTiedAt (may : Bool) (turns : ℕ) (m : WorldMeaning) (next : Next) : Type 0 where
  pub ready : IsReadyAt next
  pub within : IsWithinAt may turns next
  pub runs : m.runs ≡ true
  pub knows : StandsKnowing m.posts m.answers next

-- the same, however far the run has come
pub record IsTiedSomehow (m : WorldMeaning) (next : Next) : Type 0 where
  pub may : Bool
  pub turns : ℕ
  pub tied : IsTiedAt may turns m next

-- a part of the run leaves the hub tied, however far the run had come, and brings on no turn and no answer
abbrev pub StaysTied : WorldMeaning → Next → WorldMeaning → Next → Type 0
StaysTied m from n to = (may : Bool) (turns : ℕ) → IsTiedAt may turns m from → IsTiedAt may turns n to

-- no greenlet is under way, and all posts were given out
pub record IsTied (may : Bool) (turns : ℕ) (m : WorldMeaning) (s : State) : Type 0 where
  pub ready : IsReady s
  pub within : IsWithinAt may turns (Next.Resting s)
  pub runs : m.runs ≡ true
  pub knows : KnowsJobs m.posts m.answers s

-- where a part of a run came to rest, the hub is tied to the world as before
abbrev pub IsTiedAfter : Came → Bool → ℕ → WorldMeaning → State → Type 0
IsTiedAfter Came.ToRest may turns m s = IsTied may turns m s
IsTiedAfter (Came.ToAnEnd cause) may turns m s = ⊤
