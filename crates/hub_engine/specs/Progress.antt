-- What is left of the step of a greenlet after its move, and what lets it be finished.
use Rattle.std.specs.Prelude.{◌≡◌, ◌+◌, ℕ, true, ⊤}
use Rattle.machine.specs.declared.request.Request.{Request}
use Rattle.machine.specs.declared.state.Frame.{Frame}
use Rattle.machine.specs.declared.state.Phase.{Phase}
use Rattle.machine.specs.Greenlets.{with_phase}
use Rattle.machine.specs.Landing.{Next}
use Rattle.machine.specs.Request.{follows, performs}
use Rattle.machine.specs.State.{State}
use Rattle.machine_trace_laws.specs.Reached.{state_of_next}
use Rattle.machine_well_formed.specs.Texts.{fits_request}
use Rattle.body_frames.specs.Destinations.{IsMoving}
use Rattle.body_entries.specs.Few.{HasFewToDo}
use Rattle.hub_requests.specs.Performing.{performed_of}
use Rattle.hub_engine.specs.declared.stand.Progress.{Progress}
use Rattle.hub_engine.specs.Making.{MayMove}
use Rattle.hub_engine.specs.Ready.{AreDeclared}
use Rattle.hub_engine.specs.Settlings.{HasMoveRoom, MaySettle, most_hops}
use Rattle.hub_engine.specs.Stands.{next_at}

-- what the hub comes to, where the body stands so beside it
abbrev pub next_of : Progress → ℕ → Frame → State → Next
next_of Progress.Stays g b s = Next.Going g (with_phase g (Phase.Live b) s)
next_of (Progress.At at) g b s = next_at at s
next_of (Progress.Waits p) g b s = follows g (performed_of p (with_phase g (Phase.Live b) s))
next_of (Progress.Asks request) g b s = follows g (performs request g (with_phase g (Phase.Live b) s))

-- the body may wait in the hub for the answer to a request that was performed
pub record MayWait (g : ℕ) (b : Frame) (s : State) : Type 0 where
  pub few : HasFewToDo b.todo
  pub declared : AreDeclared (with_phase g (Phase.Live b) s)
  pub settles : MaySettle (most_hops + 2) (with_phase g (Phase.Live b) s)

-- it may wait there for the answer to this request, which may then be performed
pub record MayAsk (request : Request) (g : ℕ) (b : Frame) (s : State) : Type 0 where
  pub few : HasFewToDo b.todo
  pub may_move : MayMove g s
  pub fits : fits_request s.scenario request ≡ true
  pub room : HasMoveRoom g s
  pub after : AreDeclared (state_of_next (follows g (performs request g (with_phase g (Phase.Live b) s))))

-- the step may be finished
abbrev pub MayFinish : Progress → ℕ → Frame → State → Type 0
MayFinish Progress.Stays g b s = IsMoving b
MayFinish (Progress.At at) g b s = ⊤
MayFinish (Progress.Waits p) g b s = MayWait g b s
MayFinish (Progress.Asks request) g b s = MayAsk request g b s

-- the hub comes to this, once the step is finished
pub record ProgressesTo (next : Next) (p : Progress) (g : ℕ) (b : Frame) (s : State) : Type 0 where
  pub comes : next ≡ next_of p g b s
  pub may : MayFinish p g b s
