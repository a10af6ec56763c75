-- What a move comes to for the hub.
use Rattle.std.specs.Prelude.{ℕ, Bool, true, false}
use Rattle.scenario_tree.specs.declared.tree.Scenario.{Scenario}
use Rattle.machine.specs.declared.state.Frame.{Frame}
use Rattle.machine.specs.declared.state.Phase.{Phase}
use Rattle.machine.specs.declared.request.Request.{Request}
use Rattle.machine.specs.Landing.{Next, lands}
use Rattle.machine.specs.Greenlets.{with_phase}
use Rattle.machine.specs.Moves.{enters}
use Rattle.machine.specs.Request.{follows, performs}
use Rattle.machine.specs.Settle.{settle}
use Rattle.machine.specs.State.{State}
use Rattle.machine_trace_laws.specs.Reached.{state_of_next}
use Rattle.machine_well_formed.specs.Texts.{fits_request}
use Rattle.body_frames.specs.Places.{Came}
use Rattle.hub_engine.specs.Ready.{AreDeclared}
use Rattle.hub_engine.specs.Stands.{goes_to}

-- the hub goes on by what came of the move
abbrev pub does_came : ℕ → Came → State → Next
does_came g (Came.Comes place) s = goes_to lands g place (settle s)
does_came g (Came.Asks request body) s = follows g (performs request g (with_phase g (Phase.Live body) s))
does_came g (Came.Enters ms e) s = enters g ms e.silent e.body e.locals e.todo s

-- the move asks what its text may ask, where it asks
abbrev pub fits_came : Scenario → Came → Bool
fits_came c (Came.Asks request body) = fits_request c request
fits_came c came = true

-- where the greenlet had this body before the move, each greenlet runs a function that there is after it
pub record IsDeclaredAfter (g : ℕ) (came : Came) (s : State) : Type 0 where
  pub before : Frame
  pub here : AreDeclared (state_of_next (does_came g came (with_phase g (Phase.Live before) s)))

-- it reads no greenlet and changes none: it says a line, or is done at an object, or waits there or for a moment
abbrev pub leaves_greenlets : Request → Bool
leaves_greenlets (Request.Print v) = true
leaves_greenlets (Request.Sleep ms) = true
leaves_greenlets (Request.Set o) = true
leaves_greenlets (Request.Clear o) = true
leaves_greenlets (Request.WaitEvent o how) = true
leaves_greenlets (Request.ResultSet o v) = true
leaves_greenlets (Request.ResultFail o v) = true
leaves_greenlets (Request.ResultGet o how) = true
leaves_greenlets (Request.ResultWait o how) = true
leaves_greenlets (Request.Acquire o how) = true
leaves_greenlets (Request.Release o) = true
leaves_greenlets (Request.QueuePut o v how) = true
leaves_greenlets (Request.QueueGet o how) = true
leaves_greenlets (Request.QueuePeek o how) = true
leaves_greenlets (Request.QueueDone o) = true
leaves_greenlets (Request.QueueJoin o how) = true
leaves_greenlets (Request.GroupJoin o how) = true
leaves_greenlets (Request.NativeSpawn o kind v ms) = true
leaves_greenlets (Request.ChannelPut o v) = true
leaves_greenlets (Request.ChannelGet o) = true
leaves_greenlets (Request.QueueShut o immediate) = true
leaves_greenlets request = false
