-- Where the hub stands between two steps, and what the code's steps come to.
use Rattle.std.specs.Prelude.{ℕ, ◌==◌, if◌then◌else◌}
use Rattle.gv_values.specs.declared.value.Outcome.{Outcome}
use Rattle.machine.specs.declared.state.Phase.{Phase}
use Rattle.machine.specs.State.{State}
use Rattle.machine.specs.Landing.{Next, Landing, after_end}
use Rattle.machine.specs.Items.{drop_items, is_timeout_of}
use Rattle.machine.specs.Ends.{stop_of}
use Rattle.machine.specs.Greenlets.{greenlet, with_phase}
use Rattle.body_frames.specs.Places.{Place}
use Rattle.hub_engine.specs.declared.stand.Hop.{Hop}
use Rattle.hub_engine.specs.declared.stand.Stand.{Stand}

-- the body of the greenlet under way stands with the hub's step, and not in the state
abbrev pub next_at : Stand → State → Next
next_at (Stand.Going g body) s = Next.Going g (with_phase g (Phase.Live body) s)
next_at Stand.Resting s = Next.Resting s
next_at (Stand.Over cause) s = Next.Over cause s

-- what goes up lands there
abbrev pub hopped : Landing → Hop → State → Next
hopped up (Hop.At at) s = next_at at s
hopped up (Hop.Up g o) s = up g o s

-- the greenlet goes on to the place that its body came to
abbrev pub goes_to : Landing → ℕ → Place → State → Next
goes_to up g (Place.AtMove left body) s = Next.Going g (with_phase g (Phase.Live body) (drop_items (is_timeout_of g left) s))
goes_to up g (Place.AtEnd left o) s = after_end up g o (drop_items (is_timeout_of g left) s)

-- what comes of an end of the greenlet that leaves the hub so: of a raw one its outcome goes up, and with main the run ends
abbrev pub end_goes : Landing → ℕ → Outcome → State → State → Next
end_goes up g o s after = if (greenlet g s).raw then up (greenlet g s).parent o after else (if g == 0 then Next.Over (stop_of o) after else Next.Resting after)
