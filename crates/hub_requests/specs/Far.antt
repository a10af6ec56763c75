-- How far a greenlet has come, by its phase.
use Rattle.std.specs.Prelude.{Option, Some, None}
use Rattle.machine.specs.declared.state.Phase.{Phase}
use Rattle.hub_requests.specs.declared.far.Far.{Far}

-- one that was never made is as one that has ended
abbrev pub far_of : Option Phase → Far
far_of None = Far.Done
far_of (Some (Phase.New args)) = Far.New
far_of (Some (Phase.Live frame)) = Far.Live
far_of (Some (Phase.Done o)) = Far.Done
