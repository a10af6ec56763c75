-- What an object counts. It stands here since `machine_rooms` says by it how far a run counts, and `hub_objects` what
-- its numbers have room for, and neither of these stands on the other. This project's own.
use Rattle.std.specs.Prelude.{ℕ, ◌+◌, Option, Some, length}
use Rattle.machine.specs.declared.state.Object.{Object}

-- all that the object counts
abbrev pub object_count : Option Object → ℕ
object_count (Some (Object.Event flag sets)) = sets
object_count (Some (Object.Semaphore counter bound)) = counter
object_count (Some (Object.Lock owner depth)) = depth
object_count (Some (Object.Queue kind size items unfinished shut)) = length items + unfinished
object_count (Some (Object.Crew size members)) = length members
object_count (Some (Object.Native slots outstanding)) = outstanding
object_count object = 0
