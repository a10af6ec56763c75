-- What is counted of an object fits a number with a sign, also after a change.
use Rattle.std.specs.Prelude.{◌<◌, ◌+◌, ◌^◌, ⊤, ℕ, true, List, Option, Some, slice_get}
use Rattle.machine.specs.declared.state.Object.{Object}
use Rattle.machine.specs.Moves.{size_of_object, unfinished_of_object}
use Rattle.machine.specs.Counts.{object_count}
use Rattle.hub_objects.specs.declared.additions.Addition.{Addition}
use Rattle.hub_objects.specs.declared.objects.Change.{Change}

-- its counts are below 2^63
abbrev pub IsCounted : Object → Type 0
IsCounted object = (size_of_object (Some object) < 2 ^ 63) × (unfinished_of_object (Some object) < 2 ^ 63)

-- so are those of every object
abbrev pub AreCounted : List Object → Type 0
AreCounted objects = (o : ℕ) → (size_of_object (slice_get objects o) < 2 ^ 63) × (unfinished_of_object (slice_get objects o) < 2 ^ 63)

-- so much more may be counted of the object, if there is one
abbrev pub MayCount : ℕ → Option Object → Type 0
MayCount k object = object_count object + k < 2 ^ 63

-- and of each object
abbrev pub CountsFit : ℕ → List Object → Type 0
CountsFit k objects = (o : ℕ) → MayCount k (slice_get objects o)

-- there is room for what the change counts of the object
abbrev pub ChangeFits : Change → Option Object → Type 0
ChangeFits (Change.Flag true) object = MayCount 1 object
ChangeFits (Change.Item v) object = MayCount 1 object
ChangeFits Change.Unit object = MayCount 1 object
ChangeFits (Change.Owner g) object = MayCount 1 object
ChangeFits Change.SlotTaken object = MayCount 1 object
ChangeFits change object = ⊤

-- and for what the addition does
abbrev pub AdditionFits : Addition → Option Object → Type 0
AdditionFits (Addition.Member g) object = MayCount 1 object
AdditionFits addition object = ⊤
