-- What a step does to one object.
use Rattle.std.specs.Prelude.{ℕ, ◌+◌, ◌-◌, Option, Some, None}
use Rattle.machine.specs.declared.state.Object.{Object}
use Rattle.machine.specs.Objects.{after_release, with_flag, with_unit_taken, with_owner, with_item, with_shut, with_member, with_offer, with_slot_taken, with_slot_freed}
use Rattle.hub_objects.specs.declared.additions.Addition.{Addition}
use Rattle.hub_objects.specs.declared.objects.Change.{Change}

-- a semaphore with one unit more
abbrev pub with_unit : Object → Object
with_unit (Object.Semaphore counter bound) = Object.Semaphore (counter + 1) bound
with_unit object = object

-- a lock that this greenlet owns once less
abbrev pub with_owner_gone : ℕ → Object → Object
with_owner_gone g (Object.Lock owner depth) = Object.Lock (after_release g (depth - 1)) (depth - 1)
with_owner_gone g object = object

-- a queue with one unfinished task less
abbrev pub with_task_done : Object → Object
with_task_done (Object.Queue kind size items unfinished shut) = Object.Queue kind size items (unfinished - 1) shut
with_task_done object = object

-- the object after the change
abbrev pub changed : Change → Object → Object
changed (Change.Flag b) = with_flag b
changed (Change.Put outcome) = λ object. Object.Result (Some outcome)
changed (Change.Item v) = with_item v
changed Change.Unit = with_unit
changed Change.UnitTaken = with_unit_taken
changed (Change.Owner g) = with_owner g
changed (Change.OwnerGone g) = with_owner_gone g
changed Change.TaskDone = with_task_done
changed (Change.Shut immediate) = with_shut immediate
changed Change.SlotTaken = with_slot_taken
changed Change.SlotFreed = with_slot_freed

-- the object after the addition
abbrev pub added : Addition → Object → Object
added (Addition.Offer v since) = with_offer v since
added (Addition.Member g) = with_member g

-- whom the addition makes a member
abbrev pub member_of : Addition → Option ℕ
member_of (Addition.Member g) = Some g
member_of addition = None
