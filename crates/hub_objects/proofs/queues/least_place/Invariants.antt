use Rattle.std.proofs.Common.{◌≡◌, ◌<◌, ◌+◌, ◌^◌, length}
use Rattle.machine.specs.Objects.{least_from, least_place}
use Rattle.hub_objects.proofs.queues.least_place.Given as goal

abbrev pub invariant-loop-value : goal.invariant-loop-value
invariant-loop-value l = (least_place l.items ≡ least_from l.at l.best l.least l.rest) × (l.best < l.at) × (l.at + length l.rest ≡ length l.items) × (length l.items < 2 ^ 63)

abbrev pub decreases-loop-value : goal.decreases-loop-value
decreases-loop-value l = length l.rest
