use Rattle.std.proofs.Common.{◌≡◌, ◌<◌, ◌≤◌, ◌+◌, ◌-◌, ◌^◌, length, drop, slice_get}
use Rattle.machine.specs.Waits.{maps}
use Rattle.machine.specs.Counts.{object_count}
use Rattle.hub_state.specs.Adding.{MayAdd}
use Rattle.hub_requests.specs.Making.{MayMake}
use Rattle.hub_requests.specs.Naming.{IsObject}
use Rattle.hub_requests.proofs.members.map_elements.Given as goal
use Rattle.gv_values.specs.declared.limits.TheConstants.{MOST_ELEMENTS}

abbrev pub invariant-loop-at : goal.invariant-loop-at
invariant-loop-at l = record {
  same : maps l.elements l.g l.crew l.function l.initial.made l.initial.hub ≡ maps (drop l.at l.elements) l.g l.crew l.function l.made l.hub;
  sound : MayMake l.g l.hub;
  named : IsObject l.hub.scenario l.crew;
  within : l.at ≤ length l.elements;
  few : length l.elements + length l.made ≤ MOST_ELEMENTS + l.at;
  may_add : MayAdd (MOST_ELEMENTS + 1 - l.at) l.hub;
  count : object_count (slice_get l.hub.objects l.crew) + (MOST_ELEMENTS + 1) < 2 ^ 63 + l.at;
}

abbrev pub decreases-loop-at : goal.decreases-loop-at
decreases-loop-at l = length l.elements - l.at
