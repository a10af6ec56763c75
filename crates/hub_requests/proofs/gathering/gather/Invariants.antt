use Rattle.std.proofs.Common.{◌≤◌, [], drop, length}
use Rattle.std.specs.Prelude.{map}
use Rattle.machine.specs.Waits.{gathered, outcome_of_greenlet}
use Rattle.hub_requests.specs.Gathering.{IsGathering}
use Rattle.hub_requests.proofs.gathering.gather.Given as goal

abbrev pub invariant-loop-g : goal.invariant-loop-g
invariant-loop-g l = record {
  gathering : IsGathering (gathered (map (outcome_of_greenlet l.hub) l.made) []) (map (outcome_of_greenlet l.hub) (drop l.g-index l.made)) l.values l.has_list;
  few : length l.values ≤ l.g-index;
}
