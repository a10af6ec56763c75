use Rattle.std.proofs.Common.{◌≡◌, ◌≤◌, length, take}
use Rattle.std.specs.Prelude.{filter, map}
use Rattle.gv_values.specs.declared.scalar.Scalar.{Scalar}
use Rattle.machine.specs.Holds.{is_done}
use Rattle.hub_requests.proofs.late.done_ones.Given as goal

abbrev pub invariant-loop-g : goal.invariant-loop-g
invariant-loop-g l = record {
  same : l.done ≡ map Scalar.Greenlet (filter (is_done l.hub) (take l.g-index l.greenlets));
  few : length l.done ≤ l.g-index;
}
