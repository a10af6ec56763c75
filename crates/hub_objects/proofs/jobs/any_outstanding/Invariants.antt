use Rattle.std.proofs.Common.{◌≡◌, ◌≤◌, length, take}
use Rattle.std.specs.List.{list_any}
use Rattle.machine.specs.Questions.{any_outstanding, is_outstanding}
use Rattle.hub_objects.proofs.jobs.any_outstanding.Given as goal

abbrev pub invariant-loop-left : goal.invariant-loop-left
invariant-loop-left l = record {
  within : l.left ≤ length l.jobs;
  rest : any_outstanding l.jobs ≡ list_any is_outstanding (take l.left l.jobs);
}

abbrev pub decreases-loop-left : goal.decreases-loop-left
decreases-loop-left l = l.left
