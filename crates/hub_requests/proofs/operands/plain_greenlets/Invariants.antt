use Rattle.std.proofs.Common.{◌≡◌, ◌≤◌, drop, length}
use Rattle.machine.specs.Request.{plain_greenlets}
use Rattle.hub_requests.proofs.Listed.{joined}
use Rattle.hub_requests.proofs.operands.plain_greenlets.Given as goal

abbrev pub invariant-loop-scalar : goal.invariant-loop-scalar
invariant-loop-scalar l = record {
  same : plain_greenlets l.hub l.scalars ≡ joined l.greenlets (plain_greenlets l.hub (drop l.scalar-index l.scalars));
  few : length l.greenlets ≤ l.scalar-index;
}
