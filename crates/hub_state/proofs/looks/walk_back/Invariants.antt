use Rattle.hub_state.proofs.LineBegins.{IsBack}
use Rattle.hub_state.proofs.looks.walk_back.Given as goal

abbrev pub invariant-loop-at : goal.invariant-loop-at
invariant-loop-at l = IsBack l.fn.kind l.o l.held.entries l.at l.passed

abbrev pub decreases-loop-at : goal.decreases-loop-at
decreases-loop-at l = l.passed
