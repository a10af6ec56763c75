use Rattle.hub_items.specs.WaitKinds.{test_of}
use Rattle.held_items.specs.Entries.{index}
use Rattle.held_items.specs.Waits.{waits_in_line}
use Rattle.held_items.proofs.Dropping.{behind}
use Rattle.held_items.proofs.LineWalks.{IsEarlier}
use Rattle.hub_state.proofs.ahead.earlier.Given as goal

abbrev pub invariant-loop-at : goal.invariant-loop-at
invariant-loop-at l = IsEarlier (test_of l.fn.kind l.object) l.since l.held.entries l.at l.n

abbrev pub decreases-loop-at : goal.decreases-loop-at
decreases-loop-at l = behind l.at (index (waits_in_line l.fn.kind l.object) l.held.entries)
