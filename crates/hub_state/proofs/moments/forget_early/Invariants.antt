use Rattle.held_items.specs.Entries.{slots_of}
use Rattle.held_items.proofs.Dropping.{behind}
use Rattle.hub_state.proofs.Forgetting.{IsForgetting}
use Rattle.hub_state.proofs.moments.forget_early.Given as goal

abbrev pub invariant-loop-at : goal.invariant-loop-at
invariant-loop-at l = IsForgetting l.moment l.fn.held l.held l.at

abbrev pub decreases-loop-at : goal.decreases-loop-at
decreases-loop-at l = behind l.at (slots_of l.held.entries)
