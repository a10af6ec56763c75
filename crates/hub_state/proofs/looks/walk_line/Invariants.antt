use Rattle.std.proofs.Common.{◌≡◌, List, length}
use Rattle.machine.specs.declared.items.Item.{Item}
use Rattle.held_items.specs.Entries.{index}
use Rattle.held_items.specs.Waits.{waits_in_line}
use Rattle.held_items.proofs.Dropping.{behind}
use Rattle.hub_state.specs.Over.{whole}
use Rattle.hub_state.proofs.Alongs.{IsOnLine}
use Rattle.hub_state.proofs.looks.walk_line.Given as goal

abbrev pub invariant-loop-at : goal.invariant-loop-at
invariant-loop-at l = IsOnLine (waits_in_line l.fn.kind l.o) (λ (passed : List Item). l.before ≡ length passed) (whole l.base l.held) l.held.entries l.fn.found l.found l.at

abbrev pub decreases-loop-at : goal.decreases-loop-at
decreases-loop-at l = behind l.at (index (waits_in_line l.fn.kind l.o) l.held.entries)
