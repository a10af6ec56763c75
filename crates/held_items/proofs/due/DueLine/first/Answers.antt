use Rattle.item_places.specs.Items.{items_of}
use Rattle.held_items.specs.Due.{only}
use Rattle.held_items.proofs.due.DueLine.first.Goals as goal

pub returns : goal.returns
returns c = λ m is. c.first.ensures (only (items_of is.line)) is.chain
