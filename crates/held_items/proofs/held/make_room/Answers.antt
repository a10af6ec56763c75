use Rattle.std.proofs.Common.{arith}
use Rattle.held_items.proofs.Momentary.{few_lined}
use Rattle.held_items.proofs.Tallying.{tallied_few}
use Rattle.held_items.proofs.held.make_room.Goals as goal

pub reserve-requires-3-clause-few : goal.reserve-requires-3-clause-few
reserve-requires-3-clause-few c = few_lined c.args.lines.now c.args.shelf.now.entries c.requires.lined c.len-timers.ensures.differ c.requires.few

pub reserve-requires-4 : goal.reserve-requires-4
reserve-requires-4 c = λ k. tallied_few c.args.tallies.now.table.items c.args.shelf.now.entries k (c.requires.tallied k) (omega (arith, c.requires.few))
