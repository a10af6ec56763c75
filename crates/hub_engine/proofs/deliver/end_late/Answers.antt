use Rattle.std.proofs.Common.{◌+◌}
use Rattle.hub_engine.specs.Settlings.{most_hops}
use Rattle.hub_engine.proofs.Functions.{declared_dropped, declared_said, declared_settled}
use Rattle.hub_engine.proofs.Settlings.{settles_dropped, settles_first, settles_said, settles_then}
use Rattle.hub_engine.proofs.deliver.end_late.Goals as goal

pub settle-requires : goal.settle-requires
settle-requires c =
    let said = settles_said (most_hops + 2) _ c.args.hub.now c.say.new.self c.in_ok-say.ensures c.requires.settles in
    settles_first c.drop_items.new.self (settles_dropped (most_hops + 2) _ c.say.new.self c.drop_items.new.self c.drop_items.ensures said)

pub answer_greenlet-requires-clause-settles : goal.answer_greenlet-requires-clause-settles
answer_greenlet-requires-clause-settles c =
    let said = settles_said (most_hops + 2) _ c.args.hub.now c.say.new.self c.in_ok-say.ensures c.requires.settles in
    settles_then c.drop_items.new.self c.settle.new.self c.settle.ensures (settles_dropped (most_hops + 2) _ c.say.new.self c.drop_items.new.self c.drop_items.ensures said)

pub answer_greenlet-requires-clause-declared : goal.answer_greenlet-requires-clause-declared
answer_greenlet-requires-clause-declared c =
    let said = declared_said _ c.args.hub.now c.say.new.self c.requires.declared c.in_ok-say.ensures in
    let dropped = declared_dropped _ c.say.new.self c.drop_items.new.self said c.drop_items.ensures in
    declared_settled c.drop_items.new.self c.settle.new.self dropped c.settle.ensures
