use Rattle.std.proofs.Common.{◌+◌}
use Rattle.hub_engine.specs.Settlings.{most_hops}
use Rattle.hub_engine.proofs.Functions.{declared_dropped, declared_said, declared_settled, declared_withdrawn}
use Rattle.hub_engine.proofs.Settlings.{settles_dropped, settles_first, settles_said, settles_then, settles_withdrawn}
use Rattle.hub_engine.proofs.deliver.throw_into.Goals as goal

pub settle-requires : goal.settle-requires
settle-requires c =
    let said = settles_said (most_hops + 2) _ c.args.hub.now c.say.new.self c.in_ok-say.ensures c.requires.settles in
    let withdrawn = settles_withdrawn (most_hops + 2) _ c.say.new.self c.withdraw_offer.new.self c.withdraw_offer.ensures said in
    settles_first c.drop_items.new.self (settles_dropped (most_hops + 2) _ c.withdraw_offer.new.self c.drop_items.new.self c.drop_items.ensures withdrawn)

pub answer_greenlet-requires-clause-settles : goal.answer_greenlet-requires-clause-settles
answer_greenlet-requires-clause-settles c =
    let said = settles_said (most_hops + 2) _ c.args.hub.now c.say.new.self c.in_ok-say.ensures c.requires.settles in
    let withdrawn = settles_withdrawn (most_hops + 2) _ c.say.new.self c.withdraw_offer.new.self c.withdraw_offer.ensures said in
    settles_then c.drop_items.new.self c.settle.new.self c.settle.ensures (settles_dropped (most_hops + 2) _ c.withdraw_offer.new.self c.drop_items.new.self c.drop_items.ensures withdrawn)

pub answer_greenlet-requires-clause-declared : goal.answer_greenlet-requires-clause-declared
answer_greenlet-requires-clause-declared c =
    let said = declared_said _ c.args.hub.now c.say.new.self c.requires.declared c.in_ok-say.ensures in
    let withdrawn = declared_withdrawn _ c.say.new.self c.withdraw_offer.new.self said c.withdraw_offer.ensures in
    let dropped = declared_dropped _ c.withdraw_offer.new.self c.drop_items.new.self withdrawn c.drop_items.ensures in
    declared_settled c.drop_items.new.self c.settle.new.self dropped c.settle.ensures
