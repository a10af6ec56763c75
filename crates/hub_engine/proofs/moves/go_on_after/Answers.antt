use Rattle.std.proofs.Common.{◌+◌, arith}
use Rattle.hub_engine.specs.Settlings.{most_hops}
use Rattle.hub_engine.proofs.Functions.{declared_settled}
use Rattle.hub_engine.proofs.Settlings.{settles_fewer, settles_first, settles_then}
use Rattle.hub_engine.proofs.moves.go_on_after.Goals as goal

pub settle_hub-requires : goal.settle_hub-requires
settle_hub-requires c = settles_first c.args.hub.now c.requires.settles

pub settle_hub-requires-in-Parks : goal.settle_hub-requires-in-Parks
settle_hub-requires-in-Parks c = settles_first c.args.hub.now c.requires.settles

pub settle_hub-requires-in-Lands : goal.settle_hub-requires-in-Lands
settle_hub-requires-in-Lands c = settles_first c.args.hub.now c.requires.settles

pub answer_greenlet-requires-clause-settles : goal.answer_greenlet-requires-clause-settles
answer_greenlet-requires-clause-settles c = settles_then c.args.hub.now c.settle_hub.new.hub c.settle_hub.ensures c.requires.settles

pub land-requires-clause-settles : goal.land-requires-clause-settles
land-requires-clause-settles c =
    let after = settles_then c.args.hub.now c.settle_hub-in-Lands.new.hub c.settle_hub-in-Lands.ensures c.requires.settles in
    settles_fewer (most_hops + 1) most_hops c.settle_hub-in-Lands.new.hub (omega arith) after

pub answer_greenlet-requires-clause-declared : goal.answer_greenlet-requires-clause-declared
answer_greenlet-requires-clause-declared c = declared_settled c.args.hub.now c.settle_hub.new.hub c.requires.declared c.settle_hub.ensures

pub land-requires-clause-declared : goal.land-requires-clause-declared
land-requires-clause-declared c = declared_settled c.args.hub.now c.settle_hub-in-Lands.new.hub c.requires.declared c.settle_hub-in-Lands.ensures
