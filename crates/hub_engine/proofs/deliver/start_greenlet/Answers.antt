use Rattle.std.proofs.Common.{◌+◌, arith}
use Rattle.hub_engine.specs.Settlings.{most_hops}
use Rattle.hub_engine.proofs.Functions.{declared_phased}
use Rattle.hub_engine.proofs.Settlings.{settles_fewer, settles_phased}
use Rattle.hub_engine.proofs.deliver.start_greenlet.Goals as goal

pub start_body-requires-clause-settles : goal.start_body-requires-clause-settles
start_body-requires-clause-settles c =
    let taken = settles_phased (most_hops + 2) c.args.g _ c.args.hub.now c.take_arguments-arguments.new.self c.take_arguments-arguments.ensures.taken c.requires.settles in
    settles_fewer (most_hops + 2) (most_hops + 1) c.take_arguments-arguments.new.self (omega arith) taken

pub start_body-requires-clause-declared : goal.start_body-requires-clause-declared
start_body-requires-clause-declared c = declared_phased c.args.g _ c.args.hub.now c.take_arguments-arguments.new.self c.requires.declared c.take_arguments-arguments.ensures.taken
