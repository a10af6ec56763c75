use Rattle.hub_engine.specs.Outside.{outside}
use Rattle.hub_engine.proofs.Giving.{given_silent}
use Rattle.hub_engine.proofs.turns.give_out.Goals as goal

pub returns-then-is_silent-clause-given : goal.returns-then-is_silent-clause-given
returns-then-is_silent-clause-given g c =
    given_silent (outside g.W.World g.K.Sink c.args.world.now c.args.sink.now) c.args.hub.now
    (c.is_silent.ensures c.if-is_silent.true)
