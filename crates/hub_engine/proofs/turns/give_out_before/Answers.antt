use Rattle.std.proofs.Common.{rules}
use Rattle.hub_engine.specs.Outside.{outside}
use Rattle.hub_engine.proofs.Giving.{given_flushed, given_whole}
use Rattle.hub_engine.proofs.Trying.{out_flushed}
use Rattle.hub_engine.proofs.turns.give_out_before.Goals as goal

pub returns-in_err-flush-clause-given : goal.returns-in_err-flush-clause-given
returns-in_err-flush-clause-given g c =
    let broken = given_whole (outside g.W.World g.K.Sink c.args.world.now c.args.sink.now) (outside g.W.World g.K.Sink c.give_out_once.new.world c.give_out_once.new.sink) g.W.World.waits (g.K.Sink.written c.flush.new.self) (g.K.Sink.handed c.flush.new.self) c.args.hub.now.lines c.args.hub.now.posts
    c.in_ok-give_out_once.ensures.given c.flush.ensures.same (out_flushed g.W.World.waits _ _ _ _ c.flush.ensures.same c.flush.ensures.never_taken_back) in
    search (rules, broken)

pub returns-in_ok-flush-clause-given : goal.returns-in_ok-flush-clause-given
returns-in_ok-flush-clause-given g c =
    given_flushed (outside g.W.World g.K.Sink c.args.world.now c.args.sink.now) (outside g.W.World g.K.Sink c.give_out_once.new.world c.give_out_once.new.sink) g.W.World.waits (g.K.Sink.written c.flush.new.self) (g.K.Sink.handed c.flush.new.self) _ _
    c.in_ok-give_out_once.ensures.given c.flush.ensures.same (out_flushed g.W.World.waits _ _ _ _ c.flush.ensures.same c.flush.ensures.never_taken_back)
