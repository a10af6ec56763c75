use Rattle.std.proofs.Common.{rules, subst}
use Rattle.hub_engine.specs.Outside.{HasPostedPart, outside, world_alone}
use Rattle.hub_engine.proofs.Giving.{part_nothing, part_posted}
use Rattle.hub_engine.proofs.turns.give_out_said.Goals as goal

pub returns-in_err-write_lines-clause-given : goal.returns-in_err-write_lines-clause-given
returns-in_err-write_lines-clause-given g c =
    let broken = part_nothing (outside g.W.World g.K.Sink c.args.world.now c.args.sink.now) c.args.hub.now.lines c.args.hub.now.posts in
    search (rules, broken)

pub returns-in_err-post_all-clause-given : goal.returns-in_err-post_all-clause-given
returns-in_err-post_all-clause-given g c =
    let broken = part_posted g.W.World.waits (g.K.Sink.written c.args.sink.now) (g.K.Sink.handed c.args.sink.now) (g.W.World.meaning c.args.world.now) (g.W.World.meaning c.post_all.new.world) (g.W.World.stands_for c.args.world.now) (g.W.World.stands_for c.post_all.new.world)
    c.args.hub.now.lines c.args.hub.now.posts
    (subst (HasPostedPart (world_alone g.W.World c.args.world.now) (world_alone g.W.World c.post_all.new.world))
    c.posts.ensures c.in_err-post_all.ensures.posted) in
    search (rules, broken)
