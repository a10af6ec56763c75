use Rattle.std.proofs.Common.{◌≡◌, true, drop, take, map}
use Rattle.machine.specs.Run.{logged}
use Rattle.hub_engine.specs.Outside.{ArePostable, DoneWith}
use Rattle.hub_engine.proofs.turns.post_all.Given as goal

abbrev pub invariant-loop-post : goal.invariant-loop-post
invariant-loop-post g l =
    ((g.W.World.meaning l.world).runs ≡ true)
    × ArePostable (g.W.World.meaning l.world).posts (drop l.post-index l.posts)
    × DoneWith (g.W.World.meaning l.initial.world) (g.W.World.meaning l.world) (g.W.World.stands_for l.initial.world) (g.W.World.stands_for l.world) (map logged (take l.post-index l.posts))
