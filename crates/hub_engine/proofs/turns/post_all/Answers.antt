use Rattle.std.proofs.Common.{rules, ◌∙◌}
use Rattle.hub_engine.specs.Outside.{Outside, world_alone}
use Rattle.hub_engine.proofs.Posting.{post_rest, posted_more, refused_posts}
use Rattle.hub_engine.proofs.turns.post_all.Goals as goal

pub returns-in_err-post : goal.returns-in_err-post
returns-in_err-post g c =
    let first : Outside = world_alone g.W.World c.args.world.now in
    let before : Outside = world_alone g.W.World c.loop-post.world in
    let after : Outside = world_alone g.W.World c.post.new.self in
    let broken = refused_posts first before after c.args.posts.now c.loop-post.post-index c.loop-post.invariant.2 c.in_err-post.ensures.refused c.in_err-post.ensures.refused_log in
    search (rules, broken)

pub loop-post-preserved : goal.loop-post-preserved
loop-post-preserved g c =
    let first : Outside = world_alone g.W.World c.args.world.now in
    let before : Outside = world_alone g.W.World c.loop-post.world in
    let after : Outside = world_alone g.W.World c.post.new.self in (
      c.in_ok-post.ensures.posted.rest.runs ∙ c.loop-post.invariant.0,
      post_rest _ _ c.args.posts.now c.loop-post.post-index _ c.loop-post-test.true c.in_ok-post.ensures.posted.posts c.loop-post.invariant.1,
      posted_more first before after c.args.posts.now c.loop-post.post-index _ c.loop-post-test.true c.loop-post.invariant.2 c.in_ok-post.ensures.posted c.in_ok-post.ensures.log,
    )
