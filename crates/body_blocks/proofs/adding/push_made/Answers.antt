use Rattle.body_blocks.proofs.adding.push_made.Goals as goal

pub returns : goal.returns
returns g c = (c.in_ok-one.one, c.in_ok-one.was, c.in_ok-push.ensures.items)
