use Rattle.std.proofs.Common.{◌∙◌}
use Rattle.body_blocks.proofs.Growing.{as_many, pushed_stand, pushed_tree}
use Rattle.body_blocks.proofs.making.Making.push.Goals as goal

pub returns-clause-kept : goal.returns-clause-kept
returns-clause-kept c =
    (c.requires.making.0, pushed_stand c.args.self.now.naming.names c.args.self.now.blocks c.push.new.self c.args.block c.requires.making.1 c.requires.stands c.in_ok-push.ensures.ok)

pub returns-clause-grows : goal.returns-clause-grows
returns-clause-grows c = pushed_tree c.args.self.now.naming.names c.args.self.now.blocks c.push.new.self c.args.block c.in_ok-push.ensures.ok

pub returns-clause-number : goal.returns-clause-number
returns-clause-number c = c.len-number.ensures ∙ as_many c.args.self.now.naming.names c.args.self.now.blocks c.requires.making.1
