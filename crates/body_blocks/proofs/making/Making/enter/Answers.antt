use Rattle.body_blocks.proofs.Growing.{named_grow, named_stand}
use Rattle.body_blocks.proofs.making.Making.enter.Goals as goal

pub returns-clause-kept : goal.returns-clause-kept
returns-clause-kept c = (c.in_ok-enter_function.ensures.kept, named_stand c.args.self.now.naming.names c.enter_function.new.naming.names c.args.self.now.blocks c.in_ok-enter_function.ensures.grows c.requires.1)

pub returns-clause-grows : goal.returns-clause-grows
returns-clause-grows c = named_grow c.args.self.now.naming.names c.enter_function.new.naming.names c.args.self.now.blocks c.in_ok-enter_function.ensures.grows c.requires.1
