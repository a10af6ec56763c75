use Rattle.body_names.specs.Naming.{name_of}
use Rattle.body_blocks.proofs.Growing.{named_grow, named_same, named_stand}
use Rattle.body_blocks.proofs.making.Making.number.Goals as goal

pub returns-clause-kept : goal.returns-clause-kept
returns-clause-kept c = (c.in_ok-number.ensures.kept, named_stand c.args.self.now.naming.names c.number.new.self.names c.args.self.now.blocks c.in_ok-number.ensures.grows c.requires.1)

pub returns-clause-grows : goal.returns-clause-grows
returns-clause-grows c = named_grow c.args.self.now.naming.names c.number.new.self.names c.args.self.now.blocks c.in_ok-number.ensures.grows c.requires.1

pub returns-clause-same : goal.returns-clause-same
returns-clause-same c = named_same name_of c.number.new.self.names c.args.self.now.blocks c.in_ok-number.number c.args.name.now c.in_ok-number.ensures.same
