use Rattle.body_names.specs.Naming.{IsKept}
use Rattle.body_names.specs.Statements.{giving_of}
use Rattle.body_blocks.proofs.Growing.{if_named_grow, if_named_same, if_named_stand}
use Rattle.body_blocks.proofs.making.Making.giving.Goals as goal

pub returns-clause-kept : goal.returns-clause-kept
returns-clause-kept c =
    if_named_stand c.flat_giving-flat.result (IsKept c.flat_giving-flat.new.naming.numbers c.flat_giving-flat.new.naming.names) c.args.self.now.naming.names c.flat_giving-flat.new.naming.names c.args.self.now.blocks c.requires.1
    c.flat_giving-flat.ensures.kept c.flat_giving-flat.ensures.grows

pub returns-clause-grows : goal.returns-clause-grows
returns-clause-grows c =
    if_named_grow c.flat_giving-flat.result c.args.self.now.naming.names c.flat_giving-flat.new.naming.names c.args.self.now.blocks c.requires.1 c.flat_giving-flat.ensures.grows

pub returns-clause-same : goal.returns-clause-same
returns-clause-same c = if_named_same giving_of c.flat_giving-flat.result c.flat_giving-flat.new.naming.names c.args.self.now.blocks c.args.giving c.flat_giving-flat.ensures.same
