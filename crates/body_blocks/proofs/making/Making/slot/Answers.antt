use Rattle.std.proofs.Common.{Some, ap}
use Rattle.body_names.specs.Naming.{name_of}
use Rattle.body_blocks.specs.Making.{made}
use Rattle.body_blocks.proofs.Growing.{named_grow, named_same, named_stand, same_grow}
use Rattle.body_blocks.proofs.making.Making.slot.Goals as goal

pub returns-in-None-clause-grows : goal.returns-in-None-clause-grows
returns-in-None-clause-grows c = same_grow (made c.args.self.now)

pub returns-in_ok-slot-in-Some-clause-kept : goal.returns-in_ok-slot-in-Some-clause-kept
returns-in_ok-slot-in-Some-clause-kept c = (c.in_ok-slot-in-Some.ensures.kept, named_stand c.args.self.now.naming.names c.slot.new.self.names c.args.self.now.blocks c.in_ok-slot-in-Some.ensures.grows c.requires.1)

pub returns-in_ok-slot-in-Some-clause-grows : goal.returns-in_ok-slot-in-Some-clause-grows
returns-in_ok-slot-in-Some-clause-grows c = named_grow c.args.self.now.naming.names c.slot.new.self.names c.args.self.now.blocks c.in_ok-slot-in-Some.ensures.grows c.requires.1

pub returns-in_ok-slot-in-Some-clause-same : goal.returns-in_ok-slot-in-Some-clause-same
returns-in_ok-slot-in-Some-clause-same c = λ more. rw c.in-Some.is (ap Some (named_same name_of c.slot.new.self.names c.args.self.now.blocks c.in_ok-slot-in-Some.slot.number c.in-Some.name c.in_ok-slot-in-Some.ensures.same more))
