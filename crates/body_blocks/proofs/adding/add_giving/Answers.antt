use Rattle.body_blocks.specs.Making.{made}
use Rattle.body_blocks.proofs.Growing.{grown}
use Rattle.body_blocks.proofs.Standing.{giving_stands}
use Rattle.body_blocks.proofs.adding.add_giving.Goals as goal

pub returns-clause-grows : goal.returns-clause-grows
returns-clause-grows c = grown (made c.args.making.now) (made c.slot.new.self) (made c.giving.new.self) c.in-Ok.ensures.grows c.in_ok-giving.ensures.grows

pub returns-clause-same : goal.returns-clause-same
returns-clause-same c =
    giving_stands (made c.slot.new.self) (made c.giving.new.self) c.in-Ok.slot c.in_ok-giving.field-0 c.args.name c.args.giving c.in_ok-giving.ensures.grows c.in-Ok.ensures.same
    c.in_ok-giving.ensures.same
