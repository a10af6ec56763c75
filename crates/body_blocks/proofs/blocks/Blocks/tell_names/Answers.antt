use Rattle.std.proofs.Common.{subst}
use Rattle.body_names.specs.Naming.{IsNaming}
use Rattle.body_blocks.proofs.Growing.{own_names}
use Rattle.body_blocks.proofs.blocks.Blocks.tell_names.Goals as goal

pub returns : goal.returns
returns c = subst IsNaming (own_names c.self.inside.names c.self.inside.all c.args.self.now c.self.view_is) c.self.invariant.0
