use Rattle.body_names.proofs.Numbers.{kept_naming}
use Rattle.body_blocks.proofs.blocks.Blocks.of.Goals as goal

pub invariant_of-result : goal.invariant_of-result
invariant_of-result c = (kept_naming c.args.naming.numbers c.args.naming.names c.requires.kept, c.requires.stand)
