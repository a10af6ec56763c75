use Rattle.std.proofs.Common.{sym}
use Rattle.std.specs.Option.{option_copied}
use Rattle.body_blocks.proofs.Growing.{past_blocks, in_block}
use Rattle.body_blocks.proofs.blocks.Blocks.ahead.Goals as goal

pub returns-in-None-clause-here : goal.returns-in-None-clause-here
returns-in-None-clause-here c = past_blocks c.self.inside.names c.self.inside.all c.args.self.now c.args.block c.args.at c.self.invariant.1 c.self.view_is (sym c.in-None.ensures.value)

pub returns-in-Some-clause-here : goal.returns-in-Some-clause-here
returns-in-Some-clause-here c =
    in_block c.self.inside.names c.self.inside.all c.args.self.now c.args.block c.args.at c.in-Some.statements.now (option_copied c.at_place.result) c.self.invariant.1
    c.self.view_is (sym c.in-Some.ensures.value) (sym c.at_place.ensures.same)
