use Rattle.body_values.proofs.Operands.{listed_many}
use Rattle.body_values.proofs.operators.refusal_of_many.Goals as goal

pub returns : goal.returns
returns c = listed_many c.args.values.now c.loop-value.value-index c.requires c.loop-value-test.false c.loop-value.invariant
