use Rattle.std.proofs.Common.{◌∙◌}
use Rattle.gv_values.proofs.Equality.{same_scalars}
use Rattle.gv_values.proofs.value.are_equal.Goals as goal

pub returns : goal.returns
returns c = c.eq.ensures ∙ same_scalars c.args.a.now c.args.b.now
