use Rattle.std.proofs.Common.{length}
use Rattle.gv_values.proofs.texts.+push_scalars.Given as goal

abbrev pub decreases-push_scalars : goal.decreases-push_scalars
decreases-push_scalars l = length l.scalars.now
