use Rattle.std.proofs.Common.{length}
use Rattle.trace_reader.proofs.fits.+scalars_fit.Given as goal

abbrev pub decreases-scalars_fit : goal.decreases-scalars_fit
decreases-scalars_fit l = length l.scalars.now
