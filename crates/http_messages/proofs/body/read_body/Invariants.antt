use Rattle.std.proofs.Common.{length}
use Rattle.http_messages.specs.Body.{body_left}
use Rattle.http_messages.specs.Readings.{ReadsAlike}
use Rattle.http_messages.proofs.body.read_body.Given as goal

abbrev pub invariant-loop-found : goal.invariant-loop-found
invariant-loop-found l = ReadsAlike (body_left l.initial.left) (body_left l.left) l.initial.kept l.kept

abbrev pub decreases-loop-found : goal.decreases-loop-found
decreases-loop-found l = length l.kept
