use Rattle.http_messages.specs.Readings.{StepsBody}
use Rattle.http_messages.specs.declared.found.BodyStep.{BodyStep}
use Rattle.std.proofs.Common.{subst}
use Rattle.http_messages.proofs.BodySteps.{finds-then}
use Rattle.http_messages.proofs.body.read_body.Goals as goal

pub returns-in-Stops : goal.returns-in-Stops
returns-in-Stops c =
    let P : BodyStep → Type 0 = λ step. StepsBody c.loop-found.left step c.loop-found.kept c.read_part.new.kept in
    finds-then c.args.awaited c.loop-found.left c.in-Stops.found c.args.kept.now c.loop-found.kept c.read_part.new.kept c.loop-found.invariant
    (subst P c.in-Stops.is c.in_ok-found.ensures)
