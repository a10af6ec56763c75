use Rattle.std.proofs.Common.{ap, ◌∙◌, Option, unwrap_or}
use Rattle.machine.specs.declared.state.Object.{Object}
use Rattle.machine.specs.Objects.{members_of}
use Rattle.machine.specs.Objects.{no_object}
use Rattle.hub_requests.proofs.Soundly.{members_plain}
use Rattle.hub_requests.proofs.crew_requests.kill_crew.Goals as goal

pub kill_greenlets-requires-clause-plain : goal.kill_greenlets-requires-clause-plain
kill_greenlets-requires-clause-plain c =
    members_plain c.args.o c.args.g c.args.hub.now c.in_ok-members.members c.requires.may_make
    (c.in_ok-members.ensures ∙ ap (λ (x : Option Object). members_of (unwrap_or x no_object)) c.object.ensures)
