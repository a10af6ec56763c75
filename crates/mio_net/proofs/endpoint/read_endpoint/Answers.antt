use Rattle.std.proofs.Common.{ap, Some}
use Rattle.mio_net.specs.declared.tape.Tape.{Tape}
use Rattle.mio_net.proofs.EndpointLemmas.{with_bytes}
use Rattle.mio_net.proofs.endpoint.read_endpoint.Goals as goal

pub returns-clause-after : goal.returns-clause-after
returns-clause-after c = let asked = c.read_unless-end.ensures in with_bytes c.note_read.new.self _ _ _ _ _ asked.came (ap (λ (t : Tape). Some t.bytes) asked.went) (c.note_read.ensures.after _ _ _)
