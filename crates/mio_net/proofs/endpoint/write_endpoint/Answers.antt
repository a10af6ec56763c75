use Rattle.std.proofs.Common.{ap, Some}
use Rattle.mio_net.specs.declared.tape.Tape.{Tape}
use Rattle.mio_net.proofs.EndpointLemmas.{with_bytes}
use Rattle.mio_net.proofs.endpoint.write_endpoint.Goals as goal

pub returns-clause-after : goal.returns-clause-after
returns-clause-after c = let asked = c.write_stream-end.ensures in with_bytes c.note_write.new.self _ _ _ _ _ (ap (λ (t : Tape). Some t.bytes) asked.came) asked.went (c.note_write.ensures.after _ _ _)
