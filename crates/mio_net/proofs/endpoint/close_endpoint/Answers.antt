use Rattle.std.proofs.Common.{ap, Some}
use Rattle.mio_net.specs.declared.tape.Tape.{Tape}
use Rattle.mio_net.proofs.EndpointLemmas.{with_bytes}
use Rattle.mio_net.proofs.endpoint.close_endpoint.Goals as goal

pub returns : goal.returns
returns c = with_bytes c.note_close.new.self _ _ _ _ _ (ap (λ (t : Tape). Some t.bytes) c.take.ensures.0) (ap (λ (t : Tape). Some t.bytes) c.take.ensures.1) (c.note_close.ensures _ _)
