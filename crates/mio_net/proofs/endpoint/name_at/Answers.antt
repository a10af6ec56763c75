use Rattle.mio_net.proofs.EndpointLemmas.{named_one}
use Rattle.mio_net.proofs.endpoint.name_at.Goals as goal

pub returns-then-conn-endpoints : goal.returns-then-conn-endpoints
returns-then-conn-endpoints c = named_one c.args.endpoints.now c.args.conn _ c.note_named.new.endpoint c.if-conn-endpoints.true c.note_named.ensures
