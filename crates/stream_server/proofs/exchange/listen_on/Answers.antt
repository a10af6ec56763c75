use Rattle.std.proofs.Common.{refl}
use Rattle.stream_server.specs.Protocols.{side_of}
use Rattle.stream_server.proofs.Stepping.{side_done}
use Rattle.stream_server.proofs.exchange.listen_on.Goals as goal

pub returns-in-Closing-clause-leaves : goal.returns-in-Closing-clause-leaves
returns-in-Closing-clause-leaves g c = λ w apps conn port fits h.
    side_done (side_of g.V.Service.protocol (apps conn) port) c.args.idle 0 _ c.args.client.now h.is_open c.requires.none c.requires.quiet
    (λ fed ended taken at. c.in-Closing.ensures refl (apps conn) port fed ended taken at)
