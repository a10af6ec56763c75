use Rattle.stream_server.specs.Protocols.{side_of}
use Rattle.stream_server.proofs.Stepping.{was_refused, was_written}
use Rattle.stream_server.proofs.exchange.send.Goals as goal

pub returns-in-Took-clause-leaves : goal.returns-in-Took-clause-leaves
returns-in-Took-clause-leaves g c = λ w apps conn port fits h.
    was_written (side_of g.V.Service.protocol (apps conn) port) c.args.idle c.args.client.now.conn _ _ c.args.client.now c.took.new.talk c.in-Took.count c.now.result _ _ (g.V.Service.protocol.due c.args.client.now.talk)
    c.in-Took.ensures.writes c.requires.live.accepted h.is_open c.now.ensures c.saturating_add-client.ensures c.pending.ensures c.took.ensures.holds (c.took.ensures.taken (apps conn) port)

pub returns-in-Memory-clause-leaves : goal.returns-in-Memory-clause-leaves
returns-in-Memory-clause-leaves g c = λ w apps conn port fits h.
    was_refused (side_of g.V.Service.protocol (apps conn) port) c.args.idle c.args.client.now.conn (g.met.V.Service.lawful (apps conn) port) _ _ c.args.client.now _
    c.in-Memory.ensures.writes c.requires.live.accepted h.is_open
