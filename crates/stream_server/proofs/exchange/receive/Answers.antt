use Rattle.std.proofs.Common.{refl}
use Rattle.stream_server.specs.Protocols.{side_of}
use Rattle.stream_server.proofs.Stepping.{was_cut, was_ended, was_read}
use Rattle.stream_server.proofs.exchange.receive.Goals as goal

pub returns-in-Ok-clause-leaves : goal.returns-in-Ok-clause-leaves
returns-in-Ok-clause-leaves g c = λ w apps conn port fits h.
    was_read (side_of g.V.Service.protocol (apps conn) port) c.args.idle c.args.client.now.conn _ _ c.args.client.now c.feed.new.talk c.in-Got.count c.now.result _ c.read.new.buf _
    c.in-Got.ensures.reads c.requires.live.accepted h.is_open c.requires.goes_on c.now.ensures c.saturating_add-client.ensures refl c.feed.ensures.holds (c.in-Ok.ensures.fed w apps conn fits port)

pub returns-in-Err-clause-leaves : goal.returns-in-Err-clause-leaves
returns-in-Err-clause-leaves g c = λ w apps conn port fits h.
    was_cut (side_of g.V.Service.protocol (apps conn) port) c.args.idle c.args.client.now.conn _ _ c.args.client.now c.in-Got.count c.read.new.buf _ (g.V.Service.protocol.due c.feed.new.talk)
    c.in-Got.ensures.reads c.requires.live.accepted h.is_open c.requires.goes_on refl (c.in-Err.ensures.cut w apps conn fits port)

pub returns-in-End-clause-leaves : goal.returns-in-End-clause-leaves
returns-in-End-clause-leaves g c = λ w apps conn port fits h.
    was_ended (side_of g.V.Service.protocol (apps conn) port) c.args.idle c.args.client.now.conn _ _ c.args.client.now c.end.new.talk c.read.new.buf
    c.in-End.ensures.reads c.requires.live.accepted h.is_open c.end.ensures.holds (c.end.ensures.told (apps conn) port)
