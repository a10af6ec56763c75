use Rattle.std.proofs.Common.{length}
use Rattle.std.proofs.Math.Nat.{le_refl}
use Rattle.stream_server.specs.Services.{TiesFrom}
use Rattle.stream_server.proofs.Rounding.{held_live, known_left, running_polled, running_released}
use Rattle.stream_server.proofs.rounds.poll_service.Goals as goal

pub poll_reply-requires : goal.poll_reply-requires
poll_reply-requires g c = (length (g.N.Net.meaning c.args.net.now).connections, c.requires.running.tied)

pub returns-in-Nobody-clause-running : goal.returns-in-Nobody-clause-running
returns-in-Nobody-clause-running g c =
    running_polled g.V.Service.protocol g.met.V.Service.lawful c.args.serving.now.terms (g.V.Service.fits c.poll_reply.new.service c.poll_reply.new.world) (g.V.Service.fits c.args.service.now c.args.world.now) (g.V.Service.tied c.args.service.now c.args.world.now) (g.V.Service.tied c.poll_reply.new.service c.poll_reply.new.world) (g.N.Net.meaning c.args.net.now) c.args.table.now c.poll_reply.new.table c.poll_reply.ensures.fits (λ n tied. c.in-Nobody.ensures.tied n tied) c.in-Nobody.ensures.polled c.requires.running

pub hold-requires : goal.hold-requires
hold-requires g c =
    held_live g.V.Service.protocol g.met.V.Service.lawful c.args.serving.now.terms (g.V.Service.fits c.poll_reply.new.service c.poll_reply.new.world) (g.V.Service.fits c.args.service.now c.args.world.now) (g.V.Service.tied c.args.service.now c.args.world.now) (g.N.Net.meaning c.args.net.now) c.args.table.now c.poll_reply.new.table c.in-Released.client (g.V.Service.one c.args.service.now c.args.world.now) (g.met.V.Service.fits_one c.args.service.now c.args.world.now) c.requires.running c.in-Released.ensures.polled

pub serve_client-requires-clause-but : goal.serve_client-requires-clause-but
serve_client-requires-clause-but g c = (running_released g.V.Service.protocol g.met.V.Service.lawful c.args.serving.now.terms (g.V.Service.fits c.poll_reply.new.service c.poll_reply.new.world) (g.V.Service.fits c.args.service.now c.args.world.now) (g.V.Service.tied c.args.service.now c.args.world.now) (TiesFrom (g.V.Service.tied_but c.poll_reply.new.service c.poll_reply.new.world) (g.V.Service.rank c.in-Released.client.talk)) (g.N.Net.meaning c.args.net.now) (g.N.Net.meaning c.hold.new.self) c.args.table.now c.poll_reply.new.table c.in-Released.client (g.V.Service.one c.poll_reply.new.service c.poll_reply.new.world) (g.met.V.Service.fits_one c.poll_reply.new.service c.poll_reply.new.world) c.poll_reply.ensures.fits c.requires.running c.in-Released.ensures.polled (λ n tied. (g.V.Service.rank c.in-Released.client.talk, le_refl _, c.in-Released.ensures.tied n tied)) c.hold.ensures).0

pub serve_client-requires-clause-live : goal.serve_client-requires-clause-live
serve_client-requires-clause-live g c = (running_released g.V.Service.protocol g.met.V.Service.lawful c.args.serving.now.terms (g.V.Service.fits c.poll_reply.new.service c.poll_reply.new.world) (g.V.Service.fits c.args.service.now c.args.world.now) (g.V.Service.tied c.args.service.now c.args.world.now) (TiesFrom (g.V.Service.tied_but c.poll_reply.new.service c.poll_reply.new.world) (g.V.Service.rank c.in-Released.client.talk)) (g.N.Net.meaning c.args.net.now) (g.N.Net.meaning c.hold.new.self) c.args.table.now c.poll_reply.new.table c.in-Released.client (g.V.Service.one c.poll_reply.new.service c.poll_reply.new.world) (g.met.V.Service.fits_one c.poll_reply.new.service c.poll_reply.new.world) c.poll_reply.ensures.fits c.requires.running c.in-Released.ensures.polled (λ n tied. (g.V.Service.rank c.in-Released.client.talk, le_refl _, c.in-Released.ensures.tied n tied)) c.hold.ensures).1

pub serve_client-requires-clause-going : goal.serve_client-requires-clause-going
serve_client-requires-clause-going g c = (running_released g.V.Service.protocol g.met.V.Service.lawful c.args.serving.now.terms (g.V.Service.fits c.poll_reply.new.service c.poll_reply.new.world) (g.V.Service.fits c.args.service.now c.args.world.now) (g.V.Service.tied c.args.service.now c.args.world.now) (TiesFrom (g.V.Service.tied_but c.poll_reply.new.service c.poll_reply.new.world) (g.V.Service.rank c.in-Released.client.talk)) (g.N.Net.meaning c.args.net.now) (g.N.Net.meaning c.hold.new.self) c.args.table.now c.poll_reply.new.table c.in-Released.client (g.V.Service.one c.poll_reply.new.service c.poll_reply.new.world) (g.met.V.Service.fits_one c.poll_reply.new.service c.poll_reply.new.world) c.poll_reply.ensures.fits c.requires.running c.in-Released.ensures.polled (λ n tied. (g.V.Service.rank c.in-Released.client.talk, le_refl _, c.in-Released.ensures.tied n tied)) c.hold.ensures).2

pub serve_client-requires-clause-free : goal.serve_client-requires-clause-free
serve_client-requires-clause-free g c = c.in-Released.ensures.polled.free

pub returns-in-Memory-clause-left : goal.returns-in-Memory-clause-left
returns-in-Memory-clause-left g c = known_left g.V.Service.protocol g.met.V.Service.lawful c.args.serving.now.terms (g.V.Service.fits c.poll_reply.new.service c.poll_reply.new.world) (g.V.Service.fits c.args.service.now c.args.world.now) (g.V.Service.tied c.args.service.now c.args.world.now) (g.N.Net.meaning c.args.net.now) c.args.table.now c.poll_reply.ensures.fits c.requires.running
