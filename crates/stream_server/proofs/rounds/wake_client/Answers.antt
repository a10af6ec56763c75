use Rattle.std.proofs.Common.{sym, ◌∙◌}
use Rattle.std.proofs.Math.Nat.{le_refl}
use Rattle.stream_server.specs.Services.{TiesFrom}
use Rattle.stream_server.proofs.Rounding.{running_found, running_held_on, running_unknown}
use Rattle.stream_server.proofs.rounds.wake_client.Goals as goal

pub returns-then-is_client_held-clause-running : goal.returns-then-is_client_held-clause-running
returns-then-is_client_held-clause-running g c =
    let one = c.is_client_held.ensures.listed c.if-is_client_held.true in
    running_held_on g.V.Service.protocol g.met.V.Service.lawful c.args.serving.now.terms (g.V.Service.fits c.args.service.now c.args.world.now) (g.V.Service.tied c.args.service.now c.args.world.now) (g.N.Net.meaning c.args.net.now) c.args.table.now c.args.conn one.0 c.requires.woken one.1 (sym (c.is_client_held.ensures.holds one.0 one.1) ∙ c.if-is_client_held.true)

pub returns-in-None-clause-running : goal.returns-in-None-clause-running
returns-in-None-clause-running g c =
    running_unknown g.V.Service.protocol g.met.V.Service.lawful c.args.serving.now.terms (g.V.Service.fits c.args.service.now c.args.world.now) (g.V.Service.tied c.args.service.now c.args.world.now) (g.N.Net.meaning c.args.net.now) c.args.table.now c.remove.new.self c.args.conn c.requires.woken c.in-None.ensures.was c.in-None.ensures.same

pub serve_client-requires-clause-free : goal.serve_client-requires-clause-free
serve_client-requires-clause-free g c = sym (c.is_client_held.ensures.holds c.in-Some.client c.in-Some.ensures.was) ∙ c.if-is_client_held.false

pub serve_client-requires-clause-but : goal.serve_client-requires-clause-but
serve_client-requires-clause-but g c =
    let e = c.in-Some.ensures in (running_found g.V.Service.protocol g.met.V.Service.lawful c.args.serving.now.terms (g.V.Service.fits c.args.service.now c.args.world.now) (g.V.Service.tied c.args.service.now c.args.world.now) (TiesFrom (g.V.Service.tied_but c.args.service.now c.args.world.now) (g.V.Service.rank c.in-Some.client.talk)) (g.N.Net.meaning c.args.net.now) c.args.table.now c.remove.new.self c.args.conn c.in-Some.client (g.V.Service.one c.args.service.now c.args.world.now) (g.met.V.Service.fits_one c.args.service.now c.args.world.now) c.requires.woken e.was e.number (sym (c.is_client_held.ensures.holds c.in-Some.client e.was) ∙ c.if-is_client_held.false) (λ n tied row free others. (g.V.Service.rank c.in-Some.client.talk, le_refl _, g.met.V.Service.tied_out c.args.service.now c.args.world.now c.args.table.now c.remove.new.self n c.args.conn c.in-Some.client tied row free others)) e.relists e.count).0

pub serve_client-requires-clause-live : goal.serve_client-requires-clause-live
serve_client-requires-clause-live g c =
    let e = c.in-Some.ensures in (running_found g.V.Service.protocol g.met.V.Service.lawful c.args.serving.now.terms (g.V.Service.fits c.args.service.now c.args.world.now) (g.V.Service.tied c.args.service.now c.args.world.now) (TiesFrom (g.V.Service.tied_but c.args.service.now c.args.world.now) (g.V.Service.rank c.in-Some.client.talk)) (g.N.Net.meaning c.args.net.now) c.args.table.now c.remove.new.self c.args.conn c.in-Some.client (g.V.Service.one c.args.service.now c.args.world.now) (g.met.V.Service.fits_one c.args.service.now c.args.world.now) c.requires.woken e.was e.number (sym (c.is_client_held.ensures.holds c.in-Some.client e.was) ∙ c.if-is_client_held.false) (λ n tied row free others. (g.V.Service.rank c.in-Some.client.talk, le_refl _, g.met.V.Service.tied_out c.args.service.now c.args.world.now c.args.table.now c.remove.new.self n c.args.conn c.in-Some.client tied row free others)) e.relists e.count).1

pub serve_client-requires-clause-going : goal.serve_client-requires-clause-going
serve_client-requires-clause-going g c =
    let e = c.in-Some.ensures in (running_found g.V.Service.protocol g.met.V.Service.lawful c.args.serving.now.terms (g.V.Service.fits c.args.service.now c.args.world.now) (g.V.Service.tied c.args.service.now c.args.world.now) (TiesFrom (g.V.Service.tied_but c.args.service.now c.args.world.now) (g.V.Service.rank c.in-Some.client.talk)) (g.N.Net.meaning c.args.net.now) c.args.table.now c.remove.new.self c.args.conn c.in-Some.client (g.V.Service.one c.args.service.now c.args.world.now) (g.met.V.Service.fits_one c.args.service.now c.args.world.now) c.requires.woken e.was e.number (sym (c.is_client_held.ensures.holds c.in-Some.client e.was) ∙ c.if-is_client_held.false) (λ n tied row free others. (g.V.Service.rank c.in-Some.client.talk, le_refl _, g.met.V.Service.tied_out c.args.service.now c.args.world.now c.args.table.now c.remove.new.self n c.args.conn c.in-Some.client tied row free others)) e.relists e.count).2
