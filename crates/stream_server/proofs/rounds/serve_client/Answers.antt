use Rattle.std.proofs.Common.{◌≡◌, sym, subst, ◌∙◌, ℕ, refl}
use Rattle.std.proofs.Math.Nat.{le_trans}
use Rattle.stream_net.specs.Net.{connection_at}
use Rattle.stream_net.proofs.Lists.{is_absent}
use Rattle.stream_server.specs.Protocols.{side_of}
use Rattle.stream_server.specs.Steps.{IsGoing}
use Rattle.stream_server.specs.Services.{TiesFrom}
use Rattle.stream_server.specs.Tables.{IsListed}
use Rattle.stream_server.specs.declared.exchange.Step.{Step}
use Rattle.stream_server.proofs.Rounding.{but_more, but_only, but_place, but_rises, cut_left, ranked_alone, ranked_none, running_over, running_waits}
use Rattle.stream_server.proofs.rounds.serve_client.Goals as goal

waits_is_not_memory : Step.Waits ≡ Step.Memory → ⊥
waits_is_not_memory e = cc

asks_is_not_memory : Step.Asks ≡ Step.Memory → ⊥
asks_is_not_memory e = cc

pub insert-requires-clause-absent : goal.insert-requires-clause-absent
insert-requires-clause-absent g c = is_absent (IsListed c.args.table.now) c.args.client.conn c.proceed.new.client.conn c.in-Waits.ensures.same
    (but_only g.V.Service.protocol g.met.V.Service.lawful c.args.serving.now.terms (g.V.Service.fits c.args.service.now c.args.world.now) (TiesFrom (g.V.Service.tied_but c.args.service.now c.args.world.now) (g.V.Service.rank c.args.client.talk)) (g.N.Net.meaning c.args.net.now) c.args.table.now c.args.client.conn (g.V.Service.one c.args.service.now c.args.world.now) (g.met.V.Service.fits_one c.args.service.now c.args.world.now) c.requires.but)

pub insert-requires-clause-place : goal.insert-requires-clause-place
insert-requires-clause-place g c = but_place g.V.Service.protocol g.met.V.Service.lawful c.args.serving.now.terms (g.V.Service.fits c.args.service.now c.args.world.now) (TiesFrom (g.V.Service.tied_but c.args.service.now c.args.world.now) (g.V.Service.rank c.args.client.talk)) (g.N.Net.meaning c.args.net.now) c.args.table.now c.args.client.conn (g.V.Service.one c.args.service.now c.args.world.now) (g.met.V.Service.fits_one c.args.service.now c.args.world.now) c.requires.but

pub hold_client-requires-clause-going : goal.hold_client-requires-clause-going
hold_client-requires-clause-going g c =
    λ apps fits. subst (λ (n : ℕ). IsGoing (side_of g.V.Service.protocol (apps n) c.args.serving.now.terms.port) c.args.serving.now.terms.limits.idle (connection_at (g.N.Net.meaning c.proceed.new.net).connections n) c.proceed.new.client) (sym c.in-Asks.ensures.same)
    (c.in-Asks.ensures.leaves c.args.world.now apps c.args.client.conn c.args.serving.now.terms.port fits (c.requires.going apps fits))

pub hold_client-requires-clause-wants : goal.hold_client-requires-clause-wants
hold_client-requires-clause-wants g c = c.in-Asks.ensures.wants refl

pub hold_client-requires-clause-none : goal.hold_client-requires-clause-none
hold_client-requires-clause-none g c = c.in-Asks.ensures.none refl

pub hold_client-requires-clause-free : goal.hold_client-requires-clause-free
hold_client-requires-clause-free g c = c.in-Asks.ensures.holds ∙ c.requires.free

pub hold_client-requires-clause-but : goal.hold_client-requires-clause-but
hold_client-requires-clause-but g c =
    but_rises g.V.Service.protocol g.met.V.Service.lawful c.args.serving.now.terms (g.V.Service.fits c.args.service.now c.args.world.now) (g.V.Service.tied_but c.args.service.now c.args.world.now) (g.V.Service.rank c.args.client.talk) (g.V.Service.rank c.proceed.new.client.talk) (g.N.Net.meaning c.proceed.new.net) c.args.table.now c.proceed.new.client.conn (c.in-Asks.ensures.rises asks_is_not_memory)
    (but_more g.V.Service.protocol g.met.V.Service.lawful c.args.serving.now.terms (g.V.Service.fits c.args.service.now c.args.world.now) (TiesFrom (g.V.Service.tied_but c.args.service.now c.args.world.now) (g.V.Service.rank c.args.client.talk)) (g.N.Net.meaning c.args.net.now) (g.N.Net.meaning c.proceed.new.net) c.args.table.now c.args.client.conn c.proceed.new.client.conn c.requires.but c.requires.live c.in-Asks.ensures.only c.in-Asks.ensures.same)

pub returns-in-Waits-clause-running : goal.returns-in-Waits-clause-running
returns-in-Waits-clause-running g c =
    running_waits g.V.Service.protocol g.met.V.Service.lawful c.args.serving.now.terms (g.V.Service.fits c.args.service.now c.args.world.now) (g.V.Service.tied c.args.service.now c.args.world.now) (TiesFrom (g.V.Service.tied_but c.args.service.now c.args.world.now) (g.V.Service.rank c.args.client.talk)) (g.N.Net.meaning c.args.net.now) (g.N.Net.meaning c.proceed.new.net) c.args.table.now c.insert.new.self c.args.client.conn c.proceed.new.client
    c.requires.but c.requires.live c.in-Waits.ensures.only (λ apps fits. c.in-Waits.ensures.leaves c.args.world.now apps c.args.client.conn c.args.serving.now.terms.port fits (c.requires.going apps fits)) c.in-Waits.ensures.same (c.in-Waits.ensures.holds ∙ c.requires.free)
    (λ n tied others. g.met.V.Service.tied_again c.args.service.now c.args.world.now c.args.table.now c.insert.new.self n c.args.client.conn tied.0 tied.2 others
    (ranked_alone g.V.Service.rank tied.0 c.args.table.now c.insert.new.self c.args.client.conn c.proceed.new.client c.in-Waits.ensures.same (le_trans tied.1 (c.in-Waits.ensures.rises waits_is_not_memory)) c.insert.ensures.relists))
    c.insert.ensures.relists c.insert.ensures.count

pub returns-in-Memory-clause-left : goal.returns-in-Memory-clause-left
returns-in-Memory-clause-left g c =
    cut_left g.V.Service.protocol g.met.V.Service.lawful c.args.serving.now.terms (g.V.Service.fits c.args.service.now c.args.world.now) (TiesFrom (g.V.Service.tied_but c.args.service.now c.args.world.now) (g.V.Service.rank c.args.client.talk)) (g.N.Net.meaning c.args.net.now) (g.N.Net.meaning c.proceed.new.net) c.args.table.now c.args.client.conn c.requires.but c.requires.live c.in-Memory.ensures.only
    (λ apps fits. c.in-Memory.ensures.leaves c.args.world.now apps c.args.client.conn c.args.serving.now.terms.port fits (c.requires.going apps fits))

pub release-requires : goal.release-requires
release-requires g c = c.requires.but.admitted.here

pub returns-in-Over-clause-running : goal.returns-in-Over-clause-running
returns-in-Over-clause-running g c =
    running_over g.V.Service.protocol g.met.V.Service.lawful c.args.serving.now.terms (g.V.Service.fits c.args.service.now c.args.world.now) (g.V.Service.tied c.args.service.now c.args.world.now) (TiesFrom (g.V.Service.tied_but c.args.service.now c.args.world.now) (g.V.Service.rank c.args.client.talk)) (g.N.Net.meaning c.args.net.now) (g.N.Net.meaning c.proceed.new.net) (g.N.Net.meaning c.close.new.self) c.args.table.now c.release.new.self c.args.client.conn c.proceed.new.client (g.V.Service.one c.args.service.now c.args.world.now) (g.met.V.Service.fits_one c.args.service.now c.args.world.now)
    c.requires.but c.requires.live c.in-Over.ensures.only (λ apps fits. c.in-Over.ensures.leaves c.args.world.now apps c.args.client.conn c.args.serving.now.terms.port fits (c.requires.going apps fits)) c.close.ensures
    (λ n tied others. g.met.V.Service.tied_again c.args.service.now c.args.world.now c.args.table.now c.release.new.self n c.args.client.conn tied.0 tied.2 others
    (ranked_none g.V.Service.rank tied.0 c.args.table.now c.release.new.self _ c.args.client.conn c.release.ensures.released
    (but_only g.V.Service.protocol g.met.V.Service.lawful c.args.serving.now.terms (g.V.Service.fits c.args.service.now c.args.world.now) (TiesFrom (g.V.Service.tied_but c.args.service.now c.args.world.now) (g.V.Service.rank c.args.client.talk)) (g.N.Net.meaning c.args.net.now) c.args.table.now c.args.client.conn (g.V.Service.one c.args.service.now c.args.world.now) (g.met.V.Service.fits_one c.args.service.now c.args.world.now) c.requires.but)))
    c.release.ensures.released c.release.ensures.fewer

pub close-requires-clause-free : goal.close-requires-clause-free
close-requires-clause-free g c =
    (c.in-Over.ensures.leaves c.args.world.now (g.V.Service.one c.args.service.now c.args.world.now) c.args.client.conn c.args.serving.now.terms.port (g.met.V.Service.fits_one c.args.service.now c.args.world.now) (c.requires.going (g.V.Service.one c.args.service.now c.args.world.now) (g.met.V.Service.fits_one c.args.service.now c.args.world.now))).is_open.held ∙ (c.in-Over.ensures.holds ∙ c.requires.free)
