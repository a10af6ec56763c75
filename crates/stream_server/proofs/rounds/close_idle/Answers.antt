use Rattle.std.proofs.Common.{◌≡◌, ◌<◌, ◌-◌, ℕ, arith, min, List, Some, sym, subst}
use Rattle.std.proofs.Math.Nat.{le_refl}
use Rattle.stream_server.specs.declared.client.TheConstants.{NEVER}
use Rattle.std.specs.List.{Contains}
use Rattle.stream_net.specs.Net.{closed_at, connection_at}
use Rattle.stream_server.specs.Services.{TiesFrom}
use Rattle.stream_server.specs.Tables.{IsListed}
use Rattle.stream_server.proofs.Rounding.{idle_free, ranked_none, running_idle}
use Rattle.stream_server.proofs.Turns.{keeps_more}
use Rattle.stream_server.proofs.rounds.close_idle.Goals as goal

pub close-requires-clause-live : goal.close-requires-clause-live
close-requires-clause-live g c =
    let was = (c.loop-client.invariant.running.serving (g.V.Service.one c.args.service.now c.args.world.now) (g.met.V.Service.fits_one c.args.service.now c.args.world.now)).kept c.in-Some.client.conn (Some c.in-Some.client) c.in-Some.ensures.was in
    record { accepted = was.0; still_open = was.1.still_open }

pub close-requires-clause-free : goal.close-requires-clause-free
close-requires-clause-free g c =
    let was = (c.loop-client.invariant.running.serving (g.V.Service.one c.args.service.now c.args.world.now) (g.met.V.Service.fits_one c.args.service.now c.args.world.now)).kept c.in-Some.client.conn (Some c.in-Some.client) c.in-Some.ensures.was in
    idle_free g.V.Service.protocol g.met.V.Service.lawful c.args.serving.now.terms (connection_at (g.N.Net.meaning c.loop-client.net).connections c.in-Some.client.conn) c.in-Some.client c.min-now.result (g.V.Service.one c.args.service.now c.args.world.now c.in-Some.client.conn) was.1 was.2
    c.in-Some.ensures.due c.loop-client.invariant.short

pub release-requires : goal.release-requires
release-requires g c =
    subst (λ (ms : List ℕ). Contains ms c.in-Some.client.conn) (sym c.in-Some.ensures.relists.members)
    (c.loop-client.invariant.running.admitted.each c.in-Some.client.conn c.in-Some.client c.in-Some.ensures.was)

pub loop-client-preserved : goal.loop-client-preserved
loop-client-preserved g c =
    let was = c.loop-client.invariant in
    let taken = c.in-Some.ensures in
    let v = g.N.Net.meaning c.loop-client.net in
    let w = g.N.Net.meaning c.close.new.self in
    let rises = c.close.ensures.rest.moment in
    record {
      running = running_idle g.V.Service.protocol g.met.V.Service.lawful c.args.serving.now.terms (g.V.Service.fits c.args.service.now c.args.world.now) (g.V.Service.tied c.args.service.now c.args.world.now) (TiesFrom (g.V.Service.tied_but c.args.service.now c.args.world.now) (g.V.Service.rank c.in-Some.client.talk)) v w c.loop-client.table c.remove_due.new.self c.release.new.self c.min-now.result c.in-Some.client (g.V.Service.one c.args.service.now c.args.world.now) (g.met.V.Service.fits_one c.args.service.now c.args.world.now)
          was.running taken.was taken.relists taken.count c.close.ensures taken.due was.short was.past
          (λ n tied row free others. (g.V.Service.rank c.in-Some.client.talk, le_refl _, g.met.V.Service.tied_out c.args.service.now c.args.world.now c.loop-client.table c.remove_due.new.self n c.in-Some.client.conn c.in-Some.client tied row free others))
          (λ n tied others. g.met.V.Service.tied_again c.args.service.now c.args.world.now c.remove_due.new.self c.release.new.self n c.in-Some.client.conn tied.0 tied.2 others
          (ranked_none g.V.Service.rank tied.0 c.remove_due.new.self c.release.new.self _ c.in-Some.client.conn c.release.ensures.released taken.relists.only))
          c.release.ensures.released c.release.ensures.fewer;
      keeps = keeps_more (g.N.Net.meaning c.args.net.now) v w c.in-Some.client.conn (closed_at w.moment) was.keeps c.close.ensures;
      short = was.short;
      past = omega (arith, was.past, rises);
    }

not_due : (moment read now deadline : ℕ) → read ≡ moment → now ≡ min read (NEVER - 1) → now < deadline → deadline < NEVER → moment < deadline
not_due moment read now deadline same is late fits = omega (arith, same, is, late, fits)

pub returns-clause-closed : goal.returns-clause-closed
returns-clause-closed g c = λ k client listed fits. not_due (g.N.Net.meaning c.args.net.now).moment c.now.result c.min-now.result client.deadline c.now.ensures c.min-now.ensures
    (c.in_default.ensures.none k client (subst (λ s. IsListed s k (Some client)) c.in_default.ensures.same listed)) fits
