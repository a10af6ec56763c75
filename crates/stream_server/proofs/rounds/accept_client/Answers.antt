use Rattle.std.proofs.Common.{◌≡◌, ℕ, Bool, Result, Err, arith, refl, sym, subst, ◌∙◌}
use Rattle.stream_server.specs.Members.{AreBelow}
use Rattle.stream_server.specs.Services.{TiesFrom}
use Rattle.stream_net.specs.declared.net.Accepted.{Accepted}
use Rattle.stream_server.proofs.Faring.{fares_well, no_fault}
use Rattle.stream_server.proofs.Rounding.{begun_going, new_left, running_left, running_listens, running_new, running_rests, running_same, same_fault}
use Rattle.stream_server.specs.declared.rounds.RoundFault.{RoundFault}
use Rattle.stream_server.proofs.rounds.accept_client.Goals as goal

pub admit-requires-clause-rising : goal.admit-requires-clause-rising
admit-requires-clause-rising g c =
    subst (λ n. AreBelow n c.args.table.now.members) (sym c.in-New.ensures.accepts.number) c.requires.running.admitted.below

pub returns-in_default-clause-left : goal.returns-in_default-clause-left
returns-in_default-clause-left g c =
    new_left g.V.Service.protocol g.met.V.Service.lawful c.args.serving.now.terms (g.V.Service.fits c.args.service.now c.args.world.now) (g.V.Service.tied c.args.service.now c.args.world.now) (g.N.Net.meaning c.args.net.now) (g.N.Net.meaning c.accept.new.self) c.args.table.now _ c.requires.running c.in-New.ensures.accepts (omega (arith, c.requires.place, c.requires.running.admitted.count)) c.requires.more
    (begun_going g.V.Service.protocol g.met.V.Service.lawful c.args.serving.now.terms (g.V.Service.fits c.args.service.now c.args.world.now) (g.N.Net.meaning c.args.net.now) (g.N.Net.meaning c.accept.new.self) c.in-New.conn c.begin-talk.result c.now.result c.saturating_add-deadline.result c.in-New.ensures.accepts (λ app. c.begin-talk.ensures.begun app) c.begin-talk.ensures.free c.now.ensures c.saturating_add-deadline.ensures)

pub serve_client-requires-clause-going : goal.serve_client-requires-clause-going
serve_client-requires-clause-going g c =
    begun_going g.V.Service.protocol g.met.V.Service.lawful c.args.serving.now.terms (g.V.Service.fits c.args.service.now c.args.world.now) (g.N.Net.meaning c.args.net.now) (g.N.Net.meaning c.accept.new.self) c.in-New.conn c.begin-talk.result c.now.result c.saturating_add-deadline.result c.in-New.ensures.accepts (λ app. c.begin-talk.ensures.begun app) c.begin-talk.ensures.free c.now.ensures c.saturating_add-deadline.ensures

pub serve_client-requires-clause-but : goal.serve_client-requires-clause-but
serve_client-requires-clause-but g c =
    running_new g.V.Service.protocol g.met.V.Service.lawful c.args.serving.now.terms (g.V.Service.fits c.args.service.now c.args.world.now) (g.V.Service.tied c.args.service.now c.args.world.now) (TiesFrom (g.V.Service.tied_but c.args.service.now c.args.world.now) (g.V.Service.rank c.begin-talk.result)) (g.N.Net.meaning c.args.net.now) (g.N.Net.meaning c.accept.new.self) c.args.table.now c.admit.new.self c.in-New.conn
    c.requires.running c.in-New.ensures.accepts (omega (arith, c.requires.place, c.requires.running.admitted.count)) c.requires.more
    (λ n tied same. (0, omega arith, g.met.V.Service.tied_new c.args.service.now c.args.world.now c.args.table.now c.admit.new.self n tied same)) c.in-Ok.ensures.ok

pub returns-in-WouldBlock-clause-running : goal.returns-in-WouldBlock-clause-running
returns-in-WouldBlock-clause-running g c = running_same g.V.Service.protocol g.met.V.Service.lawful c.args.serving.now.terms (g.V.Service.fits c.args.service.now c.args.world.now) (g.V.Service.tied c.args.service.now c.args.world.now) (g.N.Net.meaning c.args.net.now) (g.N.Net.meaning c.accept.new.self) c.args.table.now _ c.requires.running c.in-WouldBlock.ensures.accepts

pub returns-in-Failed-clause-left : goal.returns-in-Failed-clause-left
returns-in-Failed-clause-left g c = running_left g.V.Service.protocol g.met.V.Service.lawful c.args.serving.now.terms (g.V.Service.fits c.args.service.now c.args.world.now) (g.V.Service.tied c.args.service.now c.args.world.now) (g.N.Net.meaning c.accept.new.self) c.args.table.now (running_same g.V.Service.protocol g.met.V.Service.lawful c.args.serving.now.terms (g.V.Service.fits c.args.service.now c.args.world.now) (g.V.Service.tied c.args.service.now c.args.world.now) (g.N.Net.meaning c.args.net.now) (g.N.Net.meaning c.accept.new.self) c.args.table.now _ c.requires.running c.in-Failed.ensures.accepts.0)

pub returns-in-Memory-clause-left : goal.returns-in-Memory-clause-left
returns-in-Memory-clause-left g c = running_left g.V.Service.protocol g.met.V.Service.lawful c.args.serving.now.terms (g.V.Service.fits c.args.service.now c.args.world.now) (g.V.Service.tied c.args.service.now c.args.world.now) (g.N.Net.meaning c.accept.new.self) c.args.table.now (running_same g.V.Service.protocol g.met.V.Service.lawful c.args.serving.now.terms (g.V.Service.fits c.args.service.now c.args.world.now) (g.V.Service.tied c.args.service.now c.args.world.now) (g.N.Net.meaning c.args.net.now) (g.N.Net.meaning c.accept.new.self) c.args.table.now _ c.requires.running c.in-Memory.ensures.accepts)

pub accept-requires : goal.accept-requires
accept-requires g c = running_listens g.V.Service.protocol g.met.V.Service.lawful c.args.serving.now.terms (g.V.Service.fits c.args.service.now c.args.world.now) (g.V.Service.tied c.args.service.now c.args.world.now) (g.N.Net.meaning c.args.net.now) c.args.table.now (g.V.Service.one c.args.service.now c.args.world.now) (g.met.V.Service.fits_one c.args.service.now c.args.world.now) c.requires.running

pub returns-in-Failed-clause-fares : goal.returns-in-Failed-clause-fares
returns-in-Failed-clause-fares g c = record {
  listens = c.in-Failed.ensures.accepts.0.listens;
  never_falls = c.in-Failed.ensures.accepts.0.faults;
  listener = λ _. c.in-Failed.ensures.accepts.1;
  resting = λ _. running_rests g.V.Service.protocol g.met.V.Service.lawful c.args.serving.now.terms (g.V.Service.fits c.args.service.now c.args.world.now) (g.V.Service.tied c.args.service.now c.args.world.now) (g.N.Net.meaning c.accept.new.self) c.args.table.now (g.V.Service.one c.args.service.now c.args.world.now) (g.met.V.Service.fits_one c.args.service.now c.args.world.now) (running_same g.V.Service.protocol g.met.V.Service.lawful c.args.serving.now.terms (g.V.Service.fits c.args.service.now c.args.world.now) (g.V.Service.tied c.args.service.now c.args.world.now) (g.N.Net.meaning c.args.net.now) (g.N.Net.meaning c.accept.new.self) c.args.table.now _ c.requires.running c.in-Failed.ensures.accepts.0);
  unfailed = λ other. absurd (other refl);
}

pub returns-in-Err-clause-in_vain : goal.returns-in-Err-clause-in_vain
returns-in-Err-clause-in_vain g c = λ e. c.in-Err.ensures.in_vain (same_fault c.in-Err.fault RoundFault.Spent e)

new_is_not_failed : (k : ℕ) → Accepted.New k ≡ Accepted.Failed → ⊥
new_is_not_failed k e = cc

memory_is_no_listener : ◌≡◌ {A = Result Bool RoundFault} (Err RoundFault.Memory) (Err RoundFault.Listener) → ⊥
memory_is_no_listener e = cc

pub returns-in_default-clause-fares : goal.returns-in_default-clause-fares
returns-in_default-clause-fares g c =
    fares_well _ _ _ _ c.in-New.ensures.accepts.listens (c.in-New.ensures.unfailed (new_is_not_failed c.in-New.conn)) memory_is_no_listener

pub returns-in-Ok-serve_client-clause-fares : goal.returns-in-Ok-serve_client-clause-fares
returns-in-Ok-serve_client-clause-fares g c =
    let keeps = c.serve_client.ensures.keeps in
    fares_well _ _ _ _ (keeps.listens ∙ c.in-New.ensures.accepts.listens) (keeps.faults ∙ c.in-New.ensures.unfailed (new_is_not_failed c.in-New.conn)) (no_fault _ RoundFault.Listener)

pub returns-in-Err-clause-fares : goal.returns-in-Err-clause-fares
returns-in-Err-clause-fares g c =
    let keeps = c.serve_client.ensures.keeps in
    fares_well _ _ _ _ (keeps.listens ∙ c.in-New.ensures.accepts.listens) (keeps.faults ∙ c.in-New.ensures.unfailed (new_is_not_failed c.in-New.conn))
    (λ e. c.in-Err.ensures.no_listener (same_fault c.in-Err.fault RoundFault.Listener e))
