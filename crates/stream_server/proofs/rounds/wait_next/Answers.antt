use Rattle.std.proofs.Common.{ap, refl, ◌∙◌}
use Rattle.stream_net.specs.declared.net.Ready.{Ready}
use Rattle.stream_net.specs.Waits.{named}
use Rattle.stream_server.proofs.Rounding.{may_wait, running_after, running_left, running_rests, running_woken}
use Rattle.stream_server.proofs.rounds.wait_next.Goals as goal

pub next-requires : goal.next-requires
next-requires g c = may_wait g.V.Service.protocol g.met.V.Service.lawful c.args.serving.now.terms (g.V.Service.fits c.args.service.now c.args.world.now) (g.V.Service.tied c.args.service.now c.args.world.now) (g.N.Net.meaning c.args.net.now) c.args.table.now c.until-until.result (g.V.Service.one c.args.service.now c.args.world.now) (g.met.V.Service.fits_one c.args.service.now c.args.world.now) c.requires.running c.until-until.ensures.ends c.requires.asked

pub returns-in_default-clause-left : goal.returns-in_default-clause-left
returns-in_default-clause-left g c = running_left g.V.Service.protocol g.met.V.Service.lawful c.args.serving.now.terms (g.V.Service.fits c.args.service.now c.args.world.now) (g.V.Service.tied c.args.service.now c.args.world.now) (g.N.Net.meaning c.next.new.self) c.args.table.now (running_after g.V.Service.protocol g.met.V.Service.lawful c.args.serving.now.terms (g.V.Service.fits c.args.service.now c.args.world.now) (g.V.Service.tied c.args.service.now c.args.world.now) (g.N.Net.meaning c.args.net.now) (g.N.Net.meaning c.next.new.self) c.args.table.now c.requires.running c.in_default.ensures.waits.0 c.in_default.ensures.waits.1)

pub returns-in_default-clause-fares : goal.returns-in_default-clause-fares
returns-in_default-clause-fares g c = record {
  listens = c.in_default.ensures.waits.0.listens;
  never_falls = c.in_default.ensures.waits.0.faults;
  listener = λ _. c.in_default.ensures.waits.2;
  resting = λ _. running_rests g.V.Service.protocol g.met.V.Service.lawful c.args.serving.now.terms (g.V.Service.fits c.args.service.now c.args.world.now) (g.V.Service.tied c.args.service.now c.args.world.now) (g.N.Net.meaning c.next.new.self) c.args.table.now (g.V.Service.one c.args.service.now c.args.world.now) (g.met.V.Service.fits_one c.args.service.now c.args.world.now) (running_after g.V.Service.protocol g.met.V.Service.lawful c.args.serving.now.terms (g.V.Service.fits c.args.service.now c.args.world.now) (g.V.Service.tied c.args.service.now c.args.world.now) (g.N.Net.meaning c.args.net.now) (g.N.Net.meaning c.next.new.self) c.args.table.now c.requires.running c.in_default.ensures.waits.0 c.in_default.ensures.waits.1);
  unfailed = λ other. absurd (other refl);
}

pub returns-in-Incoming-clause-running : goal.returns-in-Incoming-clause-running
returns-in-Incoming-clause-running g c = running_after g.V.Service.protocol g.met.V.Service.lawful c.args.serving.now.terms (g.V.Service.fits c.args.service.now c.args.world.now) (g.V.Service.tied c.args.service.now c.args.world.now) (g.N.Net.meaning c.args.net.now) (g.N.Net.meaning c.next.new.self) c.args.table.now c.requires.running c.in-Ok.ensures.waits.0 (c.in-Ok.ensures.waits.1 ∙ ap (λ (r : Ready). named r (g.N.Net.meaning c.args.net.now).connections) c.in-Incoming.is)

pub returns-in-Elapsed-clause-running : goal.returns-in-Elapsed-clause-running
returns-in-Elapsed-clause-running g c = running_after g.V.Service.protocol g.met.V.Service.lawful c.args.serving.now.terms (g.V.Service.fits c.args.service.now c.args.world.now) (g.V.Service.tied c.args.service.now c.args.world.now) (g.N.Net.meaning c.args.net.now) (g.N.Net.meaning c.next.new.self) c.args.table.now c.requires.running c.in-Ok.ensures.waits.0 (c.in-Ok.ensures.waits.1 ∙ ap (λ (r : Ready). named r (g.N.Net.meaning c.args.net.now).connections) c.in-Elapsed.is)

pub wake_client-requires-clause-woken : goal.wake_client-requires-clause-woken
wake_client-requires-clause-woken g c = running_woken g.V.Service.protocol g.met.V.Service.lawful c.args.serving.now.terms (g.V.Service.fits c.args.service.now c.args.world.now) (g.V.Service.tied c.args.service.now c.args.world.now) (g.N.Net.meaning c.args.net.now) (g.N.Net.meaning c.next.new.self) c.args.table.now c.in-Readable.conn c.requires.running c.in-Ok.ensures.waits.0 (c.in-Ok.ensures.waits.1 ∙ ap (λ (r : Ready). named r (g.N.Net.meaning c.args.net.now).connections) c.in-Readable.is)

pub wake_client-requires-in-Writable-clause-woken : goal.wake_client-requires-in-Writable-clause-woken
wake_client-requires-in-Writable-clause-woken g c = running_woken g.V.Service.protocol g.met.V.Service.lawful c.args.serving.now.terms (g.V.Service.fits c.args.service.now c.args.world.now) (g.V.Service.tied c.args.service.now c.args.world.now) (g.N.Net.meaning c.args.net.now) (g.N.Net.meaning c.next.new.self) c.args.table.now c.in-Writable.conn c.requires.running c.in-Ok.ensures.waits.0 (c.in-Ok.ensures.waits.1 ∙ ap (λ (r : Ready). named r (g.N.Net.meaning c.args.net.now).connections) c.in-Writable.is)
