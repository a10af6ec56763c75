use Rattle.std.proofs.Common.{◌≡◌, length, ap, Result, Err}
use Rattle.stream_server.specs.declared.service.HoldRefusal.{HoldRefusal}
use Rattle.stream_net.proofs.Lists.{is_absent}
use Rattle.stream_server.specs.Services.{TiesFrom}
use Rattle.stream_server.specs.Tables.{IsListed}
use Rattle.stream_server.proofs.Rounding.{but_only, but_place, goes_left, running_held}
use Rattle.stream_server.proofs.rounds.hold_client.Goals as goal

pub hold-requires-clause-tied : goal.hold-requires-clause-tied
hold-requires-clause-tied g c = (c.args.table.now, length (g.N.Net.meaning c.args.net.now).connections, c.requires.but.tied)

pub insert-requires-clause-absent : goal.insert-requires-clause-absent
insert-requires-clause-absent g c = is_absent (IsListed c.args.table.now) c.args.client.conn c.hold.new.client.conn c.in-Ok.ensures.held.conn
    (but_only g.V.Service.protocol g.met.V.Service.lawful c.args.serving.now.terms (g.V.Service.fits c.args.service.now c.args.world.now) (TiesFrom (g.V.Service.tied_but c.args.service.now c.args.world.now) (g.V.Service.rank c.args.client.talk)) (g.N.Net.meaning c.args.net.now) c.args.table.now c.args.client.conn (g.V.Service.one c.args.service.now c.args.world.now) (g.met.V.Service.fits_one c.args.service.now c.args.world.now) c.requires.but)

pub insert-requires-clause-place : goal.insert-requires-clause-place
insert-requires-clause-place g c = but_place g.V.Service.protocol g.met.V.Service.lawful c.args.serving.now.terms (g.V.Service.fits c.args.service.now c.args.world.now) (TiesFrom (g.V.Service.tied_but c.args.service.now c.args.world.now) (g.V.Service.rank c.args.client.talk)) (g.N.Net.meaning c.args.net.now) c.args.table.now c.args.client.conn (g.V.Service.one c.args.service.now c.args.world.now) (g.met.V.Service.fits_one c.args.service.now c.args.world.now) c.requires.but

pub returns-in-Ok-clause-running : goal.returns-in-Ok-clause-running
returns-in-Ok-clause-running g c =
    running_held g.V.Service.protocol g.met.V.Service.lawful c.args.serving.now.terms (g.V.Service.fits c.hold.new.self c.hold.new.world) (g.V.Service.fits c.args.service.now c.args.world.now) (g.V.Service.tied c.hold.new.self c.hold.new.world) (TiesFrom (g.V.Service.tied_but c.args.service.now c.args.world.now) (g.V.Service.rank c.args.client.talk)) (g.N.Net.meaning c.args.net.now) (g.N.Net.meaning c.hold-in-Ok.new.self) c.args.table.now c.insert.new.self c.args.client c.hold.new.client
    c.hold.ensures.fits c.requires.but c.requires.live c.requires.going c.hold-in-Ok.ensures c.in-Ok.ensures.held c.in-Ok.ensures.tied c.insert.ensures.relists c.insert.ensures.count

pub returns-in-Err-Spent-clause-left : goal.returns-in-Err-Spent-clause-left
returns-in-Err-Spent-clause-left g c = goes_left g.V.Service.protocol g.met.V.Service.lawful c.args.serving.now.terms (g.V.Service.fits c.hold.new.self c.hold.new.world) (g.V.Service.fits c.args.service.now c.args.world.now) (TiesFrom (g.V.Service.tied_but c.args.service.now c.args.world.now) (g.V.Service.rank c.args.client.talk)) (g.N.Net.meaning c.args.net.now) c.args.table.now c.args.client c.hold.ensures.fits c.requires.but c.requires.going

pub returns-clause-left : goal.returns-clause-left
returns-clause-left g c = goes_left g.V.Service.protocol g.met.V.Service.lawful c.args.serving.now.terms (g.V.Service.fits c.hold.new.self c.hold.new.world) (g.V.Service.fits c.args.service.now c.args.world.now) (TiesFrom (g.V.Service.tied_but c.args.service.now c.args.world.now) (g.V.Service.rank c.args.client.talk)) (g.N.Net.meaning c.args.net.now) c.args.table.now c.args.client c.hold.ensures.fits c.requires.but c.requires.going

is_refusal : (f one : HoldRefusal) → f ≡ one → ◌≡◌ {A = Result (Unit {0}) HoldRefusal} (Err f) (Err one)
is_refusal f one e = ap (λ (x : HoldRefusal). Err x) e

pub returns-in-Err-Spent-clause-in_vain : goal.returns-in-Err-Spent-clause-in_vain
returns-in-Err-Spent-clause-in_vain g c = λ _. record {
  spent = c.in-Err-Spent.ensures.spent (is_refusal c.in-Err-Spent.field-0 HoldRefusal.Spent c.in-Err-Spent.field-0-is);
  client = c.args.client;
  live = c.requires.live;
  free = c.requires.free;
  going = λ apps fits. c.requires.going apps (c.hold.ensures.fits apps fits);
  wants_it = c.requires.wants;
  none_due = c.requires.none;
}
