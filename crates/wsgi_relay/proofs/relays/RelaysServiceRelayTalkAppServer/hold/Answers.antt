use Rattle.std.proofs.Common.{ℕ, ◌+◌, List, refl, sym, subst}
use Rattle.std.proofs.Math.Numerals.{lt-add-one}
use Rattle.std.specs.Prelude.{Some}
use Rattle.stream_server.specs.Tables.{IsListed}
use Rattle.stream_server.specs.declared.client.Client.{Client}
use Rattle.stream_server.specs.declared.client.TheConstants.{NEVER}
use Rattle.wsgi_relay.specs.Accounts.{asked_on}
use Rattle.wsgi_relay.specs.Relaying.{Asked}
use Rattle.wsgi_relay.specs.Tied.{HaveAsked, IsTied}
use Rattle.wsgi_relay.specs.declared.relay_talk.RelayTalk.{RelayTalk}
use Rattle.wsgi_relay.proofs.Adding.{asked_more, asked_once_either, awaits_on}
use Rattle.wsgi_relay.proofs.Talking.{at_ok}
use Rattle.wsgi_relay.proofs.Tying.{tied_more}
use Rattle.wsgi_relay.proofs.relays.RelaysServiceRelayTalkAppServer.hold.Goals as goal

pub hand_on-requires-clause-wants : goal.hand_on-requires-clause-wants
hand_on-requires-clause-wants g c = c.requires.wants

pub hand_on-requires-clause-kept : goal.hand_on-requires-clause-kept
hand_on-requires-clause-kept g c = c.requires.tied.2.2.1

pub returns-then-is_err-clause-sound : goal.returns-then-is_err-clause-sound
returns-then-is_err-clause-sound g c =
    let t = c.requires.tied in (
      c.hand_on.ensures.kept,
      asked_once_either c.args.self.now.askers.list (asked_on c.args.client.now.conn c.args.client.now.talk.session) (IsListed t.0) t.1 t.2.0 t.2.2.2 t.2.1 c.hand_on.new.self.askers.list c.hand_on.ensures.askers,
    )

pub returns-clause-sound : goal.returns-clause-sound
returns-clause-sound g c =
    let t = c.requires.tied in (
      c.hand_on.ensures.kept,
      asked_once_either c.args.self.now.askers.list (asked_on c.args.client.now.conn c.args.client.now.talk.session) (IsListed t.0) t.1 t.2.0 t.2.2.2 t.2.1 c.hand_on.new.self.askers.list c.hand_on.ensures.askers,
    )

pub returns-clause-tied : goal.returns-clause-tied
returns-clause-tied g c = λ table now accepted tied within relists.
    let was = c.args.client.now in
    let asked = c.args.self.now.askers.list in
    let a = asked_on was.conn was.talk.session in
    let w = g.D.Dial.meaning c.hand_on.new.upstream.dial in
    let exchanges = c.hand_on.new.self.exchanges.items in
    let client : Client RelayTalk = record { conn = was.conn; talk = record { session = was.talk.session; held = Some was.deadline }; ended = was.ended; deadline = NEVER } in
    let adds = at_ok c.hand_on.result c.if-is_err.ensures.value c.hand_on.ensures.adds in (
      subst (λ (p : ℕ). IsTied w p c.hand_on.new.self.askers.list exchanges (IsListed now)) (sym c.hand_on.ensures.patience)
          (subst (λ (l : List Asked). IsTied w c.args.world.now.patience l exchanges (IsListed now)) (sym adds)
          (tied_more c.args.world.now.patience (g.D.Dial.meaning c.args.world.now.dial) w asked c.args.self.now.exchanges.items exchanges (IsListed table) (IsListed now) a client tied.2.0 tied.2.1.count
          (at_ok c.hand_on.result c.if-is_err.ensures.value c.hand_on.ensures.hands_on) tied.2.1.timed (awaits_on was.conn was.deadline was.talk.session client c.requires.wants refl refl refl) relists.only relists.others)),
      c.hand_on.ensures.kept,
      subst (λ (l : List Asked). HaveAsked l (IsListed now) accepted) (sym adds) (asked_more asked a (IsListed table) accepted tied.0 tied.2.2 tied.1 (IsListed now) client within (lt-add-one _) relists.only relists.others),
    )
