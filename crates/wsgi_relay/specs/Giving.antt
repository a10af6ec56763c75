-- What a client is given.
use Rattle.std.specs.Prelude.{◌≡◌, ◌+◌, ◌≤◌, None}
use Rattle.stream_server.specs.Services.{IsGiven}
use Rattle.stream_server.specs.declared.client.Client.{Client}
use Rattle.stream_server.specs.declared.service.Polled.{Polled}
use Rattle.stream_server.specs.declared.service.Polled.TheVariants.{Nobody, Released, Memory}
use Rattle.wsgi_core.specs.Applications.{App}
use Rattle.wsgi_core.specs.Steps.{IsReplyTo, answered_of}
use Rattle.wsgi_core.specs.declared.reply.Reply.{Reply}
use Rattle.wsgi_relay.specs.Talks.{deadline_in, relay_protocol, request_of}
use Rattle.wsgi_relay.specs.declared.relay_talk.RelayTalk.{RelayTalk}

-- the client was given this reply, and is held no longer
pub record IsGivenTo (reply : Reply) (old new : Client RelayTalk) : Type 0 where
  pub conn : new.conn ≡ old.conn
  pub ended : new.ended ≡ old.ended
  pub free : new.talk.held ≡ None
  pub answered : answered_of new.talk.session ≡ answered_of old.talk.session + 1
  pub later : deadline_in old.talk.held ≤ new.deadline
  pub stands : (app : App) → IsReplyTo app (answered_of old.talk.session) (request_of old.talk) reply → IsGiven relay_protocol app old.talk new.talk

-- it was given that, or memory ran out
abbrev pub Gives : Polled RelayTalk → Reply → Client RelayTalk → Type 0
Gives Nobody reply client = ⊥
Gives (Released given) reply client = IsGivenTo reply client given
Gives Memory reply client = Unit {0}
