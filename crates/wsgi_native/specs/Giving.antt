-- What a client is given.
use Rattle.std.specs.Prelude.{◌≡◌, ◌+◌, ◌≤◌, None}
use Rattle.gv_values.specs.declared.job.JobOutcome.{JobOutcome}
use Rattle.stream_server.specs.Services.{IsGiven}
use Rattle.stream_server.specs.declared.client.Client.{Client}
use Rattle.stream_server.specs.declared.service.Polled.{Polled}
use Rattle.stream_server.specs.declared.service.Polled.TheVariants.{Nobody, Released, Memory}
use Rattle.wsgi_core.specs.Applications.{App}
use Rattle.wsgi_core.specs.Steps.{IsReplyTo, answered_of}
use Rattle.wsgi_native.specs.JobApp.{outcome_reply}
use Rattle.wsgi_native.specs.Talks.{deadline_in, job_protocol, request_of}
use Rattle.wsgi_native.specs.declared.job_talk.JobTalk.{JobTalk}

-- the client was given what its job came to, and is held no longer
pub record IsGivenTo (outcome : JobOutcome) (old new : Client JobTalk) : Type 0 where
  pub conn : new.conn ≡ old.conn
  pub ended : new.ended ≡ old.ended
  pub free : new.talk.held ≡ None
  pub answered : answered_of new.talk.session ≡ answered_of old.talk.session + 1
  pub later : deadline_in old.talk.held ≤ new.deadline
  pub stands : (app : App) → IsReplyTo app (answered_of old.talk.session) (request_of old.talk) (outcome_reply outcome) → IsGiven job_protocol app old.talk new.talk

-- it was given that, or memory ran out
abbrev pub Gives : Polled JobTalk → JobOutcome → Client JobTalk → Type 0
Gives Nobody outcome client = ⊥
Gives (Released given) outcome client = IsGivenTo outcome client given
Gives Memory outcome client = Unit {0}
