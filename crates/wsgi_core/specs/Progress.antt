-- A session between two pieces: what it keeps, and what it has still to say.
use Rattle.std.specs.Prelude.{◌≡◌, ℕ, Bool, false, List, [], ◌++◌}
use Rattle.http_messages.specs.Body.{body_left}
use Rattle.wsgi_core.specs.declared.session.SessionStage.{SessionStage}
use Rattle.wsgi_core.specs.declared.session.SessionStage.TheVariants.{AtHead, InBody, Asked}
use Rattle.wsgi_core.specs.Applications.{App, from}
use Rattle.wsgi_core.specs.Answer.{Sent, ◌⨾◌, answer}
use Rattle.wsgi_core.specs.Session.{sent_on, answers}

-- so many requests were answered; the bytes that were kept are those not read yet, from the stage on
pub record Progress : Type 0 where
  pub port : ℕ
  pub answered : ℕ
  pub stage : SessionStage
  pub kept : List ℕ
  pub pending : List ℕ
  pub closing : Bool

-- what is sent for the bytes from a stage on
unfoldable pub sent_from : App → ℕ → SessionStage → List ℕ → Sent
sent_from app port AtHead bytes = answers app port bytes
sent_from app port (InBody request awaited) bytes =
    sent_on (body_left awaited bytes) (λ body rest. answer request (app 0 request.environ body) ⨾ answers (from 1 app) port rest)
sent_from app port (Asked request body) bytes = answer request (app 0 request.environ body) ⨾ answers (from 1 app) port bytes

-- what is still to be taken from a session to which these bytes are yet to be fed
abbrev pub to_come : App → Progress → List ℕ → Sent
to_come app progress more =
    record { bytes = progress.pending; closes = progress.closing }
    ⨾ sent_from (from progress.answered app) progress.port progress.stage (progress.kept ++ more)

-- what is to come stays the same
abbrev pub GoesOn : App → Progress → Progress → Type 0
GoesOn app old new = (more : List ℕ) → to_come app old more ≡ to_come app new more

-- all that can be said was said
abbrev pub IsSettled : App → Progress → Type 0
IsSettled app progress = to_come app progress [] ≡ record { bytes = progress.pending; closes = progress.closing }

-- after memory ran out: what is pending begins what was to come
abbrev pub IsDue : App → Progress → List ℕ → Type 0
IsDue app old pending = (more : List ℕ) → (tail : List ℕ) × ((to_come app old more).bytes ≡ pending ++ tail)

-- a session that was fed these bytes, and from which those were taken, goes on to what `session` sends
abbrev pub Stands : App → List ℕ → List ℕ → Progress → Type 0
Stands app fed taken progress =
    (more : List ℕ) → record { bytes = taken; closes = false } ⨾ to_come app progress more ≡ answers app progress.port (fed ++ more)
