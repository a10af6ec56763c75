-- Where a session stands, as a function of what it was fed and what was taken from it.
use Rattle.std.specs.Prelude.{◌≡◌, ◌||◌, ℕ, Bool, true, false, List, [], ◌++◌, Option, Some, None}
use Rattle.std.proofs.Common.{Bor, ap, refl, sym, ◌∙◌, append_assoc, append-nil}
use Rattle.wsgi_core.specs.declared.session.Session.{Session}
use Rattle.wsgi_core.specs.declared.session.SessionPhase.{SessionPhase}
use Rattle.wsgi_core.specs.declared.session.SessionPhase.TheVariants.{Serving, Closing}
use Rattle.wsgi_core.specs.declared.session.SessionStage.{SessionStage}
use Rattle.wsgi_core.specs.declared.session.SessionStage.TheVariants.{AtHead, InBody, Asked}
use Rattle.http_messages.specs.Environ.{Pair}
use Rattle.wsgi_core.specs.declared.reply.Reply.{Reply}
use Rattle.wsgi_core.specs.Applications.{App, from}
use Rattle.wsgi_core.specs.Answer.{Sent, ◌⨾◌}
use Rattle.wsgi_core.specs.Session.{answers, session}
use Rattle.wsgi_core.specs.Progress.{Progress, IsSettled, Stands, sent_from}

abbrev pub progress_of : Session → Progress
progress_of s = record { port = s.port; answered = s.answered.count; stage = s.stage; kept = s.kept; pending = s.pending; closing = s.closing }

-- how many of its requests were answered, which is the number of the one that waits for its reply
abbrev pub answered_of : Session → ℕ
answered_of s = s.answered.count

-- the request at this stage that waits for its reply
abbrev pub asked_at : SessionStage → Option (List Pair × List ℕ)
asked_at AtHead = None
asked_at (InBody request awaited) = None
asked_at (Asked request body) = Some (request.environ, body)

-- the request of the session that waits for its reply
abbrev pub asked_if_open : Bool → SessionStage → Option (List Pair × List ℕ)
asked_if_open true stage = None
asked_if_open false stage = asked_at stage

abbrev pub asked_of : Session → Option (List Pair × List ℕ)
asked_of s = asked_if_open s.closing s.stage

-- the bytes that are pending
abbrev pub pending_of : Session → List ℕ
pending_of s = s.pending

-- what is lent is the request that waits
abbrev pub IsAsked : Option (Bor (List Pair) × Bor (List ℕ)) → Option (List Pair × List ℕ) → Type 0
IsAsked None asked = asked ≡ None
IsAsked (Some lent) asked = asked ≡ Some (lent.0.now, lent.1.now)

-- the reply is what the application answers to the request that waits, which has this number
abbrev pub IsReplyTo : App → ℕ → Option (List Pair × List ℕ) → Reply → Type 0
IsReplyTo app number None reply = ⊥
IsReplyTo app number (Some asked) reply = reply ≡ app number asked.0 asked.1

-- The session was begun at the port, it was fed these bytes, it was told of their end or not, and those bytes
-- were taken from it; a request may wait for its reply.
pub record StandsAt (app : App) (port : ℕ) (fed : List ℕ) (ended : Bool) (taken : List ℕ) (s : Session) : Type 0 where
  pub same_port : s.port ≡ port
  pub same_end : s.ended ≡ ended
  pub stands : Stands app fed taken (progress_of s)
  pub settled : asked_of s ≡ None → IsSettled app (progress_of s)

-- the same, and no request waits
pub record IsAt (app : App) (port : ℕ) (fed : List ℕ) (ended : Bool) (taken : List ℕ) (s : Session) : Type 0 where
  pub stands_at : StandsAt app port fed ended taken s
  pub quiet : asked_of s ≡ None

-- A session that ran out of memory: it is closing, and what was taken and what is pending begin what the
-- session sends.
pub record Stopped (app : App) (port : ℕ) (fed taken : List ℕ) (s : Session) : Type 0 where
  pub closing : s.closing ≡ true
  pub tail : List ℕ
  pub due : (answers app port fed).bytes ≡ taken ++ s.pending ++ tail

-- so what was taken and what is pending are what the session sends, and it is closing where that says so
pub is_said : (app : App) (port : ℕ) (fed : List ℕ) (ended : Bool) (taken : List ℕ) (s : Session) → IsAt app port fed ended taken s
    → record { bytes = taken ++ s.pending; closes = s.closing || s.ended } ≡ session app port fed ended
is_said app port fed ended taken s h =
    let e : record { bytes = taken ++ s.pending; closes = s.closing } ≡ answers app port fed =
    sym (ap (λ (x : Sent). record { bytes = taken; closes = false } ⨾ x) (h.stands_at.settled h.quiet))
    ∙ h.stands_at.stands [] ∙ (let n = append-nil fed in λ i. answers app (h.stands_at.same_port i) (n i)) in
    λ i. record { bytes = (e i).bytes; closes = (e i).closes || h.stands_at.same_end i }

abbrev pub phase_by : Bool → SessionPhase
phase_by true = Closing
phase_by false = Serving

pub said_bytes : (app : App) (port : ℕ) (fed : List ℕ) (ended : Bool) (taken : List ℕ) (s : Session) → IsAt app port fed ended taken s
    → taken ++ s.pending ≡ (session app port fed ended).bytes
said_bytes app port fed ended taken s h = ap (λ (t : Sent). t.bytes) (is_said app port fed ended taken s h)

pub stopped_bytes : (app : App) (port : ℕ) (fed taken : List ℕ) (s : Session) → Stopped app port fed taken s
    → (tail : List ℕ) × ((answers app port fed).bytes ≡ taken ++ s.pending ++ tail)
stopped_bytes app port fed taken s h = (h.tail, h.due)

-- what is sent begins with the first part
then_begins : (p : List ℕ) (closes : Bool) (b : Sent) → (tail : List ℕ) × ((record { bytes = p; closes = closes } ⨾ b).bytes ≡ p ++ tail)
then_begins p true b = ([], sym (append-nil p))
then_begins p false b = (b.bytes, refl)

begun_sent : (app : App) (port : ℕ) (fed taken : List ℕ) (s : Session) → s.port ≡ port → Stands app fed taken (progress_of s)
    → (tail : List ℕ) × ((answers app port fed).bytes ≡ taken ++ s.pending ++ tail)
begun_sent app port fed taken s same h =
    let t = then_begins s.pending s.closing (sent_from (from s.answered.count app) s.port s.stage (s.kept ++ [])) in
    let n = append-nil fed in
    (t.0, ap (λ (x : Sent). x.bytes) (sym (h [] ∙ (λ i. answers app (same i) (n i)))) ∙ ap (λ (l : List ℕ). taken ++ l) t.1 ∙ sym (append_assoc taken s.pending t.0))

-- where a request waits too, what was taken and what is pending begin what the session sends
pub begun_bytes : (app : App) (port : ℕ) (fed : List ℕ) (ended : Bool) (taken : List ℕ) (s : Session) → StandsAt app port fed ended taken s
    → (tail : List ℕ) × ((session app port fed ended).bytes ≡ taken ++ s.pending ++ tail)
begun_bytes app port fed ended taken s h = begun_sent app port fed taken s h.same_port h.stands
