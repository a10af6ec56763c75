-- Applications that answer as `job_app` does, where that is known.
use Rattle.std.specs.Prelude.{◌≡◌, ℕ, ◌<◌, true, List, length, Some, None, Contains}
use Rattle.gv_values.specs.declared.job.Job.{Job}
use Rattle.http_messages.specs.Environ.{Pair}
use Rattle.world_rules.specs.Evaluate.{eval}
use Rattle.world_rules.specs.declared.question.PostedJob.{PostedJob}
use Rattle.world_rules.specs.Legal.{is_answered, is_posted, posted}
use Rattle.world.specs.Outside.{WorldMeaning as World}
use Rattle.stream_net.specs.Net.{Connection, connection_at}
use Rattle.stream_server.specs.Owning.{OwnOnce, Owner}
use Rattle.stream_server.specs.Serving.{BeginsSo}
use Rattle.wsgi_core.specs.Applications.{App}
use Rattle.wsgi_core.specs.Session.{session}
use Rattle.wsgi_core.specs.Shipped.{shipped}
use Rattle.wsgi_native.specs.JobApp.{job_asked, outcome_reply}

-- the job of this number was posted
abbrev pub IsPosted : List PostedJob → ℕ → Type 0
IsPosted posts number = is_posted number posts ≡ true

-- it answers so each request that asks for no job
abbrev pub IsPlain : App → Type 0
IsPlain app = (i : ℕ) (environ : List Pair) (body : List ℕ) → job_asked environ ≡ None → app i environ body ≡ shipped i environ body

-- and, on this connection, each that asks for a job that was posted for it, and for no other request, and answered
pub record Agrees (owner : Owner) (w : World) (conn : ℕ) (app : App) : Type 0 where
  pub plain : IsPlain app
  pub done : (number i : ℕ) (job : Job) (environ : List Pair) (body : List ℕ) → owner number ≡ (conn, i) → job_asked environ ≡ Some job → Contains w.posts (posted number job)
      → is_answered number w.answers ≡ true → app i environ body ≡ outcome_reply (eval job)

-- Each request for a job that was answered owns a job that was posted and answered. For whatever the application of a
-- connection answers to the requests that own none, what was written there begins what its session sends. A job has one
-- owner, so it answered one request at most; and no request owns two.
pub record HasEarned (port : ℕ) (cs : List Connection) (w : World) : Type 0 where
  pub owner : Owner
  pub once : OwnOnce (IsPosted w.posts) owner
  pub own : (k : ℕ) (app : App) (bytes out : List ℕ) → Agrees owner w k app → k < length cs → (connection_at cs k).read ≡ Some bytes → (connection_at cs k).written ≡ Some out
      → BeginsSo (session app port bytes (connection_at cs k).ended).bytes out
