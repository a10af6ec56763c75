-- Where a server has no job left for a request.
use Rattle.std.specs.Prelude.{◌≡◌, ℕ, ◌+◌, ◌<◌, true, false, List, ◌++◌, length, Some}
use Rattle.gv_values.specs.declared.job.Job.{Job}
use Rattle.http_messages.specs.declared.request.HttpRequest.{HttpRequest}
use Rattle.world_rules.specs.Legal.{is_posted}
use Rattle.stream_net.specs.Net.{IsAtRest, NetMeaning, connection_at}
use Rattle.world.specs.Outside.{WorldMeaning as World}
use Rattle.wsgi_core.specs.Answer.{◌⨾◌, answer}
use Rattle.wsgi_core.specs.Applications.{App, from}
use Rattle.wsgi_core.specs.Session.{answers}
use Rattle.wsgi_native.specs.declared.jobs.TheConstants.{LAST_JOB}
use Rattle.stream_server.specs.Owning.{Owner}
use Rattle.wsgi_native.specs.Agreeing.{Agrees}
use Rattle.wsgi_native.specs.JobApp.{job_asked}

-- Behind what was written comes the answer to the request of this number, which asks for a job, whatever comes behind
-- what was read.
pub record IsAtJob (owner : Owner) (port : ℕ) (w : World) (conn : ℕ) (bytes out : List ℕ) : Type 0 where
  pub number : ℕ
  pub request : HttpRequest
  pub body : List ℕ
  pub rest : List ℕ
  pub job : Job
  pub asks : job_asked request.environ ≡ Some job
  pub next : (app : App) (more : List ℕ) → Agrees owner w conn app
      → answers app port (bytes ++ more) ≡ record { bytes = out; closes = false } ⨾ answer request (app number request.environ body) ⨾ answers (from (number + 1) app) port (rest ++ more)

-- the job of the last number was posted, and the next that is due on a connection which isn't at rest is one more
pub record IsOutOfJobs (port : ℕ) (m : NetMeaning) (w : World) : Type 0 where
  pub owner : Owner
  pub spent : is_posted LAST_JOB w.posts ≡ true
  pub conn : ℕ
  pub accepted : conn < length m.connections
  pub not_at_rest : IsAtRest (connection_at m.connections conn) → ⊥
  pub asks : (bytes out : List ℕ) → (connection_at m.connections conn).read ≡ Some bytes → (connection_at m.connections conn).written ≡ Some out → IsAtJob owner port w conn bytes out
