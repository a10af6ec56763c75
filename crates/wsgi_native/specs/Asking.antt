-- What a session asks for.
use Rattle.std.specs.Prelude.{◌≡◌, ℕ, List, Option, Some, None, IsSome}
use Rattle.gv_values.specs.declared.job.Job.{Job}
use Rattle.http_messages.specs.Environ.{Pair}
use Rattle.wsgi_core.specs.Shipped.{shipped}
use Rattle.wsgi_native.specs.JobApp.{job_asked}
use Rattle.wsgi_native.specs.Talks.{request_of}
use Rattle.wsgi_native.specs.declared.job_talk.Asked.{Asked}
use Rattle.wsgi_native.specs.declared.job_talk.Asked.TheVariants.{Nothing, AJob, AReply}
use Rattle.wsgi_native.specs.declared.job_talk.JobTalk.{JobTalk}

-- the request that waits asks for this job
pub record WantsJob (t : JobTalk) (job : Job) : Type 0 where
  pub request : List Pair × List ℕ
  pub asked : request_of t ≡ Some request
  pub wants : job_asked request.0 ≡ Some job

-- it asks for some job
abbrev pub AsksForJob : JobTalk → Type 0
AsksForJob t = (job : Job) × WantsJob t job

-- what is asked for where this request waits, if one does
abbrev pub IsAskedFor : Option (List Pair × List ℕ) → Asked → Type 0
IsAskedFor asked Nothing = asked ≡ None
IsAskedFor asked (AJob job) = (request : List Pair × List ℕ) × (asked ≡ Some request) × (job_asked request.0 ≡ Some job)
IsAskedFor asked (AReply reply) = (request : List Pair × List ℕ) × (asked ≡ Some request) × (job_asked request.0 ≡ None) × ((number : ℕ) → reply ≡ shipped number request.0 request.1)

-- a request waits
abbrev pub HasAsked : JobTalk → Type 0
HasAsked t = IsSome (request_of t)
