-- What ties the clients that wait for jobs to the world that does the jobs.
use Rattle.std.specs.Prelude.{◌≡◌, ◌≢◌, ℕ, ◌+◌, ◌<◌, ◌≤◌, true, false, List, [], ◌∷◌, length, Option, Some, None, Contains}
use Rattle.gv_values.specs.declared.job.Job.{Job}
use Rattle.world_rules.specs.declared.question.LogEntry.{LogEntry}
use Rattle.world_rules.specs.declared.question.PostedJob.{PostedJob}
use Rattle.world_rules.specs.Legal.{is_answered, is_posted, posted}
use Rattle.world.specs.LegalLogs.{HasLegalLog}
use Rattle.world.specs.Outside.{WorldMeaning}
use Rattle.wsgi_core.specs.Steps.{answered_of}
use Rattle.stream_server.specs.Keeping.{Listing}
use Rattle.stream_server.specs.declared.client.Client.{Client}
use Rattle.stream_server.specs.Owning.{AreOwned, AreOwnedBut, Owner}
use Rattle.wsgi_native.specs.Agreeing.{IsPosted}
use Rattle.wsgi_native.specs.Asking.{WantsJob}
use Rattle.wsgi_native.specs.Talks.{held_number, next_of}
use Rattle.wsgi_native.specs.declared.job_talk.JobTalk.{JobTalk}

-- the world runs, and each job that it answered was posted
pub record IsInOrder (w : WorldMeaning) : Type 0 where
  pub runs : w.runs ≡ true
  pub done : (number : ℕ) → is_answered number w.answers ≡ true → is_posted number w.posts ≡ true

-- the posts have the numbers from this one on, in order
abbrev pub AreNumberedFrom : ℕ → List PostedJob → Type 0
AreNumberedFrom next [] = Unit {0}
AreNumberedFrom next (post ∷ posts) = (post.number ≡ next) × AreNumberedFrom (next + 1) posts

-- what was posted to the world has the numbers from 1, in order; and the world stands for a log in which each answer is
-- legal and no job takes any of its own time
pub record HasPosted (w : WorldMeaning) (stands : List LogEntry → Type 0) : Type 0 where
  pub numbered : AreNumberedFrom 1 w.posts
  pub logged : HasLegalLog w stands

-- the same, and so many were posted
pub record HasPostedTo (last : ℕ) (w : WorldMeaning) (stands : List LogEntry → Type 0) : Type 0 where
  pub count : length w.posts ≡ last
  pub has : HasPosted w stands

-- the client waits for the job of this number, which is the one that its request asks for, and which that request owns
pub record Awaits (posts : List PostedJob) (owner : Owner) (number : ℕ) (g : Client JobTalk) : Type 0 where
  pub is_number : held_number g.talk ≡ Some number
  pub job : Job
  pub wants : WantsJob g.talk job
  pub there : Contains posts (posted number job)
  pub owns : owner number ≡ (g.conn, answered_of g.talk.session)

-- what is listed is a client that waits for the job of this number
abbrev pub IsFor : List PostedJob → Owner → ℕ → Option (Client JobTalk) → Type 0
IsFor posts owner number None = ⊥
IsFor posts owner number (Some g) = Awaits posts owner number g

-- The world is in order. The jobs 1 to `last` were posted, each once. Each that was not answered has a connection that
-- waits for it, of those that were accepted, and its client asks for just that job, which is its own.
pub record IsTied (w : WorldMeaning) (owner : Owner) (last : ℕ) (waiting : ℕ → Option ℕ) (listed : Listing JobTalk) (accepted : ℕ) : Type 0 where
  pub order : IsInOrder w
  pub fresh : (number : ℕ) → last < number → is_posted number w.posts ≡ false
  pub numbered : (number : ℕ) → 1 ≤ number → number ≤ last → is_posted number w.posts ≡ true
  pub alone : (number : ℕ) (a b : Job) → Contains w.posts (posted number a) → Contains w.posts (posted number b) → a ≡ b
  pub awaited : (number : ℕ) → is_posted number w.posts ≡ true → is_answered number w.answers ≡ false → waiting number ≢ None
  pub below : (number k : ℕ) → waiting number ≡ Some k → k < accepted
  pub held : (number k : ℕ) (slot : Option (Client JobTalk)) → waiting number ≡ Some k → listed k slot → IsFor w.posts owner number slot

-- the same, and this connection waits for none
pub record IsTiedBut (w : WorldMeaning) (owner : Owner) (last : ℕ) (waiting : ℕ → Option ℕ) (listed : Listing JobTalk) (accepted one : ℕ) : Type 0 where
  pub tied : IsTied w owner last waiting listed accepted
  pub others : (number k : ℕ) → waiting number ≡ Some k → k ≢ one

-- no request owns two jobs
abbrev pub HaveOwners : List PostedJob → Owner → Listing JobTalk → ℕ → Type 0
HaveOwners posts owner listed accepted = AreOwned next_of (IsPosted posts) owner listed accepted

-- the same, and those of this connection that own a job come before that number
abbrev pub HaveOwnersBut : List PostedJob → Owner → Listing JobTalk → ℕ → ℕ → ℕ → Type 0
HaveOwnersBut posts owner listed accepted one low = AreOwnedBut next_of (IsPosted posts) owner listed accepted one low
