-- What a world that answers as a script keeps of the one that does its jobs.
use Rattle.std.specs.Prelude.{◌≡◌, ◌≢◌, ℕ, ◌<◌, ◌==◌, true, false, if◌then◌else◌, [], ◌∷◌, ◌++◌, Option, Some, None, Contains}
use Rattle.gv_values.specs.declared.job.Answer.{Answer}
use Rattle.gv_values.specs.declared.job.Job.{Job}
use Rattle.gv_values.specs.declared.job.JobOutcome.{JobOutcome}
use Rattle.world_rules.specs.Evaluate.{eval}
use Rattle.world_rules.specs.Legal.{IsOutcomeOf, is_answered, is_posted, posted}
use Rattle.world.specs.Outside.{WorldGoesOn, WorldMeaning}

-- for each number a place for its result, if there is one, and the result, if it came
abbrev pub Places : Type 0
Places = ℕ → Option (Option JobOutcome)

-- the two were begun together and were posted the same jobs; what the script answered the other answered before; each
-- job that waits for the script's answer has a place, which has a result where the other answered
pub record IsTied (inner script : WorldMeaning) (places : Places) : Type 0 where
  pub same_runs : inner.runs ≡ script.runs
  pub begun : script.runs ≡ true → 0 < script.workers
  pub same_workers : 0 < script.workers → inner.workers ≡ script.workers
  pub same_posts : 0 < script.workers → inner.posts ≡ script.posts
  pub alone : (number : ℕ) (a b : Job) → Contains script.posts (posted number a) → Contains script.posts (posted number b) → a ≡ b
  pub posted_first : 0 < script.workers → (number : ℕ) → is_posted number script.posts ≡ false → is_answered number inner.answers ≡ false
  pub ahead : (number : ℕ) → is_answered number inner.answers ≡ false → is_answered number script.answers ≡ false
  pub placed : (number : ℕ) → is_posted number script.posts ≡ true → is_answered number script.answers ≡ false → places number ≢ None
  pub awaited : (number : ℕ) → places number ≡ Some None → is_answered number inner.answers ≡ false
  pub came : (number : ℕ) (outcome : JobOutcome) → places number ≡ Some (Some outcome) → is_answered number inner.answers ≡ true
  pub right : (number : ℕ) (outcome : JobOutcome) (job : Job) → places number ≡ Some (Some outcome) → Contains script.posts (posted number job) → outcome ≡ eval job

-- a world answered that a job is done, and its result was put into its place
pub record Takes (v w : WorldMeaning) (old new : Places) : Type 0 where
  pub number : ℕ
  pub outcome : JobOutcome
  pub at : ℕ
  pub right : IsOutcomeOf number outcome v.posts
  pub first : is_answered number v.answers ≡ false
  pub posts : w.posts ≡ v.posts
  pub answers : w.answers ≡ v.answers ++ Answer.Done number outcome at ∷ []
  pub rest : WorldGoesOn v w
  pub places : (n : ℕ) → new n ≡ (if number == n then Some (Some outcome) else old n)

-- What the world that does the jobs shows of what the script did: it was begun with the same number of workers, was
-- posted the same jobs, and answered that a job is done for each that the script answered so
pub record Leads (inner script : WorldMeaning) : Type 0 where
  pub same_runs : inner.runs ≡ script.runs
  pub same_workers : 0 < script.workers → inner.workers ≡ script.workers
  pub same_posts : 0 < script.workers → inner.posts ≡ script.posts
  pub ahead : (number : ℕ) → is_answered number script.answers ≡ true → is_answered number inner.answers ≡ true
