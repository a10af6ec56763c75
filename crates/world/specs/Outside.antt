-- What a world means to those that use it, and what each call does to that.
use Rattle.std.specs.Prelude.{◌≡◌, ℕ, ◌≤◌, Bool, true, List, [], ◌∷◌, ◌++◌}
use Rattle.gv_values.specs.declared.job.Job.{Job}
use Rattle.gv_values.specs.declared.job.Answer.{Answer}
use Rattle.world_rules.specs.declared.question.PostedJob.{PostedJob}
use Rattle.world_rules.specs.Legal.{posted, moment_of}
use Rattle.world_rules.specs.declared.limits.TheConstants.{LAST_MOMENT}

-- the jobs posted since the world began, in order; the answers since then; its moment and workers; what its rule rests
-- on, a tick and a list of answers; whether it runs; and the name of the reference that it works through, or 0
pub record WorldMeaning : Type 0 where
  pub posts : List PostedJob
  pub answers : List Answer
  pub moment : ℕ
  pub workers : ℕ
  pub tick : ℕ
  pub listed : List Answer
  pub runs : Bool
  pub reference : ℕ

-- a world that begins: nothing was posted, asked or answered. Its rule keeps its tick
pub record Begins (v w : WorldMeaning) (workers : ℕ) : Type 0 where
  pub posts : w.posts ≡ []
  pub answers : w.answers ≡ []
  pub moment : w.moment ≡ 0
  pub workers_are : w.workers ≡ workers
  pub tick : w.tick ≡ v.tick
  pub runs : w.runs ≡ true
  pub reference : w.reference ≡ v.reference

-- what stays the same while a world runs
pub record WorldGoesOn (v w : WorldMeaning) : Type 0 where
  pub workers : w.workers ≡ v.workers
  pub tick : w.tick ≡ v.tick
  pub listed : w.listed ≡ v.listed
  pub runs : w.runs ≡ v.runs
  pub reference : w.reference ≡ v.reference

-- a job more was posted; the moment doesn't fall
pub record Posts (v w : WorldMeaning) (number : ℕ) (job : Job) : Type 0 where
  pub posts : w.posts ≡ v.posts ++ posted number job ∷ []
  pub answers : w.answers ≡ v.answers
  pub moment : v.moment ≤ w.moment
  pub fits : w.moment ≤ LAST_MOMENT
  pub rest : WorldGoesOn v w

-- an answer more was given and stored, at the moment that it names, which doesn't fall
pub record Stores (v w : WorldMeaning) (answer : Answer) : Type 0 where
  pub posts : w.posts ≡ v.posts
  pub answers : w.answers ≡ v.answers ++ answer ∷ []
  pub at : w.moment ≡ moment_of answer
  pub moment : v.moment ≤ w.moment
  pub rest : WorldGoesOn v w
