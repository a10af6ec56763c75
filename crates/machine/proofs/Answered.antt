-- What an answer leaves as it was.
use Rattle.std.proofs.Common.{◌≡◌, refl, ℕ, Option, Some, None}
use Rattle.gv_values.specs.declared.job.Answer.{Answer}
use Rattle.gv_values.specs.declared.job.JobOutcome.{JobOutcome}
use Rattle.world_rules.specs.Legal.{moment_of}
use Rattle.machine.specs.declared.state.JobState.{JobState}
use Rattle.machine.specs.Holds.{job_at}
use Rattle.machine.specs.Questions.{arrives, job_done, take_answer}
use Rattle.machine.specs.State.{State}

posts-arrived : (number : ℕ) (o : JobOutcome) (job : Option JobState) (s : State) → (arrives number o job s).posts ≡ s.posts
posts-arrived number o None s = refl
posts-arrived number o (Some job) s = refl

posts-done : (a : Answer) (s : State) → (job_done a s).posts ≡ s.posts
posts-done (Answer.Nothing t) s = refl
posts-done (Answer.Done number o at) s = posts-arrived number o (job_at number s.jobs) s
posts-done (Answer.Elapsed t) s = refl

-- an answer posts nothing
pub posts-answered : (a : Answer) (s : State) → (take_answer a s).posts ≡ s.posts
unfolding take_answer
posts-answered a s = posts-done a (record s { moment = moment_of a })
