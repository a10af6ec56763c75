-- What a run asks and is answered: each of its questions is one that may be asked, as long as its answers are legal.
-- This project's own.
use Rattle.std.specs.Prelude.{◌≡◌, ℕ, suc, ◌<◌, false, List, [], ◌∷◌, ◌++◌, map, length, Some, is_some}
use Rattle.gv_values.specs.declared.fault.FaultKind.{FaultKind}
use Rattle.gv_values.specs.declared.job.Answer.{Answer}
use Rattle.world_rules.specs.declared.question.LogEntry.{LogEntry}
use Rattle.world_rules.specs.declared.question.PostedJob.{PostedJob}
use Rattle.world_rules.specs.declared.question.Question.{Question}
use Rattle.world_rules.specs.Legal.{AreLegal, IsLegal, MayAsk, answers_of, is_answered, posted}
use Rattle.scenario_tree.specs.declared.tree.Scenario.{Scenario}
use Rattle.trace_text.specs.declared.line.StopCause.{StopCause}
use Rattle.machine.specs.declared.items.Item.{Item}
use Rattle.machine.specs.declared.state.JobState.{JobState}
use Rattle.machine.specs.declared.state.Post.{Post}
use Rattle.machine.specs.State.{State}
use Rattle.machine.specs.Questions.{question, take_answer}
use Rattle.machine.specs.Deliveries.{deliver, interrupts}
use Rattle.machine.specs.Landing.{Next, starts, lands}
use Rattle.machine.specs.Moves.{move}
use Rattle.machine.specs.Run.{End, Source, first_state, run, run_from, script_run}

-- ---- what a state knows of its jobs

-- the jobs as they were posted, where so many were posted before them
abbrev pub as_posted : ℕ → List JobState → List PostedJob
as_posted before [] = []
as_posted before (j ∷ jobs) = posted (suc before) j.job ∷ as_posted (suc before) jobs

-- each of these jobs has arrived just where an answer names it
abbrev pub HaveArrived : ℕ → List Answer → List JobState → Type 0
HaveArrived before answers [] = Unit {0}
HaveArrived before answers (j ∷ jobs) = (is_some j.outcome ≡ is_answered (suc before) answers) × HaveArrived (suc before) answers jobs

-- the posts of a step
abbrev pub posts_of_step : List Post → List PostedJob
posts_of_step posts = map (λ post. posted post.number post.job) posts

-- after these posts and answers, and what the step under way has posted, the jobs are those posted, the answered ones
-- have arrived, and no answer names another
pub record KnowsJobs (posts : List PostedJob) (answers : List Answer) (s : State) : Type 0 where
  pub posts_are : posts ++ posts_of_step s.posts ≡ as_posted 0 s.jobs
  pub arrived : HaveArrived 0 answers s.jobs
  pub no_other : (number : ℕ) → length s.jobs < number → is_answered number answers ≡ false

-- so where the hub stands
abbrev pub StandsKnowing : List PostedJob → List Answer → Next → Type 0
StandsKnowing posts answers (Next.Going g s) = KnowsJobs posts answers s
StandsKnowing posts answers (Next.Resting s) = KnowsJobs posts answers s
StandsKnowing posts answers (Next.Over cause s) = KnowsJobs posts answers s

-- main starts
abbrev pub StartsKnowing : Type 0
StartsKnowing = (c : Scenario) → StandsKnowing [] [] (starts lands 0 [] (first_state c))

-- a greenlet moves
abbrev pub MovesKnowing : Type 0
MovesKnowing = (posts : List PostedJob) (answers : List Answer) (g : ℕ) (s : State) → KnowsJobs posts answers s → StandsKnowing posts answers (move g s)

-- an item is delivered
abbrev pub DeliversKnowing : Type 0
DeliversKnowing = (posts : List PostedJob) (answers : List Answer) (i : Item) (s : State) → KnowsJobs posts answers s → StandsKnowing posts answers (deliver i s)

-- LoopExit is thrown into main
abbrev pub ExitsKnowing : Type 0
ExitsKnowing =
    (posts : List PostedJob) (answers : List Answer) (s : State) → KnowsJobs posts answers s → StandsKnowing posts answers (interrupts 0 FaultKind.LoopExit s)

-- a legal answer is taken, where all posts were given out
abbrev pub AnswersKnowing : Type 0
AnswersKnowing =
    (posts : List PostedJob) (answers : List Answer) (q : Question) (answer : Answer) (s : State) → s.posts ≡ [] → IsLegal posts answers q answer →
    KnowsJobs posts answers s → KnowsJobs posts (answers ++ answer ∷ []) (take_answer answer s)

-- such a state asks what may be asked
abbrev pub MayAskItsQuestion : Type 0
MayAskItsQuestion =
    (posts : List PostedJob) (answers : List Answer) (q : Question) (s : State) → s.posts ≡ [] → KnowsJobs posts answers s → question s ≡ Some q → MayAsk posts answers q

-- ---- a whole run

-- where the run ends at a question that finds no answer, the question may be asked
abbrev pub MayAskAtEnd : List PostedJob → List Answer → End → State → Type 0
MayAskAtEnd posts answers (End.Stopped cause) s = Unit {0}
MayAskAtEnd posts answers End.Asking s = (q : Question) × (question s ≡ Some q) × MayAsk posts answers q

-- after these posts and answers each question of the log may be asked, and so may that at the end, as long as the
-- answers before it are legal
abbrev pub AsksLegally : List PostedJob → List Answer → List LogEntry → End → State → Type 0
AsksLegally posts answers [] end s = MayAskAtEnd posts answers end s
AsksLegally posts answers (LogEntry.Post number job takes ∷ log) end s = AsksLegally (posts ++ posted number job ∷ []) answers log end s
AsksLegally posts answers (LogEntry.Asked q answer ∷ log) end s =
    MayAsk posts answers q × (IsLegal posts answers q answer → AsksLegally posts (answers ++ answer ∷ []) log end s)

-- so does each run, wherever its answers come from
abbrev pub RunsAskLegally : Type 0
RunsAskLegally =
    (source : Source) (turns moves : ℕ) (c : Scenario) →
    AsksLegally [] [] (run_from source turns moves c).log (run_from source turns moves c).end (run_from source turns moves c).state

-- each answer of the log is legal, where its question may be asked
abbrev pub AnswersLegally : List PostedJob → List Answer → List LogEntry → Type 0
AnswersLegally posts answers [] = Unit {0}
AnswersLegally posts answers (LogEntry.Post number job takes ∷ log) = AnswersLegally (posts ++ posted number job ∷ []) answers log
AnswersLegally posts answers (LogEntry.Asked q answer ∷ log) =
    (MayAsk posts answers q → IsLegal posts answers q answer) × AnswersLegally posts (answers ++ answer ∷ []) log

-- the log of a run under legal answers is legal
abbrev pub LegalAnswersMakeLegalLogs : Type 0
LegalAnswersMakeLegalLogs =
    (source : Source) (turns moves : ℕ) (c : Scenario) →
    AnswersLegally [] [] (run_from source turns moves c).log → AreLegal [] [] (run_from source turns moves c).log

-- ---- the end

-- a run under the rule of a script finds an answer to each of its questions, so it stops
abbrev pub ScriptsStop : Type 0
ScriptsStop = (c : Scenario) (turns moves tick : ℕ) → (cause : StopCause) × ((script_run c turns moves tick).end ≡ End.Stopped cause)

-- ---- the answers

-- the answers of the log are the first of those that were given
pub record TakesFirst (answers : List Answer) (log : List LogEntry) : Type 0 where
  pub left : List Answer
  pub are : answers ≡ answers_of log ++ left

-- so are those of each run
abbrev pub RunsTakeTheirAnswers : Type 0
RunsTakeTheirAnswers = (c : Scenario) (turns moves : ℕ) (answers : List Answer) → TakesFirst answers (run c turns moves answers).log
