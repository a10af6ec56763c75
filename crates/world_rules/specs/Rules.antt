-- The rule of a world: the answers listed for it, as long as they are legal, and then those of a script.
use Rattle.std.specs.Prelude.{◌≡◌, ◌⊎◌, ℕ, List, [], ◌∷◌, ◌++◌}
use Rattle.gv_values.specs.declared.job.Job.{Job}
use Rattle.gv_values.specs.declared.job.Answer.{Answer}
use Rattle.world_rules.specs.declared.question.Question.{Question}
use Rattle.world_rules.specs.declared.question.PostedJob.{PostedJob}
use Rattle.world_rules.specs.declared.question.DueJob.{DueJob}
use Rattle.world_rules.specs.declared.question.LogEntry.{LogEntry}
use Rattle.world_rules.specs.Legal.{posted, moment_of, IsLegal}
use Rattle.world_rules.specs.Script.{due_at, due_job, scripted, without_done}

-- what an answer by the rule depends on: the answers still listed, the posts and answers before, the outstanding jobs
-- and the moment
pub record RuleState : Type 0 where
  pub listed : List Answer
  pub posts : List PostedJob
  pub answers : List Answer
  pub jobs : List DueJob
  pub moment : ℕ

-- a world that begins with this list of answers
abbrev pub start : List Answer → RuleState
start listed = record { listed = listed; posts = []; answers = []; jobs = []; moment = 0 }

-- after a post
abbrev pub rule_after_post : RuleState → ℕ → Job → ℕ → RuleState
rule_after_post s number job takes =
    record s { posts = s.posts ++ posted number job ∷ []; jobs = s.jobs ++ due_job number job (due_at s.moment takes) ∷ [] }

-- after an answer, with these answers still listed
abbrev pub rule_after_answer : RuleState → List Answer → Answer → RuleState
rule_after_answer s listed answer =
    record { listed = listed; posts = s.posts; answers = s.answers ++ answer ∷ []; jobs = without_done answer s.jobs; moment = moment_of answer }

-- the answer is the first of those listed where that is legal, which is then taken off; else it is that of the script
abbrev pub Gives : ℕ → RuleState → List Answer → Question → Answer → List Answer → Type 0
Gives tick s [] question answer later = (answer ≡ scripted tick s.jobs s.moment question) × (later ≡ [])
Gives tick s (first ∷ rest) question answer later =
    (IsLegal s.posts s.answers question first × (answer ≡ first) × (later ≡ rest))
    ⊎ (¬ (IsLegal s.posts s.answers question first) × (answer ≡ scripted tick s.jobs s.moment question) × (later ≡ first ∷ rest))

-- a log that leads from one state to another, in which each answer is the one that the rule gives after the log before
-- it
abbrev pub Follows : ℕ → RuleState → List LogEntry → RuleState → Type 0
Follows tick s [] t = s ≡ t
Follows tick s (LogEntry.Post number job takes ∷ log) t = Follows tick (rule_after_post s number job takes) log t
Follows tick s (LogEntry.Asked question answer ∷ log) t =
    (later : List Answer) × Gives tick s s.listed question answer later × Follows tick (rule_after_answer s later answer) log t
