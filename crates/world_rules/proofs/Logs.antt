-- Logs that grow by one entry.
use Rattle.std.proofs.Common.{◌≡◌, ℕ, List, [], ◌∷◌, ◌++◌, refl, sym, ap, subst}
use Rattle.gv_values.specs.declared.job.Job.{Job}
use Rattle.gv_values.specs.declared.job.Answer.{Answer}
use Rattle.world_rules.specs.declared.question.Question.{Question}
use Rattle.world_rules.specs.declared.question.LogEntry.{LogEntry}
use Rattle.world_rules.specs.Legal.{posted, posts_of, answers_of}
use Rattle.world_rules.specs.Rules.{RuleState, rule_after_post, rule_after_answer, Gives, Follows}

pub posts_of-post : (log : List LogEntry) (number : ℕ) (job : Job) (takes : ℕ) → posts_of (log ++ LogEntry.Post number job takes ∷ []) ≡ posts_of log ++ posted number job ∷ []
posts_of-post [] number job takes = refl
posts_of-post (LogEntry.Post n j t ∷ log) number job takes = ap (λ l. posted n j ∷ l) (posts_of-post log number job takes)
posts_of-post (LogEntry.Asked q a ∷ log) number job takes = posts_of-post log number job takes

pub posts_of-asked : (log : List LogEntry) (question : Question) (answer : Answer) → posts_of (log ++ LogEntry.Asked question answer ∷ []) ≡ posts_of log
posts_of-asked [] question answer = refl
posts_of-asked (LogEntry.Post n j t ∷ log) question answer = ap (λ l. posted n j ∷ l) (posts_of-asked log question answer)
posts_of-asked (LogEntry.Asked q a ∷ log) question answer = posts_of-asked log question answer

pub answers_of-post : (log : List LogEntry) (number : ℕ) (job : Job) (takes : ℕ) → answers_of (log ++ LogEntry.Post number job takes ∷ []) ≡ answers_of log
answers_of-post [] number job takes = refl
answers_of-post (LogEntry.Post n j t ∷ log) number job takes = answers_of-post log number job takes
answers_of-post (LogEntry.Asked q a ∷ log) number job takes = ap (λ l. a ∷ l) (answers_of-post log number job takes)

pub answers_of-asked : (log : List LogEntry) (question : Question) (answer : Answer) → answers_of (log ++ LogEntry.Asked question answer ∷ []) ≡ answers_of log ++ answer ∷ []
answers_of-asked [] question answer = refl
answers_of-asked (LogEntry.Post n j t ∷ log) question answer = answers_of-asked log question answer
answers_of-asked (LogEntry.Asked q a ∷ log) question answer = ap (λ l. a ∷ l) (answers_of-asked log question answer)

-- a log by the rule goes on with a post
pub Follows-post : (log : List LogEntry) (tick : ℕ) (s t : RuleState) (number : ℕ) (job : Job) (takes : ℕ) → Follows tick s log t
    → Follows tick s (log ++ LogEntry.Post number job takes ∷ []) (rule_after_post t number job takes)
Follows-post [] tick s t number job takes h = ap (λ u. rule_after_post u number job takes) h
Follows-post (LogEntry.Post n j d ∷ log) tick s t number job takes h = Follows-post log tick _ t number job takes h
Follows-post (LogEntry.Asked q a ∷ log) tick s t number job takes h = (h.0, h.1, Follows-post log tick _ t number job takes h.2)

-- a log by the rule goes on with the answer that the rule gives
pub Follows-asked : (log : List LogEntry) (tick : ℕ) (s t : RuleState) (question : Question) (answer : Answer) (later : List Answer) → Follows tick s log t
    → Gives tick t t.listed question answer later → Follows tick s (log ++ LogEntry.Asked question answer ∷ []) (rule_after_answer t later answer)
Follows-asked [] tick s t question answer later h g =
    (later, subst (λ (u : RuleState). Gives tick u u.listed question answer later) (sym h) g, ap (λ u. rule_after_answer u later answer) h)
Follows-asked (LogEntry.Post n j d ∷ log) tick s t question answer later h g = Follows-asked log tick _ t question answer later h g
Follows-asked (LogEntry.Asked q a ∷ log) tick s t question answer later h g = (h.0, h.1, Follows-asked log tick _ t question answer later h.2 g)
