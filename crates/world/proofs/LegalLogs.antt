-- Logs whose answers are legal, and that grow.
use Rattle.std.proofs.Common.{◌≡◌, ◌↔◌, ℕ, List, [], ◌∷◌, ◌++◌, refl, sym, ap, ◌∙◌, subst, append_assoc, append-nil}
use Rattle.gv_values.specs.declared.job.Answer.{Answer}
use Rattle.gv_values.specs.declared.job.Job.{Job}
use Rattle.world_rules.specs.declared.question.LogEntry.{LogEntry}
use Rattle.world_rules.specs.declared.question.PostedJob.{PostedJob}
use Rattle.world_rules.specs.declared.question.Question.{Question}
use Rattle.world_rules.specs.Legal.{AreLegal, IsLegal, answers_of, posted, posts_of}
use Rattle.world_rules.proofs.Logs.{answers_of-asked, answers_of-post, posts_of-asked, posts_of-post}
use Rattle.world.specs.LegalLogs.{HasLegalLog, TakeNoTime}
use Rattle.world.specs.Outside.{Begins, WorldMeaning, Posts, Stores}

pub legal_append : (posts : List PostedJob) (answers : List Answer) (log more : List LogEntry) → AreLegal posts answers log →
    AreLegal (posts ++ posts_of log) (answers ++ answers_of log) more → AreLegal posts answers (log ++ more)
legal_append posts answers [] more h k = subst (λ ps. AreLegal ps answers more) (append-nil posts) (subst (λ z. AreLegal (posts ++ []) z more) (append-nil answers) k)
legal_append posts answers (LogEntry.Post n j d ∷ log) more h k =
    legal_append (posts ++ posted n j ∷ []) answers log more h (subst (λ ps. AreLegal ps (answers ++ answers_of log) more) (sym (append_assoc posts (posted n j ∷ []) (posts_of log))) k)
legal_append posts answers (LogEntry.Asked q a ∷ log) more h k =
    (h.0, legal_append posts (answers ++ a ∷ []) log more h.1 (subst (λ z. AreLegal (posts ++ posts_of log) z more) (sym (append_assoc answers (a ∷ []) (answers_of log))) k))

untimed_append : (log more : List LogEntry) → TakeNoTime log → TakeNoTime more → TakeNoTime (log ++ more)
untimed_append [] more h k = k
untimed_append (LogEntry.Post n j d ∷ log) more h k = (h.0, untimed_append log more h.1 k)
untimed_append (LogEntry.Asked q a ∷ log) more h k = untimed_append log more h k

-- of a world that begins
pub logged_begun : (v w : WorldMeaning) (stands : List LogEntry → Type 0) (workers : ℕ) → Begins v w workers → stands [] → HasLegalLog w stands
logged_begun v w stands workers b h = record { log = []; stood = h; posts = sym b.posts; answers = sym b.answers; legal = tt; untimed = tt }

-- a job more was posted, which takes no time
pub logged_post : (v w : WorldMeaning) (old new : List LogEntry → Type 0) (number : ℕ) (job : Job) → HasLegalLog v old → Posts v w number job
    → ((log : List LogEntry) → old log → new (log ++ LogEntry.Post number job 0 ∷ [])) → HasLegalLog w new
logged_post v w old new number job h p grows = record {
  log = h.log ++ LogEntry.Post number job 0 ∷ [];
  stood = grows h.log h.stood;
  posts = posts_of-post h.log number job 0 ∙ ap (λ (l : List PostedJob). l ++ posted number job ∷ []) h.posts ∙ sym p.posts;
  answers = answers_of-post h.log number job 0 ∙ h.answers ∙ sym p.answers;
  legal = legal_append [] [] h.log (LogEntry.Post number job 0 ∷ []) h.legal tt;
  untimed = untimed_append h.log (LogEntry.Post number job 0 ∷ []) h.untimed (refl, tt);
}

-- an answer more was given, which is legal
pub logged_asked : (v w : WorldMeaning) (old new : List LogEntry → Type 0) (question : Question) (answer : Answer) → HasLegalLog v old → IsLegal v.posts v.answers question answer
    → Stores v w answer → ((log : List LogEntry) → old log → new (log ++ LogEntry.Asked question answer ∷ [])) → HasLegalLog w new
logged_asked v w old new question answer h legal stored grows = record {
  log = h.log ++ LogEntry.Asked question answer ∷ [];
  stood = grows h.log h.stood;
  posts = posts_of-asked h.log question answer ∙ h.posts ∙ sym stored.posts;
  answers = answers_of-asked h.log question answer ∙ ap (λ (l : List Answer). l ++ answer ∷ []) h.answers ∙ sym stored.answers;
  legal = legal_append [] [] h.log (LogEntry.Asked question answer ∷ []) h.legal
      (subst (λ (l : List PostedJob). IsLegal l (answers_of h.log) question answer) (sym h.posts) (subst (λ (l : List Answer). IsLegal v.posts l question answer) (sym h.answers) legal), tt);
  untimed = untimed_append h.log (LogEntry.Asked question answer ∷ []) h.untimed tt;
}

-- the world has the posts, the answers and the logs that it had
pub logged_same : (v w : WorldMeaning) (old new : List LogEntry → Type 0) → HasLegalLog v old → w.posts ≡ v.posts → w.answers ≡ v.answers → ((log : List LogEntry) → old log ↔ new log) → HasLegalLog w new
logged_same v w old new h posts answers logs = record {
  log = h.log;
  stood = (logs h.log).0 h.stood;
  posts = h.posts ∙ sym posts;
  answers = h.answers ∙ sym answers;
  legal = h.legal;
  untimed = h.untimed;
}
