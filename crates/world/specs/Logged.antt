-- The posts and answers of a log by the rule are those of the state that it leads to.
use Rattle.std.proofs.Common.{◌≡◌, ℕ, List, [], ◌∷◌, ◌++◌, sym, ap, ◌∙◌, append_assoc, append-nil}
use Rattle.gv_values.specs.declared.job.Answer.{Answer}
use Rattle.world_rules.specs.declared.question.LogEntry.{LogEntry}
use Rattle.world_rules.specs.Legal.{posted, posts_of, answers_of}
use Rattle.world_rules.specs.Rules.{RuleState, start, Follows}
use Rattle.world.specs.declared.script.ScriptWorld.{ScriptWorld}
use Rattle.world.specs.Kept.{script_meaning, script_log, rule_state}

log_adds : (log : List LogEntry) (tick : ℕ) (s t : RuleState) → Follows tick s log t → (s.posts ++ posts_of log ≡ t.posts) × (s.answers ++ answers_of log ≡ t.answers)
log_adds [] tick s t h = (append-nil s.posts ∙ ap (λ u. u.posts) h, append-nil s.answers ∙ ap (λ u. u.answers) h)
log_adds (LogEntry.Post n j d ∷ log) tick s t h =
    let rest = log_adds log tick _ t h in (sym (append_assoc s.posts (posted n j ∷ []) (posts_of log)) ∙ rest.0, rest.1)
log_adds (LogEntry.Asked q a ∷ log) tick s t h =
    let rest = log_adds log tick _ t h.2 in (rest.0, sym (append_assoc s.answers (a ∷ []) (answers_of log)) ∙ rest.1)

pub rule_log_is : (log : List LogEntry) (tick : ℕ) (listed : List Answer) (t : RuleState) → Follows tick (start listed) log t → (posts_of log ≡ t.posts) × (answers_of log ≡ t.answers)
rule_log_is log tick listed t h = log_adds log tick (start listed) t h

pub script_log_is : (w : ScriptWorld) (log : List LogEntry) → script_log w log → (posts_of log ≡ (script_meaning w).posts) × (answers_of log ≡ (script_meaning w).answers)
script_log_is w log h = rule_log_is log w.tick [] (rule_state w []) h
