-- What a list world means, and the logs for which it stands.
use Rattle.std.specs.Prelude.{◌≡◌, List, ◌∷◌, Option, Some, None}
use Rattle.gv_values.specs.declared.job.Answer.{Answer}
use Rattle.world_rules.specs.declared.question.Question.{Question}
use Rattle.world_rules.specs.Legal.{IsLegal, posts_of, answers_of}
use Rattle.world.specs.Logged.{rule_log_is}
use Rattle.world_rules.specs.declared.question.LogEntry.{LogEntry}
use Rattle.world_rules.specs.Rules.{start, Follows}
use Rattle.world.specs.declared.list.ListWorld.{ListWorld}
use Rattle.world.specs.Outside.{WorldMeaning}
use Rattle.world.specs.Kept.{script_meaning, rule_state}

-- the meaning of a list world, whose rule rests on the list that it held when it began
abbrev pub list_meaning : ListWorld → WorldMeaning
list_meaning w = record (script_meaning w.script) { listed = w.begun_with.value.items }

-- the answers that are still on its list
abbrev pub still_listed : ListWorld → List Answer
still_listed w = w.listed.items

-- a list world stands for the logs that its rule leads through, from its beginning to where it is
abbrev pub list_log : ListWorld → List LogEntry → Type 0
list_log w log = Follows w.script.tick (start w.begun_with.value.items) log (rule_state w.script (still_listed w))

-- the first answer of the list where that is legal, and none where it isn't or the list is empty
abbrev pub FirstLegal : ListWorld → Question → Option Answer → Type 0
FirstLegal w question None = (first : Answer) (rest : List Answer) → w.listed.items ≡ first ∷ rest → ¬ IsLegal w.script.posts.items w.script.answers.items question first
FirstLegal w question (Some first) = ((rest : List Answer) × (w.listed.items ≡ first ∷ rest)) × IsLegal w.script.posts.items w.script.answers.items question first

pub list_log_is : (w : ListWorld) (log : List LogEntry) → list_log w log → (posts_of log ≡ (list_meaning w).posts) × (answers_of log ≡ (list_meaning w).answers)
list_log_is w log h = rule_log_is log w.script.tick w.begun_with.value.items (rule_state w.script w.listed.items) h
