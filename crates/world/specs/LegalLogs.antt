-- That a world stands for a log in which each answer is legal.
use Rattle.std.specs.Prelude.{◌≡◌, List, [], ◌∷◌}
use Rattle.world_rules.specs.declared.question.LogEntry.{LogEntry}
use Rattle.world_rules.specs.Legal.{AreLegal, answers_of, posts_of}
use Rattle.world.specs.Outside.{WorldMeaning}

-- no job of a log was posted to take any of the world's own time
abbrev pub TakeNoTime : List LogEntry → Type 0
TakeNoTime [] = Unit {0}
TakeNoTime (LogEntry.Post number job takes ∷ log) = (takes ≡ 0) × TakeNoTime log
TakeNoTime (LogEntry.Asked question answer ∷ log) = TakeNoTime log

-- a world stands for a log of its posts and answers in which each answer is legal and no job takes time
pub record HasLegalLog (means : WorldMeaning) (stands : List LogEntry → Type 0) : Type 0 where
  pub log : List LogEntry
  pub stood : stands log
  pub posts : posts_of log ≡ means.posts
  pub answers : answers_of log ≡ means.answers
  pub legal : AreLegal [] [] log
  pub untimed : TakeNoTime log
