-- What a script world and a list world mean, and the logs for which they stand.
use Rattle.std.specs.Prelude.{◌≡◌, [], List, nat_eq}
use Rattle.std.specs.HashMap.{get}
use Rattle.gv_values.specs.declared.job.Answer.{Answer}
use Rattle.world_rules.specs.declared.question.DueJob.{DueJob}
use Rattle.world_rules.specs.declared.question.LogEntry.{LogEntry}
use Rattle.world_rules.specs.Rules.{RuleState, start, Follows}
use Rattle.world.specs.declared.script.ScriptWorld.{ScriptWorld}
use Rattle.world.specs.Outstanding.{still_due}
use Rattle.world.specs.Outside.{WorldMeaning}

-- the meaning of a script world
abbrev pub script_meaning : ScriptWorld → WorldMeaning
script_meaning w = record {
  posts = w.posts.items;
  answers = w.answers.items;
  moment = w.moment;
  workers = w.workers;
  tick = w.tick;
  listed = [];
  runs = w.running;
  reference = 0;
}

-- the jobs that are outstanding, in the order of their posts
abbrev pub due_jobs : ScriptWorld → List DueJob
due_jobs w = still_due (get nat_eq w.outstanding.by_number) w.posts.items

-- what its next answer depends on, where these answers are still listed
abbrev pub rule_state : ScriptWorld → List Answer → RuleState
rule_state w listed = record { listed = listed; posts = w.posts.items; answers = w.answers.items; jobs = due_jobs w; moment = w.moment }

-- a script world stands for the logs that its rule leads through, from its beginning to where it is
abbrev pub script_log : ScriptWorld → List LogEntry → Type 0
script_log w log = Follows w.tick (start []) log (rule_state w [])

-- the tick, the number of workers and whether it runs are as before
pub record SameSetting (v w : ScriptWorld) : Type 0 where
  pub tick : w.tick ≡ v.tick
  pub workers : w.workers ≡ v.workers
  pub running : w.running ≡ v.running

-- nothing of it changed that contracts see
pub record SameScript (v w : ScriptWorld) : Type 0 where
  pub setting : SameSetting v w
  pub posts : w.posts.items ≡ v.posts.items
  pub answers : w.answers.items ≡ v.answers.items
  pub jobs : due_jobs w ≡ due_jobs v
  pub moment : w.moment ≡ v.moment
