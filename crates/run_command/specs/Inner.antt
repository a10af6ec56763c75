-- What the functions behind the run of a scenario say to one another. No clause of a public call cites it.
use Rattle.std.specs.Prelude.{◌≡◌, ◌≢◌, ℕ, false, List, [], Option}
use Rattle.gv_values.specs.declared.job.Answer.{Answer as Given}
use Rattle.world.specs.Outside.{WorldMeaning}
use Rattle.world_rules.specs.Legal.{AreLegal}
use Rattle.world_rules.specs.declared.question.LogEntry.{LogEntry}
use Rattle.machine.specs.Run.{Ran}
use Rattle.hub_engine.specs.Ends.{IsPartLogged, RanTo}
use Rattle.hub_engine.specs.Run.{WroteAhead}
use Rattle.hub_engine.specs.declared.run.EngineEnd.{EngineEnd}

-- What a world is after the scenario ran in it to this end, where `whole` is the run under each list of answers: it had
-- so many workers and runs no longer; it stands for the log of the run, or for the part up to the break.
pub record RanInWorld (end : EngineEnd) (whole : List Given → Ran) (workers : ℕ) (before after : WorldMeaning) (stands : List LogEntry → Type 0) (out0 out1 : Option (List ℕ)) : Type 0 where
  pub written : RanTo end (whole after.answers) out0 out1
  pub ahead : WroteAhead whole after.answers out0 out1
  pub part : IsPartLogged (whole after.answers).log after.answers stands
  pub log : end ≢ EngineEnd.WriteFault → end ≢ EngineEnd.Memory → stands (whole after.answers).log
  pub legal : AreLegal [] [] (whole after.answers).log
  pub workers_are : after.workers ≡ workers
  pub tick : after.tick ≡ before.tick
  pub reference : after.reference ≡ before.reference
  pub rests : after.runs ≡ false
