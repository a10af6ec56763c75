-- What a script answers, before the job that it names is evaluated.
use Rattle.gv_values.specs.declared.job.Answer.{Answer}
use Rattle.world_rules.specs.Evaluate.{eval}
use Rattle.world.specs.declared.due.Upshot.{Upshot}
use Rattle.world.specs.declared.due.Upshot.TheVariants.{Ends, Elapses, Nothing}

-- the answer
abbrev pub said : Upshot → Answer
said (Ends job at) = Answer.Done job.number (eval job.job) at
said (Elapses at) = Answer.Elapsed at
said (Nothing at) = Answer.Nothing at
