use Rattle.machine_turns.proofs.Knowing.{moves-know, delivers-know, exits-know, answers-know, may-ask, starts-know}
use Rattle.machine_turns.proofs.steps_know_their_jobs.Goals as goal

pub returns-clause-started : goal.returns-clause-started
returns-clause-started c = starts-know

pub returns-clause-moved : goal.returns-clause-moved
returns-clause-moved c = moves-know

pub returns-clause-delivered : goal.returns-clause-delivered
returns-clause-delivered c = delivers-know

pub returns-clause-exited : goal.returns-clause-exited
returns-clause-exited c = exits-know

pub returns-clause-answered : goal.returns-clause-answered
returns-clause-answered c = answers-know

pub returns-clause-asked : goal.returns-clause-asked
returns-clause-asked c = may-ask
