use Rattle.body_values.proofs.Few.{head-few}
use Rattle.body_frames.proofs.Few.{begins-few, move-few, resume-few, step-asks-few, unwind-few}
use Rattle.body_frames.proofs.laws.steps_keep_few.Goals as goal

pub returns-clause-begun : goal.returns-clause-begun
returns-clause-begun c = begins-few

pub returns-clause-left : goal.returns-clause-left
returns-clause-left c = unwind-few

pub returns-clause-head : goal.returns-clause-head
returns-clause-head c = λ s ss todo h. head-few s ss h.0

pub returns-clause-moved : goal.returns-clause-moved
returns-clause-moved c = move-few

pub returns-clause-resumed : goal.returns-clause-resumed
returns-clause-resumed c = resume-few

pub returns-clause-asked : goal.returns-clause-asked
returns-clause-asked c = step-asks-few
