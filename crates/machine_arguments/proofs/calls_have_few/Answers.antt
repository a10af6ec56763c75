use Rattle.body_values.proofs.Few.{found}
use Rattle.machine_arguments.proofs.Calls.{calls-few}
use Rattle.machine_arguments.proofs.calls_have_few.Goals as goal

pub returns-clause-calls : goal.returns-clause-calls
returns-clause-calls c = calls-few

pub returns-clause-functions : goal.returns-clause-functions
returns-clause-functions c = λ scenario n f e h. found scenario.functions n f e h
