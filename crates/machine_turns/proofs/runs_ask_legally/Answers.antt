use Rattle.machine_turns.proofs.Asking.{logs-legal, run-asks}
use Rattle.machine_turns.proofs.runs_ask_legally.Goals as goal

pub returns-clause-asked : goal.returns-clause-asked
returns-clause-asked c = run-asks

pub returns-clause-legal : goal.returns-clause-legal
returns-clause-legal c = logs-legal
