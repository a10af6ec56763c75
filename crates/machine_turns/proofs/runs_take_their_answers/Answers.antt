use Rattle.machine_turns.proofs.Taking.{run-takes}
use Rattle.machine_turns.proofs.runs_take_their_answers.Goals as goal

pub returns : goal.returns
returns c = run-takes
