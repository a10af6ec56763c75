use Rattle.native_board.proofs.TakenLaw.{taken_once}
use Rattle.native_board.proofs.law.each_job_is_taken_at_most_once.Goals as goal

pub returns : goal.returns
returns c = taken_once
