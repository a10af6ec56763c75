use Rattle.native_board.proofs.LostLaw.{nothing_lost}
use Rattle.native_board.proofs.law.no_result_is_lost.Goals as goal

pub returns : goal.returns
returns c = λ s kept. nothing_lost s kept
