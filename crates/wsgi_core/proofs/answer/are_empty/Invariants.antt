use Rattle.std.proofs.Common.{◌≡◌, drop}
use Rattle.std.specs.List.{list_all}
use Rattle.wsgi_core.specs.Answer.{is_empty}
use Rattle.wsgi_core.proofs.answer.are_empty.Given as goal

abbrev pub invariant-loop-piece : goal.invariant-loop-piece
invariant-loop-piece l = list_all is_empty l.fn.pieces ≡ list_all is_empty (drop l.piece-index l.fn.pieces)
