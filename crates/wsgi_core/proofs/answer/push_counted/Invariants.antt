use Rattle.std.proofs.Common.{◌≡◌, ◌++◌, ◌-◌, take, length}
use Rattle.std.specs.List.{concat}
use Rattle.wsgi_core.proofs.answer.push_counted.Given as goal

abbrev pub invariant-loop-piece : goal.invariant-loop-piece
invariant-loop-piece l = record {
  sent : l.out ≡ l.initial.out ++ take l.fn.length (concat (take l.piece-index l.fn.pieces));
  left : l.left ≡ l.fn.length - length (concat (take l.piece-index l.fn.pieces));
}
