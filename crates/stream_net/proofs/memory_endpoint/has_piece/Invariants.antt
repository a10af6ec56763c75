use Rattle.std.proofs.Common.{◌≡◌, false, take}
use Rattle.stream_net.specs.News.{has_piece}
use Rattle.stream_net.proofs.memory_endpoint.has_piece.Given as goal

abbrev pub invariant-loop-place : goal.invariant-loop-place
invariant-loop-place l = has_piece (take l.place l.pieces) l.told l.moment ≡ false
