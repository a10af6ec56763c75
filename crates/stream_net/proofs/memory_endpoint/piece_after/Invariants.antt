use Rattle.std.proofs.Common.{◌≡◌, drop}
use Rattle.stream_net.specs.News.{piece_after}
use Rattle.stream_net.proofs.memory_endpoint.piece_after.Given as goal

abbrev pub invariant-loop-place : goal.invariant-loop-place
invariant-loop-place l = piece_after (drop l.place l.pieces) l.moment ≡ piece_after l.pieces l.moment
