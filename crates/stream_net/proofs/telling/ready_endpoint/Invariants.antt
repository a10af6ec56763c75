use Rattle.stream_net.specs.News.{AreSilent}
use Rattle.stream_net.proofs.telling.ready_endpoint.Given as goal

abbrev pub invariant-loop-place : goal.invariant-loop-place
invariant-loop-place l = AreSilent l.endpoints l.place l.moment
