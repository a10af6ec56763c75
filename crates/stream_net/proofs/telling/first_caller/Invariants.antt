use Rattle.stream_net.specs.Earliest.{IsEarliest}
use Rattle.stream_net.specs.News.{has_come}
use Rattle.stream_net.proofs.telling.first_caller.Given as goal

abbrev pub invariant-loop-place : goal.invariant-loop-place
invariant-loop-place l = IsEarliest (has_come l.moment) l.waiting l.place l.first
