use Rattle.std.proofs.Common.{◌≡◌, false, take}
use Rattle.stream_net.specs.News.{has_caller}
use Rattle.stream_net.proofs.telling.has_caller.Given as goal

abbrev pub invariant-loop-place : goal.invariant-loop-place
invariant-loop-place l = has_caller (take l.place l.waiting) l.told l.moment ≡ false
