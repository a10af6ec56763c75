use Rattle.std.proofs.Common.{◌≡◌, length}
use Rattle.http_messages.specs.Requests.{has_member}
use Rattle.http_messages.proofs.judge.has_member.Given as goal

abbrev pub invariant-loop-rest : goal.invariant-loop-rest
invariant-loop-rest l = has_member l.option l.value ≡ has_member l.option l.rest

abbrev pub decreases-loop-rest : goal.decreases-loop-rest
decreases-loop-rest l = length l.rest
