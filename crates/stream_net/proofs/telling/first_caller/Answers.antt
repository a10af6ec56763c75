use Rattle.std.proofs.Common.{◌≡◌, length, arith}
use Rattle.stream_net.proofs.EarliestLaws.{nobody_came}
use Rattle.stream_net.proofs.telling.first_caller.Goals as goal

pub returns-in-None-clause-none : goal.returns-in-None-clause-none
returns-in-None-clause-none c =
    let end = c.loop-place.auto.place-end in
    let past = c.loop-place-test.false in
    let all : c.loop-place.place ≡ length c.args.waiting.now = omega (arith, end, past) in
    nobody_came c.args.waiting.now c.args.moment c.loop-place.place c.loop-place.first c.in-None.is all c.loop-place.invariant
