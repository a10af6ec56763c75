use Rattle.std.proofs.Common.{ℕ, ◌+◌, ◌<◌, ◌*◌, ◌%◌, Contains, arith}
use Rattle.due_timers.specs.Heap.{timer}
use Rattle.due_timers.specs.SeenTimers.{items_in}
use Rattle.due_timers.proofs.Timing.{added_below}
use Rattle.hub_tests.proofs.timers.million_timers.Goals as goal

pub add-requires-clause-absent : goal.add-requires-clause-absent
add-requires-clause-absent g c = λ h. omega (arith, c.loop-i.invariant.2 c.loop-i.i h)

pub loop-i-preserved : goal.loop-i-preserved
loop-i-preserved g c =
    let i = c.loop-i.i in
    let old : (q : ℕ) → Contains (items_in c.loop-i.timers.timers) q → q < i + 1 = λ q h. omega (arith, c.loop-i.invariant.2 q h) in
    let room = c.add.ensures.spare in
    (omega arith, (let a = c.loop-i.invariant.1 in let e = c.add.ensures.reach in omega arith), added_below c.loop-i.timers.timers c.add.new.self.timers (timer i i (i * 7919 % 1000000)) (i + 1) c.add.ensures.added (omega arith) old)
