use Rattle.std.proofs.Common.{ℕ, ◌+◌, ◌≤◌, ◌<◌, Contains}
use Rattle.due_timers.specs.SeenTimers.{items_in}
use Rattle.hub_tests.proofs.timers.million_timers.Given as goal

abbrev pub invariant-loop-i : goal.invariant-loop-i
invariant-loop-i g l = (1000000 ≤ l.timers.spare + l.i) × (1000000 ≤ l.timers.reach) × ((q : ℕ) → Contains (items_in l.timers.timers) q → q < l.i)
