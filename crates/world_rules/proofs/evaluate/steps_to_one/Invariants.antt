use Rattle.std.proofs.Common.{◌≡◌, ◌-◌, ◌<◌, ◌^◌}
use Rattle.world_rules.specs.Evaluate.{collatz}
use Rattle.world_rules.specs.declared.limits.TheConstants.{MOST_STEPS}
use Rattle.world_rules.proofs.evaluate.steps_to_one.Given as goal

abbrev pub invariant-loop-made : goal.invariant-loop-made
invariant-loop-made l = (l.m < 2 ^ 63) × (collatz (MOST_STEPS - l.made) l.made l.m ≡ collatz MOST_STEPS 0 l.fn.n)
