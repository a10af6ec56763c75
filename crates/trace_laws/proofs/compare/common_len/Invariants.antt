use Rattle.std.proofs.Common.{length, take, ◌-◌, ◌≡◌, ◌≤◌}
use Rattle.trace_laws.proofs.compare.common_len.Given as goal

abbrev pub invariant-loop-same : goal.invariant-loop-same
invariant-loop-same l = record { in_trace : l.same ≤ length l.trace; in_bytes : l.same ≤ length l.bytes; same : take l.same l.trace ≡ take l.same l.bytes }

abbrev pub decreases-loop-same : goal.decreases-loop-same
decreases-loop-same l = length l.bytes - l.same
