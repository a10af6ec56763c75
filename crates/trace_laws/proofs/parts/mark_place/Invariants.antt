use Rattle.std.proofs.Common.{◌≡◌, ◌≤◌, ◌-◌, drop, length, take}
use Rattle.trace_laws.specs.Parts.{parted}
use Rattle.trace_laws.proofs.Parting.{onto}
use Rattle.trace_laws.proofs.parts.mark_place.Given as goal

abbrev pub invariant-loop-rest : goal.invariant-loop-rest
invariant-loop-rest l = (l.place ≤ length l.input) × (parted l.input ≡ onto (take l.place l.input) (parted (drop l.place l.input)))

abbrev pub decreases-loop-rest : goal.decreases-loop-rest
decreases-loop-rest l = length l.input - l.place
