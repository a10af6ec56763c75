use Rattle.std.proofs.Common.{◌≡◌, map, drop}
use Rattle.machine.specs.Unwinding.{catching}
use Rattle.body_blocks.specs.Trees.{Coded, except_of}
use Rattle.body_frames.proofs.unwind.catching.Given as goal

abbrev pub invariant-loop-except : goal.invariant-loop-except
invariant-loop-except l = (t : Coded) → catching l.f (map (except_of t) l.fn.excepts) ≡ catching l.f (map (except_of t) (drop l.except-index l.fn.excepts))
