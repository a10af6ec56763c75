use Rattle.std.proofs.Common.{length}
use Rattle.body_blocks.specs.Making.{IsMaking, made}
use Rattle.body_blocks.proofs.Growing.{Taken}
use Rattle.body_values.specs.Codes.{function_of}
use Rattle.body_values.proofs.functions.add_functions.Given as goal

abbrev pub invariant-loop-function : goal.invariant-loop-function
invariant-loop-function l = record {
  kept : IsMaking l.making;
  taken : Taken function_of (made l.making) l.left l.flat.items l.fn.functions;
}

abbrev pub decreases-loop-function : goal.decreases-loop-function
decreases-loop-function l = length l.left
