use Rattle.std.proofs.Common.{length}
use Rattle.body_blocks.specs.Making.{IsMaking, made}
use Rattle.body_blocks.specs.Trees.{Grows, except_of, statement_of}
use Rattle.body_blocks.proofs.Growing.{Taken}
use Rattle.body_blocks.proofs.adding.+block.Given as goal

abbrev pub invariant-add_block-loop-statement : goal.invariant-add_block-loop-statement
invariant-add_block-loop-statement l = record {
  kept : IsMaking l.making;
  grows : Grows (made l.initial.making) (made l.making);
  taken : Taken statement_of (made l.making) l.left l.statements.items l.fn.block;
}

abbrev pub decreases-add_block-loop-statement : goal.decreases-add_block-loop-statement
decreases-add_block-loop-statement l = length l.left

abbrev pub invariant-add_excepts-loop-except : goal.invariant-add_excepts-loop-except
invariant-add_excepts-loop-except l = record {
  kept : IsMaking l.making;
  grows : Grows (made l.initial.making) (made l.making);
  taken : Taken except_of (made l.making) l.left l.flat.items l.fn.excepts;
}

abbrev pub decreases-add_excepts-loop-except : goal.decreases-add_excepts-loop-except
decreases-add_excepts-loop-except l = length l.left
