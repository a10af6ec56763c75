use Rattle.std.proofs.Common.{[]}
use Rattle.machine.specs.declared.state.Leaving.{Leaving}
use Rattle.machine.specs.Unwinding.{Unwound}
use Rattle.body_locals.specs.Locals.{locals_of}
use Rattle.body_entries.specs.Entries.{todo_of}
use Rattle.body_frames.proofs.AtMoves.{moves_as}
use Rattle.body_frames.proofs.stack.go_inwards.Goals as goal

pub returns-then-is_at_move-clause-moves : goal.returns-then-is_at_move-clause-moves
returns-then-is_at_move-clause-moves c =
    let todo = todo_of c.args.blocks.now c.args.stack.now.todo in
    let locals = locals_of c.args.blocks.now.names c.args.stack.now.locals in
    moves_as (Unwound.Runs [] locals todo) todo [] Leaving.Normally locals (c.is_at_move.ensures c.if-is_at_move.true [] locals)
