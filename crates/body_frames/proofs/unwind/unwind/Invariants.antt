use Rattle.std.proofs.Common.{◌≡◌, length}
use Rattle.machine.specs.Unwinding.{unwind}
use Rattle.body_locals.specs.Locals.{locals_of}
use Rattle.body_entries.specs.Entries.{todo_of}
use Rattle.body_frames.proofs.unwind.unwind.Given as goal

abbrev pub invariant-loop-how : goal.invariant-loop-how
invariant-loop-how l =
    unwind (todo_of l.fn.blocks l.initial.todo) l.initial.left l.fn.how (locals_of l.fn.blocks.names l.initial.locals) ≡ unwind (todo_of l.fn.blocks l.todo) l.left l.how (locals_of l.fn.blocks.names l.locals)

abbrev pub decreases-loop-how : goal.decreases-loop-how
decreases-loop-how l = length l.todo
