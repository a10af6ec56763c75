-- One move of a greenlet: its body does the next of what is to do, and what it asks is done. This project's own.
use Rattle.std.specs.Prelude.{ℕ, ◌+◌, Bool, false, List, [], ◌∷◌, length, Option, Some, None, slice_get, is_some}
use Rattle.scenario_tree.specs.declared.tree.Statement.{Statement}
use Rattle.machine.specs.declared.items.Delivery.{Delivery}
use Rattle.machine.specs.Expressions.{Look}
use Rattle.machine.specs.declared.state.Object.{Object}
use Rattle.machine.specs.declared.state.Phase.{Phase}
use Rattle.machine.specs.declared.state.Local.{Local}
use Rattle.machine.specs.declared.state.Leaving.{Leaving}
use Rattle.machine.specs.declared.state.Todo.{Todo}
use Rattle.machine.specs.State.{State}
use Rattle.machine.specs.Holds.{outcome_of}
use Rattle.machine.specs.Settle.{settle}
use Rattle.machine.specs.Unwinding.{unwind}
use Rattle.machine.specs.BodyMoves.{Did, body_move}
use Rattle.machine.specs.Landing.{Next, goes_on, lands}
use Rattle.machine.specs.Items.{add_item}
use Rattle.machine.specs.Greenlets.{greenlet, with_phase, frame_of}
use Rattle.machine.specs.Request.{performs, follows}

-- an event that is set, or a result into which something was put
abbrev pub is_set_object : Option Object → Bool
is_set_object (Some (Object.Event flag sets)) = flag
is_set_object (Some (Object.Result o)) = is_some o
is_set_object object = false

-- the counter, the number of items, or the number of members
abbrev pub size_of_object : Option Object → ℕ
size_of_object (Some (Object.Semaphore counter bound)) = counter
size_of_object (Some (Object.Queue kind size items unfinished shut)) = length items
size_of_object (Some (Object.Crew size members)) = length members
size_of_object object = 0

-- the unfinished tasks of a queue
abbrev pub unfinished_of_object : Option Object → ℕ
unfinished_of_object (Some (Object.Queue kind size items unfinished shut)) = unfinished
unfinished_of_object object = 0

-- what expressions may ask of this state
abbrev pub look : ℕ → State → Look
look g s = record {
  current = g;
  outcome = outcome_of s;
  is_set = λ o. is_set_object (slice_get s.objects o);
  size = λ o. size_of_object (slice_get s.objects o);
  unfinished = λ o. unfinished_of_object (slice_get s.objects o);
}

-- the timeout item, where the block has a time
abbrev pub timeout_item : ℕ → ℕ → Option ℕ → State → State
timeout_item g n None s = s
timeout_item g n (Some ms) s = add_item (Delivery.Timeout g n (s.moment + ms)) s

-- a timeout block is entered: it draws its number, and has its item where it has a time
abbrev pub enters : ℕ → Option ℕ → Bool → List Statement → List Local → List Todo → State → Next
enters g ms silent body locals todo s =
    let t = record s { timeouts = s.timeouts + 1 } in
    goes_on lands g (unwind (Todo.Statements body ∷ Todo.Within t.timeouts silent ∷ todo) [] Leaving.Normally locals) (settle (timeout_item g t.timeouts ms t))

-- what the body chose is done: it goes on in itself, enters a timeout block, or asks
abbrev pub does : ℕ → List Local → Did → State → Next
does g locals (Did.GoesOn how locals' todo) s = goes_on lands g (unwind todo [] how locals') (settle s)
does g locals (Did.Enters ms silent body todo) s = enters g ms silent body locals todo s
does g locals (Did.Asks request x todo) s =
    follows g (performs request g (with_phase g (Phase.Live (record { locals = locals; todo = todo; gives = x })) s))

-- the greenlet makes its next move
unfoldable pub move : ℕ → State → Next
move g s =
    let frame = frame_of (greenlet g s).phase in
    does g frame.locals (body_move frame.todo (record { scenario = s.scenario; look = look g s; locals = frame.locals })) (record s { moves = s.moves + 1 })
