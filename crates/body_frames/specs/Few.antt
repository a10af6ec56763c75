-- That a body under way has few arguments in each call: no more than a function may have parameters. This project's
-- own.
use Rattle.std.specs.Prelude.{◌≤◌, length}
use Rattle.scenario_tree.specs.declared.limits.TheConstants.{MOST_PARAMETERS}
use Rattle.machine.specs.declared.request.Request.{Request}
use Rattle.machine.specs.Bodies.{Body, Step}
use Rattle.machine.specs.BodyMoves.{Did}
use Rattle.machine.specs.Unwinding.{Unwound}
use Rattle.body_blocks.specs.Few.{HasFew}
use Rattle.body_entries.specs.Few.{HasFewToDo}

-- where a block was left, each call of what is still to do is few
abbrev pub HasFewUnwound : Unwound → Type 0
HasFewUnwound (Unwound.Runs left locals todo) = HasFewToDo todo
HasFewUnwound (Unwound.Out left how) = Unit {0}

-- a request that makes a greenlet gives it few arguments
abbrev pub AsksFew : Request → Type 0
AsksFew (Request.Spawn f args) = length args ≤ MOST_PARAMETERS
AsksFew (Request.SpawnLater ms f args) = length args ≤ MOST_PARAMETERS
AsksFew (Request.New f args) = length args ≤ MOST_PARAMETERS
AsksFew (Request.GroupSpawn x f args) = length args ≤ MOST_PARAMETERS
AsksFew request = Unit {0}

-- what a move asks gives few arguments, and so does each call of what is to do after it
abbrev pub HasFewDid : Did → Type 0
HasFewDid (Did.GoesOn how locals todo) = HasFewToDo todo
HasFewDid (Did.Enters ms silent body todo) = HasFew body × HasFewToDo todo
HasFewDid (Did.Asks request x todo) = AsksFew request × HasFewToDo todo

-- each call that a body has still to do is few
abbrev pub HasFewBody : Body → Type 0
HasFewBody (Body.Ready unwound) = HasFewUnwound unwound
HasFewBody (Body.Waits frame) = HasFewToDo frame.todo
HasFewBody (Body.Enters silent body locals todo) = HasFew body × HasFewToDo todo
HasFewBody Body.Gone = Unit {0}

-- what a step of a body asks gives few arguments
abbrev pub HasFewStep : Step → Type 0
HasFewStep (Step.Asks request) = AsksFew request
HasFewStep step = Unit {0}
