-- Where a body that goes on by itself stands.
use Rattle.std.specs.Prelude.{⊤}
use Rattle.machine.specs.Bodies.{Body}
use Rattle.machine.specs.Unwinding.{Unwound}
use Rattle.body_frames.specs.AtMove.{IsAtMove}

-- where the body is not left, it stands at a move
abbrev pub HasMove : Unwound → Type 0
HasMove (Unwound.Runs left locals todo) = IsAtMove todo
HasMove (Unwound.Out left how) = ⊤

-- where the body goes on by itself, it stands at a move or is left
abbrev pub IsSteady : Body → Type 0
IsSteady (Body.Ready unwound) = HasMove unwound
IsSteady body = ⊤
