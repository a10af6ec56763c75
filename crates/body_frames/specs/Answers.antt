-- What a body may be called with.
use Rattle.std.specs.Prelude.{◌<◌, ◌^◌, ⊤, ℤ, pos, negsuc}
use Rattle.gv_values.specs.declared.value.Value.{Value}
use Rattle.machine.specs.Bodies.{Body, Step}
use Rattle.body_frames.specs.declared.step.Input.{Input}

-- a number of 32 bits
abbrev pub IsNumber : ℤ → Type 0
IsNumber (pos n) = n < 2 ^ 32
IsNumber (negsuc n) = ⊥

-- a value or a fault
abbrev pub IsGiven : Input → Type 0
IsGiven Input.Begin = ⊥
IsGiven (Input.Value v) = ⊤
IsGiven (Input.Fault f) = ⊤

-- the number of a timeout block
abbrev pub IsTimeoutNumber : Input → Type 0
IsTimeoutNumber (Input.Value (Value.Int z)) = IsNumber z
IsTimeoutNumber input = ⊥

-- The input may come where the body stands: a request is answered with a value or a fault, the entering of a timeout
-- block with its number, and a body that has ended with nothing. Where it goes on by itself, the input is not looked
-- at.
abbrev pub IsAnswer : Body → Input → Type 0
IsAnswer (Body.Ready at) input = ⊤
IsAnswer (Body.Waits frame) input = IsGiven input
IsAnswer (Body.Enters silent body locals todo) input = IsTimeoutNumber input
IsAnswer Body.Gone input = ⊥

-- the input may come after the step
abbrev pub Answers : Step → Input → Type 0
Answers (Step.Asks request) input = IsGiven input
Answers (Step.EntersTimeout ms silent) input = IsTimeoutNumber input
Answers (Step.LeavesTimeout n) input = ⊤
Answers Step.MovesOut input = ⊤
Answers (Step.Ends o) input = ⊥
