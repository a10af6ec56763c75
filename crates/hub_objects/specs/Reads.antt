-- What is read of an object by its number, also where none is declared.
use Rattle.std.specs.Prelude.{ℕ, Bool, Option, unwrap_or}
use Rattle.machine.specs.declared.state.Object.{Object}
use Rattle.machine.specs.Objects.{no_object, is_shut, is_left}

-- the queue is shut
abbrev pub is_shut_at : Option Object → Bool
is_shut_at object = is_shut (unwrap_or object no_object)

-- so many earlier getters leave an item of the queue
abbrev pub is_left_at : ℕ → Option Object → Bool
is_left_at before object = is_left before (unwrap_or object no_object)
