-- What a turn of a poll leads to.
use Rattle.std.specs.Prelude.{ℕ, Option, Some, None, Result, Ok, Err}
use Rattle.relay_core.specs.declared.reader.Far.{Far}
use Rattle.wsgi_relay.specs.declared.relays.Turn.{Turn}
use Rattle.wsgi_relay.specs.declared.relays.Turn.TheVariants.{GoesOn, Over, Memory}

-- the exchange in this slot has come so far, or goes on, or memory ran out
abbrev pub turn_of : {E : Type 0} → ℕ → Result (Option Far) E → Turn
turn_of slot (Ok None) = GoesOn
turn_of slot (Ok (Some far)) = Over slot far
turn_of slot (Err e) = Memory
