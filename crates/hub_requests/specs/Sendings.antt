-- What the sending of kills comes to.
use Rattle.std.specs.Prelude.{Bool, true, false}
use Rattle.machine.specs.Request.{Sending}
use Rattle.machine.specs.State.{State}

-- all were sent, or one was too many
abbrev pub sent : Bool → State → Sending
sent true s = Sending.Sent s
sent false s = Sending.TooMany s
