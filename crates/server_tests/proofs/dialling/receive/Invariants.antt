use Rattle.stream_dial.specs.Dials.{IsOpen}
use Rattle.server_tests.proofs.dialling.receive.Given as goal

abbrev pub invariant-loop : goal.invariant-loop
invariant-loop g l = IsOpen (g.D.Dial.meaning l.dial) l.slot
