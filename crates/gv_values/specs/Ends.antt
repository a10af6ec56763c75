-- What is kept of an end, and which links it calls (gevent API reference: `Greenlet.value`, `link`, `link_exception`).
use Rattle.std.specs.Prelude.{Bool, true, false}
use Rattle.gv_values.specs.declared.fault.FaultKind.{FaultKind}
use Rattle.gv_values.specs.declared.value.Value.{Value}
use Rattle.gv_values.specs.declared.value.Outcome.{Outcome}
use Rattle.gv_values.specs.declared.link.LinkKind.{LinkKind}

-- GreenletExit as a fault becomes the value GreenletExit
abbrev pub kept : Outcome → Outcome
kept (Outcome.Fault FaultKind.GreenletExit) = Outcome.Value (Value.Fault FaultKind.GreenletExit)
kept o = o

-- a link of this kind is called after this end
abbrev pub link_fits : LinkKind → Outcome → Bool
link_fits LinkKind.Value (Outcome.Fault f) = false
link_fits LinkKind.Fault (Outcome.Value v) = false
link_fits kind o = true
