use Rattle.mio_net.proofs.endpoint.hold_endpoint.Goals as goal

pub returns : goal.returns
returns c = c.note_hold.ensures _ _
