use Rattle.machine_well_formed.proofs.WellFormed.{well-formed-fits}
use Rattle.machine_reached.proofs.Rooms.{answered-counted, delivered-counted, exited-counted, moved-counted}
use Rattle.machine_reached.proofs.moves_are_counted.Goals as goal

pub returns-clause-moved : goal.returns-clause-moved
returns-clause-moved c d g s w r = moved-counted d g s (well-formed-fits d w) r

pub returns-clause-delivered : goal.returns-clause-delivered
returns-clause-delivered c d n i s w there r = delivered-counted d n i s (well-formed-fits d w) there r

pub returns-clause-exited : goal.returns-clause-exited
returns-clause-exited c d s w r = exited-counted d s (well-formed-fits d w) r

pub returns-clause-answered : goal.returns-clause-answered
returns-clause-answered c d answer s w r = answered-counted d answer s (well-formed-fits d w) r
