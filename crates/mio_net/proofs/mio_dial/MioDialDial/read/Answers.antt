use Rattle.std.proofs.Common.{subst, sym}
use Rattle.mio_net.specs.Annals.{DialNotes}
use Rattle.mio_net.specs.Dialled.{AreKept, port_of}
use Rattle.mio_net.proofs.DialLemmas.{kept_read, one_read}
use Rattle.mio_net.proofs.mio_dial.MioDialDial.read.Goals as goal

pub invariant_of-self : goal.invariant_of-self
invariant_of-self g c =
    let d = c.args.self.now in
    record { kept = subst (λ (notes : DialNotes). AreKept notes d.streams) (sym c.and-self.ensures) (kept_read d.annals.notes d.streams d.kept c.args.slot c.reading-self.result c.read_slot-end.result c.read_slot-end.new.buf) }

pub returns-clause-reads : goal.returns-clause-reads
returns-clause-reads g c =
    let d = c.args.self.now in
    one_read d.annals.notes (port_of d.upstream) c.args.slot d.moment c.reading-self.result c.reading-self.ensures c.read_slot-end.result c.read_slot-end.new.buf c.and-self.result.notes c.and-self.ensures
