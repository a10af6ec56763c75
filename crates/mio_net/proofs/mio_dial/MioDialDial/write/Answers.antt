use Rattle.std.proofs.Common.{◌++◌, subst, sym}
use Rattle.mio_net.specs.Annals.{DialNotes}
use Rattle.mio_net.specs.Dialled.{AreKept, port_of}
use Rattle.mio_net.proofs.DialLemmas.{kept_written, one_written}
use Rattle.mio_net.proofs.mio_dial.MioDialDial.write.Goals as goal

pub invariant_of-self : goal.invariant_of-self
invariant_of-self g c =
    let d = c.args.self.now in
    record { kept = subst (λ (notes : DialNotes). AreKept notes d.streams) (sym c.and-self.ensures) (kept_written d.annals.notes d.streams d.kept c.args.slot c.reading-self.result c.write_slot-end.result (c.args.first.now ++ c.args.second.now)) }

pub returns-clause-writes : goal.returns-clause-writes
returns-clause-writes g c =
    let d = c.args.self.now in
    one_written d.annals.notes (port_of d.upstream) c.args.slot d.moment c.reading-self.result c.reading-self.ensures c.write_slot-end.result (c.args.first.now ++ c.args.second.now) c.and-self.result.notes c.and-self.ensures
