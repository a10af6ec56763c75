use Rattle.std.proofs.Common.{subst, sym, arith}
use Rattle.mio_net.specs.Annals.{DialNotes}
use Rattle.mio_net.specs.Dialled.{AreKept, port_of}
use Rattle.mio_net.proofs.DialLemmas.{kept_closed, one_closed}
use Rattle.mio_net.proofs.mio_dial.MioDialDial.close.Goals as goal

pub invariant_of-self : goal.invariant_of-self
invariant_of-self g c =
    let d = c.args.self.now in
    record { kept = subst (λ (notes : DialNotes). AreKept notes c.try_remove.new.self) (sym c.and-self.ensures) (kept_closed d.annals.notes d.streams d.kept c.args.slot d.moment c.try_remove.new.self c.try_remove.ensures.updates.others) }

pub returns : goal.returns
returns g c =
    let d = c.args.self.now in
    one_closed d.annals.notes (port_of d.upstream) c.args.slot d.moment d.moment (omega arith) c.and-self.result.notes c.and-self.ensures
