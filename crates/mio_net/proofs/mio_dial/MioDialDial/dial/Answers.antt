use Rattle.std.proofs.Common.{subst, sym}
use Rattle.mio_net.specs.Annals.{DialNotes}
use Rattle.mio_net.specs.Dialled.{AreKept, port_of}
use Rattle.mio_net.proofs.DialLemmas.{kept_opened, kept_room, one_opened}
use Rattle.mio_net.proofs.mio_dial.MioDialDial.dial.Goals as goal

pub invariant_of-self-2 : goal.invariant_of-self-2
invariant_of-self-2 g c =
    let d = c.args.self.now in
    let put = c.insert_reserved-slot in
    let room = kept_room d.annals.notes d.streams c.reserve.new.self d.kept c.reserve.ensures.rest_kept in
    record { kept = subst (λ (notes : DialNotes). AreKept notes put.new.self) (sym c.and-self.ensures) (kept_opened d.annals.notes c.reserve.new.self room put.result c.reading-self.result put.new.self _ put.ensures.updates) }

pub returns-clause-opens : goal.returns-clause-opens
returns-clause-opens g c =
    let d = c.args.self.now in
    let put = c.insert_reserved-slot in
    let room = kept_room d.annals.notes d.streams c.reserve.new.self d.kept c.reserve.ensures.rest_kept in
    one_opened d.annals.notes (port_of d.upstream) put.result d.moment c.reading-self.result c.reading-self.ensures c.and-self.result.notes c.and-self.ensures (λ number is. room.free put.result number is put.ensures.was_vacant)
