use Rattle.std.proofs.Common.{ap}
use Rattle.stream_net.specs.MemoryEndpoints.{scripted_meaning}
use Rattle.stream_dial.proofs.MemoryDialling.{stays_in}
use Rattle.stream_dial.proofs.memory_dial.MemoryDialDial.next.Goals as goal

pub returns-in-Some : goal.returns-in-Some
returns-in-Some c =
    let m = c.args.self.now in
    stays_in m.endpoints.items m.opened.items m.slots.items m.towards c.in-Some.slot c.index.result.now m.moment c.index_mut.result.now c.note_told.new.endpoint c.index.ensures c.index_mut.ensures.value
    (ap scripted_meaning c.note_told.ensures)
