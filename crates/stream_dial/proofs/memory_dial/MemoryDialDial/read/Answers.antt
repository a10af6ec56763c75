use Rattle.stream_dial.proofs.MemoryDialling.{reads_in}
use Rattle.stream_dial.proofs.memory_dial.MemoryDialDial.read.Goals as goal

pub returns-clause-reads : goal.returns-clause-reads
returns-clause-reads c =
    let m = c.args.self.now in
    let r = c.read_endpoint.ensures in
    reads_in m.endpoints.items m.opened.items m.slots.items m.towards c.args.slot c.index.result.now m.moment c.index_mut.result.now c.read_endpoint.new.endpoint c.index.ensures c.index_mut.ensures.value
    c.requires.opened c.read_endpoint.result c.read_endpoint.new.buf r.after r.never_falls r.failed r.unfailed
