use Rattle.stream_dial.proofs.MemoryDialling.{closes_in}
use Rattle.stream_dial.proofs.memory_dial.MemoryDialDial.close.Goals as goal

pub returns : goal.returns
returns c =
    let m = c.args.self.now in
    closes_in m.endpoints.items m.opened.items m.slots.items m.towards c.args.slot c.index.result.now m.moment c.index_mut.result.now c.close_endpoint.new.endpoint c.index.ensures c.index_mut.ensures.value
    c.requires c.close_endpoint.ensures.closed
