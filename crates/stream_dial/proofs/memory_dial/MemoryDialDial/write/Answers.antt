use Rattle.std.proofs.Common.{◌++◌, ◌∙◌}
use Rattle.stream_net.specs.MemoryEndpoints.{scripted_meaning}
use Rattle.stream_dial.proofs.MemoryDialling.{fronts_written, writes_in}
use Rattle.stream_dial.proofs.memory_dial.MemoryDialDial.write.Goals as goal

pub returns-clause-writes : goal.returns-clause-writes
returns-clause-writes c =
    let m = c.args.self.now in
    let both = c.args.first.now ++ c.args.second.now in
    let w = c.write_endpoint.ensures in
    writes_in m.endpoints.items m.opened.items m.slots.items m.towards c.args.slot c.index.result.now m.moment c.index_mut.result.now c.write_endpoint.new.endpoint c.index.ensures c.index_mut.ensures.value
    c.requires.opened c.write_endpoint.result both
    (w.after ∙ fronts_written c.write_endpoint.result c.front-piece.result.now both m.moment c.write_endpoint.new.endpoint.account.faults (scripted_meaning c.index_mut.result.now) w.fits c.front-piece.ensures.front)
    w.never_falls w.failed w.unfailed
