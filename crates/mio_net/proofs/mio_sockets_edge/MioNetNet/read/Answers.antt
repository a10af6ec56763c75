use Rattle.std.proofs.Common.{◌<◌, ◌^◌, ap, ◌∙◌, sym, length, slice_set, arith}
use Rattle.std.proofs.lemmas.List.{length-set}
use Rattle.stream_net.specs.Net.{Connection}
use Rattle.mio_net.proofs.EndpointLemmas.{one_read, kept_count, read_closed}
use Rattle.mio_net.proofs.mio_sockets_edge.MioNetNet.read.Goals as goal

pub invariant_of-self : goal.invariant_of-self
invariant_of-self g c =
    let n = c.args.self.now in
    let w = c.read_endpoint.ensures in
    let few : length (slice_set n.endpoints.items c.args.conn c.read_endpoint.new.endpoint) < 2 ^ 32 = omega (arith, n.few, length-set n.endpoints.items c.args.conn c.read_endpoint.new.endpoint) in
    record {
      live_is = n.live_is ∙ sym (kept_count n.endpoints.items c.args.conn c.index_mut.result.now c.read_endpoint.new.endpoint c.requires.live.accepted c.index_mut.ensures.value
          (ap (λ (x : Connection). x.closed) w.after ∙ read_closed c.read_endpoint.result c.read_endpoint.new.buf c.reading-self.result c.read_endpoint.new.endpoint.account.faults _));
      few = few;
    }

pub returns-clause-reads : goal.returns-clause-reads
returns-clause-reads g c =
    let n = c.args.self.now in
    let w = c.read_endpoint.ensures in
    one_read n.endpoints.items c.args.conn c.index_mut.result.now c.read_endpoint.new.endpoint c.requires.live.accepted c.index_mut.ensures.value n.most n.moment c.reading-self.result n.listens n.faults n.blocked c.reading-self.ensures
    c.read_endpoint.result c.read_endpoint.new.buf w.after w.never_falls w.failed w.unfailed
