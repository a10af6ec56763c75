use Rattle.std.proofs.Common.{◌<◌, ◌^◌, ap, ◌∙◌, sym, length, slice_set, arith}
use Rattle.std.proofs.lemmas.List.{length-set}
use Rattle.stream_net.specs.Net.{Connection}
use Rattle.mio_net.proofs.EndpointLemmas.{one_written, kept_count, write_closed}
use Rattle.mio_net.proofs.mio_sockets_edge.MioNetNet.write.Goals as goal

pub invariant_of-self : goal.invariant_of-self
invariant_of-self g c =
    let n = c.args.self.now in
    let w = c.write_endpoint.ensures in
    let few : length (slice_set n.endpoints.items c.args.conn c.write_endpoint.new.endpoint) < 2 ^ 32 = omega (arith, n.few, length-set n.endpoints.items c.args.conn c.write_endpoint.new.endpoint) in
    record {
      live_is = n.live_is ∙ sym (kept_count n.endpoints.items c.args.conn c.index_mut.result.now c.write_endpoint.new.endpoint c.requires.live.accepted c.index_mut.ensures.value
          (ap (λ (x : Connection). x.closed) w.after ∙ write_closed c.write_endpoint.result c.args.bytes.now c.reading-self.result c.write_endpoint.new.endpoint.account.faults _));
      few = few;
    }

pub returns-clause-writes : goal.returns-clause-writes
returns-clause-writes g c =
    let n = c.args.self.now in
    let w = c.write_endpoint.ensures in
    one_written n.endpoints.items c.args.conn c.index_mut.result.now c.write_endpoint.new.endpoint c.requires.live.accepted c.index_mut.ensures.value n.most n.moment c.reading-self.result n.listens n.faults n.blocked c.reading-self.ensures
    c.write_endpoint.result c.args.bytes.now w.after w.never_falls w.failed w.unfailed
