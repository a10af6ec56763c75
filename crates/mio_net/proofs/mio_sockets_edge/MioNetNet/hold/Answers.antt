use Rattle.std.proofs.Common.{◌<◌, ◌^◌, ap, ◌∙◌, sym, length, slice_set, arith}
use Rattle.std.proofs.lemmas.List.{length-set}
use Rattle.stream_net.specs.Net.{Connection}
use Rattle.mio_net.proofs.EndpointLemmas.{one_changed, kept_count}
use Rattle.mio_net.proofs.mio_sockets_edge.MioNetNet.hold.Goals as goal

pub returns : goal.returns
returns g c =
    let n = c.args.self.now in
    one_changed n.endpoints.items c.args.conn c.index_mut.result.now c.hold_endpoint.new.endpoint c.requires.accepted c.index_mut.ensures.value n.most n.moment n.moment n.listens n.faults n.blocked (omega arith) _ c.hold_endpoint.ensures

pub invariant_of-self : goal.invariant_of-self
invariant_of-self g c =
    let n = c.args.self.now in
    let few : length (slice_set n.endpoints.items c.args.conn c.hold_endpoint.new.endpoint) < 2 ^ 32 = omega (arith, n.few, length-set n.endpoints.items c.args.conn c.hold_endpoint.new.endpoint) in
    record { live_is = n.live_is ∙ sym (kept_count n.endpoints.items c.args.conn c.index_mut.result.now c.hold_endpoint.new.endpoint c.requires.accepted c.index_mut.ensures.value (ap (λ (x : Connection). x.closed) c.hold_endpoint.ensures)); few = few }
