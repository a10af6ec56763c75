use Rattle.std.proofs.Common.{◌≡◌, ◌<◌, ◌^◌, ap, ◌∙◌, sym, length, slice_set, arith, false}
use Rattle.std.proofs.lemmas.List.{length-set}
use Rattle.stream_net.specs.Net.{Connection}
use Rattle.mio_net.proofs.EndpointLemmas.{one_changed, closed_count, at_old as old_at}
use Rattle.mio_net.proofs.mio_sockets_edge.MioNetNet.close.Goals as goal

pub returns : goal.returns
returns g c =
    let n = c.args.self.now in
    one_changed n.endpoints.items c.args.conn c.index_mut.result.now c.close_endpoint-stream.new.endpoint c.requires.live.accepted c.index_mut.ensures.value n.most n.moment n.moment n.listens n.faults n.blocked (omega arith) _ c.close_endpoint-stream.ensures

pub invariant_of-self : goal.invariant_of-self
invariant_of-self g c =
    let n = c.args.self.now in
    let few : length (slice_set n.endpoints.items c.args.conn c.close_endpoint-stream.new.endpoint) < 2 ^ 32 = omega (arith, n.few, length-set n.endpoints.items c.args.conn c.close_endpoint-stream.new.endpoint) in
    let was : c.index_mut.result.now.account.closed ≡ false = ap (λ (x : Connection). x.closed) (sym (old_at n.endpoints.items c.args.conn c.index_mut.result.now c.close_endpoint-stream.new.endpoint c.requires.live.accepted c.index_mut.ensures.value)) ∙ c.requires.live.still_open in
    record { live_is = omega (arith, n.live_is, closed_count n.endpoints.items c.args.conn c.index_mut.result.now c.close_endpoint-stream.new.endpoint c.requires.live.accepted c.index_mut.ensures.value was (ap (λ (x : Connection). x.closed) c.close_endpoint-stream.ensures)); few = few }
