use Rattle.std.proofs.Common.{◌≡◌, ◌<◌, ◌+◌, ◌^◌, ◌++◌, ◌∷◌, [], ◌∙◌, ap, List, length, map, Some, false, arith}
use Rattle.std.proofs.lemmas.List.{length-append}
use Rattle.stream_net.specs.Net.{live_count}
use Rattle.mio_net.specs.declared.endpoint.Endpoint.{Endpoint}
use Rattle.mio_net.specs.Endpoints.{endpoint_meaning}
use Rattle.mio_net.proofs.EndpointLemmas.{one_gained, one_more_live}
use Rattle.mio_net.proofs.mio_sockets_edge.MioNetNet.accept.Goals as goal

pub returns-in-Stream-clause-accepts : goal.returns-in-Stream-clause-accepts
returns-in-Stream-clause-accepts g c =
    let n = c.args.self.now in
    let p : Endpoint = record { account = c.new.result; wire = c.new-in-Stream.result; is_drained = false; ends = false } in
    let new = c.new.ensures in
    let grows : c.push_reserved.new.self.items ≡ n.endpoints.items ++ p ∷ [] = c.push_reserved.ensures.items ∙ ap (λ (xs : List Endpoint). xs ++ p ∷ []) c.reserve.ensures.items in
    let ln = c.len-number.ensures in let rl = c.reserve.ensures.len in let ok = n.endpoints.ok in
    let number : c.len-number.result ≡ length n.endpoints.items = omega (arith, ln, rl, ok) in
    one_gained n.endpoints.items c.push_reserved.new.self.items p n.live n.most c.max-self.result n.moment c.reading-self.result c.len-number.result n.listens n.faults n.blocked n.live_is (new (Some _) (Some _) c.new-in-Stream.ensures.0 c.new-in-Stream.ensures.1) c.reading-self.ensures
    grows c.max-self.ensures number

pub invariant_of-self-in-Stream : goal.invariant_of-self-in-Stream
invariant_of-self-in-Stream g c =
    let n = c.args.self.now in
    let p : Endpoint = record { account = c.new.result; wire = c.new-in-Stream.result; is_drained = false; ends = false } in
    let new = c.new.ensures in
    let grows : c.push_reserved.new.self.items ≡ n.endpoints.items ++ p ∷ [] = c.push_reserved.ensures.items ∙ ap (λ (xs : List Endpoint). xs ++ p ∷ []) c.reserve.ensures.items in
    let live : live_count (map endpoint_meaning c.push_reserved.new.self.items) ≡ live_count (map endpoint_meaning n.endpoints.items) + 1 =
    ap (λ (xs : List Endpoint). live_count (map endpoint_meaning xs)) grows ∙ one_more_live n.endpoints.items p ((new (Some _) (Some _) c.new-in-Stream.ensures.0 c.new-in-Stream.ensures.1).still_open) in
    let long : length c.push_reserved.new.self.items ≡ length n.endpoints.items + 1 = ap (λ (xs : List Endpoint). length xs) grows ∙ length-append n.endpoints.items (p ∷ []) in
    let few : length c.push_reserved.new.self.items < 2 ^ 32 = omega (arith, long, c.if-len-ge-MOST_NUMBERED.false, c.len.ensures, n.endpoints.ok) in
    record { live_is = omega (arith, n.live_is, live); few = few }
