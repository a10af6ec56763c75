use Rattle.std.proofs.Common.{◌≡◌, ◌++◌, take, drop, length, List, map, sym, ap, ◌∙◌, arith}
use Rattle.stream_net.specs.declared.memory_endpoint.MemoryEndpoint.{MemoryEndpoint}
use Rattle.stream_net.specs.MemoryEndpoints.{scripted_meaning}
use Rattle.stream_net.specs.Waits.{named}
use Rattle.stream_net.proofs.MemoryLemmas.{took}
use Rattle.stream_net.proofs.telling.note_told.Goals as goal

pub returns-clause-named : goal.returns-clause-named
returns-clause-named c =
    let endpoints = c.args.endpoints.now in
    let value = c.deref_mut.ensures.value in
    let long : length c.deref_mut.result.now ≡ length endpoints.items = ap (λ (xs : List MemoryEndpoint). length xs) value in
    let same = c.tell.auto.endpoints in
    let own : take endpoints.len (c.tell.new.endpoints ++ drop (length c.tell.new.endpoints) endpoints.items) ≡ c.tell.new.endpoints =
    took endpoints.items c.tell.new.endpoints endpoints.len (sym c.deref_mut.ensures.len ∙ long) (omega (arith, same, long)) in
    ap (map scripted_meaning) own ∙ (c.tell.ensures.named ∙ ap (λ (xs : List MemoryEndpoint). named c.args.ready (map scripted_meaning xs)) value)
