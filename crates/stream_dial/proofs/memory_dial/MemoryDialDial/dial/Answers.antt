use Rattle.std.proofs.Common.{◌≡◌, ◌++◌, ◌∷◌, [], ℕ, List, Some, IfSome, slice_get, true, length, map, refl, sym, ap, ◌∙◌, subst, arith}
use Rattle.std.proofs.lemmas.List.{length-map, map-append}
use Rattle.stream_net.specs.declared.memory_endpoint.MemoryEndpoint.{MemoryEndpoint}
use Rattle.stream_net.specs.MemoryEndpoints.{scripted_meaning}
use Rattle.stream_net.specs.Net.{connection_at}
use Rattle.stream_dial.proofs.MemoryDialling.{was_free}
use Rattle.stream_dial.proofs.memory_dial.MemoryDialDial.dial.Goals as goal

pub returns-clause-opens : goal.returns-clause-opens
returns-clause-opens c =
    let m = c.args.self.now in
    let new : MemoryEndpoint = record c.new-endpoint.result { waits = true } in
    let kept : c.deref-2.result.now ≡ m.endpoints.items = c.deref-2.ensures.value ∙ c.reserve.ensures.items in
    let grows : c.push_reserved.new.self.items ≡ m.endpoints.items ++ new ∷ [] = c.push_reserved.ensures.items ∙ ap (λ (xs : List MemoryEndpoint). xs ++ new ∷ []) c.reserve.ensures.items in
    let counted = c.len.ensures in let long = c.reserve.ensures.len in
    let number : c.len.result ≡ length m.endpoints.items = omega (arith, counted, long, m.endpoints.ok) in
    record {
      was_free = was_free m.slots.items (map scripted_meaning m.endpoints.items) c.free_slot-free.result c.in_ok-slot.slot
          (subst (λ (slots : List ℕ). IfSome c.free_slot-free.result (λ slot. (k : ℕ) → slice_get slots slot ≡ Some k → (connection_at (map scripted_meaning m.endpoints.items) k).closed ≡ true)) c.deref.ensures.value
          (subst (λ (xs : List MemoryEndpoint). IfSome c.free_slot-free.result (λ slot. (k : ℕ) → slice_get c.deref.result.now slot ≡ Some k → (connection_at (map scripted_meaning xs) k).closed ≡ true)) kept c.free_slot-free.ensures.closed))
          c.in_ok-slot.ensures.free c.in_ok-slot.ensures.new;
      stream = scripted_meaning new;
      streams = ap (map scripted_meaning) grows ∙ map-append scripted_meaning m.endpoints.items (new ∷ []);
      is_new = c.new-endpoint.ensures.new;
      opened = c.push_reserved-2.ensures.items ∙ ap (λ (xs : List ℕ). xs ++ m.moment ∷ []) c.reserve-2.ensures.items;
      number = c.in_ok-slot.ensures.here ∙ ap Some (number ∙ sym (length-map m.endpoints.items scripted_meaning));
      others = c.in_ok-slot.ensures.others;
      towards = refl;
      moment = omega arith;
    }
