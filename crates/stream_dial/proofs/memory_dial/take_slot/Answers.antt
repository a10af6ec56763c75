use Rattle.std.proofs.Common.{◌≡◌, ◌<◌, ◌++◌, ◌∷◌, [], Option, IfSome, ℕ, List, slice_get, length, subst, sym, ap, ◌∙◌, arith}
use Rattle.stream_dial.proofs.MemoryDialling.{push_here, push_others, set_here, set_others}
use Rattle.stream_dial.proofs.memory_dial.take_slot.Goals as goal

pub returns-in-Some-clause-here : goal.returns-in-Some-clause-here
returns-in-Some-clause-here c = set_here c.args.slots.now.items c.in-Some.slot c.args.number (subst (λ (o : Option ℕ). IfSome o (λ slot. slot < length c.args.slots.now.items)) c.in-Some.is c.requires)

pub returns-in-Some-clause-others : goal.returns-in-Some-clause-others
returns-in-Some-clause-others c = set_others c.args.slots.now.items c.in-Some.slot c.args.number

pub returns-in_ok-push-in-None-clause-here : goal.returns-in_ok-push-in-None-clause-here
returns-in_ok-push-in-None-clause-here c =
    let slots = c.args.slots.now in
    let counted = c.len-slot.ensures in
    let slot : c.len-slot.result ≡ length slots.items = omega (arith, counted, slots.ok) in
    ap (λ (xs : List ℕ). slice_get xs c.len-slot.result) c.in_ok-push-in-None.ensures.items ∙ ap (λ (n : ℕ). slice_get (slots.items ++ c.args.number ∷ []) n) slot ∙ push_here slots.items c.args.number

pub returns-in_ok-push-in-None-clause-others : goal.returns-in_ok-push-in-None-clause-others
returns-in_ok-push-in-None-clause-others c = λ other apart.
    let slots = c.args.slots.now in
    let counted = c.len-slot.ensures in
    let slot : c.len-slot.result ≡ length slots.items = omega (arith, counted, slots.ok) in
    ap (λ (xs : List ℕ). slice_get xs other) c.in_ok-push-in-None.ensures.items ∙ push_others slots.items c.args.number other (λ same. apart (same ∙ sym slot))
