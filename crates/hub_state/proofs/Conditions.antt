-- The condition of a wait that is told how many wait before it.
use Rattle.std.proofs.Common.{◌≡◌, refl, ap, sym, ◌∙◌, subst, ℕ, zero, suc, ◌<◌, Bool, false, List, [], ◌∷◌, length, slice_get, Option, Some, None, arith}
use Rattle.machine.specs.declared.items.Waiting.{Waiting}
use Rattle.machine.specs.declared.state.Object.{Object}
use Rattle.machine.specs.Holds.{earlier, has_item, has_offer, has_place, has_room, has_slot, has_unit, is_free, wait_holds}
use Rattle.machine.specs.State.{State}
use Rattle.hub_items.specs.declared.waits.WaitKind.{WaitKind}
use Rattle.hub_items.specs.Lines.{IsAhead, IsLengthOf, line_ahead}
use Rattle.hub_items.specs.WaitKinds.{test_of}
use Rattle.hub_state.specs.Waiters.{holds_in_line}

-- where there is no object, the number does not matter
alike : (f : ℕ → Option Object → Bool) → ((n : ℕ) → f n None ≡ false) → (objects : List Object) (o m n : ℕ) → (o < length objects → m ≡ n) → f m (slice_get objects o) ≡ f n (slice_get objects o)
alike f none [] o m n h = none m ∙ sym (none n)
alike f none (x ∷ objects) zero m n h = ap (λ k. f k (Some x)) (h (omega arith))
alike f none (x ∷ objects) (suc o) m n h = alike f none objects o m n (λ g. h (omega (arith, g)))

-- where there is no object, nobody who waits in a line holds
none_in_line : (kind : WaitKind) (n : ℕ) → holds_in_line kind n None ≡ false
unfolding has_unit is_free has_room has_item has_place has_slot has_offer
none_in_line WaitKind.Acquire n = refl
none_in_line WaitKind.Lock n = refl
none_in_line WaitKind.Put n = refl
none_in_line WaitKind.Take n = refl
none_in_line WaitKind.Place n = refl
none_in_line WaitKind.Slot n = refl
none_in_line WaitKind.TakeOffer n = refl

pub told : (kind : WaitKind) (o : ℕ) (s : State) (since before : ℕ) (w v : Waiting) (result : Bool) → line_ahead v ≡ Some (kind, o) →
    wait_holds s since v ≡ holds_in_line kind (earlier (test_of kind o) since s.items) (slice_get s.objects o) → w ≡ v → result ≡ holds_in_line kind before (slice_get s.objects o) →
    IsAhead before (length s.objects) (λ test. earlier test since s.items) w → result ≡ wait_holds s since w
told kind o s since before w v result looks holds is r a =
    let ahead : IsLengthOf before (length s.objects) (λ test. earlier test since s.items) (Some (kind, o)) = subst (λ l. IsLengthOf before (length s.objects) (λ test. earlier test since s.items) l) (ap line_ahead is ∙ looks) a in
    r ∙ alike (holds_in_line kind) (none_in_line kind) s.objects o before (earlier (test_of kind o) since s.items) ahead ∙ sym holds ∙ ap (λ x. wait_holds s since x) (sym is)
