-- An object that a step changes, and what is counted of all.
use Rattle.std.proofs.Common.{◌≡◌, refl, ap, ℕ, zero, suc, ◌<◌, ◌≤◌, ◌==◌, Bool, true, false, cond, not, List, [], ◌∷◌, length, slice_get, slice_set, slice_index_or, unwrap_or, arith}
use Rattle.std.specs.Prelude.{filter, map}
use Rattle.gv_values.specs.declared.value.Value.{Value}
use Rattle.machine.specs.declared.state.Object.{Object}
use Rattle.machine.specs.Objects.{item_of, no_object, offer_of, with_item_taken, with_offer_taken, without_member, without_offer}
use Rattle.hub_objects.specs.Changes.{added, changed}
use Rattle.hub_objects.specs.declared.additions.Addition.{Addition}
use Rattle.hub_objects.specs.declared.objects.Change.{Change}
use Rattle.hub_objects.specs.Counted.{AreCounted, IsCounted}

-- the object of a number that is declared
there : (os : List Object) (o : ℕ) (d : Object) → o < length os → slice_index_or os o d ≡ unwrap_or (slice_get os o) no_object
there [] o d h = absurd (omega (arith, h))
there (x ∷ os) zero d h = refl
there (x ∷ os) (suc o) d h = there os o d (omega (arith, h))

pub object_set : (os : List Object) (o : ℕ) (d : Object) (change : Change) → o < length os →
    slice_set os o (changed change (slice_index_or os o d)) ≡ slice_set os o (changed change (unwrap_or (slice_get os o) no_object))
object_set os o d c h = ap (λ x. slice_set os o (changed c x)) (there os o d h)

pub object_added : (os : List Object) (o : ℕ) (d : Object) (addition : Addition) → o < length os →
    slice_set os o (added addition (slice_index_or os o d)) ≡ slice_set os o (added addition (unwrap_or (slice_get os o) no_object))
object_added os o d a h = ap (λ x. slice_set os o (added a x)) (there os o d h)

pub left_set : (os : List Object) (o : ℕ) (d : Object) (g : ℕ) → o < length os →
    slice_set os o (without_member g (slice_index_or os o d)) ≡ slice_set os o (without_member g (unwrap_or (slice_get os o) no_object))
left_set os o d g h = ap (λ x. slice_set os o (without_member g x)) (there os o d h)

pub item_taken_set : (os : List Object) (o : ℕ) (d : Object) → o < length os →
    slice_set os o (with_item_taken (slice_index_or os o d)) ≡ slice_set os o (with_item_taken (unwrap_or (slice_get os o) no_object))
item_taken_set os o d h = ap (λ x. slice_set os o (with_item_taken x)) (there os o d h)

pub item_there : (os : List Object) (o : ℕ) (d : Object) → o < length os → item_of (slice_index_or os o d) ≡ item_of (unwrap_or (slice_get os o) no_object)
item_there os o d h = ap item_of (there os o d h)

pub offer_taken_set : (os : List Object) (o : ℕ) (d : Object) → o < length os →
    slice_set os o (with_offer_taken (slice_index_or os o d)) ≡ slice_set os o (with_offer_taken (unwrap_or (slice_get os o) no_object))
offer_taken_set os o d h = ap (λ x. slice_set os o (with_offer_taken x)) (there os o d h)

pub offer_there : (os : List Object) (o : ℕ) (d : Object) → o < length os → offer_of (slice_index_or os o d) ≡ offer_of (unwrap_or (slice_get os o) no_object)
offer_there os o d h = ap offer_of (there os o d h)

-- where none is declared, nothing is taken
none_out : (os : List Object) (o : ℕ) → length os ≤ o → no_object ≡ unwrap_or (slice_get os o) no_object
none_out [] o h = refl
none_out (x ∷ os) zero h = absurd (omega (arith, h))
none_out (x ∷ os) (suc o) h = none_out os o (omega (arith, h))

pub item_out : (os : List Object) (o : ℕ) → length os ≤ o → Value.Nothing ≡ item_of (unwrap_or (slice_get os o) no_object)
item_out os o h = ap item_of (none_out os o h)

pub offer_out : (os : List Object) (o : ℕ) → length os ≤ o → Value.Nothing ≡ offer_of (unwrap_or (slice_get os o) no_object)
offer_out os o h = ap offer_of (none_out os o h)

pub object_out : (os : List Object) (o : ℕ) (x : Object) → length os ≤ o → os ≡ slice_set os o x
object_out [] o y h = refl
object_out (x ∷ os) zero y h = grind arith
object_out (x ∷ os) (suc o) y h = ap (λ ys. x ∷ ys) (object_out os o y (omega (arith, h)))

few : (p : ℕ → Bool) (xs : List ℕ) → length (filter p xs) ≤ length xs
few p [] = omega arith
few p (x ∷ xs) = by (p x) (few p xs)
  where
    by : (b : Bool) → length (filter p xs) ≤ length xs → length (cond b (x ∷ filter p xs) (filter p xs)) ≤ suc (length xs)
    by true r = omega arith
    by false r = omega arith

left : (g : ℕ) (x : Object) → IsCounted x → IsCounted (without_member g x)
left g (Object.Crew size members) h = let fewer = few (λ m. not (m == g)) members in let here = h.0 in (omega (arith, fewer, here), h.1)
left g (Object.Event flag sets) h = h
left g (Object.Result x) h = h
left g (Object.Semaphore counter bound) h = h
left g (Object.Lock owner depth) h = h
left g (Object.Queue kind size items unfinished shut) h = h
left g (Object.Channel offers) h = h
left g (Object.Native slots outstanding) h = h

pub counted_left : (g : ℕ) (os : List Object) → AreCounted os → AreCounted (map (without_member g) os)
counted_left g [] a p = a p
counted_left g (x ∷ os) a zero = left g x (a 0)
counted_left g (x ∷ os) a (suc p) = counted_left g os (λ q. a (suc q)) p

withdrawn : (since : ℕ) (x : Object) → IsCounted x → IsCounted (without_offer since x)
withdrawn since (Object.Channel offers) h = h
withdrawn since (Object.Crew size members) h = h
withdrawn since (Object.Event flag sets) h = h
withdrawn since (Object.Result x) h = h
withdrawn since (Object.Semaphore counter bound) h = h
withdrawn since (Object.Lock owner depth) h = h
withdrawn since (Object.Queue kind size items unfinished shut) h = h
withdrawn since (Object.Native slots outstanding) h = h

pub counted_withdrawn : (since : ℕ) (os : List Object) → AreCounted os → AreCounted (map (without_offer since) os)
counted_withdrawn since [] a p = a p
counted_withdrawn since (x ∷ os) a zero = withdrawn since x (a 0)
counted_withdrawn since (x ∷ os) a (suc p) = counted_withdrawn since os (λ q. a (suc q)) p
