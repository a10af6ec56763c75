-- A map, one element after another.
use Rattle.std.proofs.Common.{◌≡◌, refl, ap, sym, ◌∙◌, ℕ, ◌+◌, ◌<◌, ◌≤◌, Bool, true, false, List, [], ◌∷◌, ◌++◌, length, drop, get_or, None, slice_get, arith}
use Rattle.gv_values.specs.declared.scalar.Scalar.{Scalar}
use Rattle.gv_values.specs.declared.value.Value.{Value}
use Rattle.gv_values.specs.Value.{value_of_scalar}
use Rattle.trace_text.specs.declared.line.Awaited.{Awaited}
use Rattle.trace_text.specs.declared.line.StopCause.{StopCause}
use Rattle.machine.specs.declared.items.Waiting.{Waiting}
use Rattle.machine.specs.Holds.{earlier, has_place, is_place}
use Rattle.machine.specs.Greenlets.{has_greenlet_left}
use Rattle.machine.specs.State.{State}
use Rattle.machine.specs.Waits.{Performed, add_member, maps, parked}
use Rattle.machine.specs.Objects.{name_of_object}
use Rattle.hub_requests.proofs.Results.{first-of}
use Rattle.gv_values.specs.declared.limits.TheConstants.{MOST_ELEMENTS}

grown : {X : Type 0} (xs : List X) (x : X) → length (xs ++ x ∷ []) ≡ length xs + 1
grown [] x = refl
grown (y ∷ xs) x = let more = grown xs x in omega (arith, more)

-- one member more, and one element less to come
pub few_more : (xs : List Scalar) (made later : List ℕ) (member i : ℕ) → later ≡ made ++ member ∷ [] → length xs + length made ≤ MOST_ELEMENTS + i → length xs + length later ≤ MOST_ELEMENTS + (i + 1)
few_more xs made later member i e h = let one : length later ≡ length made + 1 = ap length e ∙ grown made member in omega (arith, one, h)

-- the first of them has its member
pub few_after : (xs rest : List Scalar) (made later : List ℕ) (member : ℕ) → later ≡ made ++ member ∷ [] → length rest + 1 ≡ length xs → length xs + length made ≤ MOST_ELEMENTS → length rest + length later ≤ MOST_ELEMENTS
few_after xs rest made later member e k h = let one : length later ≡ length made + 1 = ap length e ∙ grown made member in omega (arith, one, k, h)

abbrev is_free : State → ℕ → Bool
is_free s o = has_place (earlier (is_place o) s.next_since s.items) (slice_get s.objects o)

-- one element, by whether it has a place and a greenlet is left
abbrev placed : Bool → Bool → Scalar → List Scalar → ℕ → ℕ → ℕ → List ℕ → State → Performed
placed free left x xs g o f made s =
    elim free [
      | false ↦ Performed.Parks (parked g (Awaited.Map (name_of_object o s)) (Waiting.MapPlace o f (x ∷ xs) made) None s)
      | true ↦ elim left [
        | false ↦ Performed.Stops StopCause.NoGreenlets s
        | true ↦ maps xs g o f (made ++ length s.greenlets ∷ []) (add_member o f (value_of_scalar x ∷ []) s)
      ]
    ]

step : (xs : List Scalar) (i : ℕ) (d : Scalar) (g o f : ℕ) (made : List ℕ) (s : State) → i < length xs →
    maps (drop i xs) g o f made s ≡ placed (is_free s o) (has_greenlet_left s) (get_or xs i d) (drop (i + 1) xs) g o f made s
step xs i d g o f made s h = ap (λ (zs : List Scalar). maps zs g o f made s) (first-of xs i d h)

pub map_parks : (xs rest : List Scalar) (i : ℕ) (d : Scalar) (g o f : ℕ) (made : List ℕ) (free : Bool) (s t : State) (whole : Performed) → i < length xs → whole ≡ maps (drop i xs) g o f made s →
    free ≡ is_free s o → free ≡ false → rest ≡ drop i xs → t ≡ parked g (Awaited.Map (name_of_object o s)) (Waiting.MapPlace o f rest made) None s → whole ≡ Performed.Parks t
map_parks xs rest i d g o f made free s t whole h e k l r p =
    let x = get_or xs i d in
    let ys = drop (i + 1) xs in
    e ∙ step xs i d g o f made s h ∙ ap (λ (b : Bool). placed b (has_greenlet_left s) x ys g o f made s) (sym k ∙ l)
    ∙ ap (λ (zs : List Scalar). Performed.Parks (parked g (Awaited.Map (name_of_object o s)) (Waiting.MapPlace o f zs made) None s)) (sym (r ∙ first-of xs i d h))
    ∙ ap (λ (z : State). Performed.Parks z) (sym p)

pub map_stops : (xs : List Scalar) (i : ℕ) (d : Scalar) (g o f : ℕ) (made : List ℕ) (free left : Bool) (s : State) (whole : Performed) → i < length xs → whole ≡ maps (drop i xs) g o f made s →
    free ≡ is_free s o → free ≡ true → left ≡ has_greenlet_left s → left ≡ false → whole ≡ Performed.Stops StopCause.NoGreenlets s
map_stops xs i d g o f made free left s whole h e k l m n =
    e ∙ step xs i d g o f made s h ∙ ap (λ (b : Bool). placed b (has_greenlet_left s) (get_or xs i d) (drop (i + 1) xs) g o f made s) (sym k ∙ l)
    ∙ ap (λ (b : Bool). placed true b (get_or xs i d) (drop (i + 1) xs) g o f made s) (sym m ∙ n)

pub map_next : (xs : List Scalar) (i : ℕ) (d : Scalar) (g o f member : ℕ) (made later : List ℕ) (args : List Value) (free left : Bool) (s t : State) (whole : Performed) → i < length xs →
    whole ≡ maps (drop i xs) g o f made s → free ≡ is_free s o → free ≡ true → left ≡ has_greenlet_left s → left ≡ true → args ≡ value_of_scalar (get_or xs i d) ∷ [] → member ≡ length s.greenlets →
    t ≡ add_member o f args s → later ≡ made ++ member ∷ [] → whole ≡ maps (drop (i + 1) xs) g o f later t
map_next xs i d g o f member made later args free left s t whole h e k l m n a b p q =
    let ys = drop (i + 1) xs in
    e ∙ step xs i d g o f made s h ∙ ap (λ (c : Bool). placed c (has_greenlet_left s) (get_or xs i d) ys g o f made s) (sym k ∙ l)
    ∙ ap (λ (c : Bool). placed true c (get_or xs i d) ys g o f made s) (sym m ∙ n)
    ∙ ap (λ (vs : List Value). maps ys g o f (made ++ length s.greenlets ∷ []) (add_member o f vs s)) (sym a)
    ∙ ap (maps ys g o f (made ++ length s.greenlets ∷ [])) (sym p)
    ∙ ap (λ (c : ℕ). maps ys g o f (made ++ c ∷ []) t) (sym b)
    ∙ ap (λ (ms : List ℕ). maps ys g o f ms t) (sym q)
