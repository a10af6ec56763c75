-- Ways up through raw greenlets to a host, and what a new parent makes of them.
use Rattle.std.proofs.Common.{◌≡◌, ◌≢◌, refl, ap, ◌∙◌, sym, subst, ℕ, zero, suc, ◌≤◌, ◌<◌, Bool, true, false, List, [], ◌∷◌, length, eqb, inl, inr, arith}
use Rattle.std.proofs.lemmas.Bool.{cases_eq}
use Rattle.std.proofs.lemmas.Bool.Decides.{nat_tests}
use Rattle.std.proofs.lemmas.Map.Steps.{length-le_from_distinct_below}
use Rattle.std.specs.List.{AllByRecursion, IsDistinct, list_any}
use Rattle.std.specs.Prelude.{◌==◌, slice_get, slice_set, Some}
use Rattle.machine.specs.declared.state.Greenlet.{Greenlet}
use Rattle.machine.specs.Soundness.{phase_of}
use Rattle.machine.specs.Hosts.{host_within, is_above}
use Rattle.machine_soundness.proofs.Lists.{equal, unequal}
use Rattle.machine_soundness.specs.Going.{is_plain}
use Rattle.machine_soundness.proofs.Greenlets.{at, plain-found, plain-raw, raw-found, raw-set, host-more}

-- from the greenlet it is so many steps up to the host
unfoldable pub Climbs : List Greenlet → ℕ → ℕ → ℕ → Type 0
Climbs gs g h zero = g ≡ h
Climbs gs g h (suc k) = ((at gs g).raw ≡ true) × Climbs gs (at gs g).parent h k

pub climb-of : (n : ℕ) (gs : List Greenlet) (g h : ℕ) → host_within n gs g ≡ h → (k : ℕ) × Climbs gs g h k
unfolding Climbs
climb-of zero gs g h e = (zero, e)
climb-of (suc n) gs g h e = by (at gs g).raw refl e (climb-of n gs (at gs g).parent h)
  where
    by : (b : Bool) → (at gs g).raw ≡ b → ◌≡◌ {A = ℕ} (elim b [ true ↦ host_within n gs (at gs g).parent | false ↦ g ]) h →
        (host_within n gs (at gs g).parent ≡ h → (k : ℕ) × Climbs gs (at gs g).parent h k) → (k : ℕ) × Climbs gs g h k
    by true r e rest = let c = rest e in (suc c.0, (r, c.1))
    by false r e rest = (zero, e)

pub host-of-climb : (gs : List Greenlet) (g h k : ℕ) → (at gs h).raw ≡ false → Climbs gs g h k → host_within k gs g ≡ h
unfolding Climbs
host-of-climb gs g h zero top c = c
host-of-climb gs g h (suc k) top c = ap (λ b. elim b [ true ↦ host_within k gs (at gs g).parent | false ↦ g ]) c.0 ∙ host-of-climb gs (at gs g).parent h k top c.1

-- a way up ends after one number of steps
pub climbs-unique : (gs : List Greenlet) (g h j k : ℕ) → (at gs h).raw ≡ false → Climbs gs g h j → Climbs gs g h k → j ≡ k
unfolding Climbs
climbs-unique gs g h zero zero top a b = refl
climbs-unique gs g h zero (suc k) top a b = absurd (cc (b.0, ap (λ z. (at gs z).raw) a, top))
climbs-unique gs g h (suc j) zero top a b = absurd (cc (a.0, ap (λ z. (at gs z).raw) b, top))
climbs-unique gs g h (suc j) (suc k) top a b = ap suc (climbs-unique gs (at gs g).parent h j k top a.1 b.1)

-- the numbers that a way up passes
unfoldable pub visited : List Greenlet → ℕ → ℕ → List ℕ
visited gs g zero = []
visited gs g (suc k) = g ∷ visited gs (at gs g).parent k

pub length-visited : (gs : List Greenlet) (g k : ℕ) → length (visited gs g k) ≡ k
unfolding visited
length-visited gs g zero = refl
length-visited gs g (suc k) = ap suc (length-visited gs (at gs g).parent k)

-- each of them has a way up that is no longer
shorter : (gs : List Greenlet) (g h bound k : ℕ) → Climbs gs g h k → k ≤ bound → AllByRecursion (λ y. (j : ℕ) × (j ≤ bound) × Climbs gs y h j) (visited gs g k)
unfolding visited Climbs
shorter gs g h bound zero c le = tt
shorter gs g h bound (suc k) c le = ((suc k, le, c), shorter gs (at gs g).parent h bound k c.1 (omega arith))

pub all-then : (P Q : ℕ → Type 0) → ((y : ℕ) → P y → Q y) → (xs : List ℕ) → AllByRecursion P xs → AllByRecursion Q xs
all-then P Q f [] h = tt
all-then P Q f (x ∷ xs) h = (f x h.0, all-then P Q f xs h.1)

pub test_differs : (a b : ℕ) → a ≢ b → eqb a b ≡ false
test_differs a b h = grind (arith, nat_tests)

-- so none of them comes twice
pub distinct : (gs : List Greenlet) (g h k : ℕ) → (at gs h).raw ≡ false → Climbs gs g h k → IsDistinct eqb (visited gs g k)
unfolding visited Climbs IsDistinct
distinct gs g h zero top c = tt
distinct gs g h (suc k) top c = (
  all-then (λ y. (j : ℕ) × (j ≤ k) × Climbs gs y h j) (λ y. eqb g y ≡ false)
      (λ y w. test_differs g y (λ same. let u = climbs-unique gs g h (suc k) w.0 top c (subst (λ x. Climbs gs x h w.0) (sym same) w.2) in let le = w.1 in absurd (omega arith)))
      (visited gs (at gs g).parent k) (shorter gs (at gs g).parent h k k c.1 (omega arith)),
  distinct gs (at gs g).parent h k top c.1,
)

pub found-below : (gs : List Greenlet) (g : ℕ) (x : Greenlet) → slice_get gs g ≡ Some x → g < length gs
found-below [] g x e = absurd (cc e)
found-below (y ∷ gs) zero x e = omega arith
found-below (y ∷ gs) (suc g) x e = let r = found-below gs g x e in omega (arith, r)

pub below : (gs : List Greenlet) (g h k : ℕ) → Climbs gs g h k → (q : ℕ) → list_any (eqb q) (visited gs g k) ≡ true → q < length gs
unfolding visited Climbs
below gs g h zero c q any = absurd (cc)
below gs g h (suc k) c q any = elim (cases_eq q g) [
  | inl same ↦ subst (λ x. x < length gs) (sym same) (found-below gs g (at gs g) (raw-found gs g c.0))
  | inr differs ↦ below gs (at gs g).parent h k c.1 q (rw (test_differs q g differs) at any)
]

-- a way up is no longer than the greenlets are many, so it is found
pub climb-found : (gs : List Greenlet) (g h k : ℕ) → (at gs h).raw ≡ false → Climbs gs g h k → host_within (length gs) gs g ≡ h
climb-found gs g h k top c =
    let le = length-le_from_distinct_below (visited gs g k) (length gs) (distinct gs g h k top c) (below gs g h k c) in
    let e = length-visited gs g k in
    let within : k ≤ length gs = omega arith in
    let same : host_within k gs g ≡ h = host-of-climb gs g h k top c in
    host-more k (length gs) gs g within (ap (λ z. (at gs z).raw) same ∙ top) ∙ same

-- none of them is the host
apart : (gs : List Greenlet) (g h k : ℕ) → (at gs h).raw ≡ false → Climbs gs g h k → AllByRecursion (λ y. eqb h y ≡ false) (visited gs g k)
unfolding visited Climbs
apart gs g h zero top c = tt
apart gs g h (suc k) top c = (test_differs h g (λ same. cc (c.0, ap (λ z. (at gs z).raw) same, top)), apart gs (at gs g).parent h k top c.1)

all-below : (gs : List Greenlet) (g h k : ℕ) → h < length gs → Climbs gs g h k → (q : ℕ) → list_any (eqb q) (h ∷ visited gs g k) ≡ true → q < length gs
all-below gs g h k there c q any = elim (cases_eq q h) [
  | inl same ↦ subst (λ x. x < length gs) (sym same) there
  | inr differs ↦ below gs g h k c q (rw (test_differs q h differs) at any)
]

distinct-with-host : (gs : List Greenlet) (g h k : ℕ) → (at gs h).raw ≡ false → Climbs gs g h k → IsDistinct eqb (h ∷ visited gs g k)
unfolding IsDistinct
distinct-with-host gs g h k top c = (apart gs g h k top c, distinct gs g h k top c)

-- with its host a way up has no more greenlets than there are
pub climb-short : (gs : List Greenlet) (g h k : ℕ) → is_plain gs h ≡ true → Climbs gs g h k → suc k ≤ length gs
climb-short gs g h k p c =
    let found = plain-found gs h p in
    let top = plain-raw gs h p in
    let there = found-below gs h found.0 found.1 in
    let le = length-le_from_distinct_below (h ∷ visited gs g k) (length gs) (distinct-with-host gs g h k top c) (all-below gs g h k there c) in
    let e = length-visited gs g k in
    omega (arith, le, e)

-- ---- a new parent

pub at-other : (gs : List Greenlet) (c g : ℕ) (x : Greenlet) → (c ≡ g → ⊥) → at (slice_set gs c x) g ≡ at gs g
at-other [] c g x e = refl
at-other (y ∷ gs) zero zero x e = absurd (e refl)
at-other (y ∷ gs) zero (suc g) x e = refl
at-other (y ∷ gs) (suc c) zero x e = refl
at-other (y ∷ gs) (suc c) (suc g) x e = at-other gs c g x (λ k. e (ap suc k))

pub at-same : (gs : List Greenlet) (c : ℕ) (x y : Greenlet) → slice_get gs c ≡ Some y → at (slice_set gs c x) c ≡ x
at-same [] c x y e = absurd (cc e)
at-same (z ∷ gs) zero x y e = refl
at-same (z ∷ gs) (suc c) x y e = at-same gs c x y e

pub phase-kept : (gs : List Greenlet) (c g : ℕ) (x : Greenlet) → x.phase ≡ (at gs c).phase → phase_of g (slice_set gs c x) ≡ phase_of g gs
phase-kept [] c g x e = refl
phase-kept (y ∷ gs) zero zero x e = ap (λ p. Some p) e
phase-kept (y ∷ gs) zero (suc g) x e = refl
phase-kept (y ∷ gs) (suc c) zero x e = refl
phase-kept (y ∷ gs) (suc c) (suc g) x e = phase-kept gs c g x e

-- a way up on which the child does not stand is as before
aside : (n : ℕ) (gs : List Greenlet) (c g : ℕ) (x : Greenlet) → is_above n gs c g ≡ false → host_within n (slice_set gs c x) g ≡ host_within n gs g
aside zero gs c g x e = refl
aside (suc n) gs c g x e = by (c == g) refl e (at gs g).raw refl (aside n gs c (at gs g).parent x)
  where
    by : (b : Bool) → (c == g) ≡ b → ◌≡◌ {A = Bool} (elim b [ true ↦ true | false ↦ elim (at gs g).raw [ true ↦ is_above n gs c (at gs g).parent | false ↦ false ] ]) false →
        (r : Bool) → (at gs g).raw ≡ r → (is_above n gs c (at gs g).parent ≡ false → host_within n (slice_set gs c x) (at gs g).parent ≡ host_within n gs (at gs g).parent) →
        host_within (suc n) (slice_set gs c x) g ≡ host_within (suc n) gs g
    by true z e r w rest = absurd (cc e)
    by false z e r w rest =
        let same : at (slice_set gs c x) g ≡ at gs g = at-other gs c g x (unequal c g z) in
        ap (λ (y : Greenlet). elim y.raw [ true ↦ host_within n (slice_set gs c x) y.parent | false ↦ g ]) same ∙ up r w
      where
        up : (r : Bool) → (at gs g).raw ≡ r →
            ◌≡◌ {A = ℕ} (elim (at gs g).raw [ true ↦ host_within n (slice_set gs c x) (at gs g).parent | false ↦ g ]) (elim (at gs g).raw [ true ↦ host_within n gs (at gs g).parent | false ↦ g ])
        up true w = ap (λ z. elim (at gs g).raw [ true ↦ z | false ↦ g ]) (rest (ap (λ b. elim b [ true ↦ is_above n gs c (at gs g).parent | false ↦ false ]) (sym w) ∙ e))
        up false w = ap (λ b. elim b [ true ↦ host_within n (slice_set gs c x) (at gs g).parent | false ↦ g ]) w ∙ sym (ap (λ b. elim b [ true ↦ host_within n gs (at gs g).parent | false ↦ g ]) w)

-- a way up to the host leads there still, where one does from the new parent
climb-turned : (gs : List Greenlet) (c g h k : ℕ) (x y : Greenlet) → slice_get gs c ≡ Some y → x.raw ≡ (at gs c).raw → Climbs gs g h k →
    (j : ℕ) × Climbs (slice_set gs c x) x.parent h j → (j : ℕ) × Climbs (slice_set gs c x) g h j
unfolding Climbs
climb-turned gs c g h zero x y f r w from = (zero, w)
climb-turned gs c g h (suc k) x y f r w from = by (c == g) refl (climb-turned gs c (at gs g).parent h k x y f r w.1 from)
  where
    by : (b : Bool) → (c == g) ≡ b → (j : ℕ) × Climbs (slice_set gs c x) (at gs g).parent h j → (j : ℕ) × Climbs (slice_set gs c x) g h j
    by true z rest =
        let same : c ≡ g = equal c g z in
        let here : at (slice_set gs c x) g ≡ x = ap (at (slice_set gs c x)) (sym same) ∙ at-same gs c x y f in
        (suc from.0, (raw-set gs c g x r ∙ w.0, subst (λ (p : Greenlet). Climbs (slice_set gs c x) p.parent h from.0) (sym here) from.1))
    by false z rest =
        let here : at (slice_set gs c x) g ≡ at gs g = at-other gs c g x (unequal c g z) in
        (suc rest.0, (raw-set gs c g x r ∙ w.0, subst (λ (p : Greenlet). Climbs (slice_set gs c x) p.parent h rest.0) (sym here) rest.1))

-- the host stays, where the child does not stand above its new parent, which has the same host
pub host-turned : (gs : List Greenlet) (c g h : ℕ) (x y : Greenlet) → slice_get gs c ≡ Some y → x.raw ≡ (at gs c).raw → (at gs h).raw ≡ false →
    host_within (length gs) gs g ≡ h → host_within (length gs) gs x.parent ≡ h → is_above (length gs) gs c x.parent ≡ false →
    host_within (length (slice_set gs c x)) (slice_set gs c x) g ≡ h
host-turned gs c g h x y f r top own theirs apart =
    let from = climb-of (length gs) (slice_set gs c x) x.parent h (aside (length gs) gs c x.parent x apart ∙ theirs) in
    let up = climb-of (length gs) gs g h own in
    let way = climb-turned gs c g h up.0 x y f r up.1 from in
    climb-found (slice_set gs c x) g h way.0 (raw-set gs c h x r ∙ top) way.1
