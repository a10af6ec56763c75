-- Greenlets that are given a phase, and those that are made.
use Rattle.std.proofs.Common.{◌≡◌, refl, ap, ◌∙◌, ℕ, zero, suc, ◌≤◌, Bool, true, false, List, [], ◌∷◌, ◌++◌, length, arith}
use Rattle.std.specs.Prelude.{not, slice_get, slice_set, unwrap_or, Option, Some, None}
use Rattle.machine.specs.declared.state.Greenlet.{Greenlet}
use Rattle.machine.specs.declared.state.Phase.{Phase}
use Rattle.machine.specs.Soundness.{phase_of, is_live, is_unstarted}
use Rattle.machine.specs.Greenlets.{nobody}
use Rattle.machine.specs.Hosts.{host_within}
use Rattle.machine_soundness.specs.Going.{is_plain}
use Rattle.machine_soundness.proofs.Lists.{get-append}

-- the greenlet of this number
abbrev pub at : List Greenlet → ℕ → Greenlet
at gs g = unwrap_or (slice_get gs g) nobody

-- one that is found
pub plain-found : (gs : List Greenlet) (g : ℕ) → is_plain gs g ≡ true → (x : Greenlet) × (slice_get gs g ≡ Some x) × (x.raw ≡ false)
plain-found gs g h = by (slice_get gs g) refl h
  where
    by : (o : Option Greenlet) → slice_get gs g ≡ o → elim o [ None ↦ false | Some x ↦ not x.raw ] ≡ true → (x : Greenlet) × (slice_get gs g ≡ Some x) × (x.raw ≡ false)
    by None e h = absurd (cc h)
    by (Some x) e h = of x.raw refl h
      where
        of : (b : Bool) → x.raw ≡ b → not b ≡ true → (x : Greenlet) × (slice_get gs g ≡ Some x) × (x.raw ≡ false)
        of true r h = absurd (cc h)
        of false r h = (x, e, r)

pub plain-here : (gs : List Greenlet) (g : ℕ) (x : Greenlet) → slice_get gs g ≡ Some x → x.raw ≡ false → is_plain gs g ≡ true
plain-here gs g x e r = ap (λ o. elim o [ None ↦ false | Some x ↦ not x.raw ]) e ∙ ap not r

pub plain-raw : (gs : List Greenlet) (g : ℕ) → is_plain gs g ≡ true → (at gs g).raw ≡ false
plain-raw gs g h = let f = plain-found gs g h in rw f.1 f.2

-- one that is raw is there
pub raw-found : (gs : List Greenlet) (g : ℕ) → (at gs g).raw ≡ true → slice_get gs g ≡ Some (at gs g)
raw-found gs g h = by (slice_get gs g) h
  where
    by : (o : Option Greenlet) → (unwrap_or o nobody).raw ≡ true → o ≡ Some (unwrap_or o nobody)
    by None h = absurd (cc h)
    by (Some x) h = refl

-- so is one that is live
pub live-found : (gs : List Greenlet) (g : ℕ) → is_live (phase_of g gs) ≡ true → slice_get gs g ≡ Some (at gs g)
live-found gs g h = by (slice_get gs g) h
  where
    by : (o : Option Greenlet) → is_live (elim o [ None ↦ None | Some x ↦ Some x.phase ]) ≡ true → o ≡ Some (unwrap_or o nobody)
    by None h = absurd (cc h)
    by (Some x) h = refl

-- ---- one is changed

pub plain-set : (gs : List Greenlet) (g h : ℕ) (x : Greenlet) → x.raw ≡ (at gs g).raw → is_plain (slice_set gs g x) h ≡ is_plain gs h
plain-set [] g h x e = refl
plain-set (y ∷ gs) zero zero x e = ap not e
plain-set (y ∷ gs) zero (suc h) x e = refl
plain-set (y ∷ gs) (suc g) zero x e = refl
plain-set (y ∷ gs) (suc g) (suc h) x e = plain-set gs g h x e

pub raw-set : (gs : List Greenlet) (g h : ℕ) (x : Greenlet) → x.raw ≡ (at gs g).raw → (at (slice_set gs g x) h).raw ≡ (at gs h).raw
raw-set [] g h x e = refl
raw-set (y ∷ gs) zero zero x e = e
raw-set (y ∷ gs) zero (suc h) x e = refl
raw-set (y ∷ gs) (suc g) zero x e = refl
raw-set (y ∷ gs) (suc g) (suc h) x e = raw-set gs g h x e

pub parent-set : (gs : List Greenlet) (g h : ℕ) (x : Greenlet) → x.parent ≡ (at gs g).parent → (at (slice_set gs g x) h).parent ≡ (at gs h).parent
parent-set [] g h x e = refl
parent-set (y ∷ gs) zero zero x e = e
parent-set (y ∷ gs) zero (suc h) x e = refl
parent-set (y ∷ gs) (suc g) zero x e = refl
parent-set (y ∷ gs) (suc g) (suc h) x e = parent-set gs g h x e

pub phase-other : (gs : List Greenlet) (g h : ℕ) (x : Greenlet) → (g ≡ h → ⊥) → phase_of h (slice_set gs g x) ≡ phase_of h gs
phase-other [] g h x e = refl
phase-other (y ∷ gs) zero zero x e = absurd (e refl)
phase-other (y ∷ gs) zero (suc h) x e = refl
phase-other (y ∷ gs) (suc g) zero x e = refl
phase-other (y ∷ gs) (suc g) (suc h) x e = phase-other gs g h x (λ k. e (ap suc k))

pub live-set : (gs : List Greenlet) (g h : ℕ) (x : Greenlet) → is_live (Some x.phase) ≡ true →
    is_live (phase_of h gs) ≡ true → is_live (phase_of h (slice_set gs g x)) ≡ true
live-set [] g h x e k = k
live-set (y ∷ gs) zero zero x e k = e
live-set (y ∷ gs) zero (suc h) x e k = k
live-set (y ∷ gs) (suc g) zero x e k = k
live-set (y ∷ gs) (suc g) (suc h) x e k = live-set gs g h x e k

pub live-here : (gs : List Greenlet) (g : ℕ) (x y : Greenlet) → is_live (Some x.phase) ≡ true → slice_get gs g ≡ Some y →
    is_live (phase_of g (slice_set gs g x)) ≡ true
live-here [] g x y e k = absurd (cc k)
live-here (z ∷ gs) zero x y e k = e
live-here (z ∷ gs) (suc g) x y e k = live-here gs g x y e k

-- ---- hosts

pub host-same : (n : ℕ) (gs fs : List Greenlet) (g : ℕ) → ((h : ℕ) → (at fs h).raw ≡ (at gs h).raw) → ((h : ℕ) → (at fs h).parent ≡ (at gs h).parent) →
    host_within n fs g ≡ host_within n gs g
host-same zero gs fs g r p = refl
host-same (suc n) gs fs g r p =
    ap (λ b. elim b [ true ↦ host_within n fs (at fs g).parent | false ↦ g ]) (r g)
    ∙ ap (λ z. elim (at gs g).raw [ true ↦ z | false ↦ g ]) (ap (host_within n fs) (p g) ∙ host-same n gs fs (at gs g).parent r p)

pub host-more : (n m : ℕ) (gs : List Greenlet) (g : ℕ) → n ≤ m → (at gs (host_within n gs g)).raw ≡ false → host_within m gs g ≡ host_within n gs g
host-more zero zero gs g h e = refl
host-more zero (suc m) gs g h e = ap (λ b. elim b [ true ↦ host_within m gs (at gs g).parent | false ↦ g ]) e
host-more (suc n) zero gs g h e = absurd (omega (arith, h))
host-more (suc n) (suc m) gs g h e = by (at gs g).raw e (host-more n m gs (at gs g).parent (omega (arith, h)))
  where
    by : (b : Bool) → (at gs (elim b [ true ↦ host_within n gs (at gs g).parent | false ↦ g ])).raw ≡ false →
        ((at gs (host_within n gs (at gs g).parent)).raw ≡ false → host_within m gs (at gs g).parent ≡ host_within n gs (at gs g).parent) →
        ◌≡◌ {A = ℕ} (elim b [ true ↦ host_within m gs (at gs g).parent | false ↦ g ]) (elim b [ true ↦ host_within n gs (at gs g).parent | false ↦ g ])
    by true e rest = rest e
    by false e rest = refl

-- one that is not raw is its own host
pub host-plain : (n : ℕ) (gs : List Greenlet) (g : ℕ) → (at gs g).raw ≡ false → host_within n gs g ≡ g
host-plain zero gs g e = refl
host-plain (suc n) gs g e = ap (λ b. elim b [ true ↦ host_within n gs (at gs g).parent | false ↦ g ]) e

-- ---- one more is made

pub plain-more : (gs fs : List Greenlet) (g : ℕ) → is_plain gs g ≡ true → is_plain (gs ++ fs) g ≡ true
plain-more gs fs g h = let f = plain-found gs g h in plain-here (gs ++ fs) g f.0 (get-append gs fs g f.0 f.1) f.2

pub at-more : (gs fs : List Greenlet) (g : ℕ) → slice_get gs g ≡ Some (at gs g) → at (gs ++ fs) g ≡ at gs g
at-more gs fs g e = ap (λ o. unwrap_or o nobody) (get-append gs fs g (at gs g) e)

pub phase-more : (gs fs : List Greenlet) (g : ℕ) (p : Phase) → phase_of g gs ≡ Some p → phase_of g (gs ++ fs) ≡ Some p
phase-more [] fs g p e = absurd (cc e)
phase-more (y ∷ gs) fs zero p e = e
phase-more (y ∷ gs) fs (suc g) p e = phase-more gs fs g p e

pub host-append : (n : ℕ) (gs fs : List Greenlet) (g : ℕ) → is_plain gs (host_within n gs g) ≡ true → host_within n (gs ++ fs) g ≡ host_within n gs g
host-append zero gs fs g h = refl
host-append (suc n) gs fs g h = by (at gs g).raw refl h (host-append n gs fs (at gs g).parent)
  where
    by : (b : Bool) → (at gs g).raw ≡ b → is_plain gs (elim b [ true ↦ host_within n gs (at gs g).parent | false ↦ g ]) ≡ true →
        (is_plain gs (host_within n gs (at gs g).parent) ≡ true → host_within n (gs ++ fs) (at gs g).parent ≡ host_within n gs (at gs g).parent) →
        ◌≡◌ {A = ℕ} (elim (at (gs ++ fs) g).raw [ true ↦ host_within n (gs ++ fs) (at (gs ++ fs) g).parent | false ↦ g ]) (elim b [ true ↦ host_within n gs (at gs g).parent | false ↦ g ])
    by true e h rest =
        let same : at (gs ++ fs) g ≡ at gs g = at-more gs fs g (raw-found gs g e) in
        ap (λ (x : Greenlet). elim x.raw [ true ↦ host_within n (gs ++ fs) x.parent | false ↦ g ]) same
        ∙ ap (λ b. elim b [ true ↦ host_within n (gs ++ fs) (at gs g).parent | false ↦ g ]) e ∙ rest h
    by false e h rest =
        ap (λ b. elim b [ true ↦ host_within n (gs ++ fs) (at (gs ++ fs) g).parent | false ↦ g ]) (plain-raw (gs ++ fs) g (plain-more gs fs g h))

pub unstarted-more : (gs fs : List Greenlet) (g : ℕ) → is_unstarted (phase_of g gs) ≡ true → is_unstarted (phase_of g (gs ++ fs)) ≡ true
unstarted-more [] fs g h = absurd (cc h)
unstarted-more (y ∷ gs) fs zero h = h
unstarted-more (y ∷ gs) fs (suc g) h = unstarted-more gs fs g h

pub live-more : (gs fs : List Greenlet) (g : ℕ) → is_live (phase_of g gs) ≡ true → is_live (phase_of g (gs ++ fs)) ≡ true
live-more [] fs g h = absurd (cc h)
live-more (y ∷ gs) fs zero h = h
live-more (y ∷ gs) fs (suc g) h = live-more gs fs g h

-- none has the next number
pub none-next : (gs : List Greenlet) → phase_of (length gs) gs ≡ None
none-next [] = refl
none-next (y ∷ gs) = none-next gs

-- one that was not started is not live
pub unstarted-not-live : (o : Option Phase) → is_unstarted o ≡ true → is_live o ≡ true → ⊥
unstarted-not-live None h k = cc h
unstarted-not-live (Some (Phase.New args)) h k = cc k
unstarted-not-live (Some (Phase.Live frame)) h k = cc h
unstarted-not-live (Some (Phase.Done o)) h k = cc h

pub live-phase : (gs : List Greenlet) (g : ℕ) → is_live (phase_of g gs) ≡ true → phase_of g gs ≡ Some (at gs g).phase
live-phase gs g h = by (slice_get gs g) h
  where
    by : (o : Option Greenlet) → is_live (elim o [ None ↦ None | Some x ↦ Some x.phase ]) ≡ true →
        ◌≡◌ {A = Option Phase} (elim o [ None ↦ None | Some x ↦ Some x.phase ]) (Some (unwrap_or o nobody).phase)
    by None h = absurd (cc h)
    by (Some x) h = refl

pub plain-phase : (gs : List Greenlet) (g : ℕ) → is_plain gs g ≡ true → phase_of g gs ≡ Some (at gs g).phase
plain-phase gs g h = by (slice_get gs g) h
  where
    by : (o : Option Greenlet) → ◌≡◌ {A = Bool} (elim o [ None ↦ false | Some x ↦ not x.raw ]) true →
        ◌≡◌ {A = Option Phase} (elim o [ None ↦ None | Some x ↦ Some x.phase ]) (Some (unwrap_or o nobody).phase)
    by None h = absurd (cc h)
    by (Some x) h = refl

-- one that is New is there
pub new-found : (gs : List Greenlet) (g : ℕ) → is_unstarted (Some (at gs g).phase) ≡ true → slice_get gs g ≡ Some (at gs g)
new-found gs g h = by (slice_get gs g) h
  where
    by : (o : Option Greenlet) → is_unstarted (Some (unwrap_or o nobody).phase) ≡ true → o ≡ Some (unwrap_or o nobody)
    by None h = absurd (cc h)
    by (Some x) h = refl

-- one with this phase that isn't New is there
pub live-at : (gs : List Greenlet) (g : ℕ) → is_live (Some (at gs g).phase) ≡ true → is_live (phase_of g gs) ≡ true
live-at gs g h = by (slice_get gs g) h
  where
    by : (o : Option Greenlet) → is_live (Some (unwrap_or o nobody).phase) ≡ true → is_live (elim o [ None ↦ None | Some x ↦ Some x.phase ]) ≡ true
    by None h = absurd (cc h)
    by (Some x) h = h
