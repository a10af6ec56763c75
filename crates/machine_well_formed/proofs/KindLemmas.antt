-- What is done to objects keeps their kinds.
use Rattle.std.proofs.Common.{◌≡◌, refl, ap, ◌∙◌, sym, subst, ℕ, zero, suc, ◌+◌, Bool, true, false, List, [], ◌∷◌, map}
use Rattle.std.specs.Prelude.{Option, Some, None, slice_get, slice_set, unwrap_or}
use Rattle.gv_values.specs.declared.value.Value.{Value}
use Rattle.scenario_tree.specs.declared.tree.Declaration.{Declaration}
use Rattle.scenario_tree.specs.declared.tree.Object.{Object as Declared}
use Rattle.scenario_tree.specs.declared.tree.QueueKind.{QueueKind}
use Rattle.scenario_tree.specs.declared.tree.Scenario.{Scenario}
use Rattle.scenario_rules.specs.Declarations.{is_kind}
use Rattle.scenario_rules.specs.declared.mention.Wanted.TheVariants as wanted
use Rattle.machine.specs.declared.state.Object.{Object}
use Rattle.machine.specs.Objects.{with_slot_freed}
use Rattle.machine.specs.Objects.{without_member}
use Rattle.machine.specs.Request.{acquires}
use Rattle.machine.specs.Objects.{with_flag, with_shut}
use Rattle.machine.specs.Run.{object_of}
use Rattle.machine.specs.Objects.{no_object, with_item, with_item_taken, with_member, with_offer, with_offer_taken, with_owner, with_slot_taken, with_unit_taken, without_offer}
use Rattle.machine_well_formed.specs.Kinds.{Kind, declared_kinds, kind_declared, kind_of, kinds}
use Rattle.machine_well_formed.specs.Texts.{fits_wait, is_lock, is_wanted}

-- the object keeps its kind
abbrev pub KeepsKind : Object → Object → Type 0
KeepsKind old new = kind_of new ≡ kind_of old

-- one object of this kind in the place of another
pub kinds-set : (objects : List Object) (o : ℕ) (x : Object) → KeepsKind (unwrap_or (slice_get objects o) no_object) x → kinds (slice_set objects o x) ≡ kinds objects
kinds-set [] o x e = refl
kinds-set (y ∷ ys) zero x e = ap (λ k. k ∷ kinds ys) e
kinds-set (y ∷ ys) (suc o) x e = ap (λ ks. kind_of y ∷ ks) (kinds-set ys o x e)

-- each object changed
pub kinds-map : (f : Object → Object) → ((y : Object) → KeepsKind y (f y)) → (objects : List Object) → kinds (map f objects) ≡ kinds objects
kinds-map f e [] = refl
kinds-map f e (y ∷ ys) = ap (λ k. k ∷ kinds (map f ys)) (e y) ∙ ap (λ ks. kind_of y ∷ ks) (kinds-map f e ys)

pub flag-kept : (b : Bool) (y : Object) → KeepsKind y (with_flag b y)
flag-kept true (Object.Event flag sets) = refl
flag-kept false (Object.Event flag sets) = refl
flag-kept true y = refl
flag-kept false y = refl

pub unit-kept : (y : Object) → KeepsKind y (with_unit_taken y)
unit-kept (Object.Semaphore counter bound) = refl
unit-kept y = refl

pub owner-kept : (g : ℕ) (y : Object) → KeepsKind y (with_owner g y)
owner-kept g (Object.Lock owner depth) = refl
owner-kept g y = refl

pub item-kept : (v : Value) (y : Object) → KeepsKind y (with_item v y)
item-kept v (Object.Queue kind size items unfinished shut) = refl
item-kept v y = refl

pub taken-kept : (y : Object) → KeepsKind y (with_item_taken y)
taken-kept (Object.Queue kind size items unfinished shut) = refl
taken-kept y = refl

pub shut-kept : (b : Bool) (y : Object) → KeepsKind y (with_shut b y)
shut-kept true (Object.Queue kind size items unfinished shut) = refl
shut-kept false (Object.Queue kind size items unfinished shut) = refl
shut-kept true y = refl
shut-kept false y = refl

pub member-kept : (g : ℕ) (y : Object) → KeepsKind y (with_member g y)
member-kept g (Object.Crew size members) = refl
member-kept g y = refl

pub left-kept : (g : ℕ) (y : Object) → KeepsKind y (without_member g y)
left-kept g (Object.Crew size members) = refl
left-kept g y = refl

pub slot-kept : (y : Object) → KeepsKind y (with_slot_taken y)
slot-kept (Object.Native slots outstanding) = refl
slot-kept y = refl

pub freed-kept : (y : Object) → KeepsKind y (with_slot_freed y)
freed-kept (Object.Native slots outstanding) = refl
freed-kept y = refl

pub offer-kept : (v : Value) (since : ℕ) (y : Object) → KeepsKind y (with_offer v since y)
offer-kept v since (Object.Channel offers) = refl
offer-kept v since y = refl

pub offer_taken-kept : (y : Object) → KeepsKind y (with_offer_taken y)
offer_taken-kept (Object.Channel offers) = refl
offer_taken-kept y = refl

pub offer_gone-kept : (since : ℕ) (y : Object) → KeepsKind y (without_offer since y)
offer_gone-kept since (Object.Channel offers) = refl
offer_gone-kept since y = refl

-- the objects at the beginning are of the declared kinds
first : (x : Declared) → kind_of (object_of x) ≡ kind_declared x
first Declared.Event = refl
first Declared.Result = refl
first (Declared.Semaphore n) = refl
first (Declared.BoundedSemaphore n) = refl
first Declared.Lock = refl
first (Declared.Queue kind size) = refl
first Declared.Group = refl
first (Declared.Pool n) = refl
first (Declared.Native n) = refl
first Declared.Channel = refl

pub first-kinds : (ds : List Declaration) → kinds (map (λ (d : Declaration). object_of d.object) ds) ≡ map (λ (d : Declaration). kind_declared d.object) ds
first-kinds [] = refl
first-kinds (d ∷ ds) = ap (λ k. k ∷ kinds (map (λ (x : Declaration). object_of x.object) ds)) (first d.object) ∙ ap (λ ks. kind_declared d.object ∷ ks) (first-kinds ds)

-- ---- an object whose declaration is known

at-kind : (objects : List Object) (ds : List Declaration) (o : ℕ) (d : Declaration) → kinds objects ≡ map (λ (x : Declaration). kind_declared x.object) ds → slice_get ds o ≡ Some d →
    kind_of (unwrap_or (slice_get objects o) no_object) ≡ kind_declared d.object
at-kind objects [] o d e there = absurd (cc there)
at-kind [] (x ∷ ds) o d e there = absurd (cc e)
at-kind (y ∷ ys) (x ∷ ds) zero d e there = let same : x ≡ d = cc there in let k : kind_of y ≡ kind_declared x.object = cc e in k ∙ ap (λ (z : Declaration). kind_declared z.object) same
at-kind (y ∷ ys) (x ∷ ds) (suc o) d e there = let rest : kinds ys ≡ map (λ (z : Declaration). kind_declared z.object) ds = cc e in at-kind ys ds o d rest there

-- a result that is put into stays one
pub result-kept : (c : Scenario) (objects : List Object) (o : ℕ) (x : Object) → is_wanted c wanted.Result o ≡ true → kinds objects ≡ declared_kinds c → kind_of x ≡ Kind.Result →
    KeepsKind (unwrap_or (slice_get objects o) no_object) x
result-kept c objects o x w e r = by (slice_get c.objects o) refl w
  where
    of : (y : Declared) → is_kind wanted.Result y ≡ true → kind_declared y ≡ Kind.Result
    of Declared.Result h = refl
    of y h = absurd (cc h)

    by : (d : Option Declaration) → slice_get c.objects o ≡ d → ◌≡◌ {A = Bool} (elim d [ Some z ↦ is_kind wanted.Result z.object | None ↦ false ]) true →
        KeepsKind (unwrap_or (slice_get objects o) no_object) x
    by None there h = absurd (cc h)
    by (Some d) there h = r ∙ sym (of d.object h) ∙ sym (at-kind objects c.objects o d e there)

-- what waits for a semaphore or a lock waits for what it is
pub acquires-fits : (c : Scenario) (objects : List Object) (o : ℕ) → is_wanted c wanted.SemaphoreOrLock o ≡ true → kinds objects ≡ declared_kinds c →
    fits_wait c (acquires o (unwrap_or (slice_get objects o) no_object)) ≡ true
acquires-fits c objects o w e = by (slice_get c.objects o) refl w
  where
    semaphore : (d : Declaration) (bound : Option ℕ) (y : Object) → slice_get c.objects o ≡ Some d → is_kind wanted.Semaphore d.object ≡ true → kind_of y ≡ Kind.Semaphore bound →
        fits_wait c (acquires o y) ≡ true
    semaphore d bound (Object.Semaphore counter own) there k h = ap (λ (z : Option Declaration). elim z [ Some x ↦ is_kind wanted.Semaphore x.object | None ↦ false ]) there ∙ k
    semaphore d bound (Object.Event flag sets) there k h = absurd (cc h)
    semaphore d bound (Object.Result outcome) there k h = absurd (cc h)
    semaphore d bound (Object.Lock owner depth) there k h = absurd (cc h)
    semaphore d bound (Object.Queue kind size items unfinished shut) there k h = absurd (cc h)
    semaphore d bound (Object.Crew size members) there k h = absurd (cc h)
    semaphore d bound (Object.Native slots outstanding) there k h = absurd (cc h)
    semaphore d bound (Object.Channel offers) there k h = absurd (cc h)

    lock : (d : Declaration) (y : Object) → slice_get c.objects o ≡ Some d → is_lock d.object ≡ true → kind_of y ≡ Kind.Lock → fits_wait c (acquires o y) ≡ true
    lock d (Object.Lock owner depth) there k h = ap (λ (z : Option Declaration). elim z [ Some x ↦ is_lock x.object | None ↦ false ]) there ∙ k
    lock d (Object.Event flag sets) there k h = absurd (cc h)
    lock d (Object.Result outcome) there k h = absurd (cc h)
    lock d (Object.Semaphore counter bound) there k h = absurd (cc h)
    lock d (Object.Queue kind size items unfinished shut) there k h = absurd (cc h)
    lock d (Object.Crew size members) there k h = absurd (cc h)
    lock d (Object.Native slots outstanding) there k h = absurd (cc h)
    lock d (Object.Channel offers) there k h = absurd (cc h)

    of : (d : Declaration) (x : Declared) → d.object ≡ x → slice_get c.objects o ≡ Some d → is_kind wanted.SemaphoreOrLock x ≡ true → fits_wait c (acquires o (unwrap_or (slice_get objects o) no_object)) ≡ true
    of d (Declared.Semaphore n) same there h =
        semaphore d None (unwrap_or (slice_get objects o) no_object) there (ap (is_kind wanted.Semaphore) same) (at-kind objects c.objects o d e there ∙ ap kind_declared same)
    of d (Declared.BoundedSemaphore n) same there h =
        semaphore d (Some n) (unwrap_or (slice_get objects o) no_object) there (ap (is_kind wanted.Semaphore) same) (at-kind objects c.objects o d e there ∙ ap kind_declared same)
    of d Declared.Lock same there h = lock d (unwrap_or (slice_get objects o) no_object) there (ap is_lock same) (at-kind objects c.objects o d e there ∙ ap kind_declared same)
    of d x same there h = absurd (cc h)

    by : (d : Option Declaration) → slice_get c.objects o ≡ d → ◌≡◌ {A = Bool} (elim d [ Some z ↦ is_kind wanted.SemaphoreOrLock z.object | None ↦ false ]) true →
        fits_wait c (acquires o (unwrap_or (slice_get objects o) no_object)) ≡ true
    by None there h = absurd (cc h)
    by (Some d) there h = of d d.object refl there h
