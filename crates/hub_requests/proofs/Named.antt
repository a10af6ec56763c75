-- Objects that are declared.
use Rattle.std.proofs.Common.{◌≡◌, refl, sym, subst, ℕ, zero, suc, ◌<◌, Bool, true, false, List, [], ◌∷◌, length, Option, Some, None, slice_get, arith}
use Rattle.std.specs.Prelude.{IfSome}
use Rattle.scenario_tree.specs.declared.tree.Declaration.{Declaration}
use Rattle.scenario_tree.specs.declared.tree.Object.{Object as Declared}
use Rattle.scenario_tree.specs.declared.tree.Scenario.{Scenario}
use Rattle.trace_text.specs.declared.line.Awaited.{Awaited}
use Rattle.machine.specs.declared.items.Waiting.{Waiting}
use Rattle.machine.specs.declared.state.Object.{Object}
use Rattle.machine.specs.Objects.{name_of_object}
use Rattle.machine.specs.Request.{acquires}
use Rattle.machine.specs.State.{State}
use Rattle.machine.specs.declared.request.Request.{Request}
use Rattle.machine.proofs.Halves.{left}
use Rattle.machine_well_formed.specs.Texts.{fits_request, is_declared, is_function}
use Rattle.scenario_rules.specs.Declarations.{is_kind}
use Rattle.scenario_rules.specs.declared.mention.Wanted.TheVariants as wanted
use Rattle.hub_items.specs.Short.{IsShort}
use Rattle.hub_requests.specs.Awaited.{awaited_of, object_of}
use Rattle.hub_requests.specs.Naming.{IsNamed, IsObject}

there : (test : Declared → Bool) (ds : List Declaration) (o : ℕ) → elim (slice_get ds o) [ Some d ↦ test d.object | None ↦ false ] ≡ true → o < length ds
there test [] o h = absurd (cc h)
there test (d ∷ ds) zero h = omega arith
there test (d ∷ ds) (suc o) h = let less = there test ds o h in omega (arith, less)

-- what is declared as something is declared
pub object_there : (test : Declared → Bool) (c : Scenario) (o : ℕ) → is_declared test c o ≡ true → IsObject c o
object_there test c o h = there test c.objects o h

-- who acquires waits for a lock, or for a unit
acquired : (P : Waiting → Type 0) (o : ℕ) (x : Object) (w : Waiting) → w ≡ acquires o x → P (Waiting.Lock o) → P (Waiting.Acquire o) → P w
acquired P o x w e lock unit = subst P (sym e) (by x)
  where
    by : (x : Object) → P (acquires o x)
    by (Object.Lock owner depth) = lock
    by (Object.Event flag sets) = unit
    by (Object.Result outcome) = unit
    by (Object.Semaphore counter bound) = unit
    by (Object.Queue kind size items unfinished shut) = unit
    by (Object.Channel offers) = unit
    by (Object.Crew size members) = unit
    by (Object.Native slots outstanding) = unit

-- that wait is at its object, has no list, and its line says that it acquires
pub acquired_there : (c : Scenario) (o : ℕ) (x : Object) (w : Waiting) → w ≡ acquires o x → IsObject c o → IfSome (object_of w) (IsObject c)
acquired_there c o x w e h = acquired (λ v. IfSome (object_of v) (IsObject c)) o x w e h h

pub acquired_short : (o : ℕ) (x : Object) (w : Waiting) → w ≡ acquires o x → IsShort w
acquired_short o x w e = acquired IsShort o x w e tt tt

pub acquired_said : (o : ℕ) (x : Object) (w : Waiting) (s : State) → w ≡ acquires o x → awaited_of w s ≡ Awaited.Acquire (name_of_object o s)
acquired_said o x w s e = acquired (λ v. awaited_of v s ≡ Awaited.Acquire (name_of_object o s)) o x w e refl refl

-- the object at which a wait is, is declared
pub waits_there : (c : Scenario) (waiting w : Waiting) (o : ℕ) → IfSome (object_of waiting) (IsObject c) → waiting ≡ w → object_of w ≡ Some o → IsObject c o
waits_there c waiting w o h e k =
    subst (λ (x : Option ℕ). IfSome x (IsObject c)) k (subst (λ (x : Waiting). IfSome (object_of x) (IsObject c)) e h)

-- so is the group or pool in which a map waits
pub named_there : (c : Scenario) (w : Waiting) → IfSome (object_of w) (IsObject c) → IsNamed c w
named_there c (Waiting.MapPlace o f xs made) h = h
named_there c w h = tt

-- the object whose name stands in the line of the request
abbrev pub object_in : Request → Option ℕ
object_in (Request.WaitEvent o how) = Some o
object_in (Request.ResultGet o how) = Some o
object_in (Request.ResultWait o how) = Some o
object_in (Request.Acquire o how) = Some o
object_in (Request.QueuePut o v how) = Some o
object_in (Request.QueueGet o how) = Some o
object_in (Request.QueuePeek o how) = Some o
object_in (Request.QueueJoin o how) = Some o
object_in (Request.GroupSpawn o f args) = Some o
object_in (Request.GroupJoin o how) = Some o
object_in (Request.GroupKill o f how) = Some o
object_in (Request.Map o f v) = Some o
object_in (Request.NativeSpawn o kind v ms) = Some o
object_in (Request.ChannelPut o v) = Some o
object_in (Request.ChannelGet o) = Some o
object_in request = None

named-in : (c : Scenario) (r : Request) (p : ℕ) → object_in r ≡ Some p → fits_request c r ≡ true → IsObject c p
named-in c (Request.WaitEvent o how) p e h = let same : o ≡ p = cc e in subst (IsObject c) same (object_there (is_kind wanted.Event) c o h)
named-in c (Request.ResultGet o how) p e h = let same : o ≡ p = cc e in subst (IsObject c) same (object_there (is_kind wanted.Result) c o h)
named-in c (Request.ResultWait o how) p e h = let same : o ≡ p = cc e in subst (IsObject c) same (object_there (is_kind wanted.Result) c o h)
named-in c (Request.Acquire o how) p e h = let same : o ≡ p = cc e in subst (IsObject c) same (object_there (is_kind wanted.SemaphoreOrLock) c o h)
named-in c (Request.QueuePut o v how) p e h = let same : o ≡ p = cc e in subst (IsObject c) same (object_there (is_kind wanted.Queue) c o h)
named-in c (Request.QueueGet o how) p e h = let same : o ≡ p = cc e in subst (IsObject c) same (object_there (is_kind wanted.Queue) c o h)
named-in c (Request.QueuePeek o how) p e h = let same : o ≡ p = cc e in subst (IsObject c) same (object_there (is_kind wanted.Queue) c o h)
named-in c (Request.QueueJoin o how) p e h = let same : o ≡ p = cc e in subst (IsObject c) same (object_there (is_kind wanted.JoinQueue) c o h)
named-in c (Request.GroupSpawn o f args) p e h = let same : o ≡ p = cc e in subst (IsObject c) same (object_there (is_kind wanted.GroupOrPool) c o (left _ (is_function c f) h))
named-in c (Request.GroupJoin o how) p e h = let same : o ≡ p = cc e in subst (IsObject c) same (object_there (is_kind wanted.GroupOrPool) c o h)
named-in c (Request.GroupKill o f how) p e h = let same : o ≡ p = cc e in subst (IsObject c) same (object_there (is_kind wanted.GroupOrPool) c o h)
named-in c (Request.Map o f v) p e h = let same : o ≡ p = cc e in subst (IsObject c) same (object_there (is_kind wanted.GroupOrPool) c o (left _ (is_function c f) h))
named-in c (Request.NativeSpawn o kind v ms) p e h = let same : o ≡ p = cc e in subst (IsObject c) same (object_there (is_kind wanted.NativePool) c o h)
named-in c (Request.ChannelPut o v) p e h = let same : o ≡ p = cc e in subst (IsObject c) same (object_there (is_kind wanted.Channel) c o h)
named-in c (Request.ChannelGet o) p e h = let same : o ≡ p = cc e in subst (IsObject c) same (object_there (is_kind wanted.Channel) c o h)
named-in c r p e h = absurd (cc e)

-- it is declared, where the request fits its text
pub fits_there : (c : Scenario) (request r : Request) (o : ℕ) → fits_request c request ≡ true → request ≡ r → object_in r ≡ Some o → IsObject c o
fits_there c request r o h e k = named-in c r o k (subst (λ (x : Request). fits_request c x ≡ true) e h)
