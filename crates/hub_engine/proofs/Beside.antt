-- Requests that have nothing to do with greenlets: they come to the same, whatever greenlets there are.
use Rattle.std.proofs.Common.{◌≡◌, refl, ap, sym, ◌∙◌, ℕ, zero, suc, ◌==◌, Bool, true, false, List, [], ◌∷◌, Option, Some, None, slice_set, if◌then◌else◌, arith}
use Rattle.std.proofs.lemmas.Bool.{true≢false}
use Rattle.gv_values.specs.Job.{job_of}
use Rattle.gv_values.specs.declared.fault.FaultKind.{FaultKind}
use Rattle.gv_values.specs.declared.value.Outcome.{Outcome}
use Rattle.scenario_tree.specs.declared.tree.Wait.{Wait}
use Rattle.trace_text.specs.declared.line.Awaited.{Awaited}
use Rattle.machine.specs.declared.items.Waiting.{Waiting}
use Rattle.machine.specs.declared.request.Request.{Request}
use Rattle.machine.specs.declared.state.Frame.{Frame}
use Rattle.machine.specs.declared.state.Greenlet.{Greenlet}
use Rattle.machine.specs.declared.state.Object.{Object}
use Rattle.machine.specs.declared.state.Phase.{Phase}
use Rattle.machine.specs.Ends.{leaving_of}
use Rattle.machine.specs.Greenlets.{no_frame, with_phase}
use Rattle.machine.specs.Holds.{earlier, is_take, newcomer_completes}
use Rattle.machine.specs.Landing.{Next, answered, given, lands, resumes}
use Rattle.machine.specs.Objects.{at_bound, is_left, is_shut, name_of_object, object_at, sets_of, takes_value}
use Rattle.machine.specs.Request.{acquires, fault_operand, finishes, follows, int_operand, performs, releases, typed}
use Rattle.machine.specs.Settle.{settle}
use Rattle.machine.specs.Soundness.{is_live, phase_of}
use Rattle.machine.specs.State.{State}
use Rattle.machine.specs.Unwinding.{unwind}
use Rattle.machine.specs.Waits.{Performed, comes, completes, waits}
use Rattle.machine_trace_laws.specs.Reached.{state_of_next}
use Rattle.body_frames.specs.Places.{place_of}
use Rattle.body_frames.specs.Quick.{request_of}
use Rattle.machine.specs.declared.deed.Deed.{Deed}
use Rattle.body_frames.specs.declared.quick.Quick.{Quick}
use Rattle.hub_objects.specs.Releases.{refused}
use Rattle.hub_requests.specs.Performing.{nothing_answered, performed_of, raised}
use Rattle.hub_requests.specs.declared.performed.Performed.{Performed as Came}
use Rattle.hub_engine.specs.Asking.{leaves_greenlets}
use Rattle.hub_engine.specs.Making.{MayMove}
use Rattle.hub_engine.specs.Ready.{AreDeclared}
use Rattle.hub_engine.specs.Stands.{goes_to}
use Rattle.hub_engine.proofs.Blind.{phase_same, phase_twice, phased, resumes_blind}
use Rattle.hub_engine.proofs.Bodies.{goes_as_placed}
use Rattle.hub_engine.proofs.Functions.{declared_followed, declared_unphased}
use Rattle.hub_engine.proofs.Moving.{body-at, settle-under-way}

-- what came of a request, where these are the greenlets
abbrev pub among : List Greenlet → Performed → Performed
among gs (Performed.Answers o s) = Performed.Answers o (record s { greenlets = gs })
among gs (Performed.Parks s) = Performed.Parks (record s { greenlets = gs })
among gs (Performed.Lands h o s) = Performed.Lands h o (record s { greenlets = gs })
among gs (Performed.Stops cause s) = Performed.Stops cause (record s { greenlets = gs })

among-if : (gs : List Greenlet) (b : Bool) (x y p q : Performed) → x ≡ among gs p → y ≡ among gs q → (if b then x else y) ≡ among gs (if b then p else q)
among-if gs true x y p q e f = e
among-if gs false x y p q e f = f

-- ---- waits at objects

-- the state where these are the greenlets
abbrev with_all : List Greenlet → State → State
with_all gs s = record s { greenlets = gs }

-- where the wait reads no greenlet, and completes without one
comes-beside : (gs : List Greenlet) (g : ℕ) (word : Awaited) (w : Waiting) (how : Wait) (s : State) → newcomer_completes (with_all gs s) g w ≡ newcomer_completes s g w →
    completes g s.next_since w (with_all gs s) ≡ among gs (completes g s.next_since w s) → ((ms : ℕ) → waits g word w (Wait.Within ms) (with_all gs s) ≡ among gs (waits g word w (Wait.Within ms) s)) →
    waits g word w Wait.Now (with_all gs s) ≡ among gs (waits g word w Wait.Now s) → comes g word w how (with_all gs s) ≡ among gs (comes g word w how s)
comes-beside gs g word w how s same done within now =
    ap (λ b. if b then completes g s.next_since w (with_all gs s) else waits g word w how (with_all gs s)) same
    ∙ among-if gs (newcomer_completes s g w) (completes g s.next_since w (with_all gs s)) (waits g word w how (with_all gs s)) (completes g s.next_since w s) (waits g word w how s) done (waiting how)
  where
    waiting : (how : Wait) → waits g word w how (with_all gs s) ≡ among gs (waits g word w how s)
    waiting Wait.Block = refl
    waiting (Wait.Within ms) = within ms
    waiting Wait.Now = now

acquires-beside : (gs : List Greenlet) (g o : ℕ) (word : Awaited) (how : Wait) (object : Object) (s : State) → comes g word (acquires o object) how (with_all gs s) ≡ among gs (comes g word (acquires o object) how s)
acquires-beside gs g o word how (Object.Lock owner depth) s = comes-beside gs g word (Waiting.Lock o) how s refl refl (λ ms. refl) refl
acquires-beside gs g o word how object s = comes-beside gs g word (Waiting.Acquire o) how s refl refl (λ ms. refl) refl

releases-beside : (gs : List Greenlet) (g o : ℕ) (object : Object) (s : State) → releases g o object (with_all gs s) ≡ among gs (releases g o object s)
releases-beside gs g o (Object.Semaphore counter bound) s = among-if gs (at_bound counter bound) _ _ _ _ refl refl
releases-beside gs g o (Object.Lock (Some h) depth) s = among-if gs (g == h) _ _ _ _ refl refl
releases-beside gs g o (Object.Lock None depth) s = refl
releases-beside gs g o object s = refl

finishes-beside : (gs : List Greenlet) (o : ℕ) (object : Object) (s : State) → finishes o object (with_all gs s) ≡ among gs (finishes o object s)
finishes-beside gs o (Object.Queue kind size items (suc n) shut) s = refl
finishes-beside gs o object s = refl

-- an operand of its kind, or a TypeError
typed-beside : {A : Type 0} (gs : List Greenlet) (x : Option A) (s : State) (f h : A → Performed) → ((a : A) → f a ≡ among gs (h a)) → typed x (with_all gs s) f ≡ among gs (typed x s h)
typed-beside gs None s f h e = refl
typed-beside gs (Some a) s f h e = e a

-- ---- the requests

pub beside : (request : Request) (gs : List Greenlet) (g : ℕ) (s : State) → leaves_greenlets request ≡ true → performs request g (with_all gs s) ≡ among gs (performs request g s)
unfolding performs
beside (Request.Print v) gs g s h = refl
beside (Request.Sleep ms) gs g s h = refl
beside (Request.Set o) gs g s h = refl
beside (Request.Clear o) gs g s h = refl
beside (Request.WaitEvent o how) gs g s h = comes-beside gs g (Awaited.Wait (name_of_object o s)) (Waiting.Event o (sets_of (object_at o s))) how s refl refl (λ ms. refl) refl
beside (Request.ResultSet o v) gs g s h = refl
beside (Request.ResultFail o v) gs g s h = typed-beside gs (fault_operand (Some v)) s _ _ (λ f. refl)
beside (Request.ResultGet o how) gs g s h = comes-beside gs g (Awaited.ResultGet (name_of_object o s)) (Waiting.ResultGet o) how s refl refl (λ ms. refl) refl
beside (Request.ResultWait o how) gs g s h = comes-beside gs g (Awaited.ResultWait (name_of_object o s)) (Waiting.ResultWait o) how s refl refl (λ ms. refl) refl
beside (Request.Acquire o how) gs g s h = acquires-beside gs g o (Awaited.Acquire (name_of_object o s)) how (object_at o s) s
beside (Request.Release o) gs g s h = releases-beside gs g o (object_at o s) s
beside (Request.QueuePut o v how) gs g s h =
    among-if gs (takes_value (object_at o s) v) _ _ _ _
    (comes-beside gs g (Awaited.QueuePut (name_of_object o s)) (Waiting.Put o v) how s refl (among-if gs (is_shut (object_at o s)) _ _ _ _ refl refl) (λ ms. refl) refl)
    refl
beside (Request.QueueGet o how) gs g s h =
    comes-beside gs g (Awaited.QueueGet (name_of_object o s)) (Waiting.Take o) how s refl (among-if gs (is_left (earlier (is_take o) s.next_since s.items) (object_at o s)) _ _ _ _ refl refl) (λ ms. refl) refl
beside (Request.QueuePeek o how) gs g s h =
    comes-beside gs g (Awaited.QueuePeek (name_of_object o s)) (Waiting.Peek o) how s refl (among-if gs (is_left (earlier (is_take o) s.next_since s.items) (object_at o s)) _ _ _ _ refl refl) (λ ms. refl) refl
beside (Request.QueueDone o) gs g s h = finishes-beside gs o (object_at o s) s
beside (Request.QueueJoin o how) gs g s h = comes-beside gs g (Awaited.QueueJoin (name_of_object o s)) (Waiting.Tasks o) how s refl refl (λ ms. refl) refl
beside (Request.GroupJoin o how) gs g s h = comes-beside gs g (Awaited.GroupJoin (name_of_object o s)) (Waiting.Members o) how s refl refl (λ ms. refl) refl
beside (Request.NativeSpawn o kind v ms) gs g s h =
    typed-beside gs (int_operand v) s _ _ (λ z. comes-beside gs g (Awaited.NativeSpawn (name_of_object o s)) (Waiting.Slot o (job_of kind z) ms) Wait.Block s refl refl (λ n. refl) refl)
beside (Request.ChannelPut o v) gs g s h = refl
beside (Request.ChannelGet o) gs g s h = comes-beside gs g (Awaited.ChannelGet (name_of_object o s)) (Waiting.TakeOffer o) Wait.Block s refl refl (λ ms. refl) refl
beside (Request.QueueShut o immediate) gs g s h = refl
beside request gs g s h = absurd (true≢false (sym h))

-- ---- the body stands beside the hub

among-twice : (gs hs : List Greenlet) (p : Performed) → among gs (among hs p) ≡ among gs p
among-twice gs hs (Performed.Answers o s) = refl
among-twice gs hs (Performed.Parks s) = refl
among-twice gs hs (Performed.Lands h o s) = refl
among-twice gs hs (Performed.Stops cause s) = refl

among-of : (gs : List Greenlet) (came : Came) (v : State) → among gs (performed_of came v) ≡ performed_of came (with_all gs v)
among-of gs (Came.Answers o) v = refl
among-of gs Came.Parks v = refl
among-of gs (Came.Lands h o) v = refl
among-of gs (Came.Stops cause) v = refl

-- the greenlets that are there then
abbrev greenlets_after : Performed → List Greenlet
greenlets_after (Performed.Answers o s) = s.greenlets
greenlets_after (Performed.Parks s) = s.greenlets
greenlets_after (Performed.Lands h o s) = s.greenlets
greenlets_after (Performed.Stops cause s) = s.greenlets

after-among : (gs : List Greenlet) (p : Performed) → greenlets_after (among gs p) ≡ gs
after-among gs (Performed.Answers o s) = refl
after-among gs (Performed.Parks s) = refl
after-among gs (Performed.Lands h o s) = refl
after-among gs (Performed.Stops cause s) = refl

after-of : (came : Came) (v : State) → greenlets_after (performed_of came v) ≡ v.greenlets
after-of (Came.Answers o) v = refl
after-of Came.Parks v = refl
after-of (Came.Lands h o) v = refl
after-of (Came.Stops cause) v = refl

-- the greenlets where the greenlet has this phase
abbrev phased_all : ℕ → Phase → List Greenlet → List Greenlet
phased_all g p gs = slice_set gs g (phased gs g p)

greenlets-stay : (g : ℕ) (request : Request) (came : Came) (s t v : State) → leaves_greenlets request ≡ true → t ≡ with_phase g (Phase.Live no_frame) s → performs request g t ≡ performed_of came v →
    v.greenlets ≡ phased_all g (Phase.Live no_frame) s.greenlets
greenlets-stay g request came s t v leaves e h =
    let none = phased_all g (Phase.Live no_frame) s.greenlets in
    sym (after-of came v) ∙ ap greenlets_after (sym h ∙ ap (performs request g) e ∙ beside request none g s leaves) ∙ after-among none (performs request g s)

-- it comes to the same where the body waits in the hub
pub performed_beside : (g : ℕ) (body : Frame) (request : Request) (came : Came) (s t v : State) → leaves_greenlets request ≡ true → t ≡ with_phase g (Phase.Live no_frame) s →
    performs request g t ≡ performed_of came v → performs request g (with_phase g (Phase.Live body) s) ≡ performed_of came (with_phase g (Phase.Live body) v)
performed_beside g body request came s t v leaves e h =
    let none = phased_all g (Phase.Live no_frame) s.greenlets in
    let some = phased_all g (Phase.Live body) s.greenlets in
    beside request some g s leaves
    ∙ sym (among-twice some none (performs request g s))
    ∙ ap (among some) (sym (beside request none g s leaves) ∙ ap (performs request g) (sym e) ∙ h)
    ∙ among-of some came v
    ∙ ap (λ gs. performed_of came (with_all gs v))
    (sym (phase_twice s.greenlets g (Phase.Live no_frame) (Phase.Live body)) ∙ ap (phased_all g (Phase.Live body)) (sym (greenlets-stay g request came s t v leaves e h)))

phase-there : (gs : List Greenlet) (g : ℕ) (frame : Frame) → is_live (phase_of g (phased_all g (Phase.Live frame) gs)) ≡ true → phase_of g (phased_all g (Phase.Live frame) gs) ≡ Some (Phase.Live frame)
phase-there [] g frame h = absurd (grind (arith, h))
phase-there (x ∷ gs) zero frame h = refl
phase-there (x ∷ gs) (suc g) frame h = phase-there gs g frame h

-- the greenlet is under way still
pub still_under_way : (g : ℕ) (request : Request) (came : Came) (s t v : State) → MayMove g s → leaves_greenlets request ≡ true → t ≡ with_phase g (Phase.Live no_frame) s →
    performs request g t ≡ performed_of came v → phase_of g v.greenlets ≡ Some (Phase.Live no_frame)
still_under_way g request came s t v may leaves e h =
    ap (phase_of g) (greenlets-stay g request came s t v leaves e h) ∙ phase-there s.greenlets g no_frame (may.any no_frame).sound.1.live

-- functions are known where the body waits, and where it stands beside the hub
pub declared_waiting : (g : ℕ) (body : Frame) (request : Request) (came : Came) (s t v w : State) → leaves_greenlets request ≡ true → t ≡ with_phase g (Phase.Live no_frame) s →
    performs request g t ≡ performed_of came v → AreDeclared (state_of_next (follows g (performs request g (with_phase g (Phase.Live body) s)))) → w ≡ with_phase g (Phase.Live body) v → AreDeclared w
declared_waiting g body request came s t v w leaves e h after f =
    declared_followed g (performs request g (with_phase g (Phase.Live body) s)) came w after (performed_beside g body request came s t v leaves e h ∙ ap (performed_of came) (sym f))

pub declared_beside : (g : ℕ) (body : Frame) (request : Request) (came : Came) (s t v : State) → leaves_greenlets request ≡ true → t ≡ with_phase g (Phase.Live no_frame) s →
    performs request g t ≡ performed_of came v → AreDeclared (state_of_next (follows g (performs request g (with_phase g (Phase.Live body) s)))) → AreDeclared v
declared_beside g body request came s t v leaves e h after =
    declared_unphased g (Phase.Live body) v (declared_waiting g body request came s t v (with_phase g (Phase.Live body) v) leaves e h after refl)

-- ---- the answer at once

phase-set : (gs : List Greenlet) (g : ℕ) (p q : Phase) → phase_of g gs ≡ Some q → phase_of g (phased_all g p gs) ≡ Some p
phase-set [] g p q h = absurd (grind (arith, h))
phase-set (x ∷ gs) zero p q h = refl
phase-set (x ∷ gs) (suc g) p q h = phase-set gs g p q h

pub answers_at_once : (g : ℕ) (body : Frame) (o : Outcome) (s u : State) (next : Next) → phase_of g s.greenlets ≡ Some (Phase.Live no_frame) → u ≡ settle s →
    goes_to lands g (place_of (unwind body.todo [] (leaving_of o) (given body o))) u ≡ next → answered g o (settle (with_phase g (Phase.Live body) s)) ≡ next
answers_at_once g body o s u next under e h =
    let p = Phase.Live body in
    let same : with_phase g (Phase.Live no_frame) s ≡ s = ap (λ gs. with_all gs s) (phase_same s.greenlets g (Phase.Live no_frame) under) in
    let settled : settle (with_phase g p s) ≡ with_phase g p u =
    ap (λ (x : State). settle (with_phase g p x)) (sym same) ∙ settle-under-way g body s ∙ ap (λ (x : State). with_phase g p (settle x)) same ∙ ap (with_phase g p) (sym e) in
    let live : is_live (phase_of g (with_phase g p u).greenlets) ≡ true =
    ap is_live (phase-set u.greenlets g p (Phase.Live no_frame) (ap (λ (x : State). phase_of g x.greenlets) e ∙ under)) in
    ap (answered g o) settled
    ∙ ap (λ (b : Frame). resumes lands g b o (with_phase g p u)) (body-at u.greenlets g body live)
    ∙ resumes_blind lands g body o p u
    ∙ goes_as_placed lands g (unwind body.todo [] (leaving_of o) (given body o)) u
    ∙ h

-- ---- what is answered at once

-- the answer, or the fault
abbrev pub answered_quickly : Option FaultKind → Came
answered_quickly None = nothing_answered
answered_quickly (Some f) = raised f

pub leaves_quickly : (q : Quick) → leaves_greenlets (request_of q) ≡ true
leaves_quickly (Quick.PrintInteger z) = refl
leaves_quickly (Quick.PrintTruth b) = refl
leaves_quickly (Quick.At o Deed.Set) = refl
leaves_quickly (Quick.At o Deed.Clear) = refl
leaves_quickly (Quick.At o Deed.Release) = refl
leaves_quickly (Quick.At o Deed.QueueDone) = refl

refused_as : (fault : Option FaultKind) (s : State) → refused fault s ≡ performed_of (answered_quickly fault) s
refused_as None s = refl
refused_as (Some f) s = refl

pub quickly_performed : (q : Quick) (g : ℕ) (fault which : Option FaultKind) (s t : State) → fault ≡ which → performs (request_of q) g s ≡ refused fault t →
    performs (request_of q) g s ≡ performed_of (answered_quickly which) t
quickly_performed q g fault which s t is h = h ∙ refused_as fault t ∙ ap (λ (f : Option FaultKind). performed_of (answered_quickly f) t) is
