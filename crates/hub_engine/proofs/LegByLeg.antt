-- Moves that a body makes where it stands, one leg after another.
use Rattle.std.proofs.Common.{◌≡◌, refl, ap, sym, ◌∙◌, subst, ℕ, zero, suc, ◌+◌, ◌-◌, ◌<◌, ◌≤◌, [], List, Option, None, Some, arith}
use Rattle.gv_values.specs.declared.fault.FaultKind.{FaultKind}
use Rattle.gv_values.specs.declared.limits.TheConstants.{MOST_MOVES}
use Rattle.gv_values.specs.declared.value.Outcome.{Outcome}
use Rattle.gv_values.specs.declared.value.Value.{Value}
use Rattle.scenario_tree.specs.declared.tree.Scenario.{Scenario}
use Rattle.machine.specs.declared.request.Request.{Request}
use Rattle.machine.specs.declared.state.Frame.{Frame}
use Rattle.machine.specs.declared.state.Leaving.{Leaving}
use Rattle.machine.specs.declared.state.Local.{Local}
use Rattle.machine.specs.declared.state.Phase.{Phase}
use Rattle.machine.specs.Bodies.{around}
use Rattle.machine.specs.Ends.{leaving_of}
use Rattle.machine.specs.Expressions.{Around, Look}
use Rattle.machine.specs.Greenlets.{no_frame, with_phase}
use Rattle.machine.specs.Items.{drop_items, is_timeout_of}
use Rattle.machine.specs.Landing.{Next, answered, given, lands}
use Rattle.machine.specs.Moves.{timeout_item}
use Rattle.machine.specs.Request.{follows, performs}
use Rattle.machine.specs.Run.{silent}
use Rattle.machine.specs.Settle.{settle}
use Rattle.machine.specs.Soundness.{phase_of}
use Rattle.machine.specs.State.{State}
use Rattle.machine.specs.Unwinding.{bind_if, unwind}
use Rattle.machine_rooms.specs.Rooms.{HasRoom, room_of_move}
use Rattle.machine_rooms.proofs.Requests.{performs-counts}
use Rattle.machine_rooms.proofs.Tallies.{live-open}
use Rattle.body_frames.specs.Destinations.{Arrives, HasMovedOn, IsMoving, inside}
use Rattle.body_entries.specs.Few.{HasFewToDo}
use Rattle.body_frames.specs.Places.{Came, Entered, Place, place_of}
use Rattle.body_frames.specs.Quick.{request_of}
use Rattle.body_frames.specs.Runs.{HasRun, MovesOn, came_of_move, more_of}
use Rattle.body_frames.specs.declared.quick.Quick.{Quick}
use Rattle.body_frames.specs.declared.running.Destination.{Destination}
use Rattle.body_frames.specs.declared.running.Moved.{Moved}
use Rattle.body_frames.specs.declared.runs.Halt.{Halt}
use Rattle.hub_objects.specs.Releases.{refused}
use Rattle.hub_state.specs.Sights.{Sight, look_of}
use Rattle.hub_requests.specs.Performing.{performed_of}
use Rattle.hub_engine.specs.declared.stand.Hop.{Hop}
use Rattle.hub_engine.specs.declared.stand.Progress.{Progress}
use Rattle.hub_engine.specs.declared.stand.Stand.{Stand}
use Rattle.hub_engine.specs.Asking.{IsDeclaredAfter}
use Rattle.hub_engine.specs.Legs.{ComesBy, EndsBy, GoesBy}
use Rattle.hub_engine.specs.Making.{MayMove}
use Rattle.hub_engine.specs.Onward.{LeadsOn, MovesTo}
use Rattle.hub_engine.specs.Progress.{ProgressesTo, next_of}
use Rattle.hub_engine.specs.Ready.{AreDeclared, IsReadyAt, IsReadyToMove}
use Rattle.hub_engine.specs.Settlings.{HasMoveRoom, HasMovesRoom, MaySettle, most_hops}
use Rattle.hub_engine.specs.Stands.{goes_to, hopped, next_at}
use Rattle.hub_engine.specs.Within.{IsWithinToMove}
use Rattle.hub_engine.proofs.Beside.{answered_quickly, answers_at_once, declared_beside, leaves_quickly, performed_beside, quickly_performed, still_under_way}
use Rattle.hub_engine.proofs.Moving.{asks_blind, asks_declared, enters_under_way, settles_under_way}
use Rattle.hub_engine.proofs.Readily.{going_sound, ready_going}
use Rattle.hub_engine.proofs.Settlings.{performed_settles}
use Rattle.hub_engine.proofs.Staying.{came_from, goes_by, none_left}
use Rattle.hub_engine.proofs.Within.{moves_room, within_moved}

-- ---- where the body comes to

-- it is at its next move, and no timeout block was left
goes-there : (g : ℕ) (b : Frame) (v : State) → goes_to lands g (Place.AtMove [] b) v ≡ next_of Progress.Stays g b v
goes-there g b v = ap (λ (x : State). Next.Going g (with_phase g (Phase.Live b) x)) (sym (none_left g [] v refl))

pub arrives_at_move : (p : Progress) (g : ℕ) (left : List ℕ) (place : Place) (to : Destination) (b : Frame) (s t : State) → p ≡ Progress.Stays → to ≡ Destination.Move left → Arrives place to b →
    t ≡ drop_items (is_timeout_of g left) s → ProgressesTo (goes_to lands g place s) p g b t
arrives_at_move p g left place to b s t stays is h e =
    let there : Arrives place (Destination.Move left) b = subst (λ (x : Destination). Arrives place x b) is h in
    subst (λ (x : Progress). ProgressesTo (goes_to lands g place s) x g b t) (sym stays)
    (record { comes = ap (λ (p : Place). goes_to lands g p s) there.0 ∙ ap (λ (x : State). Next.Going g (with_phase g (Phase.Live b) x)) (sym e); may = there.1 })

pub arrives_at_end : (g : ℕ) (left : List ℕ) (o : Outcome) (place : Place) (to : Destination) (b : Frame) (s t u : State) (hop : Hop) (at : Stand) → to ≡ Destination.End left o → Arrives place to b →
    goes_to lands g (Place.AtEnd left o) s ≡ hopped lands hop t → hopped lands hop t ≡ next_at at u → ProgressesTo (goes_to lands g place s) (Progress.At at) g b u
arrives_at_end g left o place to b s t u hop at is h e f =
    let there : Arrives place (Destination.End left o) b = subst (λ (x : Destination). Arrives place x b) is h in
    record { comes = ap (λ (p : Place). goes_to lands g p s) there ∙ e ∙ f; may = tt }

-- ---- one leg

pub ends_by : (p : Progress) (g n : ℕ) (a b : Frame) (s t v : State) (came : Came) → GoesBy g n a s t came → ComesBy g came t p b v → EndsBy p g n a s b v
ends_by p g n a b s t v came by h = record { moves = by.moves (next_of p g b v) h.comes; ready = by.ready (next_of p g b v) h.comes; may = h.may }

-- the body goes on by itself
pub comes_where : (p : Progress) (g : ℕ) (place : Place) (b : Frame) (s t u v : State) → t ≡ with_phase g (Phase.Live no_frame) s → u ≡ settle t → ProgressesTo (goes_to lands g place u) p g b v →
    ComesBy g (Came.Comes place) s p b v
comes_where p g place b s t u v e f h = record { comes = λ before. settles_under_way g before place s t u (next_of p g b v) e f h.comes; may = h.may }

-- it entered a timeout block
pub comes_inside : (p : Progress) (g n : ℕ) (ms : Option ℕ) (e : Entered) (b : Frame) (s t u v w x : State) → t ≡ with_phase g (Phase.Live no_frame) s → n ≡ t.timeouts + 1 →
    u ≡ record t { timeouts = t.timeouts + 1 } → v ≡ timeout_item g n ms u → w ≡ settle v → ProgressesTo (goes_to lands g (inside (s.timeouts + 1) e) w) p g b x → ComesBy g (Came.Enters ms e) s p b x
comes_inside p g n ms e b s t u v w x is_t is_n is_u is_v is_w h =
    record { comes = λ before. enters_under_way g n ms e before s t u v w (next_of p g b x) is_t is_n is_u is_v is_w h.comes; may = h.may }

-- it asked
pub comes_asking : (p : Progress) (g : ℕ) (request : Request) (asked b : Frame) (s v : State) → ProgressesTo (follows g (performs request g (with_phase g (Phase.Live asked) s))) p g b v →
    ComesBy g (Came.Asks request asked) s p b v
comes_asking p g request asked b s v h = record { comes = λ before. asks_blind g before asked request s (next_of p g b v) h.comes; may = h.may }

-- the moves stay in the body, and the hub settles
pub stays_by : (g n : ℕ) (a b : Frame) (s t v : State) → GoesBy g n a s t (Came.Comes (Place.AtMove [] b)) → v ≡ settle (with_phase g (Phase.Live no_frame) t) → IsMoving b →
    EndsBy Progress.Stays g n a s b v
stays_by g n a b s t v by e moving =
    let there = Place.AtMove [] b in
    ends_by Progress.Stays g n a b s t v (Came.Comes there) by
    (comes_where Progress.Stays g there b t (with_phase g (Phase.Live no_frame) t) v v refl e (record { comes = goes-there g b v; may = moving }))

-- ---- what is answered at once

-- what answers a request that this fault refused, or none
abbrev pub answer_of : Option FaultKind → Outcome
answer_of None = Outcome.Value Value.Nothing
answer_of (Some f) = Outcome.Fault f

follows-quickly : (g : ℕ) (refusal : Option FaultKind) (s : State) → follows g (performed_of (answered_quickly refusal) s) ≡ answered g (answer_of refusal) (settle s)
follows-quickly g None s = refl
follows-quickly g (Some f) s = refl

-- the last move asked what is answered at once, and that was performed
pub record Asked (g : ℕ) (b : Frame) (t u : State) (q : Quick) (which : Option FaultKind) (v : State) : Type 0 where
  pub declared : AreDeclared v
  pub under_way : phase_of g v.greenlets ≡ Some (Phase.Live no_frame)
  pub settles : MaySettle (most_hops + 2) v
  pub follows : follows g (performs (request_of q) g (with_phase g (Phase.Live b) t)) ≡ answered g (answer_of which) (settle (with_phase g (Phase.Live b) v))

pub asked_quickly : (g : ℕ) (b : Frame) (t u v : State) (q : Quick) (refusal which : Option FaultKind) → MayMove g t → HasMoveRoom g t → IsDeclaredAfter g (Came.Asks (request_of q) b) t →
    u ≡ with_phase g (Phase.Live no_frame) t → performs (request_of q) g u ≡ refused refusal v → refusal ≡ which → Asked g b t u q which v
asked_quickly g b t u v q refusal which may room after e h is =
    let r = request_of q in
    let came = answered_quickly which in
    let leaves = leaves_quickly q in
    let done = quickly_performed q g refusal which u v is h in
    record {
      declared = declared_beside g b r came t u v leaves e done (asks_declared g r b t after);
      under_way = still_under_way g r came t u v may leaves e done;
      settles = performed_settles room_of_move u (performs r g u) came v (λ x k. performs-counts x r g u k) (subst (HasRoom room_of_move) (sym e) (room.any no_frame)) done;
      follows = ap (follows g) (performed_beside g b r came t u v leaves e done) ∙ follows-quickly g which (with_phase g (Phase.Live b) v);
    }

-- the answer was given
pub answers_by : (p : Progress) (g n : ℕ) (a b c : Frame) (s t u v w : State) (q : Quick) (which : Option FaultKind) → GoesBy g n a s t (Came.Asks (request_of q) b) → Asked g b t u q which v →
    ProgressesTo (answered g (answer_of which) (settle (with_phase g (Phase.Live b) v))) p g c w → EndsBy p g n a s c w
answers_by p g n a b c s t u v w q which by asked h =
    ends_by p g n a c s t w (Came.Asks (request_of q) b) by (comes_asking p g (request_of q) b c t w (record { comes = asked.follows ∙ h.comes; may = h.may }))

-- the body takes the answer
pub answered_so : (p : Progress) (g : ℕ) (b c : Frame) (o : Outcome) (s u v : State) → phase_of g s.greenlets ≡ Some (Phase.Live no_frame) → u ≡ settle s →
    ProgressesTo (goes_to lands g (place_of (unwind b.todo [] (leaving_of o) (given b o))) u) p g c v → ProgressesTo (answered g o (settle (with_phase g (Phase.Live b) s))) p g c v
answered_so p g b c o s u v under e h = record { comes = answers_at_once g b o s u (next_of p g c v) under e h.comes; may = h.may }

-- the answer is none, which nobody takes, and the body is at its next move
pub stays_answered : (g : ℕ) (b : Frame) (s v : State) → phase_of g s.greenlets ≡ Some (Phase.Live no_frame) → v ≡ settle s → IsMoving b →
    ProgressesTo (answered g (answer_of None) (settle (with_phase g (Phase.Live b) s))) Progress.Stays g b v
stays_answered g b s v under e moving =
    let none = answer_of None in
    let there : place_of (unwind b.todo [] Leaving.Normally (given b none)) ≡ Place.AtMove [] b =
    ap (λ x. place_of (unwind b.todo [] Leaving.Normally (bind_if x Value.Nothing b.locals))) moving.unheard
    ∙ ap place_of (moving.runs [] b.locals)
    ∙ ap (λ x. Place.AtMove [] (record { locals = b.locals; todo = b.todo; gives = x })) (sym moving.unheard) in
    answered_so Progress.Stays g b b none s v v under e (record { comes = ap (λ (x : Place). goes_to lands g x v) there ∙ goes-there g b v; may = moving })

-- ---- what came of the next move, whatever that is

-- by the code of the hub, what may be asked of it, and its count of timeouts
pub moved_so : (g n m : ℕ) (s : State) (a : Frame) (code : Scenario) (seen : Sight) (moved : Moved) (b : Frame) → n ≡ m → code ≡ s.scenario → seen ≡ record { current = g; state = s } →
    HasMovedOn n (came_of_move (around code (look_of seen)) a) moved b → HasMovedOn m (came_from g s a) moved b
moved_so g n m s a code seen moved b is_n is_code is_seen h =
    subst (λ (k : ℕ). HasMovedOn k (came_from g s a) moved b) is_n
    (subst (λ (x : Sight). HasMovedOn n (came_of_move (around s.scenario (look_of x)) a) moved b) is_seen
    (subst (λ (x : Scenario). HasMovedOn n (came_of_move (around x (look_of seen)) a) moved b) is_code h))

pub progresses_comes : (p : Progress) (g n : ℕ) (came : Came) (to : Destination) (moved : Moved) (b : Frame) (t v : State) → moved ≡ Moved.Comes to → HasMovedOn n came moved b →
    ((place : Place) (body : Frame) → Arrives place to body → ComesBy g (Came.Comes place) t p body v) → ComesBy g came t p b v
progresses_comes p g n came to moved b t v is h f =
    let there = subst (λ (x : Moved). HasMovedOn n came x b) is h in
    subst (λ (x : Came). ComesBy g x t p b v) (sym there.1) (f there.0 b there.2)

pub progresses_inside : (p : Progress) (g n : ℕ) (came : Came) (ms : Option ℕ) (to : Destination) (moved : Moved) (b : Frame) (t v : State) → moved ≡ Moved.Enters ms to → HasMovedOn n came moved b →
    ((e : Entered) (body : Frame) → Arrives (inside n e) to body → ComesBy g (Came.Enters ms e) t p body v) → ComesBy g came t p b v
progresses_inside p g n came ms to moved b t v is h f =
    let there = subst (λ (x : Moved). HasMovedOn n came x b) is h in
    subst (λ (x : Came). ComesBy g x t p b v) (sym there.1) (f there.0 b there.2)

pub asks_so : (n : ℕ) (came : Came) (request : Request) (moved : Moved) (b : Frame) → moved ≡ Moved.Asks request → HasMovedOn n came moved b → (came ≡ Came.Asks request b) × HasFewToDo b.todo
asks_so n came request moved b is h = subst (λ (x : Moved). HasMovedOn n came x b) is h

-- ---- what a body made where it stands

-- it leaves a block
abbrev pub came_out : Frame → Came
came_out b = Came.Comes (place_of (unwind b.todo [] Leaving.Normally b.locals))

-- so many moves that stay in the body, at least one
pub ran_ahead : (around : List Local → Around) (n : ℕ) (a b : Frame) → 0 < n → HasRun around n Halt.Ahead a b → MovesOn around (n - 1) a (Came.Comes (Place.AtMove [] b))
ran_ahead around zero a b some h = absurd (omega (arith, some))
ran_ahead around (suc n) a b some h = let one : n ≡ suc n - 1 = omega arith in subst (λ k. MovesOn around k a (Came.Comes (Place.AtMove [] b))) one h

pub ran_nowhere : (around : List Local → Around) (n : ℕ) (a b : Frame) → n ≡ 0 → HasRun around n Halt.Ahead a b → b ≡ a
ran_nowhere around n a b none h = subst (λ k. HasRun around k Halt.Ahead a b) none h

-- by the code of the hub, and what stopped it
pub ran_as : (c d : Scenario) (look : Look) (n : ℕ) (halt which : Halt) (a b : Frame) → d ≡ c → halt ≡ which → HasRun (around d look) n halt a b → HasRun (around c look) n which a b
ran_as c d look n halt which a b code is h =
    subst (λ (x : Scenario). HasRun (around x look) n which a b) code (subst (λ (x : Halt). HasRun (around d look) n x a b) is h)

-- fewer moves than may be
pub counted_as : (n most : ℕ) (halt which : Halt) → halt ≡ which → n + more_of halt ≤ most → n + more_of which ≤ most
counted_as n most halt which is h = subst (λ (x : Halt). n + more_of x ≤ most) is h

-- one move, whatever it is
pub goes_once : (g : ℕ) (a : Frame) (s t : State) (came : Came) → IsReadyToMove g (with_phase g (Phase.Live a) s) → MovesOn (around s.scenario (look_of (record { current = g; state = s }))) 0 a came →
    t ≡ record s { moves = s.moves + 1 } → GoesBy g 0 a s t came
goes_once g a s t came ready on e = goes_by g 0 1 a s t came (λ some. absurd (omega (arith, some))) (omega arith) ready on e

-- there is room for as many moves as may be
pub room_for : (g most n k : ℕ) (s : State) → HasMovesRoom most g s → n < most → k ≡ n + 1 → HasMoveRoom g (record s { moves = s.moves + k })
room_for g most n k s room less e = subst (λ m. HasMoveRoom g (record s { moves = s.moves + m })) (sym e) (room.each n less)

-- ---- one leg after another

pub leads_nowhere : (g : ℕ) (s : State) → LeadsOn g 0 s s
leads_nowhere g s = λ k next h. let same : k ≡ 0 + k = omega arith in subst (λ n. MovesTo g n s next) same h

joined : (g n : ℕ) (s t : State) → t ≡ silent t → MovesTo g n s (Next.Going g t) → LeadsOn g (n + 1) s t
joined g zero s t e m = λ k next h. let same : suc k ≡ zero + 1 + k = omega arith in subst (λ i. MovesTo g i s next) same (t, m, e, h)
joined g (suc n) s t e m = λ k next h. let same : suc (n + 1 + k) ≡ suc n + 1 + k = omega arith in subst (λ i. MovesTo g i s next) same (m.0, m.1, m.2, joined g n m.0 t e m.3 k next h)

pub leads_on : (g m n : ℕ) (r s t : State) → LeadsOn g m r s → t ≡ silent t → MovesTo g n s (Next.Going g t) → LeadsOn g (m + (n + 1)) r t
leads_on g m n r s t leads e moves = λ k next h.
    let same : m + (n + 1 + k) ≡ m + (n + 1) + k = omega arith in
    subst (λ i. MovesTo g i r next) same (leads (n + 1 + k) next (joined g n s t e moves k next h))

-- ---- within the budgets

pub room_ahead : (most g : ℕ) (body : Frame) (s : State) → IsReadyToMove g (with_phase g (Phase.Live body) s) → IsWithinToMove g (with_phase g (Phase.Live body) s) → s.moves + most ≤ MOST_MOVES →
    HasMovesRoom most g s
room_ahead most g body s ready within few = moves_room most g body s within (live-open _ (going_sound g _ ready).1.live) few

-- where the hub has nothing to give out, so does the greenlet's
pub silent_with : (g : ℕ) (body : Frame) (s : State) → s ≡ silent s → with_phase g (Phase.Live body) s ≡ silent (with_phase g (Phase.Live body) s)
silent_with g body s e = ap (λ (x : State). with_phase g (Phase.Live body) x) e

-- the greenlet is to move again, within the budgets, where so many moves more were made
pub record IsOn (g moves : ℕ) (s : State) : Type 0 where
  pub ready : IsReadyToMove g s
  pub within : IsWithinToMove g s
  pub moves_are : s.moves ≡ moves

pub stays_on : (g n : ℕ) (s t : State) → IsWithinToMove g s → s.moves + (n + 1) ≤ MOST_MOVES → t ≡ silent t → MovesTo g n s (Next.Going g t) → IsReadyAt (Next.Going g t) → IsOn g (s.moves + (n + 1)) t
stays_on g n s t h few e moves ready =
    let on = within_moved h.may h.turns g n h.before s (Next.Going g t) h.within h.same few moves in
    record {
      ready = ready_going g t t ready e;
      within = record { may = h.may; turns = h.turns; before = t; within = on.within; same = e };
      moves_are = on.moves_are;
    }

-- ---- all the legs

-- after so many moves the body stands so in the hub, and goes on
pub record GoesOn (g made most : ℕ) (from : State) (body : Frame) (s : State) : Type 0 where
  pub left : made < most
  pub few : s.moves + most ≤ MOST_MOVES + made
  pub leads : LeadsOn g made from (with_phase g (Phase.Live body) s)
  pub ready : IsReadyToMove g (with_phase g (Phase.Live body) s)
  pub within : IsWithinToMove g (with_phase g (Phase.Live body) s)
  pub moving : IsMoving body

pub goes_first : (g most : ℕ) (body : Frame) (s : State) → 0 < most → s.moves + most ≤ MOST_MOVES → IsReadyToMove g (with_phase g (Phase.Live body) s) → IsWithinToMove g (with_phase g (Phase.Live body) s) →
    IsMoving body → GoesOn g 0 most (with_phase g (Phase.Live body) s) body s
goes_first g most body s some few ready within moving =
    record { left = some; few = omega (arith, few); leads = leads_nowhere g (with_phase g (Phase.Live body) s); ready = ready; within = within; moving = moving }

-- one leg more, with nothing to give out after it
pub goes_further : (g made most n : ℕ) (p : Progress) (from : State) (a b : Frame) (s t : State) → GoesOn g made most from a s → EndsBy p g n a s b t → p ≡ Progress.Stays → 1 < most - made - n →
    t ≡ silent t → GoesOn g (made + (n + 1)) most from b t
goes_further g made most n p from a b s t h ends is left e =
    let by : EndsBy Progress.Stays g n a s b t = subst (λ (x : Progress). EndsBy x g n a s b t) is ends in
    let few = h.few in
    let here = with_phase g (Phase.Live a) s in
    let there = with_phase g (Phase.Live b) t in
    let still = silent_with g b t e in
    let fits : s.moves + (n + 1) ≤ MOST_MOVES = omega (arith, few, left) in
    let on : IsOn g (s.moves + (n + 1)) there = stays_on g n here there h.within fits still by.moves by.ready in
    let counted : t.moves ≡ s.moves + (n + 1) = on.moves_are in
    record {
      left = omega (arith, left);
      few = omega (arith, few, counted);
      leads = leads_on g made n from here there h.leads still by.moves;
      ready = on.ready;
      within = on.within;
      moving = by.may;
    }

-- the last leg, after so many moves
pub last_leg : (g made most n : ℕ) (p : Progress) (from a b : Frame) (s t u : State) → GoesOn g made most (with_phase g (Phase.Live from) s) a t → EndsBy p g n a t b u → EndsBy p g (made + n) from s b u
last_leg g made most n p from a b s t u h ends = record { moves = h.leads n (next_of p g b u) ends.moves; ready = ends.ready; may = ends.may }

-- the step is finished: after so many moves and one more, of which it comes to stand there
pub record HasStepped (g n : ℕ) (s : State) (next : Next) : Type 0 where
  pub moved : MovesTo g n s next
  pub ready : IsReadyAt next

pub has_stepped : (p : Progress) (g n : ℕ) (body a b : Frame) (s t u : State) (at : Stand) → a ≡ body → EndsBy p g n a s b t → next_of p g b t ≡ next_at at u →
    HasStepped g n (with_phase g (Phase.Live body) s) (next_at at u)
has_stepped p g n body a b s t u at same ends is = record {
  moved = subst (λ (x : Frame). MovesTo g n (with_phase g (Phase.Live x) s) (next_at at u)) same (subst (MovesTo g n (with_phase g (Phase.Live a) s)) is ends.moves);
  ready = subst IsReadyAt is ends.ready;
}

-- what is left, where the body that it was made from is as before
pub ends_as_before : {p : Progress} {g : ℕ} {s : State} {c : Frame} {t : State} (a b : Frame) → b ≡ a → EndsBy p g 0 a s c t → EndsBy p g 0 b s c t
ends_as_before {p} {g} {s} {c} {t} a b same h = subst (λ (x : Frame). EndsBy p g 0 x s c t) (sym same) h

-- where none was made, all is as before
pub as_before : (P : Frame → Type 0) (a b : Frame) → b ≡ a → P a → P b
as_before P a b same h = subst P (sym same) h
