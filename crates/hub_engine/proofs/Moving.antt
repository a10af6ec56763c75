-- A move of a greenlet whose body stands with the step of the hub.
use Rattle.std.proofs.Common.{◌≡◌, refl, ap, sym, ◌∙◌, subst, ℕ, zero, suc, ◌+◌, ◌==◌, Bool, true, false, List, [], ◌∷◌, map, Option, Some, None, slice_get, slice_set, unwrap_or, if◌then◌else◌, arith}
use Rattle.std.proofs.lemmas.Bool.Decides.{nat_tests}
use Rattle.std.proofs.Math.Path.{fun_ext}
use Rattle.std.specs.Prelude.{is_some, nat_le, count_by}
use Rattle.std.specs.List.{list_all}
use Rattle.gv_values.specs.declared.value.Outcome.{Outcome}
use Rattle.gv_values.specs.declared.value.Whom.{Whom}
use Rattle.machine.specs.declared.items.Delivery.{Delivery}
use Rattle.machine.specs.declared.items.Item.{Item}
use Rattle.machine.specs.declared.items.Waiting.{Waiting}
use Rattle.machine.specs.declared.state.Frame.{Frame}
use Rattle.machine.specs.declared.state.Greenlet.{Greenlet}
use Rattle.machine.specs.declared.state.Leaving.{Leaving}
use Rattle.machine.specs.declared.state.Local.{Local}
use Rattle.machine.specs.declared.state.Todo.{Todo}
use Rattle.machine.specs.declared.state.Phase.{Phase}
use Rattle.machine.specs.Bodies.{around}
use Rattle.machine.specs.Expressions.{Look}
use Rattle.machine.specs.BodyMoves.{Did, body_move}
use Rattle.machine.specs.Holds.{delivery_holds, holds, link_holds, outcome_of, outcome_of_phase, wait_holds}
use Rattle.machine.specs.Soundness.{phase_of, is_live}
use Rattle.machine.specs.Landing.{Next, goes_on, lands}
use Rattle.machine.specs.Greenlets.{frame_of, greenlet, no_frame, nobody, with_phase}
use Rattle.machine.specs.Moves.{does, enters, look, move, timeout_item}
use Rattle.machine.specs.Request.{follows, performs}
use Rattle.machine.specs.Unwinding.{unwind}
use Rattle.machine.specs.Settle.{numbers_after, settle, settled}
use Rattle.machine.specs.State.{State}
use Rattle.body_frames.specs.Destinations.{inside}
use Rattle.body_frames.specs.Places.{Came, Entered, Place, came_by}
use Rattle.hub_state.specs.Sights.{look_of, outcome_seen}
use Rattle.hub_engine.specs.Asking.{IsDeclaredAfter, does_came, fits_came}
use Rattle.hub_engine.specs.Ready.{AreDeclared, IsReadyToMove}
use Rattle.hub_engine.proofs.Readily.{declared_ready, going_fits, going_sound, ready_move}
use Rattle.machine_trace_laws.specs.Reached.{state_of_next}
use Rattle.machine_reached.specs.Meant.{fits_did}
use Rattle.machine_soundness.specs.Going.{next_did}
use Rattle.scenario_tree.specs.declared.tree.Scenario.{Scenario}
use Rattle.machine.specs.declared.request.Request.{Request}
use Rattle.hub_engine.specs.Stands.{goes_to}
use Rattle.hub_engine.proofs.Blind.{goes_on_blind, goes_to_blind, phased, with_phase_twice}
use Rattle.hub_engine.proofs.Bodies.{goes_as_placed}

-- ---- what the body may ask of the hub

-- what the greenlet at this place has ended with
abbrev pub ended_at : List Greenlet → ℕ → Option Outcome
ended_at gs h = elim (slice_get gs h) [ None ↦ None | Some x ↦ outcome_of_phase x.phase ]

ended-here : (gs : List Greenlet) (g : ℕ) (x : Greenlet) → outcome_of_phase x.phase ≡ None → ended_at (slice_set gs g x) g ≡ None
ended-here [] g x e = refl
ended-here (y ∷ gs) zero x e = e
ended-here (y ∷ gs) (suc g) x e = ended-here gs g x e

ended-other : (gs : List Greenlet) (g h : ℕ) (x : Greenlet) → (g ≡ h → ⊥) → ended_at (slice_set gs g x) h ≡ ended_at gs h
ended-other [] g h x n = refl
ended-other (y ∷ gs) zero zero x n = absurd (n refl)
ended-other (y ∷ gs) zero (suc h) x n = refl
ended-other (y ∷ gs) (suc g) zero x n = refl
ended-other (y ∷ gs) (suc g) (suc h) x n = ended-other gs g h x (λ e. n (ap suc e))

pub seen_at : (gs : List Greenlet) (g h : ℕ) (x : Greenlet) → outcome_of_phase x.phase ≡ None → ended_at (slice_set gs g x) h ≡ (if h == g then None else ended_at gs h)
seen_at gs g h x e = by (h == g) refl
  where
    by : (b : Bool) → (h == g) ≡ b → ended_at (slice_set gs g x) h ≡ (if b then None else ended_at gs h)
    by true q = let same : h ≡ g = grind (arith, nat_tests, q) in subst (λ (n : ℕ). ended_at (slice_set gs g x) n ≡ None) (sym same) (ended-here gs g x e)
    by false q = ended-other gs g h x (λ z. grind (arith, nat_tests, q, z))

seen : (g : ℕ) (body : Frame) (s : State) (w : Whom) → outcome_of (with_phase g (Phase.Live body) s) w ≡ outcome_seen (record { current = g; state = s }) w
seen g body s (Whom.Greenlet h) = seen_at s.greenlets g h (phased s.greenlets g (Phase.Live body)) refl
seen g body s (Whom.Job j) = refl

outcomes-seen : (g : ℕ) (body : Frame) (s : State) → outcome_of (with_phase g (Phase.Live body) s) ≡ outcome_seen (record { current = g; state = s })
outcomes-seen g body s = fun_ext (seen g body s)

-- the look at the same with another way to ask for outcomes
abbrev asking_so : State → ℕ → (Whom → Option Outcome) → Look
asking_so s g f = record (look g s) { outcome = f }

look-same : (g : ℕ) (body : Frame) (s : State) → look_of (record { current = g; state = s }) ≡ look g (with_phase g (Phase.Live body) s)
look-same g body s = ap (asking_so s g) (sym (outcomes-seen g body s))

-- it does not tell how many moves were made
pub look_counted : (g m : ℕ) (s : State) → look_of (record { current = g; state = record s { moves = m } }) ≡ look_of (record { current = g; state = s })
look_counted g m s = ap (asking_so s g) (fun_ext each)
  where
    each : (w : Whom) → outcome_seen (record { current = g; state = record s { moves = m } }) w ≡ outcome_seen (record { current = g; state = s }) w
    each (Whom.Greenlet h) = refl
    each (Whom.Job j) = refl

-- ---- settling

-- a wait that holds by outcomes holds where these are the same, however many moves were made
wait-same : (s : State) (gs : List Greenlet) (m since : ℕ) (w : Waiting) → outcome_of (record s { greenlets = gs }) ≡ outcome_of s →
    wait_holds (record s { greenlets = gs; moves = m }) since w ≡ wait_holds s since w
wait-same s gs m since (Waiting.Join h) e = ap (λ (f : Whom → Option Outcome). is_some (f (Whom.Greenlet h))) e
wait-same s gs m since (Waiting.Get whom) e = ap (λ (f : Whom → Option Outcome). is_some (f whom)) e
wait-same s gs m since (Waiting.Kill hs) e = ap (λ (f : Whom → Option Outcome). list_all (λ h. is_some (f (Whom.Greenlet h))) hs) e
wait-same s gs m since (Waiting.JoinAll hs need) e = ap (λ (f : Whom → Option Outcome). nat_le need (count_by (λ h. is_some (f (Whom.Greenlet h))) hs)) e
wait-same s gs m since (Waiting.MapEnd o hs) e = ap (λ (f : Whom → Option Outcome). list_all (λ h. is_some (f (Whom.Greenlet h))) hs) e
wait-same s gs m since w e = refl

delivery-same : (s : State) (gs : List Greenlet) (m since : ℕ) (d : Delivery) → outcome_of (record s { greenlets = gs }) ≡ outcome_of s →
    delivery_holds (record s { greenlets = gs; moves = m }) since d ≡ delivery_holds s since d
delivery-same s gs m since (Delivery.Wake g w) e = wait-same s gs m since w e
delivery-same s gs m since (Delivery.Link k g kind f) e = ap (λ (o : Whom → Option Outcome). link_holds kind (o (Whom.Greenlet g))) e
delivery-same s gs m since d e = refl

pub holds_same : (s : State) (gs : List Greenlet) (m : ℕ) → outcome_of (record s { greenlets = gs }) ≡ outcome_of s → holds (record s { greenlets = gs; moves = m }) ≡ holds s
holds_same s gs m e = fun_ext (λ i. delivery-same s gs m i.since i.delivery e)

-- the settling, where it is known which items hold
abbrev pub settled_by : State → (Item → Bool) → State
settled_by s h = record s { items = settled (map h s.items) s.next_ready s.items; next_ready = numbers_after (map h s.items) s.next_ready s.items }

-- the body of a greenlet that is under way changes nothing of what holds
pub settle-under-way : (g : ℕ) (body : Frame) (s : State) →
    settle (with_phase g (Phase.Live body) (with_phase g (Phase.Live no_frame) s)) ≡ with_phase g (Phase.Live body) (settle (with_phase g (Phase.Live no_frame) s))
settle-under-way g body s =
    let t = with_phase g (Phase.Live no_frame) s in
    let u = with_phase g (Phase.Live body) t in
    let same : outcome_of u ≡ outcome_of t =
    ap outcome_of (with_phase_twice g (Phase.Live no_frame) (Phase.Live body) s) ∙ outcomes-seen g body s ∙ sym (outcomes-seen g no_frame s) in
    ap (settled_by u) (holds_same t u.greenlets t.moves same)

pub settles_under_way : (g : ℕ) (before : Frame) (place : Place) (s t u : State) (next : Next) → t ≡ with_phase g (Phase.Live no_frame) s → u ≡ settle t →
    goes_to lands g place u ≡ next → goes_to lands g place (settle (with_phase g (Phase.Live before) s)) ≡ next
settles_under_way g before place s t u next e f h =
    let x = with_phase g (Phase.Live no_frame) s in
    ap (λ (y : State). goes_to lands g place (settle y)) (sym (with_phase_twice g (Phase.Live no_frame) (Phase.Live before) s))
    ∙ ap (goes_to lands g place) (settle-under-way g before s)
    ∙ goes_to_blind lands g place (Phase.Live before) (settle x)
    ∙ ap (goes_to lands g place) (ap settle (sym e) ∙ sym f)
    ∙ h

-- a timeout item comes whatever phase its greenlet has
timeout-blind : (g n : ℕ) (ms : Option ℕ) (p : Phase) (s : State) → timeout_item g n ms (with_phase g p s) ≡ with_phase g p (timeout_item g n ms s)
timeout-blind g n None p s = refl
timeout-blind g n (Some ms) p s = refl

pub enters_under_way : (g n : ℕ) (ms : Option ℕ) (e : Entered) (before : Frame) (s t u v w : State) (next : Next) → t ≡ with_phase g (Phase.Live no_frame) s → n ≡ t.timeouts + 1 →
    u ≡ record t { timeouts = t.timeouts + 1 } → v ≡ timeout_item g n ms u → w ≡ settle v → goes_to lands g (inside (s.timeouts + 1) e) w ≡ next →
    enters g ms e.silent e.body e.locals e.todo (with_phase g (Phase.Live before) s) ≡ next
enters_under_way g n ms e before s t u v w next is_t is_n is_u is_v is_w h =
    let s1 = record s { timeouts = s.timeouts + 1 } in
    let number : n ≡ s.timeouts + 1 = is_n ∙ ap (λ (z : State). z.timeouts + 1) is_t in
    let there = λ (m : ℕ). unwind (Todo.Statements e.body ∷ Todo.Within m e.silent ∷ e.todo) [] Leaving.Normally e.locals in
    let item = timeout_item g n ms s1 in
    let gone : with_phase g (Phase.Live no_frame) item ≡ v =
    sym (timeout-blind g n ms (Phase.Live no_frame) s1) ∙ ap (timeout_item g n ms) (sym (is_u ∙ ap (λ (z : State). record z { timeouts = z.timeouts + 1 }) is_t)) ∙ sym is_v in
    ap (λ (m : ℕ). goes_on lands g (there m) (settle (timeout_item g m ms (with_phase g (Phase.Live before) s1)))) (sym number)
    ∙ ap (λ (z : State). goes_on lands g (there n) (settle z)) (timeout-blind g n ms (Phase.Live before) s1 ∙ sym (with_phase_twice g (Phase.Live no_frame) (Phase.Live before) item))
    ∙ ap (goes_on lands g (there n)) (settle-under-way g before item)
    ∙ goes_on_blind lands g (there n) (Phase.Live before) (settle (with_phase g (Phase.Live no_frame) item))
    ∙ ap (λ (z : State). goes_on lands g (there n) (settle z)) gone
    ∙ ap (goes_on lands g (there n)) (sym is_w)
    ∙ goes_as_placed lands g (there n) w
    ∙ ap (λ (m : ℕ). goes_to lands g (inside m e) w) number
    ∙ h

pub asks_blind : (g : ℕ) (before body : Frame) (request : Request) (s : State) (next : Next) → follows g (performs request g (with_phase g (Phase.Live body) s)) ≡ next →
    follows g (performs request g (with_phase g (Phase.Live body) (with_phase g (Phase.Live before) s))) ≡ next
asks_blind g before body request s next h =
    ap (λ (y : State). follows g (performs request g y)) (with_phase_twice g (Phase.Live before) (Phase.Live body) s) ∙ h

-- where what is asked is done, functions are known
pub asks_declared : (g : ℕ) (request : Request) (body : Frame) (s : State) → IsDeclaredAfter g (Came.Asks request body) s →
    AreDeclared (state_of_next (follows g (performs request g (with_phase g (Phase.Live body) s))))
asks_declared g request body s m =
    subst (λ (y : State). AreDeclared (state_of_next (follows g (performs request g y)))) (with_phase_twice g (Phase.Live m.before) (Phase.Live body) s) m.here

-- ---- the move

does-as : (g : ℕ) (locals : List Local) (did : Did) (s : State) → does g locals did s ≡ does_came g (came_by locals did) s
does-as g locals (Did.GoesOn how after todo) s = goes_as_placed lands g (unwind todo [] how after) (settle s)
does-as g locals (Did.Enters ms silent body todo) s = refl
does-as g locals (Did.Asks request x todo) s = refl

-- the body of the greenlet at this place
pub body-at : (gs : List Greenlet) (g : ℕ) (body : Frame) → is_live (phase_of g (slice_set gs g (phased gs g (Phase.Live body)))) ≡ true →
    frame_of (unwrap_or (slice_get (slice_set gs g (phased gs g (Phase.Live body))) g) nobody).phase ≡ body
body-at [] g body h = absurd (grind (arith, h))
body-at (x ∷ gs) zero body h = refl
body-at (x ∷ gs) (suc g) body h = body-at gs g body h

-- what the body does, where it is this
abbrev did_by : ℕ → State → Frame → Did
did_by g s body = body_move body.todo (around s.scenario (look g s) body.locals)

move-is : (g : ℕ) (s : State) (body : Frame) → frame_of (greenlet g s).phase ≡ body → move g s ≡ does g body.locals (did_by g s body) (record s { moves = s.moves + 1 })
unfolding move
move-is g s body e = ap (λ (b : Frame). does g b.locals (did_by g s b) (record s { moves = s.moves + 1 })) e

-- what came of the move, by what the hub was seen as once it was counted
came-same : (g : ℕ) (body : Frame) (s t : State) (came : Came) → came ≡ came_by body.locals (body_move body.todo (around t.scenario (look_of (record { current = g; state = t })) body.locals)) →
    t ≡ record s { moves = s.moves + 1 } → came ≡ came_by body.locals (did_by g (with_phase g (Phase.Live body) s) body)
came-same g body s t came e f =
    subst (λ (x : State). came ≡ came_by body.locals (body_move body.todo (around x.scenario (look_of (record { current = g; state = x })) body.locals))) f e
    ∙ ap (λ (l : Look). came_by body.locals (body_move body.todo (around s.scenario l body.locals))) (look_counted g (s.moves + 1) s ∙ look-same g body s)

-- the move is by what came of it
pub move_came : (g : ℕ) (body : Frame) (s t : State) (came : Came) → is_live (phase_of g (with_phase g (Phase.Live body) s).greenlets) ≡ true →
    came ≡ came_by body.locals (body_move body.todo (around t.scenario (look_of (record { current = g; state = t })) body.locals)) →
    t ≡ record s { moves = s.moves + 1 } → move g (with_phase g (Phase.Live body) s) ≡ does_came g came (with_phase g (Phase.Live body) t)
move_came g body s t came h e f =
    let u = with_phase g (Phase.Live body) s in
    move-is g u body (body-at s.greenlets g body h)
    ∙ does-as g body.locals (did_by g u body) (record u { moves = u.moves + 1 })
    ∙ ap (λ (c : Came). does_came g c (record u { moves = u.moves + 1 })) (sym (came-same g body s t came e f))
    ∙ ap (λ (x : State). does_came g came (with_phase g (Phase.Live body) x)) (sym f)

pub moved : (g : ℕ) (body : Frame) (s t : State) (came : Came) (next : Next) → IsReadyToMove g (with_phase g (Phase.Live body) s) →
    came ≡ came_by body.locals (body_move body.todo (around t.scenario (look_of (record { current = g; state = t })) body.locals)) →
    t ≡ record s { moves = s.moves + 1 } → ((before : Frame) → does_came g came (with_phase g (Phase.Live before) t) ≡ next) →
    move g (with_phase g (Phase.Live body) s) ≡ next
moved g body s t came next h e f d = move_came g body s t came (going_sound g _ h).1.live e f ∙ d body

-- functions are known after the move
pub moves_declared : (g : ℕ) (body : Frame) (s t : State) (came : Came) → IsReadyToMove g (with_phase g (Phase.Live body) s) →
    came ≡ came_by body.locals (body_move body.todo (around t.scenario (look_of (record { current = g; state = t })) body.locals)) →
    t ≡ record s { moves = s.moves + 1 } → IsDeclaredAfter g came t
moves_declared g body s t came h e f =
    record {
      before = body;
      here = subst (λ (x : Next). AreDeclared (state_of_next x)) (move_came g body s t came (going_sound g _ h).1.live e f) (declared_ready _ (ready_move g _ h));
    }

did-fits : (c : Scenario) (locals : List Local) (did : Did) → fits_did c did ≡ true → fits_came c (came_by locals did) ≡ true
did-fits c locals (Did.GoesOn how after todo) h = refl
did-fits c locals (Did.Enters ms silent body todo) h = refl
did-fits c locals (Did.Asks request x todo) h = h

-- what the body asks is what its text may ask
pub moves_fit : (g : ℕ) (body : Frame) (s t : State) (came : Came) → IsReadyToMove g (with_phase g (Phase.Live body) s) →
    came ≡ came_by body.locals (body_move body.todo (around t.scenario (look_of (record { current = g; state = t })) body.locals)) →
    t ≡ record s { moves = s.moves + 1 } → fits_came t.scenario came ≡ true
moves_fit g body s t came h e f =
    let u = with_phase g (Phase.Live body) s in
    let here : next_did g u ≡ did_by g u body = ap (did_by g u) (body-at s.greenlets g body (going_sound g u h).1.live) in
    let did : fits_did s.scenario (did_by g u body) ≡ true = subst (λ (d : Did). fits_did s.scenario d ≡ true) here (going_fits g u h) in
    subst (λ (x : State). fits_came x.scenario came ≡ true) (sym f)
    (subst (λ (c : Came). fits_came s.scenario c ≡ true) (sym (came-same g body s t came e f)) (did-fits s.scenario body.locals (did_by g u body) did))
