-- That no landing changes which functions greenlets run.
use Rattle.std.proofs.Common.{◌≡◌, refl, ap, sym, ◌∙◌, subst, ℕ, zero, suc, ◌==◌, Bool, true, false, List, [], ◌∷◌, ◌++◌, length, Option, Some, None, slice_get, slice_set, unwrap_or, if◌then◌else◌}
use Rattle.std.specs.Prelude.{map}
use Rattle.gv_values.specs.Ends.{kept}
use Rattle.gv_values.specs.declared.value.Outcome.{Outcome}
use Rattle.gv_values.specs.declared.value.Value.{Value}
use Rattle.scenario_tree.specs.declared.tree.Scenario.{Scenario}
use Rattle.trace_text.specs.declared.line.Line.{Line}
use Rattle.body_values.specs.Functions.{IsFunction}
use Rattle.body_frames.specs.Places.{Place}
use Rattle.machine.specs.declared.state.Frame.{Frame}
use Rattle.machine.specs.declared.state.Greenlet.{Greenlet}
use Rattle.machine.specs.declared.state.Phase.{Phase}
use Rattle.machine.specs.State.{State, say}
use Rattle.machine.specs.Ends.{ended, leaving_of, outcome_of_leaving, stop_of}
use Rattle.machine.specs.Greenlets.{add_greenlet, frame_of, function_of, greenlet, named, nobody, with_phase}
use Rattle.machine.specs.Items.{drop_items, is_timeout_of}
use Rattle.machine.specs.Landing.{Landing, Next, after_end, given, goes_on, land, lands, lands_once, resumes, starts}
use Rattle.machine.specs.Deliveries.{without_offer_by}
use Rattle.machine.specs.Moves.{timeout_item}
use Rattle.machine.specs.declared.items.Delivery.{Delivery}
use Rattle.machine.specs.Request.{follows}
use Rattle.machine.specs.Settle.{settle}
use Rattle.machine.specs.Unwinding.{Unwound, unwind}
use Rattle.machine.specs.Waits.{Performed}
use Rattle.machine.specs.declared.state.Leaving.{Leaving}
use Rattle.machine.specs.declared.state.Todo.{Todo}
use Rattle.machine_trace_laws.specs.Reached.{state_of_next}
use Rattle.hub_requests.specs.Performing.{performed_of}
use Rattle.hub_requests.specs.declared.performed.Performed.{Performed as Came}
use Rattle.hub_engine.specs.Ready.{AreDeclared}
use Rattle.hub_engine.specs.Stands.{goes_to, hopped}
use Rattle.hub_engine.specs.declared.stand.Hop.{Hop}
use Rattle.hub_engine.specs.declared.stand.Stand.{Stand}
use Rattle.hub_engine.proofs.Blind.{phased}

-- the functions that the greenlets run
abbrev pub functions_in : List Greenlet → List ℕ
functions_in gs = map (λ (x : Greenlet). x.function) gs

-- the same text, and greenlets run the same functions
pub record IsAlike (s t : State) : Type 0 where
  pub scenario : t.scenario ≡ s.scenario
  pub functions : functions_in t.greenlets ≡ functions_in s.greenlets

alike-twice : (s t u : State) → IsAlike s t → IsAlike t u → IsAlike s u
alike-twice s t u a b = record { scenario = b.scenario ∙ a.scenario; functions = b.functions ∙ a.functions }

function-at : (gs : List Greenlet) (g : ℕ) → (unwrap_or (slice_get gs g) nobody).function ≡ unwrap_or (slice_get (functions_in gs) g) 0
function-at [] g = refl
function-at (x ∷ gs) zero = refl
function-at (x ∷ gs) (suc g) = function-at gs g

pub declared_alike : (s t : State) → IsAlike s t → AreDeclared s → AreDeclared t
declared_alike s t a h = record { each = each }
  where
    each : (g : ℕ) → IsFunction t.scenario (greenlet g t).function
    each g =
        subst (λ (c : Scenario). IsFunction c (greenlet g t).function) (sym a.scenario)
        (subst (IsFunction s.scenario) (sym (function-at t.greenlets g ∙ ap (λ fs. unwrap_or (slice_get fs g) 0) a.functions ∙ sym (function-at s.greenlets g))) (h.each g))

alike-back : (s t : State) → IsAlike s t → IsAlike t s
alike-back s t a = record { scenario = sym a.scenario; functions = sym a.functions }

-- ---- ends and landings

phase-functions : (gs : List Greenlet) (g : ℕ) (p : Phase) → functions_in (slice_set gs g (phased gs g p)) ≡ functions_in gs
phase-functions [] g p = refl
phase-functions (x ∷ gs) zero p = refl
phase-functions (x ∷ gs) (suc g) p = ap (λ fs. x.function ∷ fs) (phase-functions gs g p)

alike-phase : (g : ℕ) (p : Phase) (s : State) → IsAlike s (with_phase g p s)
alike-phase g p s = record { scenario = refl; functions = phase-functions s.greenlets g p }

-- what takes an input keeps it so
abbrev Keeps : Landing → Type 0
Keeps up = (g : ℕ) (o : Outcome) (s : State) → IsAlike s (state_of_next (up g o s))

alike-ended : (g : ℕ) (o : Outcome) (s : State) → IsAlike s (ended g o s)
alike-ended g o s = record { scenario = refl; functions = phase-functions s.greenlets g (Phase.Done o) }

alike-after_end : (up : Landing) → Keeps up → (g : ℕ) (o : Outcome) (s : State) → IsAlike s (state_of_next (after_end up g o s))
alike-after_end up keeps g o s = by (greenlet g s).raw (g == 0)
  where
    end : IsAlike s (ended g (kept o) s)
    end = alike-ended g (kept o) s

    by : (raw main : Bool) → IsAlike s (state_of_next (if raw then up (greenlet g s).parent (kept o) (ended g (kept o) s)
        else (if main then Next.Over (stop_of (kept o)) (ended g (kept o) s) else Next.Resting (ended g (kept o) s))))
    by true main = alike-twice s (ended g (kept o) s) _ end (keeps (greenlet g s).parent (kept o) (ended g (kept o) s))
    by false true = end
    by false false = end

alike-goes_on : (up : Landing) → Keeps up → (g : ℕ) (u : Unwound) (s : State) → IsAlike s (state_of_next (goes_on up g u s))
alike-goes_on up keeps g (Unwound.Runs left locals todo) s =
    record { scenario = refl; functions = phase-functions s.greenlets g (Phase.Live (record { locals = locals; todo = todo; gives = None })) }
alike-goes_on up keeps g (Unwound.Out left how) s =
    let m = alike-after_end up keeps g (outcome_of_leaving how) (drop_items (is_timeout_of g left) s) in
    record { scenario = m.scenario; functions = m.functions }

alike-starts : (up : Landing) → Keeps up → (g : ℕ) (args : List Value) (s : State) → IsAlike s (state_of_next (starts up g args s))
alike-starts up keeps g args s =
    let f = function_of (greenlet g s).function s in
    let m = alike-goes_on up keeps g (unwind (Todo.Statements f.body ∷ []) [] Leaving.Normally (named f.parameters args)) (say (Line.Start g f.name) s) in
    record { scenario = m.scenario; functions = m.functions }

alike-resumes : (up : Landing) → Keeps up → (g : ℕ) (frame : Frame) (o : Outcome) (s : State) → IsAlike s (state_of_next (resumes up g frame o s))
alike-resumes up keeps g frame o s = alike-goes_on up keeps g (unwind frame.todo [] (leaving_of o) (given frame o)) s

alike-said : (line : Line) (s t : State) → IsAlike (say line s) t → IsAlike s t
alike-said line s t m = record { scenario = m.scenario; functions = m.functions }

alike-lands_once : (up : Landing) → Keeps up → (g : ℕ) (input : Outcome) (s : State) → IsAlike s (state_of_next (lands_once up g input s))
alike-lands_once up keeps g input s = by (greenlet g s).phase input
  where
    by : (p : Phase) (o : Outcome) → IsAlike s (state_of_next (elim p [
      | Phase.Done k ↦ up (greenlet g s).parent (kept o) s
      | Phase.Live frame ↦ resumes up g frame o (say (Line.Into g o) s)
      | Phase.New args ↦ elim o [
        | Outcome.Value v ↦ starts up g (v ∷ []) s
        | Outcome.Fault f ↦ after_end up g (Outcome.Fault f) s
      ]
    ]))
    by (Phase.Done k) o = keeps (greenlet g s).parent (kept o) s
    by (Phase.Live frame) o = alike-said (Line.Into g o) s _ (alike-resumes up keeps g frame o (say (Line.Into g o) s))
    by (Phase.New args) (Outcome.Value v) = alike-starts up keeps g (v ∷ []) s
    by (Phase.New args) (Outcome.Fault f) = alike-after_end up keeps g (Outcome.Fault f) s

alike-land : (n : ℕ) → Keeps (land n)
alike-land zero g o s = record { scenario = refl; functions = refl }
alike-land (suc n) g o s = alike-lands_once (land n) (alike-land n) g o s

alike-lands : Keeps lands
alike-lands g o s = alike-land (length s.greenlets) g o s

alike-settled : (s t : State) → IsAlike (settle s) t → IsAlike s t
alike-settled s t m = record { scenario = m.scenario; functions = m.functions }

-- ---- what a hop leaves

-- it is put down where it goes up
abbrev pub put_down : Landing
put_down g o s = Next.Resting s

alike-put_down : Keeps put_down
alike-put_down g o s = record { scenario = refl; functions = refl }

alike-hopped : (hop : Hop) (t : State) → IsAlike t (state_of_next (hopped put_down hop t))
alike-hopped (Hop.At (Stand.Going g body)) t = alike-phase g (Phase.Live body) t
alike-hopped (Hop.At Stand.Resting) t = record { scenario = refl; functions = refl }
alike-hopped (Hop.At (Stand.Over cause)) t = record { scenario = refl; functions = refl }
alike-hopped (Hop.Up g o) t = record { scenario = refl; functions = refl }

hop-declared : (next : Next) (hop : Hop) (s t : State) → IsAlike s (state_of_next next) → next ≡ hopped put_down hop t → AreDeclared s → AreDeclared t
hop-declared next hop s t a e h =
    let same : IsAlike s (state_of_next (hopped put_down hop t)) = subst (λ (x : Next). IsAlike s (state_of_next x)) e a in
    declared_alike s t (alike-twice s _ t same (alike-back t _ (alike-hopped hop t))) h

pub declared_started : (g : ℕ) (args : List Value) (s t : State) (hop : Hop) → AreDeclared s → ((up : Landing) → starts up g args s ≡ hopped up hop t) → AreDeclared t
declared_started g args s t hop h e = hop-declared (starts put_down g args s) hop s t (alike-starts put_down alike-put_down g args s) (e put_down) h

pub declared_resumed : (g : ℕ) (frame : Frame) (o : Outcome) (s t : State) (hop : Hop) → AreDeclared s → ((up : Landing) → resumes up g frame o s ≡ hopped up hop t) → AreDeclared t
declared_resumed g frame o s t hop h e = hop-declared (resumes put_down g frame o s) hop s t (alike-resumes put_down alike-put_down g frame o s) (e put_down) h

pub declared_landed : (g : ℕ) (o : Outcome) (s t : State) (hop : Hop) → AreDeclared s → ((up : Landing) → lands_once up g o s ≡ hopped up hop t) → AreDeclared t
declared_landed g o s t hop h e = hop-declared (lands_once put_down g o s) hop s t (alike-lands_once put_down alike-put_down g o s) (e put_down) h

alike-goes_to : (g : ℕ) (place : Place) (s : State) → IsAlike s (state_of_next (goes_to put_down g place s))
alike-goes_to g (Place.AtMove left body) s = record { scenario = refl; functions = phase-functions s.greenlets g (Phase.Live body) }
alike-goes_to g (Place.AtEnd left o) s =
    let m = alike-after_end put_down alike-put_down g o (drop_items (is_timeout_of g left) s) in
    record { scenario = m.scenario; functions = m.functions }

pub declared_placed : (g : ℕ) (place : Place) (s t : State) (hop : Hop) → AreDeclared s → ((up : Landing) → goes_to up g place s ≡ hopped up hop t) → AreDeclared t
declared_placed g place s t hop h e = hop-declared (goes_to put_down g place s) hop s t (alike-goes_to g place s) (e put_down) h

-- ---- steps of the hub

-- where its phase is another
pub declared_phased : (g : ℕ) (p : Phase) (s t : State) → AreDeclared s → t ≡ with_phase g p s → AreDeclared t
declared_phased g p s t h e = subst AreDeclared (sym e) (declared_alike s (with_phase g p s) (alike-phase g p s) h)

pub declared_unphased : (g : ℕ) (p : Phase) (s : State) → AreDeclared (with_phase g p s) → AreDeclared s
declared_unphased g p s h = declared_alike (with_phase g p s) s (alike-back s (with_phase g p s) (alike-phase g p s)) h

-- where a line is said, items go, numbers are given, a timeout is counted or made, or an offer is withdrawn
pub declared_said : (line : Line) (s t : State) → AreDeclared s → t ≡ say line s → AreDeclared t
declared_said line s t h e = subst AreDeclared (sym e) (record { each = h.each })

pub declared_dropped : (test : Delivery → Bool) (s t : State) → AreDeclared s → t ≡ drop_items test s → AreDeclared t
declared_dropped test s t h e = subst AreDeclared (sym e) (record { each = h.each })

pub declared_settled : (s t : State) → AreDeclared s → t ≡ settle s → AreDeclared t
declared_settled s t h e = subst AreDeclared (sym e) (record { each = h.each })

pub declared_timed : (n : ℕ) (s t : State) → AreDeclared s → t ≡ record s { timeouts = n } → AreDeclared t
declared_timed n s t h e = subst AreDeclared (sym e) (record { each = h.each })

pub declared_limited : (g n : ℕ) (ms : Option ℕ) (s t : State) → AreDeclared s → t ≡ timeout_item g n ms s → AreDeclared t
declared_limited g n ms s t h e = subst AreDeclared (sym e) (by ms)
  where
    by : (ms : Option ℕ) → AreDeclared (timeout_item g n ms s)
    by None = h
    by (Some m) = record { each = h.each }

pub declared_withdrawn : (since : Option ℕ) (s t : State) → AreDeclared s → t ≡ without_offer_by since s → AreDeclared t
declared_withdrawn since s t h e = subst AreDeclared (sym e) (by since)
  where
    by : (since : Option ℕ) → AreDeclared (without_offer_by since s)
    by None = h
    by (Some n) = record { each = h.each }

one-more : (c : Scenario) (x : Greenlet) (gs : List Greenlet) (g : ℕ) → IsFunction c x.function → IsFunction c (unwrap_or (slice_get gs g) nobody).function →
    IsFunction c (unwrap_or (slice_get (gs ++ x ∷ []) g) nobody).function
one-more c x [] zero there k = there
one-more c x [] (suc g) there k = k
one-more c x (y ∷ gs) zero there k = k
one-more c x (y ∷ gs) (suc g) there k = one-more c x gs g there k

-- where it has one greenlet more, of a function that there is
pub declared_made : (raw : Bool) (parent f : ℕ) (args : List Value) (s t : State) → AreDeclared s → IsFunction s.scenario f → t ≡ add_greenlet raw parent f args s → AreDeclared t
declared_made raw parent f args s t h there e =
    subst AreDeclared (sym e) (record { each = λ g. one-more s.scenario (record { raw = raw; parent = parent; function = f; phase = Phase.New args }) s.greenlets g there (h.each g) })

-- the state after a request
abbrev state_after : Performed → State
state_after (Performed.Answers o s) = s
state_after (Performed.Parks s) = s
state_after (Performed.Lands g o s) = s
state_after (Performed.Stops cause s) = s

alike-follows : (g : ℕ) (p : Performed) → IsAlike (state_after p) (state_of_next (follows g p))
alike-follows g (Performed.Answers o s) =
    alike-settled s _ (alike-resumes lands alike-lands g (frame_of (greenlet g (settle s)).phase) o (settle s))
alike-follows g (Performed.Parks s) = record { scenario = refl; functions = refl }
alike-follows g (Performed.Lands k o s) = alike-settled s _ (alike-lands k o (settle s))
alike-follows g (Performed.Stops cause s) = record { scenario = refl; functions = refl }

after-performed : (came : Came) (t : State) → state_after (performed_of came t) ≡ t
after-performed (Came.Answers o) t = refl
after-performed Came.Parks t = refl
after-performed (Came.Lands g o) t = refl
after-performed (Came.Stops cause) t = refl

-- before the hub goes on after a request it is so where it is so after that
pub declared_followed : (g : ℕ) (p : Performed) (came : Came) (t : State) → AreDeclared (state_of_next (follows g p)) → p ≡ performed_of came t → AreDeclared t
declared_followed g p came t h e =
    let at : AreDeclared (state_of_next (follows g (performed_of came t))) = subst (λ (x : Performed). AreDeclared (state_of_next (follows g x))) e h in
    subst AreDeclared (after-performed came t)
    (declared_alike _ (state_after (performed_of came t)) (alike-back (state_after (performed_of came t)) _ (alike-follows g (performed_of came t))) at)
