-- Moves that stay in the body of their greenlet, with nothing to settle between them.
use Rattle.std.proofs.Common.{◌≡◌, refl, ap, sym, ◌∙◌, subst, ℕ, zero, suc, ◌+◌, ◌<◌, ◌==◌, Bool, true, false, List, [], ◌∷◌, length, Option, Some, None, if◌then◌else◌, arith}
use Rattle.std.proofs.lemmas.Bool.{true≢false}
use Rattle.std.proofs.lemmas.Bool.Decides.{nat_tests}
use Rattle.std.proofs.Math.Path.{fun_ext}
use Rattle.std.specs.Prelude.{◌&&◌, filter, is_some, not}
use Rattle.gv_values.specs.declared.value.Outcome.{Outcome}
use Rattle.gv_values.specs.declared.value.Whom.{Whom}
use Rattle.machine.specs.declared.items.Delivery.{Delivery}
use Rattle.machine.specs.declared.items.Item.{Item}
use Rattle.machine.specs.declared.state.Frame.{Frame}
use Rattle.machine.specs.declared.state.Greenlet.{Greenlet}
use Rattle.machine.specs.declared.state.Phase.{Phase}
use Rattle.machine.specs.Bodies.{around}
use Rattle.machine.specs.Expressions.{Look}
use Rattle.machine.specs.Greenlets.{with_phase}
use Rattle.machine.specs.Holds.{outcome_of}
use Rattle.machine.specs.Items.{drop_items, is_timeout_of}
use Rattle.machine.specs.Landing.{Next, lands}
use Rattle.machine.specs.Moves.{move}
use Rattle.machine.specs.Run.{silent}
use Rattle.machine.specs.Settle.{settle}
use Rattle.machine.specs.State.{State}
use Rattle.body_frames.specs.Places.{Came, Place}
use Rattle.body_frames.specs.Runs.{MovesOn, came_of_move}
use Rattle.hub_state.specs.Sights.{look_of}
use Rattle.hub_engine.specs.Legs.{GoesBy}
use Rattle.hub_engine.specs.Onward.{IsAtRest, MovesTo}
use Rattle.hub_engine.specs.Ready.{IsReadyAt, IsReadyToMove}
use Rattle.hub_engine.specs.Stands.{goes_to}
use Rattle.hub_engine.proofs.Blind.{phased, with_phase_twice}
use Rattle.hub_engine.proofs.Moving.{ended_at, holds_same, look_counted, move_came, moved, moves_declared, moves_fit, seen_at, settled_by}
use Rattle.hub_engine.proofs.Readily.{declared_counted, going_sound, ready_going, ready_move, ready_moved}
use Rattle.hub_engine.proofs.Soundly.{sound_counted}

-- ---- settling

-- the greenlet is under way with this body, where so many moves were made
abbrev pub under_way : ℕ → Frame → ℕ → State → State
under_way g body m s = with_phase g (Phase.Live body) (record s { moves = m })

not-ended : (gs : List Greenlet) (g h : ℕ) → is_some (ended_at gs g) ≡ false → (if h == g then None else ended_at gs h) ≡ ended_at gs h
not-ended gs g h e = by (h == g) refl
  where
    none : (o : Option Outcome) → is_some o ≡ false → None ≡ o
    none None n = refl
    none (Some x) n = absurd (true≢false n)

    by : (b : Bool) → (h == g) ≡ b → (if b then None else ended_at gs h) ≡ ended_at gs h
    by true q = let same : g ≡ h = grind (arith, nat_tests, q) in subst (λ (n : ℕ). None ≡ ended_at gs n) same (none (ended_at gs g) e)
    by false q = refl

-- at rest, whatever body the greenlet has, and however many moves were made
rests_under_way : (g : ℕ) (body : Frame) (m : ℕ) (s : State) → IsAtRest g s → settle (under_way g body m s) ≡ under_way g body m s
rests_under_way g body m s rest =
    let u = under_way g body m s in
    ap (settled_by u) (holds_same s u.greenlets m (fun_ext each)) ∙ ap (λ (x : State). record u { items = x.items; next_ready = x.next_ready }) rest.settled
  where
    each : (w : Whom) → outcome_of (with_phase g (Phase.Live body) s) w ≡ outcome_of s w
    each (Whom.Greenlet h) = seen_at s.greenlets g h (phased s.greenlets g (Phase.Live body)) refl ∙ not-ended s.greenlets g h rest.going
    each (Whom.Job j) = refl

-- ---- one move

none-dropped : (g : ℕ) (items : List Item) → filter (λ i. not (is_timeout_of g [] i.delivery)) items ≡ items
none-dropped g [] = refl
none-dropped g (i ∷ items) = by (is_timeout_of g [] i.delivery) (no_timeout i.delivery) (none-dropped g items)
  where
    no_timeout : (d : Delivery) → is_timeout_of g [] d ≡ false
    no_timeout (Delivery.Timeout h n deadline) = none (g == h)
      where
        none : (b : Bool) → (b && false) ≡ false
        none true = refl
        none false = refl
    no_timeout d = refl

    others : List Item
    others = filter (λ j. not (is_timeout_of g [] j.delivery)) items

    by : (b : Bool) → b ≡ false → others ≡ items → (if not b then i ∷ others else others) ≡ i ∷ items
    by false e same = ap (λ xs. i ∷ xs) same
    by true e same = absurd (true≢false e)

-- where no timeout block was left, no timeout goes
pub none_left : (g : ℕ) (left : List ℕ) (s : State) → (length left == 0) ≡ true → s ≡ drop_items (is_timeout_of g left) s
none_left g [] s e = ap (λ items. record s { items = items }) (sym (none-dropped g s.items))
none_left g (n ∷ left) s e = absurd (let some : (length (n ∷ left) == 0) ≡ false = grind (arith, nat_tests) in true≢false (sym e ∙ some))

-- what comes of the next move, where the greenlet is under way with this body
abbrev pub came_from : ℕ → State → Frame → Came
came_from g s body = came_of_move (around s.scenario (look_of (record { current = g; state = s }))) body

came-counted : (g m : ℕ) (s : State) (body : Frame) (came : Came) → came ≡ came_from g s body → came ≡ came_from g (record s { moves = m }) body
came-counted g m s body came e = e ∙ ap (λ (l : Look). came_of_move (around s.scenario l) body) (sym (look_counted g m s))

-- a greenlet that rests with each of its bodies
abbrev Rests : ℕ → State → Type 0
Rests g s = (body : Frame) (m : ℕ) → settle (under_way g body m s) ≡ under_way g body m s

stays-once : (g : ℕ) (a b : Frame) (s : State) → Rests g s → IsReadyToMove g (with_phase g (Phase.Live a) s) → Came.Comes (Place.AtMove [] b) ≡ came_from g s a →
    move g (with_phase g (Phase.Live a) s) ≡ Next.Going g (under_way g b (s.moves + 1) s)
stays-once g a b s rests ready e =
    let u = under_way g a (s.moves + 1) s in
    let place = Place.AtMove [] b in
    move_came g a s (record s { moves = s.moves + 1 }) (Came.Comes place) (going_sound g _ ready).1.live (came-counted g (s.moves + 1) s a (Came.Comes place) e) refl
    ∙ ap (goes_to lands g place) (rests a (s.moves + 1))
    ∙ ap (λ items. Next.Going g (with_phase g (Phase.Live b) (record u { items = items }))) (none-dropped g s.items)
    ∙ ap (Next.Going g) (with_phase_twice g (Phase.Live a) (Phase.Live b) (record s { moves = s.moves + 1 }))

-- ---- one after another

-- all is given out where the greenlet is ready to move, with whatever body
still-silent : (g : ℕ) (a b : Frame) (m : ℕ) (s : State) → IsReadyToMove g (with_phase g (Phase.Live a) s) → under_way g b m s ≡ silent (under_way g b m s)
still-silent g a b m s h =
    let u = under_way g b m s in
    ap (λ lines. record u { lines = lines }) (ap (λ (x : State). x.lines) h.same) ∙ ap (λ posts. record u { lines = []; posts = posts }) (ap (λ (x : State). x.posts) h.same)

-- the body before the last of the moves, which is made where so many were
pub record Stays (g n m : ℕ) (a : Frame) (s : State) (came : Came) : Type 0 where
  pub body : Frame
  pub comes : came ≡ came_from g s body
  pub ready : IsReadyToMove g (under_way g body m s)
  pub moves : (next : Next) → move g (under_way g body m s) ≡ next → MovesTo g n (with_phase g (Phase.Live a) s) next

stays-on : (g n m : ℕ) (a : Frame) (s : State) (came : Came) → m ≡ s.moves + n → (0 < n → Rests g s) → IsReadyToMove g (with_phase g (Phase.Live a) s) →
    MovesOn (around s.scenario (look_of (record { current = g; state = s }))) n a came → Stays g n m a s came
stays-on g zero m a s came e rests ready on =
    let same : s.moves ≡ m = omega (arith, e) in
    record {
      body = a;
      comes = on;
      ready = subst (λ k. IsReadyToMove g (under_way g a k s)) same ready;
      moves = λ next h. subst (λ k. move g (under_way g a k s) ≡ next → move g (with_phase g (Phase.Live a) s) ≡ next) same (λ x. x) h;
    }
stays-on g (suc n) m a s came e rests ready on =
    let b = on.0 in
    let t = record s { moves = s.moves + 1 } in
    let rest : Rests g s = rests (omega arith) in
    let once = stays-once g a b s rest ready on.1 in
    let given = still-silent g a b (s.moves + 1) s ready in
    let next : IsReadyToMove g (with_phase g (Phase.Live b) t) = ready_going g (with_phase g (Phase.Live b) t) (with_phase g (Phase.Live b) t) (subst IsReadyAt once (ready_move g _ ready)) given in
    let later = stays-on g n m b t came (omega (arith, e)) (λ _. rest) next (subst (λ (l : Look). MovesOn (around s.scenario l) n b came) (sym (look_counted g (s.moves + 1) s)) on.2) in
    record {
      body = later.body;
      comes = later.comes ∙ ap (λ (l : Look). came_of_move (around s.scenario l) later.body) (look_counted g (s.moves + 1) s);
      ready = later.ready;
      moves = λ next h. (with_phase g (Phase.Live b) t, once, given, later.moves next h);
    }

-- what the body's moves come to, where it is at rest if they are more than one
pub stays : (g n : ℕ) (a : Frame) (s : State) (came : Came) → (0 < n → IsAtRest g s) → IsReadyToMove g (with_phase g (Phase.Live a) s) →
    MovesOn (around s.scenario (look_of (record { current = g; state = s }))) n a came → Stays g n (s.moves + n) a s came
stays g n a s came rest ready on = stays-on g n (s.moves + n) a s came refl (λ some body m. rests_under_way g body m s (rest some)) ready on

-- ---- the last of them

pub goes_by : (g n most : ℕ) (a : Frame) (s t : State) (came : Came) → (1 < most → IsAtRest g s) → n < most → IsReadyToMove g (with_phase g (Phase.Live a) s) →
    MovesOn (around s.scenario (look_of (record { current = g; state = s }))) n a came → t ≡ record s { moves = s.moves + (n + 1) } → GoesBy g n a s t came
goes_by g n most a s t came rest few ready on e =
    let last = stays g n a s came (λ some. rest (omega (arith, few, some))) ready on in
    let x = record s { moves = s.moves + n } in
    let counted : t ≡ record x { moves = x.moves + 1 } = e ∙ ap (λ m. record s { moves = m }) (omega arith) in
    let comes : came ≡ came_from g t last.body = subst (λ (y : State). came ≡ came_from g y last.body) (sym counted) (came-counted g (x.moves + 1) s last.body came last.comes) in
    record {
      may_move = sound_counted g last.body x t last.ready counted;
      fits = moves_fit g last.body x t came last.ready comes counted;
      declared = declared_counted g last.body x t last.ready counted;
      after = moves_declared g last.body x t came last.ready comes counted;
      moves = λ next d. last.moves next (moved g last.body x t came next last.ready comes counted d);
      ready = λ next d. ready_moved g (with_phase g (Phase.Live last.body) x) next last.ready (moved g last.body x t came next last.ready comes counted d);
    }
