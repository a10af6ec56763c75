-- How the moves of a greenlet are given out one after another.
use Rattle.std.proofs.Common.{◌≡◌, refl, ap, sym, ◌∙◌, subst, ℕ, zero, suc, ◌+◌, ◌-◌, ◌<◌, List, [], ◌++◌, append_assoc, map, arith}
use Rattle.std.proofs.lemmas.List.{append-nil}
use Rattle.trace_text.specs.declared.line.Line.{Line}
use Rattle.trace_text.specs.declared.line.StopCause.{StopCause}
use Rattle.machine.specs.declared.state.Frame.{Frame}
use Rattle.machine.specs.declared.state.Phase.{Phase}
use Rattle.machine.specs.declared.state.Post.{Post}
use Rattle.machine.specs.Greenlets.{with_phase}
use Rattle.machine.specs.Landing.{Next}
use Rattle.machine.specs.Moves.{move}
use Rattle.machine.specs.Run.{Passed, logged, passed, runs, said, silent}
use Rattle.machine.specs.State.{State}
use Rattle.machine_soundness.proofs.States.{length-phased}
use Rattle.hub_engine.specs.declared.stand.Came.{Came}
use Rattle.hub_engine.specs.declared.stand.Stand.{Stand}
use Rattle.hub_engine.specs.Onward.{MovesTo}
use Rattle.hub_engine.specs.Outside.{HasGiven, HasGivenPart, Outside}
use Rattle.hub_engine.specs.Stands.{next_at}
use Rattle.hub_engine.specs.Written.{AreLike, CameTo}
use Rattle.hub_engine.proofs.Giving.{given_nothing, part_after, part_longer, part_whole, posts_given_then}

-- ---- parts of a run

-- these lines and posts come first
abbrev pub behind : List Line → List Post → Passed → Passed
behind lines posts p = record { lines = lines ++ p.lines; posts = posts ++ p.posts; next = p.next }

-- of a part of a run a first piece was given out, and the rest is left
pub record IsPassing (v w : Outside) (whole left : Passed) : Type 0 where
  pub lines : List Line
  pub posts : List Post
  pub given : HasGiven v w lines (map logged posts)
  pub is : whole ≡ behind lines posts left

-- a part of a run was given out whole
pub record HasPassed (v w : Outside) (p : Passed) (came : Came) (s : State) : Type 0 where
  pub given : HasGiven v w p.lines (map logged p.posts)
  pub next : CameTo came p.next s

pub passing : (v : Outside) (p : Passed) → IsPassing v v p p
passing v p = record { lines = []; posts = []; given = given_nothing v; is = refl }

behind_behind : (lines more : List Line) (posts later : List Post) (p : Passed) → behind lines posts (behind more later p) ≡ behind (lines ++ more) (posts ++ later) p
behind_behind lines more posts later p =
    ap (λ ls. record { lines = ls; posts = posts ++ (later ++ p.posts); next = p.next }) (sym (append_assoc lines more p.lines))
    ∙ ap (λ ps. record { lines = (lines ++ more) ++ p.lines; posts = ps; next = p.next }) (sym (append_assoc posts later p.posts))

-- one piece more was given out
pub onward : (u v w : Outside) (p q r : Passed) (lines : List Line) (posts : List Post) → IsPassing u v p q → q ≡ behind lines posts r → HasGiven v w lines (map logged posts) →
    IsPassing u w p r
onward u v w p q r lines posts i e g = record {
  lines = i.lines ++ lines;
  posts = i.posts ++ posts;
  given = posts_given_then u v w i.lines lines i.posts posts i.given g;
  is = i.is ∙ ap (behind i.lines i.posts) e ∙ behind_behind i.lines lines i.posts posts r;
}

-- a state is like itself
pub like : (s : State) → AreLike s s
like s = record { greenlets = refl; turns = refl; moves = refl; moment = refl }

-- what was left was given out whole
pub over : (u v w : Outside) (p q : Passed) (came : Came) (s : State) → IsPassing u v p q → CameTo came q.next s → HasGiven v w q.lines (map logged q.posts) → HasPassed u w p came s
over u v w p q came s i c g = record {
  given = subst (λ (x : Passed). HasGiven u w x.lines (map logged x.posts)) (sym i.is) (posts_given_then u v w i.lines q.lines i.posts q.posts i.given g);
  next = subst (λ (x : Passed). CameTo came x.next s) (sym i.is) c;
}

-- it broke off in what is left
pub broken : (u v w : Outside) (p q r : Passed) (lines : List Line) (posts : List Post) → IsPassing u v p q → q ≡ behind lines posts r → HasGivenPart v w lines posts →
    HasGivenPart u w p.lines p.posts
broken u v w p q r lines posts i e g =
    let here : p ≡ behind i.lines i.posts (behind lines posts r) = i.is ∙ ap (behind i.lines i.posts) e in
    subst (λ (x : Passed). HasGivenPart u w x.lines x.posts) (sym here)
    (part_after u v w i.lines (lines ++ r.lines) i.posts (posts ++ r.posts) i.given (part_longer v w lines r.lines posts r.posts g))

-- it broke off before what is left
pub given_up : (u v : Outside) (p q : Passed) → IsPassing u v p q → HasGivenPart u v p.lines p.posts
given_up u v p q i = subst (λ (x : Passed). HasGivenPart u v x.lines x.posts) (sym i.is) (part_whole u v i.lines q.lines i.posts q.posts i.given)

-- ---- moves

runs_step : (n g : ℕ) (s : State) → 0 < n → runs n (Next.Going g s) ≡ said s (runs (n - 1) (move g (silent s)))
runs_step zero g s h = grind arith
runs_step (suc n) g s h = let e : suc n - 1 ≡ n = omega arith in rw e

pub rested : (u v w : Outside) (p : Passed) (n : ℕ) (at : Stand) (s : State) → at ≡ Stand.Resting → IsPassing u v p (runs n (next_at at s)) → HasGiven v w s.lines (map logged s.posts) →
    HasPassed u w p Came.ToRest (silent s)
rested u v w p n at s k i g = by n (subst (λ (x : Stand). IsPassing u v p (runs n (next_at x s))) k i)
  where
    by : (n : ℕ) → IsPassing u v p (runs n (Next.Resting s)) → HasPassed u w p Came.ToRest (silent s)
    by zero i = over u v w p (passed s Next.Resting) Came.ToRest (silent s) i refl g
    by (suc n) i = over u v w p (passed s Next.Resting) Came.ToRest (silent s) i refl g

pub ended : (u v w : Outside) (p : Passed) (n : ℕ) (at : Stand) (c : StopCause) (s : State) → at ≡ Stand.Over c → IsPassing u v p (runs n (next_at at s)) →
    HasGiven v w s.lines (map logged s.posts) → HasPassed u w p (Came.ToAnEnd c) (silent s)
ended u v w p n at c s k i g = by n (subst (λ (x : Stand). IsPassing u v p (runs n (next_at x s))) k i)
  where
    by : (n : ℕ) → IsPassing u v p (runs n (Next.Over c s)) → HasPassed u w p (Came.ToAnEnd c) (silent s)
    by zero i = over u v w p (passed s (Next.Over c)) (Came.ToAnEnd c) (silent s) i (silent s, refl, like (silent s)) g
    by (suc n) i = over u v w p (passed s (Next.Over c)) (Came.ToAnEnd c) (silent s) i (silent s, refl, like (silent s)) g

pub out_of_budget : (u v w : Outside) (p : Passed) (n : ℕ) (at : Stand) (g : ℕ) (body : Frame) (s : State) → n ≡ 0 → at ≡ Stand.Going g body → IsPassing u v p (runs n (next_at at s)) →
    HasGiven v w s.lines (map logged s.posts) → HasPassed u w p (Came.ToAnEnd StopCause.NoMoves) (silent s)
out_of_budget u v w p n at g body s z k i h =
    let t = with_phase g (Phase.Live body) s in
    let as' : AreLike (silent t) (silent s) = record { greenlets = length-phased g (Phase.Live body) s; turns = refl; moves = refl; moment = refl } in
    let here : IsPassing u v p (runs 0 (Next.Going g t)) =
    subst (λ (m : ℕ). IsPassing u v p (runs m (Next.Going g t))) z (subst (λ (x : Stand). IsPassing u v p (runs n (next_at x s))) k i) in
    over u v w p (passed t (Next.Over StopCause.NoMoves)) (Came.ToAnEnd StopCause.NoMoves) (silent s) here (silent t, refl, as') h

-- the step under way was given out, and a move is to be made
moves_on : (u v w : Outside) (p : Passed) (n : ℕ) (at : Stand) (g : ℕ) (body : Frame) (s : State) → 0 < n → at ≡ Stand.Going g body → IsPassing u v p (runs n (next_at at s)) →
    HasGiven v w s.lines (map logged s.posts) → IsPassing u w p (runs (n - 1) (move g (silent (with_phase g (Phase.Live body) s))))
moves_on u v w p n at g body s h k i o =
    let t = with_phase g (Phase.Live body) s in
    let here : IsPassing u v p (runs n (Next.Going g t)) = subst (λ (x : Stand). IsPassing u v p (runs n (next_at x s))) k i in
    onward u v w p (runs n (Next.Going g t)) (runs (n - 1) (move g (silent t))) s.lines s.posts here (runs_step n g t h) o

pub move_given_up : (u v w : Outside) (p : Passed) (n : ℕ) (at : Stand) (g : ℕ) (body : Frame) (s : State) → 0 < n → at ≡ Stand.Going g body → IsPassing u v p (runs n (next_at at s)) →
    HasGiven v w s.lines (map logged s.posts) → HasGivenPart u w p.lines p.posts
move_given_up u v w p n at g body s h k i o = given_up u w p _ (moves_on u v w p n at g body s h k i o)

-- where nothing is to be given out, a move is the first of those that are left
runs_silent : (n g : ℕ) (s : State) → s ≡ silent s → runs (suc n) (Next.Going g s) ≡ runs n (move g s)
runs_silent n g s e = subst (λ (x : State). runs (suc n) (Next.Going g x) ≡ runs n (move g x)) (sym e) refl

-- and so are moves one after another
runs_on_to : (m n g : ℕ) (s : State) (next : Next) → m < n → s ≡ silent s → MovesTo g m s next → runs n (Next.Going g s) ≡ runs (n - (m + 1)) next
runs_on_to m zero g s next l e h = absurd (grind (arith, l))
runs_on_to zero (suc n) g s next l e h = let left : n ≡ suc n - (0 + 1) = omega arith in runs_silent n g s e ∙ ap (runs n) h ∙ ap (λ k. runs k next) left
runs_on_to (suc m) (suc n) g s next l e h =
    let left : n - (m + 1) ≡ suc n - (suc m + 1) = omega arith in
    runs_silent n g s e ∙ ap (runs n) h.1 ∙ runs_on_to m n g h.0 next (omega (arith, l)) h.2 h.3 ∙ ap (λ k. runs k next) left

-- moves were made from where the step under way was given out
pub moved_on : (u v w : Outside) (p : Passed) (n m : ℕ) (at to : Stand) (g : ℕ) (body : Frame) (s t x : State) → m < n → at ≡ Stand.Going g body →
    IsPassing u v p (runs n (next_at at s)) → HasGiven v w s.lines (map logged s.posts) → t ≡ silent s →
    MovesTo g m (with_phase g (Phase.Live body) t) (next_at to x) → IsPassing u w p (runs (n - (m + 1)) (next_at to x))
moved_on u v w p n m at to g body s t x l z i o k h =
    let y = silent (with_phase g (Phase.Live body) s) in
    let some : 0 < n = omega (arith, l) in
    let here : MovesTo g m y (next_at to x) = subst (λ (r : State). MovesTo g m (with_phase g (Phase.Live body) r) (next_at to x)) k h in
    let same : runs (n - 1) (move g y) ≡ runs (n - (m + 1)) (next_at to x) = sym (runs_step n g y some) ∙ runs_on_to m n g y (next_at to x) l refl here in
    subst (IsPassing u w p) same (moves_on u v w p n at g body s some z i o)

-- the lines and posts of the step under way come first
runs_first : (n : ℕ) (at : Stand) (s : State) → (rest : Passed) × (runs n (next_at at s) ≡ behind s.lines s.posts rest)
runs_first n at s = by n at
  where
    alone : (next : State → Next) → passed s next ≡ behind s.lines s.posts (record { lines = []; posts = []; next = next (silent s) })
    alone next =
        ap (λ ls. record { lines = ls; posts = s.posts; next = next (silent s) }) (sym (append-nil s.lines))
        ∙ ap (λ ps. record { lines = s.lines ++ []; posts = ps; next = next (silent s) }) (sym (append-nil s.posts))

    none : (State → Next) → Passed
    none next = record { lines = []; posts = []; next = next (silent s) }

    by : (n : ℕ) (at : Stand) → (rest : Passed) × (runs n (next_at at s) ≡ behind s.lines s.posts rest)
    by zero (Stand.Going g body) =
        let t = with_phase g (Phase.Live body) s in (
          record { lines = []; posts = []; next = Next.Over StopCause.NoMoves (silent t) },
          ap (λ ls. record { lines = ls; posts = s.posts; next = Next.Over StopCause.NoMoves (silent t) }) (sym (append-nil s.lines))
              ∙ ap (λ ps. record { lines = s.lines ++ []; posts = ps; next = Next.Over StopCause.NoMoves (silent t) }) (sym (append-nil s.posts)),
        )
    by (suc n) (Stand.Going g body) = (runs n (move g (silent (with_phase g (Phase.Live body) s))), refl)
    by zero Stand.Resting = (none Next.Resting, alone Next.Resting)
    by (suc n) Stand.Resting = (none Next.Resting, alone Next.Resting)
    by zero (Stand.Over c) = (none (Next.Over c), alone (Next.Over c))
    by (suc n) (Stand.Over c) = (none (Next.Over c), alone (Next.Over c))

pub runs_broken : (u v w : Outside) (p : Passed) (n : ℕ) (at : Stand) (s : State) → IsPassing u v p (runs n (next_at at s)) → HasGivenPart v w s.lines s.posts → HasGivenPart u w p.lines p.posts
runs_broken u v w p n at s i g = let r = runs_first n at s in broken u v w p (runs n (next_at at s)) r.0 s.lines s.posts i r.1 g

-- ---- what a part came to

pub at_rest : (came : Came) (next : Next) (s : State) → came ≡ Came.ToRest → CameTo came next s → next ≡ Next.Resting s
at_rest came next s k e = subst (λ (x : Came). CameTo x next s) k e

pub at_an_end : (came : Came) (c : StopCause) (next : Next) (s : State) → came ≡ Came.ToAnEnd c → CameTo came next s → CameTo (Came.ToAnEnd c) next s
at_an_end came c next s k e = subst (λ (x : Came). CameTo x next s) k e
