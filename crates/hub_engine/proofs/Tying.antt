-- That each step keeps hub and world tied.
use Rattle.std.proofs.Common.{◌≡◌, refl, ap, sym, ◌∙◌, subst, ℕ, zero, suc, ◌+◌, ◌≤◌, ◌^◌, Bool, true, false, List, [], ◌++◌, length, map, Some, IsSome, arith}
use Rattle.std.proofs.lemmas.List.{append-nil}
use Rattle.std.specs.Prelude.{if◌then◌else◌}
use Rattle.gv_values.specs.declared.fault.FaultKind.{FaultKind}
use Rattle.gv_values.specs.declared.job.Answer.{Answer}
use Rattle.gv_values.specs.declared.limits.TheConstants.{MOST_MOVES, MOST_TURNS}
use Rattle.world_rules.specs.declared.question.PostedJob.{PostedJob}
use Rattle.world_rules.specs.declared.question.Question.{Question}
use Rattle.world_rules.specs.Legal.{IsLegal, MayAsk}
use Rattle.world.specs.Outside.{WorldMeaning, Stores}
use Rattle.scenario_tree.specs.declared.tree.Scenario.{Scenario}
use Rattle.trace_text.specs.declared.line.Line.{Line}
use Rattle.machine.specs.declared.items.Item.{Item}
use Rattle.machine.specs.declared.state.Frame.{Frame}
use Rattle.machine.specs.declared.state.Phase.{Phase}
use Rattle.machine.specs.declared.state.Post.{Post}
use Rattle.machine.specs.State.{State, say}
use Rattle.machine.specs.Questions.{any_numbered, block_line, question, take_answer}
use Rattle.machine.specs.Deliveries.{deliver, interrupts}
use Rattle.machine.specs.Greenlets.{with_phase}
use Rattle.machine.specs.Landing.{Next, lands, starts}
use Rattle.machine.specs.Run.{first_state, least_below, logged, silent}
use Rattle.machine.proofs.Answered.{posts-answered}
use Rattle.machine_turns.specs.Logs.{KnowsJobs, StandsKnowing, posts_of_step}
use Rattle.machine_turns.proofs.Knowing.{answers-know, delivers-know, exits-know, may-ask, moves-know, starts-know}
use Rattle.hub_engine.specs.declared.stand.Came.{Came}
use Rattle.hub_engine.specs.declared.stand.Stand.{Stand}
use Rattle.hub_engine.specs.Onward.{MovesTo}
use Rattle.hub_engine.specs.Outside.{ArePostable, HasDone, HasGiven, Outside}
use Rattle.hub_engine.specs.Ready.{AreDeclared, IsReadyAt, IsReadyToMove, MayRun}
use Rattle.hub_engine.specs.Settlings.{MaySettle, most_hops}
use Rattle.hub_engine.specs.Stands.{next_at}
use Rattle.hub_engine.specs.Tied.{IsTied, IsTiedAfter, IsTiedAt}
use Rattle.hub_engine.specs.Within.{IsWithinAt, IsWithinToMove}
use Rattle.hub_engine.proofs.Giving.{answers_of_logged, posts_of_logged}
use Rattle.hub_engine.proofs.Posting.{standing_postable}
use Rattle.hub_engine.proofs.Readily.{declared_first, declared_ready, ready_answered, ready_at_rest, ready_blocked, ready_exit, ready_going, ready_started, ready_turned, some_item}
use Rattle.hub_engine.proofs.Settlings.{room_settles, settles_first}
use Rattle.hub_engine.proofs.Within.{HasMoved, rest_room, standing_moves, within_answered, within_blocked, within_delivered, within_exit, within_given, within_moved, within_started, within_turned, within_unanswered}

-- ---- a state and its jobs

knows_standing : (posts : List PostedJob) (answers : List Answer) (at : Stand) (s : State) → StandsKnowing posts answers (next_at at s) → KnowsJobs posts answers s
knows_standing posts answers (Stand.Going g body) s k = record { posts_are = k.posts_are; arrived = k.arrived; no_other = k.no_other }
knows_standing posts answers Stand.Resting s k = k
knows_standing posts answers (Stand.Over cause) s k = k

knows_phased : (posts : List PostedJob) (answers : List Answer) (g : ℕ) (body : Frame) (s : State) → KnowsJobs posts answers s → KnowsJobs posts answers (with_phase g (Phase.Live body) s)
knows_phased posts answers g body s k = record { posts_are = k.posts_are; arrived = k.arrived; no_other = k.no_other }

-- what the step under way posted was given out
knows_given : (v w : Outside) (s t : State) → HasDone v w (map logged s.posts) → KnowsJobs v.means.posts v.means.answers s → t ≡ silent s → KnowsJobs w.means.posts w.means.answers t
knows_given v w s t d k e =
    let posts : w.means.posts ≡ v.means.posts ++ posts_of_step s.posts = d.posts ∙ ap (λ ps. v.means.posts ++ ps) (posts_of_logged s.posts) in
    let answers : w.means.answers ≡ v.means.answers = d.answers ∙ ap (λ z. v.means.answers ++ z) (answers_of_logged s.posts) ∙ append-nil v.means.answers in
    subst (KnowsJobs w.means.posts w.means.answers) (sym e)
    (subst (λ ps. KnowsJobs ps w.means.answers (silent s)) (sym posts)
    (subst (λ z. KnowsJobs (v.means.posts ++ posts_of_step s.posts) z (silent s)) (sym answers)
    (record { posts_are = append-nil (v.means.posts ++ posts_of_step s.posts) ∙ k.posts_are; arrived = k.arrived; no_other = k.no_other })))

runs_given : (v w : Outside) (posts : List Post) → HasDone v w (map logged posts) → v.means.runs ≡ true → w.means.runs ≡ true
runs_given v w posts d e = d.rest.runs ∙ e

-- ---- what may be posted

pub postable_at : {may : Bool} {turns : ℕ} (m : WorldMeaning) (at : Stand) (s : State) → IsTiedAt may turns m (next_at at s) → ArePostable m.posts s.posts
postable_at m at s t = standing_postable m.posts m.answers at s t.knows

pub runs_at : {may : Bool} {turns : ℕ} (m : WorldMeaning) (at : Stand) (s : State) → IsTiedAt may turns m (next_at at s) → m.runs ≡ true
runs_at m at s t = t.runs

-- ---- a move

-- the step under way was given out, and the greenlet is to move
pub to_move : (may : Bool) (turns : ℕ) (m : WorldMeaning) (at : Stand) (g : ℕ) (body : Frame) (s t : State) → at ≡ Stand.Going g body → IsTiedAt may turns m (next_at at s) → t ≡ silent s →
    IsReadyToMove g (with_phase g (Phase.Live body) t)
to_move may turns m at g body s t k h e =
    let own : IsTiedAt may turns m (Next.Going g (with_phase g (Phase.Live body) s)) = subst (λ (x : Stand). IsTiedAt may turns m (next_at x s)) k h in
    ready_going g (with_phase g (Phase.Live body) s) (with_phase g (Phase.Live body) t) own.ready (ap (λ (x : State). with_phase g (Phase.Live body) x) e)

-- and is within the budgets
pub to_within : (may : Bool) (turns : ℕ) (m : WorldMeaning) (at : Stand) (g : ℕ) (body : Frame) (s t : State) → at ≡ Stand.Going g body → IsTiedAt may turns m (next_at at s) → t ≡ silent s →
    IsWithinToMove g (with_phase g (Phase.Live body) t)
to_within may turns m at g body s t k h e =
    let own : IsTiedAt may turns m (Next.Going g (with_phase g (Phase.Live body) s)) = subst (λ (x : Stand). IsTiedAt may turns m (next_at x s)) k h in
    record { may = may; turns = turns; before = with_phase g (Phase.Live body) s; within = own.within; same = ap (λ (x : State). with_phase g (Phase.Live body) x) e }

-- moves one after another leave the hub knowing of its jobs
knows_moved : (posts : List PostedJob) (answers : List Answer) (g n : ℕ) (s : State) (next : Next) → KnowsJobs posts answers s → MovesTo g n s next → StandsKnowing posts answers next
knows_moved posts answers g zero s next k h = subst (StandsKnowing posts answers) h (moves-know posts answers g s k)
knows_moved posts answers g (suc n) s next k h = knows_moved posts answers g n h.0 next (subst (StandsKnowing posts answers) h.1 (moves-know posts answers g s k)) h.3

-- they are counted, and stay within the budgets
moves-on : (may : Bool) (turns : ℕ) (m : WorldMeaning) (at to : Stand) (g n : ℕ) (body : Frame) (s t u : State) → IsTiedAt may turns m (next_at at s) → at ≡ Stand.Going g body → t ≡ silent s →
    t.moves + (n + 1) ≤ MOST_MOVES → MovesTo g n (with_phase g (Phase.Live body) t) (next_at to u) → HasMoved may turns (t.moves + (n + 1)) (next_at to u)
moves-on may turns m at to g n body s t u h k e few moved =
    let own : IsWithinAt may turns (Next.Going g (with_phase g (Phase.Live body) s)) = subst (λ (x : Stand). IsWithinAt may turns (next_at x s)) k h.within in
    within_moved may turns g n (with_phase g (Phase.Live body) s) (with_phase g (Phase.Live body) t) (next_at to u) own (ap (λ (x : State). with_phase g (Phase.Live body) x) e) few moved

pub counted_moved : (may : Bool) (turns : ℕ) (m : WorldMeaning) (at to : Stand) (g n : ℕ) (body : Frame) (s t u : State) → IsTiedAt may turns m (next_at at s) → at ≡ Stand.Going g body → t ≡ silent s →
    t.moves + (n + 1) ≤ MOST_MOVES → MovesTo g n (with_phase g (Phase.Live body) t) (next_at to u) → u.moves ≡ t.moves + (n + 1)
counted_moved may turns m at to g n body s t u h k e few moved = sym (standing_moves to u) ∙ (moves-on may turns m at to g n body s t u h k e few moved).moves_are

pub tied_moved : (may : Bool) (turns : ℕ) (v w : Outside) (at to : Stand) (g n : ℕ) (body : Frame) (s t u : State) → IsTiedAt may turns v.means (next_at at s) → at ≡ Stand.Going g body →
    HasGiven v w s.lines (map logged s.posts) → t ≡ silent s → t.moves + (n + 1) ≤ MOST_MOVES → MovesTo g n (with_phase g (Phase.Live body) t) (next_at to u) → IsReadyAt (next_at to u) →
    IsTiedAt may turns w.means (next_at to u)
tied_moved may turns v w at to g n body s t u h k d e few m r =
    let here = knows_phased w.means.posts w.means.answers g body t (knows_given v w s t d.done (knows_standing v.means.posts v.means.answers at s h.knows) e) in
    record {
      ready = r;
      within = (moves-on may turns v.means at to g n body s t u h k e few m).within;
      runs = runs_given v w s.posts d.done h.runs;
      knows = knows_moved w.means.posts w.means.answers g n (with_phase g (Phase.Live body) t) (next_at to u) here m;
    }

pub tied_at_rest : (may : Bool) (turns : ℕ) (v w : Outside) (at : Stand) (s t : State) → at ≡ Stand.Resting → IsTiedAt may turns v.means (next_at at s) → HasGiven v w s.lines (map logged s.posts) →
    t ≡ silent s → IsTied may turns w.means t
tied_at_rest may turns v w at s t k h d e =
    let own : IsTiedAt may turns v.means (Next.Resting s) = subst (λ (x : Stand). IsTiedAt may turns v.means (next_at x s)) k h in
    record {
      ready = ready_at_rest s t own.ready e;
      within = within_given may turns s t own.within e;
      runs = runs_given v w s.posts d.done own.runs;
      knows = knows_given v w s t d.done own.knows e;
    }

-- ---- turns

-- it has as many turns as the state
pub turns_are : (may : Bool) (turns : ℕ) (m : WorldMeaning) (s : State) → IsTied may turns m s → s.turns ≡ turns
turns_are may turns m s h = h.within.same_turns

pub tied_now : (may : Bool) (turns : ℕ) (m : WorldMeaning) (s : State) → IsTied may turns m s → IsTied may s.turns m s
tied_now may turns m s h = subst (λ (n : ℕ). IsTied may n m s) (sym h.within.same_turns) h

-- the same after as many turns
pub tied_as : (may : Bool) (came : Came) (n k : ℕ) (m : WorldMeaning) (s : State) → n ≡ k → IsTiedAfter came may n m s → IsTiedAfter came may k m s
tied_as may came n k m s e h = subst (λ (x : ℕ). IsTiedAfter came may x m s) e h

-- a turn need not take its answer
pub tied_unanswered : (turns : ℕ) (m : WorldMeaning) (next : Next) → IsTiedAt true turns m next → IsTiedAt false turns m next
tied_unanswered turns m next h = record { ready = h.ready; within = within_unanswered turns next h.within; runs = h.runs; knows = h.knows }

-- ---- a delivery

pub tied_delivered : (may : Bool) (turns : ℕ) (m : WorldMeaning) (mark : ℕ) (s t : State) (at : Stand) → IsSome (least_below mark s.items) → IsTied may turns m s →
    ((i : Item) → least_below mark s.items ≡ Some i → deliver i s ≡ next_at at t) → IsReadyAt (next_at at t) → IsTiedAt may turns m (next_at at t)
tied_delivered may turns m mark s t at w h f r =
    let i = some_item (least_below mark s.items) w in
    record {
      ready = r;
      within = (within_delivered may turns mark s t at w h.ready.silent h.within f).within;
      runs = h.runs;
      knows = subst (StandsKnowing m.posts m.answers) (f i.0 i.1) (delivers-know m.posts m.answers i.0 s h.knows);
    }

-- a delivery counts no move
pub counted_delivered : (may : Bool) (turns : ℕ) (m : WorldMeaning) (mark : ℕ) (s t : State) (at : Stand) → IsSome (least_below mark s.items) → IsTied may turns m s →
    ((i : Item) → least_below mark s.items ≡ Some i → deliver i s ≡ next_at at t) → t.moves ≡ s.moves
counted_delivered may turns m mark s t at w h f = sym (standing_moves at t) ∙ (within_delivered may turns mark s t at w h.ready.silent h.within f).moves_are

pub tied_turned : (may : Bool) (m : WorldMeaning) (s t : State) → t ≡ record s { turns = s.turns + 1 } → s.turns + 1 ≤ MOST_TURNS → IsTied may s.turns m s → IsTied true (s.turns + 1) m t
tied_turned may m s t e few h = subst (IsTied true (s.turns + 1) m) (sym e) (record {
  ready = ready_turned (s.turns + 1) s h.ready;
  within = within_turned may s.turns s h.within few;
  runs = h.runs;
  knows = record { posts_are = h.knows.posts_are; arrived = h.knows.arrived; no_other = h.knows.no_other };
})

pub tied_after : (may : Bool) (turns : ℕ) (came : Came) (m : WorldMeaning) (s : State) → came ≡ Came.ToRest → IsTiedAfter came may turns m s → IsTied may turns m s
tied_after may turns came m s e h = subst (λ (x : Came). IsTiedAfter x may turns m s) e h

pub none_posted : {may : Bool} {turns : ℕ} (m : WorldMeaning) (s : State) → IsTied may turns m s → s.posts ≡ []
none_posted m s h = ap (λ (x : State). x.posts) h.ready.silent

-- ---- settlings

-- at rest, for an answer
pub rest_settles : (may : Bool) (turns : ℕ) (m : WorldMeaning) (s : State) → IsTied may turns m s → s.next_ready + length s.items ≤ 2 ^ 63
rest_settles may turns m s h = settles_first s (room_settles 2 s (rest_room may turns s h.within))

-- and for LoopExit, after its block line
pub exit_settles : (may : Bool) (turns : ℕ) (m : WorldMeaning) (s t : State) → IsTied may turns m s → t ≡ block_line s → MaySettle (most_hops + 2) t
exit_settles may turns m s t h e =
    subst (MaySettle (most_hops + 2)) (sym e) (room_settles 2 (block_line s) (rest_room may turns (block_line s) (within_blocked may turns s h.ready.silent h.within)))

pub first_settles : (c : Scenario) (s : State) → s ≡ first_state c → MaySettle (most_hops + 1) s
first_settles c s e = subst (MaySettle (most_hops + 1)) (sym e) (record { items = omega arith; numbers = omega arith })

-- ---- a block line

knows_said : (posts : List PostedJob) (answers : List Answer) (b : Bool) (line : Line) (s : State) → KnowsJobs posts answers s → KnowsJobs posts answers (if b then s else say line s)
knows_said posts answers true line s k = k
knows_said posts answers false line s k = record { posts_are = k.posts_are; arrived = k.arrived; no_other = k.no_other }

posts_said : (b : Bool) (line : Line) (s : State) → (if b then s else say line s).posts ≡ s.posts
posts_said true line s = refl
posts_said false line s = refl

question_said : (b : Bool) (line : Line) (s : State) → question (silent (if b then s else say line s)) ≡ question (silent s)
question_said true line s = refl
question_said false line s = refl

-- the block line is to be given out
pub tied_blocked : (may : Bool) (turns : ℕ) (m : WorldMeaning) (s t : State) → IsTied may turns m s → t ≡ block_line s → IsTiedAt may turns m (next_at Stand.Resting t)
tied_blocked may turns m s t h e = subst (λ (x : State). IsTiedAt may turns m (Next.Resting x)) (sym e) (record {
  ready = ready_blocked s h.ready;
  within = within_blocked may turns s h.ready.silent h.within;
  runs = h.runs;
  knows = knows_said m.posts m.answers (any_numbered s.items) _ s h.knows;
})

pub posts_blocked : {may : Bool} {turns : ℕ} (m : WorldMeaning) (s : State) → IsTied may turns m s → (block_line s).posts ≡ []
posts_blocked m s h = posts_said (any_numbered s.items) _ s ∙ none_posted m s h

pub asked_blocked : (q : Question) (s t u : State) → question s ≡ Some q → t ≡ block_line s → u ≡ silent t → question u ≡ Some q
asked_blocked q s t u e f g = ap question (g ∙ ap silent f) ∙ question_said (any_numbered s.items) _ s ∙ e

-- ---- LoopExit

pub declared_blocked : {may : Bool} {turns : ℕ} (m : WorldMeaning) (s t : State) → IsTied may turns m s → t ≡ block_line s → AreDeclared t
declared_blocked m s t h e = subst AreDeclared (sym e) (declared_ready (Next.Resting (block_line s)) (ready_blocked s h.ready))

exit-here : (s t u : State) (at : Stand) → t ≡ block_line s → interrupts 0 FaultKind.LoopExit t ≡ next_at at u → interrupts 0 FaultKind.LoopExit (block_line s) ≡ next_at at u
exit-here s t u at e f = ap (interrupts 0 FaultKind.LoopExit) (sym e) ∙ f

-- neither the block line nor LoopExit counts a move
pub counted_exit : (may : Bool) (turns : ℕ) (m : WorldMeaning) (s t u : State) (at : Stand) → IsTied may turns m s → t ≡ block_line s → interrupts 0 FaultKind.LoopExit t ≡ next_at at u → u.moves ≡ s.moves
counted_exit may turns m s t u at h e f = sym (standing_moves at u) ∙ (within_exit may turns s u at h.ready.silent h.within (exit-here s t u at e f)).moves_are

pub tied_exit : (may : Bool) (turns : ℕ) (m : WorldMeaning) (s t u : State) (at : Stand) → IsTied may turns m s → t ≡ block_line s → interrupts 0 FaultKind.LoopExit t ≡ next_at at u →
    IsTiedAt may turns m (next_at at u)
tied_exit may turns m s t u at h e f =
    let here = exit-here s t u at e f in
    record {
      ready = ready_exit s u at h.ready here;
      within = (within_exit may turns s u at h.ready.silent h.within here).within;
      runs = h.runs;
      knows = subst (StandsKnowing m.posts m.answers) here (exits-know m.posts m.answers (block_line s) (knows_said m.posts m.answers (any_numbered s.items) _ s h.knows));
    }

-- ---- an answer

pub may_be_asked : {may : Bool} {turns : ℕ} (m : WorldMeaning) (q : Question) (s : State) → IsTied may turns m s → question s ≡ Some q → MayAsk m.posts m.answers q
may_be_asked m q s h e = may-ask m.posts m.answers q s (none_posted m s h) h.knows e

-- an answer posts nothing
pub posts_answered : {may : Bool} {turns : ℕ} (m : WorldMeaning) (a : Answer) (s : State) → IsTied may turns m s → (take_answer a s).posts ≡ []
posts_answered m a s h = posts-answered a s ∙ none_posted m s h

pub posts_taken : {may : Bool} {turns : ℕ} (m : WorldMeaning) (a : Answer) (s t : State) → IsTied may turns m s → t ≡ take_answer a s → t.posts ≡ []
posts_taken m a s t h e = ap (λ (x : State). x.posts) e ∙ posts_answered m a s h

-- the answer is to be given out
pub tied_answered : (turns : ℕ) (m n : WorldMeaning) (q : Question) (a : Answer) (s t : State) → IsTied true turns m s → IsLegal m.posts m.answers q a → Stores m n a → t ≡ take_answer a s →
    IsTiedAt false turns n (next_at Stand.Resting t)
tied_answered turns m n q a s t h legal stored e = subst (λ (x : State). IsTiedAt false turns n (Next.Resting x)) (sym e) (record {
  ready = ready_answered a s h.ready;
  within = within_answered turns a s h.ready.silent h.within;
  runs = stored.rest.runs ∙ h.runs;
  knows = subst (λ ps. KnowsJobs ps n.answers (take_answer a s)) (sym stored.posts)
      (subst (λ z. KnowsJobs m.posts z (take_answer a s)) (sym stored.answers) (answers-know m.posts m.answers q a s (none_posted m s h) legal h.knows));
})

-- ---- the beginning

pub declared_started : (c : Scenario) (s : State) → MayRun c → s ≡ first_state c → AreDeclared s
declared_started c s may e = subst AreDeclared (sym e) (declared_first c may.main)

pub tied_started : (m : WorldMeaning) (c : Scenario) (s t : State) (at : Stand) → MayRun c → m.runs ≡ true → m.posts ≡ [] → m.answers ≡ [] → s ≡ first_state c →
    starts lands 0 [] s ≡ next_at at t → IsTiedAt false 0 m (next_at at t)
tied_started m c s t at may runs posts answers e f =
    let here : starts lands 0 [] (first_state c) ≡ next_at at t = ap (starts lands 0 []) (sym e) ∙ f in
    record {
      ready = subst IsReadyAt here (ready_started c may);
      within = (subst (HasMoved false 0 0) here (within_started c may)).within;
      runs = runs;
      knows = subst (StandsKnowing m.posts m.answers) here
          (subst (λ ps. StandsKnowing ps m.answers (starts lands 0 [] (first_state c))) (sym posts)
          (subst (λ z. StandsKnowing [] z (starts lands 0 [] (first_state c))) (sym answers) (starts-know c)));
    }

-- no move is counted where main starts
pub counted_started : (c : Scenario) (s t : State) (at : Stand) → MayRun c → s ≡ first_state c → starts lands 0 [] s ≡ next_at at t → t.moves ≡ 0
counted_started c s t at may e f =
    let here : starts lands 0 [] (first_state c) ≡ next_at at t = ap (starts lands 0 []) (sym e) ∙ f in
    sym (standing_moves at t) ∙ (subst (HasMoved false 0 0) here (within_started c may)).moves_are
