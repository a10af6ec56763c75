-- From each step to the whole run.
use Rattle.std.proofs.Common.{◌≡◌, refl, ap, ◌∙◌, sym, subst, ℕ, zero, suc, ◌+◌, ◌-◌, Bool, true, false, List, [], ◌∷◌, ◌++◌, length, map}
use Rattle.std.specs.Prelude.{Option, Some, None, if◌then◌else◌, is_some, nat_lt, slice_get}
use Rattle.gv_values.specs.declared.fault.FaultKind.{FaultKind}
use Rattle.gv_values.specs.declared.job.Answer.{Answer}
use Rattle.world_rules.specs.declared.question.Question.{Question}
use Rattle.world_rules.specs.Legal.{AreLegal, IsLegal}
use Rattle.world_rules.specs.Script.{scripted, without_done}
use Rattle.scenario_tree.specs.declared.tree.Scenario.{Scenario}
use Rattle.trace_text.specs.declared.line.Blocked.{Blocked}
use Rattle.trace_text.specs.declared.line.Line.{Line}
use Rattle.trace_text.specs.declared.line.StopCause.{StopCause}
use Rattle.machine.specs.declared.items.Item.{Item}
use Rattle.machine.specs.State.{State, say}
use Rattle.machine.specs.Questions.{any_numbered, block_line, is_numbered, question, take_answer}
use Rattle.machine.specs.Deliveries.{deliver, interrupts}
use Rattle.machine.specs.TraceLaws.{meets_laws}
use Rattle.machine.specs.Landing.{Next, lands, starts}
use Rattle.machine.specs.Moves.{move}
use Rattle.machine.specs.Run.{GoingOn, Passed, Ran, Source, after_answer, after_delivery, after_exit, after_question, after_start, after_turn, asks, deliveries, delivers_one, first_state, given_out, least_below, logged, loop_exit, nearer, passed, rests, run_from, run_turns, runs, silent, stopped, turn, with_posts, with_this}
use Rattle.machine.proofs.Answered.{posts-answered}
use Rattle.machine_soundness.proofs.States.{kept-say}
use Rattle.machine_well_formed.specs.Texts.{IsFitText}
use Rattle.machine_trace_laws.specs.Reached.{Reached}
use Rattle.machine_trace_laws.proofs.Histories.{AreLawful, History, Tells, at_first, lawful-append, lawful-meets, legal-after, tells-line, tells-nothing, tells-then, with_line}
use Rattle.machine_trace_laws.proofs.Settled.{is_settled}
use Rattle.machine_trace_laws.proofs.Ties.{count-other, told-other}
use Rattle.machine_trace_laws.proofs.Goings.{At, Ends, Goes, Rests}
use Rattle.machine_trace_laws.proofs.Asked.{goes-ends}
use Rattle.machine_trace_laws.proofs.Moved.{move-at}
use Rattle.machine_trace_laws.proofs.Delivered.{begins-at, deliver-at, interrupts-at, take_answer-at, with_answer}

-- ---- the same, where lines and posts were given out

abbrev pub goes-silent : (b : History) (g h : ℕ) (s : State) → (m : Goes b g h s) → Goes m.story g h (silent s)
goes-silent b g h s m =
    record {
      moves = record {
        kept = record { sound = m.moves.kept.sound; owners = m.moves.kept.owners; members = m.moves.kept.members; main = m.moves.kept.main };
        live = m.moves.live;
        same = m.moves.same;
        host = record { plain = m.moves.host.plain; live = m.moves.host.live; free = m.moves.host.free };
      };
      story = m.story;
      tells = tells-nothing m.story;
      ties = record {
        ended = m.ties.ended;
        fresh = m.ties.fresh;
        parked = m.ties.parked;
        links = m.ties.links;
        jobs = m.ties.jobs;
        fewer = m.ties.fewer;
        done = m.ties.done;
        rising = m.ties.rising;
        heard = m.ties.heard;
      };
      parking = m.parking;
      main = m.main;
      sides = record { kills = m.sides.kills; bodies = m.sides.bodies; fit = m.sides.fit; known = m.sides.known; offers = m.sides.offers };
      held = m.held;
    }

abbrev pub rests-silent : (b : History) (s : State) → (m : Rests b s) → Rests m.story (silent s)
rests-silent b s m =
    record {
      kept = record { sound = m.kept.sound; owners = m.kept.owners; members = m.kept.members; main = m.kept.main };
      story = m.story;
      tells = tells-nothing m.story;
      ties = record {
        ended = m.ties.ended;
        fresh = m.ties.fresh;
        parked = m.ties.parked;
        links = m.ties.links;
        jobs = m.ties.jobs;
        fewer = m.ties.fewer;
        done = m.ties.done;
        rising = m.ties.rising;
        heard = m.ties.heard;
      };
      parking = m.parking;
      main = m.main;
      sides = record { kills = m.sides.kills; bodies = m.sides.bodies; fit = m.sides.fit; known = m.sides.known; offers = m.sides.offers };
      held = m.held;
    }

abbrev pub ends-silent : (b : History) (s : State) → (m : Ends b s) → Ends m.story (silent s)
ends-silent b s m =
    record {
      story = m.story;
      tells = tells-nothing m.story;
      kept = record { sound = m.kept.sound; owners = m.kept.owners; members = m.kept.members; main = m.kept.main };
      sides = record { kills = m.sides.kills; bodies = m.sides.bodies; fit = m.sides.fit; known = m.sides.known; offers = m.sides.offers };
      held = m.held;
    }

pub rests-turned : (b : History) (n : ℕ) (s : State) → Rests b s → Rests b (record s { turns = n })
rests-turned b n s m =
    record {
      kept = record { sound = m.kept.sound; owners = m.kept.owners; members = m.kept.members; main = m.kept.main };
      story = m.story;
      tells = m.tells;
      ties = record {
        ended = m.ties.ended;
        fresh = m.ties.fresh;
        parked = m.ties.parked;
        links = m.ties.links;
        jobs = m.ties.jobs;
        fewer = m.ties.fewer;
        done = m.ties.done;
        rising = m.ties.rising;
        heard = m.ties.heard;
      };
      parking = m.parking;
      main = m.main;
      sides = record { kills = m.sides.kills; bodies = m.sides.bodies; fit = m.sides.fit; known = m.sides.known; offers = m.sides.offers };
      held = m.held;
    }

-- a block line is of no greenlet
rests-blocked : (b : History) (c : Bool) (x : Blocked) (s : State) → Rests b s → Rests b (if c then s else say (Line.Block x) s)
rests-blocked b true x s m = m
rests-blocked b false x s m =
    record {
      kept = kept-say (Line.Block x) s m.kept;
      story = with_line (Line.Block x) m.story;
      tells = tells-line b m.story s.lines s.posts (Line.Block x) (record { once = refl; last = refl; parked = refl; links = refl; rising = refl; jobs = refl }) m.tells;
      ties = record {
        ended = m.ties.ended;
        fresh = m.ties.fresh;
        parked = m.ties.parked;
        links = m.ties.links;
        jobs = λ j job held. told-other (length s.jobs) j job (Line.Block x) m.story.past refl (m.ties.jobs j job held);
        fewer = λ j e. count-other _ (Line.Block x) m.story.past refl ∙ m.ties.fewer j e;
        done = m.ties.done;
        rising = m.ties.rising;
        heard = m.ties.heard;
      };
      parking = m.parking;
      main = m.main;
      sides = record { kills = m.sides.kills; bodies = m.sides.bodies; fit = m.sides.fit; known = m.sides.known; offers = m.sides.offers };
      held = m.held;
    }

pub rests-block_line : (b : History) (s : State) → Rests b s → Rests b (block_line s)
rests-block_line b s m = rests-blocked b (any_numbered s.items) _ s m

settled-blocked : (c : Bool) (x : Blocked) (s : State) → is_settled s ≡ true → is_settled (if c then s else say (Line.Block x) s) ≡ true
settled-blocked true x s h = h
settled-blocked false x s h = h

pub settled-block_line : (s : State) → is_settled s ≡ true → is_settled (block_line s) ≡ true
settled-block_line s h = settled-blocked (any_numbered s.items) _ s h

posts-blocked : (c : Bool) (x : Blocked) (s : State) → (if c then s else say (Line.Block x) s).posts ≡ s.posts
posts-blocked true x s = refl
posts-blocked false x s = refl

pub posts-block_line : (s : State) → (block_line s).posts ≡ s.posts
posts-block_line s = posts-blocked (any_numbered s.items) _ s

-- ---- which item is delivered

pub record IsFound (items : List Item) (i : Item) : Type 0 where
  pub place : ℕ
  pub there : slice_get items place ≡ Some i
  pub numbered : is_numbered i ≡ true

found-later : (j i : Item) (items : List Item) → IsFound items i → IsFound (j ∷ items) i
found-later j i items f = record { place = suc f.place; there = f.there; numbered = f.numbered }

pub least-found : (mark : ℕ) (items : List Item) (i : Item) → least_below mark items ≡ Some i → IsFound items i
least-found mark [] i e = absurd (cc e)
least-found mark (j ∷ items) i e = by j.ready refl (least_below mark items) (least-found mark items) e
  where
    own : (n : ℕ) → j.ready ≡ Some n → j ≡ i → IsFound (j ∷ items) i
    own n r same = record { place = zero; there = ap (λ (x : Item). Some x) same; numbered = ap (λ (x : Item). is_numbered x) (sym same) ∙ ap is_some r }

    near : (n : ℕ) → j.ready ≡ Some n → (rest : Option Item) → ((k : Item) → rest ≡ Some k → IsFound items k) → nearer j n rest ≡ Some i → IsFound (j ∷ items) i
    near n r None f e = own n r (cc e)
    near n r (Some k) f e = of k.ready e
      where
        if-less : (m : ℕ) (c : Bool) → ◌≡◌ {A = Option Item} (if c then Some k else Some j) (Some i) → IsFound (j ∷ items) i
        if-less m true e = found-later j i items (f i e)
        if-less m false e = own n r (cc e)

        of : (o : Option ℕ) → ◌≡◌ {A = Option Item} (elim o [ None ↦ Some j | Some m ↦ if nat_lt m n then Some k else Some j ]) (Some i) → IsFound (j ∷ items) i
        of None e = own n r (cc e)
        of (Some m) e = if-less m (nat_lt m n) e

    by : (o : Option ℕ) → j.ready ≡ o → (rest : Option Item) → ((k : Item) → rest ≡ Some k → IsFound items k) → with_this j mark o rest ≡ Some i → IsFound (j ∷ items) i
    by None r rest f e = found-later j i items (f i e)
    by (Some n) r rest f e = within (nat_lt n mark) e
      where
        within : (c : Bool) → ◌≡◌ {A = Option Item} (if c then nearer j n rest else rest) (Some i) → IsFound (j ∷ items) i
        within true e = near n r rest f e
        within false e = found-later j i items (f i e)

-- ---- parts of a run

-- what stands where a part of the run was given out: no greenlet is left at a move
abbrev pub Left : Scenario → History → Next → Type 0
Left c h (Next.Going g s) = ⊥
Left c h (Next.Resting s) = Rests h s × (is_settled s ≡ true) × (s ≡ silent s) × Reached c (Next.Resting s)
Left c h (Next.Over cause s) = Ends h s

abbrev pub IsPassed : Scenario → History → Passed → Type 0
IsPassed c b p = (h : History) × Tells b h p.lines p.posts × Left c h p.next

passed-on : (c : Scenario) (b : History) (s : State) → is_settled s ≡ true → Reached c (Next.Resting s) → Rests b s → IsPassed c b (passed s Next.Resting)
passed-on c b s st r m = (m.story, m.tells, (rests-silent b s m, st, refl, Reached.GaveOut s r))

pub runs-passed : (c : Scenario) → (n : ℕ) (b : History) (next : Next) → At b next → Reached c next → IsPassed c b (runs n next)
runs-passed c zero b (Next.Going g s) a r = (a.1.story, a.1.tells, ends-silent b s (goes-ends b g a.0 s a.1))
runs-passed c zero b (Next.Resting s) a r = passed-on c b s a.1 r a.0
runs-passed c zero b (Next.Over cause s) a r = (a.story, a.tells, ends-silent b s a)
runs-passed c (suc n) b (Next.Resting s) a r = passed-on c b s a.1 r a.0
runs-passed c (suc n) b (Next.Over cause s) a r = (a.story, a.tells, ends-silent b s a)
runs-passed c (suc n) b (Next.Going g s) a r =
    let m = a.1 in
    let moved = move-at m.story g a.0 (silent s) (goes-silent b g a.0 s m) in
    let rest = runs-passed c n m.story (move g (silent s)) moved (Reached.Moved g s r) in
    (rest.0, tells-then b m.story rest.0 s.lines (runs n (move g (silent s))).lines s.posts (runs n (move g (silent s))).posts m.tells rest.1, rest.2)

-- the state is at rest, and reached
pub record IsReady (c : Scenario) (b : History) (s : State) : Type 0 where
  pub rests : Rests b s
  pub is_calm : is_settled s ≡ true
  pub reached : Reached c (Next.Resting s)

nothing-passed : (c : Scenario) (b : History) (s : State) → s ≡ silent s → IsReady c b s → IsPassed c b (rests s)
nothing-passed c b s e m = (b, tells-nothing b, (m.rests, m.is_calm, e, m.reached))

deliveries-passed : (c : Scenario) → (n budget mark : ℕ) (b : History) (s : State) → s ≡ silent s → IsReady c b s → IsPassed c b (deliveries n budget mark s)
deliveries-passed c zero budget mark b s e m = nothing-passed c b s e m
deliveries-passed c (suc n) budget mark b s e m = by (least_below mark s.items) (least-found mark s.items) (deliveries n budget mark) (λ h t z ready. deliveries-passed c n budget mark h t z ready)
  where
    on : (go : State → Passed) → ((h : History) (t : State) → t ≡ silent t → IsReady c h t → IsPassed c h (go t)) → (p : Passed) (next : Next) → p.next ≡ next →
        (h : History) → Tells b h p.lines p.posts → Left c h next → IsPassed c b (after_delivery go p next)
    on go rest p (Next.Going g t) same h told l = (h, told, subst (Left c h) (sym same) l)
    on go rest p (Next.Over cause t) same h told l = (h, told, subst (Left c h) (sym same) l)
    on go rest p (Next.Resting t) same h told l =
        let q = rest h t l.2 (record { rests = l.0; is_calm = l.1; reached = l.3 }) in
        (q.0, tells-then b h q.0 p.lines (go t).lines p.posts (go t).posts told q.1, q.2)

    by : (o : Option Item) → ((i : Item) → o ≡ Some i → IsFound s.items i) → (go : State → Passed) → ((h : History) (t : State) → t ≡ silent t → IsReady c h t → IsPassed c h (go t)) →
        IsPassed c b (delivers_one go budget o s)
    by None f go rest = nothing-passed c b s e m
    by (Some i) f go rest =
        let found = f i refl in
        let p = runs-passed c (budget - s.moves) b (deliver i s) (deliver-at b found.place i s found.there found.numbered m.is_calm m.rests)
        (Reached.Delivered found.place i s found.there found.numbered e m.reached) in
        on go rest (runs (budget - s.moves) (deliver i s)) (runs (budget - s.moves) (deliver i s)).next refl p.0 p.1 p.2

pub turn-passed : (c : Scenario) → (budget : ℕ) (b : History) (s : State) → s ≡ silent s → IsReady c b s → IsPassed c b (turn budget s)
turn-passed c budget b s e m =
    deliveries-passed c (length s.items) budget s.next_ready b (record s { turns = s.turns + 1 }) (ap (λ (z : State). record z { turns = s.turns + 1 }) e)
    (record { rests = rests-turned b (s.turns + 1) s m.rests; is_calm = m.is_calm; reached = Reached.Turned (s.turns + 1) s m.reached })

pub exit-passed : (c : Scenario) → (budget : ℕ) (b : History) (s : State) → s ≡ silent s → IsReady c b s → IsPassed c b (loop_exit budget (block_line s))
exit-passed c budget b s e m =
    let t = block_line s in
    let n = rests-block_line b s m.rests in
    runs-passed c (budget - t.moves) b (interrupts 0 FaultKind.LoopExit t) (interrupts-at b 0 FaultKind.LoopExit t n.kept.main n.main n) (Reached.Exited s e m.reached)

pub ready-block_line : (c : Scenario) (b : History) (s : State) → s ≡ silent s → IsReady c b s → IsReady c b (block_line s)
ready-block_line c b s e m = record { rests = rests-block_line b s m.rests; is_calm = settled-block_line s m.is_calm; reached = Reached.Blocked s e m.reached }

-- ---- runs

-- the lines are lawful, where the log is legal
abbrev pub IsLawfulRun : History → Ran → Type 0
IsLawfulRun b r = AreLegal b.posts b.answers r.log → AreLawful b.past r.lines

abbrev pub GoesLawfully : Scenario → GoingOn → Type 0
GoesLawfully c go = (source : Source) (b : History) (s : State) → s ≡ silent s → IsReady c b s → IsLawfulRun b (go source s)

lawful-given : (b h : History) (p : Passed) (r : Ran) → Tells b h p.lines p.posts → IsLawfulRun h r → IsLawfulRun b (given_out p r)
lawful-given b h p r t rest l =
    lawful-append b.past p.lines r.lines t.lawful (subst (λ z. AreLawful z r.lines) t.past (rest (legal-after b h p.lines p.posts r.log t l)))

lawful-stopped : (b : History) (cause : StopCause) (s : State) → IsLawfulRun b (stopped cause s)
lawful-stopped b cause s l = (record { once = refl; last = refl; parked = refl; links = refl; rising = refl; jobs = refl }, tt)

exit-lawful : (c : Scenario) (go : GoingOn) → GoesLawfully c go → (source : Source) (h : History) (next : Next) → Left c h next → IsLawfulRun h (after_exit go source next)
exit-lawful c go f source h (Next.Over cause s) l = lawful-stopped h cause s
exit-lawful c go f source h (Next.Resting s) l = f source h s l.2 (record { rests = l.0; is_calm = l.1; reached = l.3 })
exit-lawful c go f source h (Next.Going g s) l = lawful-stopped h StopCause.NoMoves s

answer-lawful : (c : Scenario) (go : GoingOn) → GoesLawfully c go → (source : Source) (b : History) (q : Question) (a : Answer) (s : State) → s ≡ silent s → (m : Rests b s) → m.story ≡ b →
    Reached c (Next.Resting s) → IsLawfulRun b (after_answer go source q a s)
answer-lawful c go f source b q a s e m same r l =
    let t = take_answer a s in
    let legal : IsLegal m.story.posts m.story.answers q a = subst (λ (h : History). IsLegal h.posts h.answers q a) (sym same) l.0 in
    let next = take_answer-at b q a s m legal in
    let n = next.0 in
    let log = (go source (silent t)).log in
    let none : t.posts ≡ [] = posts-answered a s ∙ ap (λ (z : State). z.posts) e in
    let rest = f source n.story (silent t) refl (record { rests = rests-silent (with_answer a b) t n; is_calm = next.1; reached = Reached.GaveOut t (Reached.Answered a s e r) }) in
    let after : AreLegal n.story.posts n.story.answers log =
    legal-after (with_answer a b) n.story t.lines t.posts log n.tells (subst (λ ps. AreLegal b.posts (b.answers ++ a ∷ []) (map logged ps ++ log)) (sym none) l.1) in
    lawful-append b.past t.lines (go source (silent t)).lines n.tells.lawful (subst (λ z. AreLawful z (go source (silent t)).lines) n.tells.past (rest after))

asks-lawful : (c : Scenario) (go : GoingOn) → GoesLawfully c go → (q : Question) (source : Source) (b : History) (s : State) → s ≡ silent s → (m : Rests b s) → m.story ≡ b →
    Reached c (Next.Resting s) → IsLawfulRun b (asks go q source s)
asks-lawful c go f q (Source.Given []) b s e m same r l = tt
asks-lawful c go f q (Source.Given (a ∷ answers)) b s e m same r l = answer-lawful c go f (Source.Given answers) b q a s e m same r l
asks-lawful c go f q (Source.Scripted tick jobs) b s e m same r l =
    let a = scripted tick jobs s.moment q in answer-lawful c go f (Source.Scripted tick (without_done a jobs)) b q a s e m same r l

question-lawful : (c : Scenario) → (go : GoingOn) → GoesLawfully c go → (budget : ℕ) (q : Option Question) (source : Source) (b : History) (s : State) → s ≡ silent s → IsReady c b s →
    IsLawfulRun b (after_question go budget q source s)
question-lawful c go f budget None source b s e m l =
    let p = exit-passed c budget b s e m in
    let part = loop_exit budget (block_line s) in
    lawful-given b p.0 part (after_exit go (with_posts s.moment part.posts source) part.next) p.1 (exit-lawful c go f (with_posts s.moment part.posts source) p.0 part.next p.2) l
question-lawful c go f budget (Some q) source b s e m l =
    let t = block_line s in
    let ready = ready-block_line c b s e m in
    let n = ready.rests in
    let log = (asks go q source (silent t)).log in
    let none : t.posts ≡ [] = posts-block_line s ∙ ap (λ (z : State). z.posts) e in
    let rest = asks-lawful c go f q source n.story (silent t) refl (rests-silent b t n) refl (Reached.GaveOut t ready.reached) in
    let after : AreLegal n.story.posts n.story.answers log =
    legal-after b n.story t.lines t.posts log n.tells (subst (λ ps. AreLegal b.posts b.answers (map logged ps ++ log)) (sym none) l) in
    lawful-append b.past t.lines (asks go q source (silent t)).lines n.tells.lawful (subst (λ z. AreLawful z (asks go q source (silent t)).lines) n.tells.past (rest after))

turn-lawful : (c : Scenario) → (go : GoingOn) → GoesLawfully c go → (budget : ℕ) (source : Source) (h : History) (next : Next) → Left c h next →
    IsLawfulRun h (after_turn go budget source next)
turn-lawful c go f budget source h (Next.Over cause s) l = lawful-stopped h cause s
turn-lawful c go f budget source h (Next.Resting s) l = question-lawful c go f budget (question s) source h s l.2 (record { rests = l.0; is_calm = l.1; reached = l.3 })
turn-lawful c go f budget source h (Next.Going g s) l = lawful-stopped h StopCause.NoMoves s

run_turns-lawful : (c : Scenario) → (n budget : ℕ) → GoesLawfully c (run_turns n budget)
run_turns-lawful c zero budget source b s e m = lawful-stopped b StopCause.NoTurns s
run_turns-lawful c (suc n) budget source b s e m =
    let part = turn budget s in
    let p = turn-passed c budget b s e m in
    lawful-given b p.0 part (after_turn (run_turns n budget) budget (with_posts s.moment part.posts source) part.next) p.1
    (turn-lawful c (run_turns n budget) (run_turns-lawful c n budget) budget (with_posts s.moment part.posts source) p.0 part.next p.2)

start-lawful : (c : Scenario) → (source : Source) (turns moves : ℕ) (h : History) (next : Next) → Left c h next → IsLawfulRun h (after_start source turns moves next)
start-lawful c source turns moves h (Next.Over cause s) l = lawful-stopped h cause s
start-lawful c source turns moves h (Next.Resting s) l = run_turns-lawful c turns moves source h s l.2 (record { rests = l.0; is_calm = l.1; reached = l.3 })
start-lawful c source turns moves h (Next.Going g s) l = lawful-stopped h StopCause.NoMoves s

pub run-lawful : (c : Scenario) (source : Source) (turns moves : ℕ) → IsFitText c → AreLegal [] [] (run_from source turns moves c).log → meets_laws (run_from source turns moves c).lines ≡ true
run-lawful c source turns moves text l =
    let part = runs moves (starts lands 0 [] (first_state c)) in
    let p = runs-passed c moves at_first (starts lands 0 [] (first_state c)) (begins-at c text) Reached.Started in
    lawful-meets (run_from source turns moves c).lines
    (lawful-given at_first p.0 part (after_start (with_posts 0 part.posts source) turns moves part.next) p.1 (start-lawful c (with_posts 0 part.posts source) turns moves p.0 part.next p.2) l)
