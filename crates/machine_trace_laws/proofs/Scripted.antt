-- The answers of a script are legal throughout a run.
use Rattle.std.proofs.Common.{◌≡◌, refl, ap, ◌∙◌, sym, subst, ℕ, zero, suc, ◌+◌, ◌≤◌, ◌<◌, Bool, true, false, List, [], ◌∷◌, ◌++◌, length, map, min, cond, append_assoc, arith}
use Rattle.std.proofs.lemmas.Bool.Decides.{nat_tests}
use Rattle.std.proofs.lemmas.List.{append-nil}
use Rattle.std.proofs.lemmas.List.Elements.{All-nil}
use Rattle.std.specs.Prelude.{not, ◌==◌, ◌||◌, Option, Some, None, Contains, filter, if◌then◌else◌, is_none, slice_get, slice_index_or}
use Rattle.gv_values.specs.declared.job.Answer.{Answer}
use Rattle.world_rules.specs.declared.question.DueJob.{DueJob}
use Rattle.world_rules.specs.declared.question.LogEntry.{LogEntry}
use Rattle.world_rules.specs.declared.question.PostedJob.{PostedJob}
use Rattle.world_rules.specs.declared.question.Question.{Question}
use Rattle.world_rules.specs.Legal.{AreLegal, IsLegal, MayAsk, is_answered, is_posted, last_answered_moment as last_answered, moment_of, outstanding, posted}
use Rattle.world_rules.specs.Script.{due_at, due_job, scripted, without_done}
use Rattle.world_rules.specs.declared.limits.TheConstants.{LAST_MOMENT}
use Rattle.world.specs.Ruled.{IsSound}
use Rattle.world.proofs.Sound.{scripted_legal, sound_answer, sound_post}
use Rattle.scenario_tree.specs.declared.tree.Scenario.{Scenario}
use Rattle.trace_text.specs.declared.line.Blocked.{Blocked}
use Rattle.trace_text.specs.declared.line.Line.{Line}
use Rattle.machine.specs.declared.state.JobState.{JobState}
use Rattle.machine.specs.declared.state.Post.{Post}
use Rattle.machine.specs.State.{State, say}
use Rattle.machine.specs.Questions.{any_numbered, any_outstanding, asks_wait, block_line, is_outstanding, least_deadline, question, take_answer}
use Rattle.machine.specs.Landing.{Next, lands, starts}
use Rattle.machine.specs.Run.{GoingOn, Passed, Ran, Source, after_answer, after_exit, after_question, after_start, after_turn, asks, due_jobs, first_state, given_out, logged, loop_exit, run_turns, runs, script_run, silent, turn, with_posts}
use Rattle.machine.proofs.Halves.{left, right}
use Rattle.machine.proofs.Answered.{posts-answered}
use Rattle.machine_soundness.proofs.Lists.{equal}
use Rattle.machine_trace_laws.specs.Reached.{Reached}
use Rattle.machine_well_formed.specs.Texts.{IsFitText}
use Rattle.machine_trace_laws.proofs.Histories.{History, Tells, as_posted, at_first}
use Rattle.machine_trace_laws.proofs.Ties.{IsHeard, are_counted}
use Rattle.machine_trace_laws.proofs.Goings.{Rests}
use Rattle.machine_trace_laws.proofs.Delivered.{begins-at, last-end, take_answer-at, with_answer}
use Rattle.machine_trace_laws.proofs.Runs.{IsReady, Left, exit-passed, posts-block_line, ready-block_line, rests-silent, runs-passed, turn-passed}

-- ---- posts

counted-at : (n : ℕ) (before : List PostedJob) (p : PostedJob) (rest : List PostedJob) → are_counted n (before ++ p ∷ rest) ≡ true → p.number ≡ n + length before
counted-at n [] p rest h = let own : p.number ≡ n = equal p.number n (left (p.number == n) _ h) in omega (arith, own)
counted-at n (q ∷ before) p rest h = let r = counted-at (n + 1) before p rest (right (q.number == n) _ h) in omega (arith, r)

counted-fresh : (n k : ℕ) (before : List PostedJob) (p : PostedJob) (rest : List PostedJob) → are_counted n (before ++ p ∷ rest) ≡ true → n + length before ≤ k → is_posted k before ≡ false
counted-fresh n k [] p rest h low = refl
counted-fresh n k (q ∷ before) p rest h low =
    let own : q.number ≡ n = equal q.number n (left (q.number == n) _ h) in
    let apart : (q.number == k) ≡ false = unlike own low in
    ap (λ b. b || is_posted k before) apart ∙ counted-fresh (n + 1) k before p rest (right (q.number == n) _ h) (omega (arith, low))
  where
    unlike : q.number ≡ n → n + suc (length before) ≤ k → (q.number == k) ≡ false
    unlike e l = grind (arith, nat_tests, e, l)

soon : (now takes : ℕ) → due_at now takes ≤ LAST_MOMENT
soon now takes = omega arith

posts-sound : (posts : List Post) (before : List PostedJob) (answers : List Answer) (jobs : List DueJob) (moment now : ℕ) → IsSound before answers jobs moment →
    are_counted 1 (before ++ map as_posted posts) ≡ true → IsSound (before ++ map as_posted posts) answers (jobs ++ due_jobs now posts) moment
posts-sound [] before answers jobs moment now s h =
    subst (λ ps. IsSound ps answers (jobs ++ []) moment) (sym (append-nil before)) (subst (λ js. IsSound before answers js moment) (sym (append-nil jobs)) s)
posts-sound (p ∷ posts) before answers jobs moment now s h =
    let number = counted-at 1 before (as_posted p) (map as_posted posts) h in
    let fresh = counted-fresh 1 p.number before (as_posted p) (map as_posted posts) h (omega (arith, number)) in
    let more = sound_post before answers jobs moment p.number p.job (due_at now p.takes) s fresh (soon now p.takes) in
    let joined = append_assoc before (as_posted p ∷ []) (map as_posted posts) in
    let rest = posts-sound posts (before ++ as_posted p ∷ []) answers (jobs ++ due_job p.number p.job (due_at now p.takes) ∷ []) moment now more (subst (λ ps. are_counted 1 ps ≡ true) (sym joined) h) in
    subst (λ ps. IsSound ps answers (jobs ++ due_jobs now (p ∷ posts)) moment) joined
    (subst (λ js. IsSound (before ++ as_posted p ∷ [] ++ map as_posted posts) answers js moment) (append_assoc jobs (due_job p.number p.job (due_at now p.takes) ∷ []) (due_jobs now posts)) rest)

-- ---- what a state at rest says of them

silent-posts : (s : State) → s ≡ silent s → s.posts ≡ []
silent-posts s e = ap (λ (z : State). z.posts) e

same-posts : (b h : History) (lines : List Line) (posts : List Post) → posts ≡ [] → Tells b h lines posts → h.posts ≡ b.posts
same-posts b h lines posts e t = t.posted ∙ ap (λ ps. b.posts ++ map as_posted ps) e ∙ append-nil b.posts

heard-here : (b : History) (s : State) → s ≡ silent s → Rests b s → IsHeard b.posts b.answers s.moment s.jobs
heard-here b s e m =
    subst (λ ps. IsHeard ps b.answers s.moment s.jobs) (same-posts b m.story s.lines s.posts (silent-posts s e) m.tells)
    (subst (λ answers. IsHeard m.story.posts answers s.moment s.jobs) m.tells.answered m.ties.heard)

-- ---- what may be asked

filtered-some : {X : Type 0} (q : X → Bool) (xs : List X) (x : X) → Contains xs x → q x ≡ true → 0 < length (filter q xs)
filtered-some q [] x (k, low, e) h = absurd (omega (arith, low))
filtered-some q (y ∷ xs) x (k, low, e) h = by (q y) refl k low e (λ k l f. filtered-some q xs x (k, l, f) h)
  where
    by : (b : Bool) → q y ≡ b → (k : ℕ) → k < length (y ∷ xs) → slice_index_or (y ∷ xs) k x ≡ x → ((k : ℕ) → k < length xs → slice_index_or xs k x ≡ x → 0 < length (filter q xs)) →
        0 < length (cond b (y ∷ filter q xs) (filter q xs))
    by true z k low e rest = omega arith
    by false z zero low e rest = absurd (cc (z, ap q e, h))
    by false z (suc k) low e rest = rest k (omega (arith, low)) e

record IsOpen (jobs : List JobState) (p : ℕ) (x : JobState) : Type 0 where
  there : slice_get jobs p ≡ Some x
  waits : is_none x.outcome ≡ true

open-job : (jobs : List JobState) → any_outstanding jobs ≡ true → (p : ℕ) × (x : JobState) × IsOpen jobs p x
open-job [] e = absurd (cc e)
open-job (j ∷ jobs) e = by (is_outstanding j) refl e (open-job jobs)
  where
    by : (b : Bool) → is_outstanding j ≡ b → (b || any_outstanding jobs) ≡ true → (any_outstanding jobs ≡ true → (p : ℕ) × (x : JobState) × IsOpen jobs p x) → (p : ℕ) × (x : JobState) × IsOpen (j ∷ jobs) p x
    by true z e rest = (zero, j, record { there = refl; waits = z })
    by false z e rest = let r = rest e in (suc r.0, r.1, record { there = r.2.there; waits = r.2.waits })

may-ask : (posts : List PostedJob) (answers : List Answer) (s : State) (q : Question) → question s ≡ Some q → IsHeard posts answers s.moment s.jobs → MayAsk posts answers q
may-ask posts answers s q e h = by (any_numbered s.items) (least_deadline s.items) e
  where
    wait : any_outstanding s.jobs ≡ true → 0 < length (outstanding posts answers)
    wait z =
        let j = open-job s.jobs z in
        let u = h.unanswered j.0 j.1 j.2.there j.2.waits in
        filtered-some (λ (p : PostedJob). not (is_answered p.number answers)) posts (posted (j.0 + 1) j.1.job) u.0 (ap not u.1)

    bound : (t : ℕ) → min t LAST_MOMENT ≤ LAST_MOMENT
    bound t = omega arith

    of : (c : Bool) → any_outstanding s.jobs ≡ c → ◌≡◌ {A = Option Question} (if c then Some (Question.Wait None) else None) (Some q) → MayAsk posts answers q
    of true z e = let same : Question.Wait None ≡ q = cc e in subst (MayAsk posts answers) same (wait z)
    of false z e = absurd (cc e)

    by : (c : Bool) (o : Option ℕ) → ◌≡◌ {A = Option Question} (if c then Some Question.Poll else asks_wait s o) (Some q) → MayAsk posts answers q
    by true o e = let same : Question.Poll ≡ q = cc e in subst (MayAsk posts answers) same tt
    by false (Some t) e = let same : Question.Wait (Some (min t LAST_MOMENT)) ≡ q = cc e in subst (MayAsk posts answers) same (bound t)
    by false None e = of (any_outstanding s.jobs) refl e

-- ---- parts of a run

abbrev IsLegalRun : History → Ran → Type 0
IsLegalRun b r = AreLegal b.posts b.answers r.log

posts-first : (posts : List Post) (before : List PostedJob) (answers : List Answer) (log : List LogEntry) → AreLegal (before ++ map as_posted posts) answers log → AreLegal before answers (map logged posts ++ log)
posts-first [] before answers log h = subst (λ p. AreLegal p answers log) (append-nil before) h
posts-first (p ∷ posts) before answers log h =
    posts-first posts (before ++ as_posted p ∷ []) answers log (subst (λ z. AreLegal z answers log) (sym (append_assoc before (as_posted p ∷ []) (map as_posted posts))) h)

given-legal : (b h : History) (p : Passed) (r : Ran) → Tells b h p.lines p.posts → IsLegalRun h r → IsLegalRun b (given_out p r)
given-legal b h p r t l =
    posts-first p.posts b.posts b.answers r.log (subst (λ a. AreLegal (b.posts ++ map as_posted p.posts) a r.log) t.answered (subst (λ z. AreLegal z h.answers r.log) t.posted l))

-- the jobs still to answer are those that are outstanding
abbrev SoundAt : History → List DueJob → Next → Type 0
SoundAt h jobs (Next.Going g s) = Unit {0}
SoundAt h jobs (Next.Resting s) = IsSound h.posts h.answers jobs s.moment
SoundAt h jobs (Next.Over cause s) = Unit {0}

sound-left : (c : Scenario) (b h : History) (lines : List Line) (posts : List Post) (next : Next) (jobs : List DueJob) (moment now : ℕ) → Tells b h lines posts → Left c h next →
    IsSound b.posts b.answers jobs moment → SoundAt h (jobs ++ due_jobs now posts) next
sound-left c b h lines posts (Next.Going g s) jobs moment now t l sound = tt
sound-left c b h lines posts (Next.Over cause s) jobs moment now t l sound = tt
sound-left c b h lines posts (Next.Resting s) jobs moment now t l sound =
    let heard = heard-here h s l.2 l.0 in
    let more = posts-sound posts b.posts b.answers jobs moment now sound (subst (λ ps. are_counted 1 ps ≡ true) t.posted heard.counted) in
    let same : moment ≡ s.moment = sym sound.timely ∙ ap last_answered (sym t.answered) ∙ sym heard.now in
    subst (λ ps. IsSound ps h.answers (jobs ++ due_jobs now posts) s.moment) (sym t.posted)
    (subst (λ answers. IsSound (b.posts ++ map as_posted posts) answers (jobs ++ due_jobs now posts) s.moment) (sym t.answered)
    (subst (λ n. IsSound (b.posts ++ map as_posted posts) b.answers (jobs ++ due_jobs now posts) n) same more))

abbrev GoesLegally : Scenario → GoingOn → Type 0
GoesLegally c go = (tick : ℕ) (jobs : List DueJob) (b : History) (s : State) → s ≡ silent s → IsReady c b s → IsSound b.posts b.answers jobs s.moment → IsLegalRun b (go (Source.Scripted tick jobs) s)

exit-legal : (c : Scenario) (go : GoingOn) → GoesLegally c go → (tick : ℕ) (jobs : List DueJob) (h : History) (next : Next) → Left c h next → SoundAt h jobs next → IsLegalRun h (after_exit go (Source.Scripted tick jobs) next)
exit-legal c go f tick jobs h (Next.Over cause s) l sound = tt
exit-legal c go f tick jobs h (Next.Resting s) l sound = f tick jobs h s l.2 (record { rests = l.0; is_calm = l.1; reached = l.3 }) sound
exit-legal c go f tick jobs h (Next.Going g s) l sound = tt

answer-legal : (c : Scenario) (go : GoingOn) → GoesLegally c go → (tick : ℕ) (jobs : List DueJob) (b : History) (q : Question) (s : State) → s ≡ silent s → (m : Rests b s) → m.story ≡ b → Reached c (Next.Resting s) →
    IsSound b.posts b.answers jobs s.moment → MayAsk b.posts b.answers q →
    IsLegalRun b (after_answer go (Source.Scripted tick (without_done (scripted tick jobs s.moment q) jobs)) q (scripted tick jobs s.moment q) s)
answer-legal c go f tick jobs b q s e m same r sound may =
    let a = scripted tick jobs s.moment q in
    let t = take_answer a s in
    let legal = scripted_legal tick b.posts b.answers jobs s.moment q sound may in
    let taken = take_answer-at b q a s m (subst (λ (h : History). IsLegal h.posts h.answers q a) (sym same) legal) in
    let n = taken.0 in
    let u = rests-silent (with_answer a b) t n in
    let none : t.posts ≡ [] = posts-answered a s ∙ silent-posts s e in
    let posts : n.story.posts ≡ b.posts = same-posts (with_answer a b) n.story t.lines t.posts none n.tells in
    let after = sound_answer b.posts b.answers jobs s.moment q a sound legal in
    let moment : moment_of a ≡ t.moment = sym (last-end b.answers a) ∙ ap last_answered (sym n.tells.answered) ∙ sym n.ties.heard.now in
    let sound-then : IsSound n.story.posts n.story.answers (without_done a jobs) t.moment =
    subst (λ ps. IsSound ps n.story.answers (without_done a jobs) t.moment) (sym posts)
    (subst (λ answers. IsSound b.posts answers (without_done a jobs) t.moment) (sym n.tells.answered) (subst (λ k. IsSound b.posts (b.answers ++ a ∷ []) (without_done a jobs) k) moment after)) in
    let rest = f tick (without_done a jobs) n.story (silent t) refl (record { rests = u; is_calm = taken.1; reached = Reached.GaveOut t (Reached.Answered a s e r) }) sound-then in
    let log = (go (Source.Scripted tick (without_done a jobs)) (silent t)).log in
    (legal, subst (λ answers. AreLegal b.posts answers log) n.tells.answered (subst (λ ps. AreLegal ps n.story.answers log) posts rest))

moment-blocked : (d : Bool) (x : Blocked) (s : State) → (if d then s else say (Line.Block x) s).moment ≡ s.moment
moment-blocked true x s = refl
moment-blocked false x s = refl

moment-block_line : (s : State) → (block_line s).moment ≡ s.moment
moment-block_line s = moment-blocked (any_numbered s.items) _ s

question-legal : (c : Scenario) (go : GoingOn) → GoesLegally c go → (budget : ℕ) (q : Option Question) (tick : ℕ) (jobs : List DueJob) (b : History) (s : State) → question s ≡ q → s ≡ silent s → IsReady c b s →
    IsSound b.posts b.answers jobs s.moment → IsLegalRun b (after_question go budget q (Source.Scripted tick jobs) s)
question-legal c go f budget None tick jobs b s z e m sound =
    let part = loop_exit budget (block_line s) in
    let p = exit-passed c budget b s e m in
    given-legal b p.0 part (after_exit go (with_posts s.moment part.posts (Source.Scripted tick jobs)) part.next) p.1
    (exit-legal c go f tick (jobs ++ due_jobs s.moment part.posts) p.0 part.next p.2 (sound-left c b p.0 part.lines part.posts part.next jobs s.moment s.moment p.1 p.2 sound))
question-legal c go f budget (Some q) tick jobs b s z e m sound =
    let t = block_line s in
    let ready = ready-block_line c b s e m in
    let n = ready.rests in
    let none : t.posts ≡ [] = posts-block_line s ∙ silent-posts s e in
    let posts : n.story.posts ≡ b.posts = same-posts b n.story t.lines t.posts none n.tells in
    let may = may-ask b.posts b.answers s q z (heard-here b s e m.rests) in
    let sound-now : IsSound n.story.posts n.story.answers jobs t.moment =
    subst (λ ps. IsSound ps n.story.answers jobs t.moment) (sym posts)
    (subst (λ answers. IsSound b.posts answers jobs t.moment) (sym n.tells.answered) (subst (λ k. IsSound b.posts b.answers jobs k) (sym (moment-block_line s)) sound)) in
    let may-now : MayAsk n.story.posts n.story.answers q = subst (λ ps. MayAsk ps n.story.answers q) (sym posts) (subst (λ answers. MayAsk b.posts answers q) (sym n.tells.answered) may) in
    let rest = answer-legal c go f tick jobs n.story q (silent t) refl (rests-silent b t n) refl (Reached.GaveOut t ready.reached) sound-now may-now in
    let log = (asks go q (Source.Scripted tick jobs) (silent t)).log in
    subst (λ answers. AreLegal b.posts answers log) n.tells.answered (subst (λ ps. AreLegal ps n.story.answers log) posts rest)

turn-legal : (c : Scenario) (go : GoingOn) → GoesLegally c go → (budget tick : ℕ) (jobs : List DueJob) (h : History) (next : Next) → Left c h next → SoundAt h jobs next →
    IsLegalRun h (after_turn go budget (Source.Scripted tick jobs) next)
turn-legal c go f budget tick jobs h (Next.Over cause s) l sound = tt
turn-legal c go f budget tick jobs h (Next.Resting s) l sound = question-legal c go f budget (question s) tick jobs h s refl l.2 (record { rests = l.0; is_calm = l.1; reached = l.3 }) sound
turn-legal c go f budget tick jobs h (Next.Going g s) l sound = tt

run_turns-legal : (c : Scenario) (n budget : ℕ) → GoesLegally c (run_turns n budget)
run_turns-legal c zero budget tick jobs b s e m sound = tt
run_turns-legal c (suc n) budget tick jobs b s e m sound =
    let part = turn budget s in
    let p = turn-passed c budget b s e m in
    given-legal b p.0 part (after_turn (run_turns n budget) budget (with_posts s.moment part.posts (Source.Scripted tick jobs)) part.next) p.1
    (turn-legal c (run_turns n budget) (run_turns-legal c n budget) budget tick (jobs ++ due_jobs s.moment part.posts) p.0 part.next p.2
    (sound-left c b p.0 part.lines part.posts part.next jobs s.moment s.moment p.1 p.2 sound))

start-legal : (c : Scenario) (tick : ℕ) (jobs : List DueJob) (turns moves : ℕ) (h : History) (next : Next) → Left c h next → SoundAt h jobs next → IsLegalRun h (after_start (Source.Scripted tick jobs) turns moves next)
start-legal c tick jobs turns moves h (Next.Over cause s) l sound = tt
start-legal c tick jobs turns moves h (Next.Resting s) l sound = run_turns-legal c turns moves tick jobs h s l.2 (record { rests = l.0; is_calm = l.1; reached = l.3 }) sound
start-legal c tick jobs turns moves h (Next.Going g s) l sound = tt

pub script-legal : (c : Scenario) (turns moves tick : ℕ) → IsFitText c → AreLegal [] [] (script_run c turns moves tick).log
script-legal c turns moves tick text =
    let part = runs moves (starts lands 0 [] (first_state c)) in
    let p = runs-passed c moves at_first (starts lands 0 [] (first_state c)) (begins-at c text) Reached.Started in
    given-legal at_first p.0 part (after_start (with_posts 0 part.posts (Source.Scripted tick [])) turns moves part.next) p.1
    (start-legal c tick ([] ++ due_jobs 0 part.posts) turns moves p.0 part.next p.2
    (sound-left c at_first p.0 part.lines part.posts part.next [] 0 0 p.1 p.2 first))
  where
    first : IsSound [] [] [] 0
    first = record { outstanding_are = refl; due = All-nil (λ (job : DueJob). job.due ≤ LAST_MOMENT); answered = λ n e. refl; timely = refl; fits = omega arith }
