-- What a state knows of its jobs is kept by each step, and by a legal answer.
use Rattle.std.proofs.Common.{◌≡◌, refl, ap, ◌∙◌, sym, subst, ℕ, zero, suc, ◌+◌, ◌-◌, ◌<◌, Bool, true, false, List, [], ◌∷◌, ◌++◌, append_assoc, length, length-append, arith}
use Rattle.std.proofs.Math.Nat.{min-le_right}
use Rattle.std.proofs.lemmas.List.{append-nil, map-append}
use Rattle.std.proofs.lemmas.List.Folds.{list_any-append}
use Rattle.std.proofs.lemmas.Bool.Decides.{nat_tests}
use Rattle.std.specs.Prelude.{◌==◌, ◌||◌, not, slice_get, slice_index_or, slice_set, ◌≤◌, Option, Some, None, is_some, is_none, Contains, min, if◌then◌else◌}
use Rattle.gv_values.specs.declared.fault.FaultKind.{FaultKind}
use Rattle.gv_values.specs.declared.job.Answer.{Answer}
use Rattle.gv_values.specs.declared.job.Job.{Job}
use Rattle.gv_values.specs.declared.job.JobOutcome.{JobOutcome}
use Rattle.world_rules.specs.declared.question.PostedJob.{PostedJob}
use Rattle.world_rules.specs.declared.question.Question.{Question}
use Rattle.world_rules.specs.Legal.{IsLegal, MayAsk, is_answered, is_done_of, outstanding, posted as posted_job}
use Rattle.world_rules.specs.declared.limits.TheConstants.{LAST_MOMENT}
use Rattle.machine.specs.declared.items.Item.{Item}
use Rattle.machine.specs.declared.state.JobState.{JobState}
use Rattle.machine.specs.declared.state.Post.{Post}
use Rattle.machine.specs.State.{State}
use Rattle.machine.specs.Holds.{job_at}
use Rattle.machine.specs.Questions.{question, asks_wait, any_outstanding, any_numbered, least_deadline, take_answer, arrives}
use Rattle.machine.specs.Deliveries.{deliver, interrupts, without_item}
use Rattle.machine.specs.Landing.{Next, starts, lands}
use Rattle.machine.specs.Run.{first_state}
use Rattle.scenario_tree.specs.declared.tree.Scenario.{Scenario}
use Rattle.machine.specs.Moves.{move}
use Rattle.machine.specs.Waits.{posted}
use Rattle.machine_turns.specs.Logs.{as_posted, HaveArrived, posts_of_step, KnowsJobs, StandsKnowing}
use Rattle.machine_turns.proofs.Steps.{Keeps, Core, Stands, starts-keeps, lands-keeps, move-keeps, delivers-keeps, interrupts-keeps}

-- ---- one more job

as_posted-more : (before : ℕ) (jobs : List JobState) (j : JobState) → as_posted before (jobs ++ j ∷ []) ≡ as_posted before jobs ++ posted_job (suc (before + length jobs)) j.job ∷ []
as_posted-more before [] j = let e : before ≡ before + 0 = omega arith in ap (λ n. posted_job (suc n) j.job ∷ []) e
as_posted-more before (i ∷ jobs) j =
    let e : suc before + length jobs ≡ before + suc (length jobs) = omega arith in
    ap (λ ps. posted_job (suc before) i.job ∷ ps) (as_posted-more (suc before) jobs j ∙ ap (λ n. as_posted (suc before) jobs ++ posted_job (suc n) j.job ∷ []) e)

arrived-more : (before : ℕ) (answers : List Answer) (jobs : List JobState) (j : JobState) → HaveArrived before answers jobs →
    is_some j.outcome ≡ is_answered (suc (before + length jobs)) answers → HaveArrived before answers (jobs ++ j ∷ [])
arrived-more before answers [] j h e = let z : before + 0 ≡ before = omega arith in (subst (λ n. is_some j.outcome ≡ is_answered (suc n) answers) z e, tt)
arrived-more before answers (i ∷ jobs) j h e =
    let z : before + suc (length jobs) ≡ suc before + length jobs = omega arith in
    (h.0, arrived-more (suc before) answers jobs j h.1 (subst (λ n. is_some j.outcome ≡ is_answered (suc n) answers) z e))

posts-know : (posts : List PostedJob) (answers : List Answer) (g o : ℕ) (job : Job) (takes : ℕ) (s : State) → KnowsJobs posts answers s → KnowsJobs posts answers (posted g o job takes s)
posts-know posts answers g o job takes s k =
    let new : JobState = record { job = job; pool = o; outcome = None } in
    let post : Post = record { number = length s.jobs + 1; job = job; takes = takes } in
    let next : suc (0 + length s.jobs) ≡ length s.jobs + 1 = omega arith in
    record {
      posts_are =
          ap (λ ps. posts ++ ps) (map-append (λ (p : Post). posted_job p.number p.job) s.posts (post ∷ []))
          ∙ sym (append_assoc posts (posts_of_step s.posts) (posted_job (length s.jobs + 1) job ∷ []))
          ∙ ap (λ ps. ps ++ posted_job (length s.jobs + 1) job ∷ []) k.posts_are
          ∙ ap (λ n. as_posted 0 s.jobs ++ posted_job n job ∷ []) (sym next)
          ∙ sym (as_posted-more 0 s.jobs new);
      arrived = arrived-more 0 answers s.jobs new k.arrived (sym (k.no_other (suc (0 + length s.jobs)) (omega arith)));
      no_other = λ n below. k.no_other n (let e : length (s.jobs ++ new ∷ []) ≡ length s.jobs + 1 = simp length-append refl in omega (arith, below, e));
    }

pub knowing-kept : (posts : List PostedJob) (answers : List Answer) → Keeps (KnowsJobs posts answers)
knowing-kept posts answers = record {
  says = λ line s e k. record { posts_are = k.posts_are; arrived = k.arrived; no_other = k.no_other };
  adds = λ d s k. record { posts_are = k.posts_are; arrived = k.arrived; no_other = k.no_other };
  drops = λ test s k. record { posts_are = k.posts_are; arrived = k.arrived; no_other = k.no_other };
  settles = λ s k. record { posts_are = k.posts_are; arrived = k.arrived; no_other = k.no_other };
  posts = posts-know posts answers;
  alike = λ s t e k. record {
    posts_are = subst (λ (c : Core). posts ++ posts_of_step c.posts ≡ as_posted 0 c.jobs) (sym e) k.posts_are;
    arrived = subst (λ (c : Core). HaveArrived 0 answers c.jobs) (sym e) k.arrived;
    no_other = subst (λ (c : Core). (n : ℕ) → length c.jobs < n → is_answered n answers ≡ false) (sym e) k.no_other;
  };
}

pub standing : (posts : List PostedJob) (answers : List Answer) (x : Next) → Stands (KnowsJobs posts answers) x → StandsKnowing posts answers x
unfolding Stands
standing posts answers (Next.Going g s) k = k
standing posts answers (Next.Resting s) k = k
standing posts answers (Next.Over cause s) k = k

pub moves-know : (posts : List PostedJob) (answers : List Answer) (g : ℕ) (s : State) → KnowsJobs posts answers s → StandsKnowing posts answers (move g s)
moves-know posts answers g s k = standing posts answers _ (move-keeps (KnowsJobs posts answers) (knowing-kept posts answers) g s k)

pub delivers-know : (posts : List PostedJob) (answers : List Answer) (i : Item) (s : State) → KnowsJobs posts answers s → StandsKnowing posts answers (deliver i s)
unfolding deliver
delivers-know posts answers i s k =
    standing posts answers _ (delivers-keeps (KnowsJobs posts answers) (knowing-kept posts answers) i.since i.delivery (without_item i s)
    (record { posts_are = k.posts_are; arrived = k.arrived; no_other = k.no_other }))

pub exits-know : (posts : List PostedJob) (answers : List Answer) (s : State) → KnowsJobs posts answers s → StandsKnowing posts answers (interrupts 0 FaultKind.LoopExit s)
exits-know posts answers s k = standing posts answers _ (interrupts-keeps (KnowsJobs posts answers) (knowing-kept posts answers) 0 FaultKind.LoopExit s k)

-- ---- an answer

-- a posted job is a job of the state
record IsThere (before number : ℕ) (jobs : List JobState) : Type 0 where
  place : ℕ
  job : JobState
  is_number : number ≡ suc (before + place)
  below : place < length jobs
  is_there : slice_get jobs place ≡ Some job

posted-there : (before : ℕ) (jobs : List JobState) (n : ℕ) (p : PostedJob) → n < length (as_posted before jobs) → slice_index_or (as_posted before jobs) n p ≡ p → IsThere before p.number jobs
posted-there before [] n p l e = absurd (omega (arith, l))
posted-there before (j ∷ jobs) zero p l e =
    let z : suc before ≡ suc (before + 0) = omega arith in
    record { place = 0; job = j; is_number = ap (λ (q : PostedJob). q.number) (sym e) ∙ z; below = omega arith; is_there = refl }
posted-there before (j ∷ jobs) (suc n) p l e =
    let r = posted-there (suc before) jobs n p (omega (arith, l)) e in
    let below = r.below in
    let z : suc (suc before + r.place) ≡ suc (before + suc r.place) = omega arith in
    record { place = suc r.place; job = r.job; is_number = r.is_number ∙ z; below = omega (arith, below); is_there = r.is_there }

answered-too : (n : ℕ) (answers : List Answer) (a : Answer) → is_answered n (answers ++ a ∷ []) ≡ (is_answered n answers || (is_done_of n a || false))
answered-too n answers a = list_any-append (is_done_of n) answers (a ∷ [])

or-false : (b : Bool) → (b || (false || false)) ≡ b
or-false true = refl
or-false false = refl

or-true : (b : Bool) → (b || (true || false)) ≡ true
or-true true = refl
or-true false = refl

-- an answer that names another job says nothing of this one
says-nothing : (n : ℕ) (answers : List Answer) (a : Answer) → is_done_of n a ≡ false → is_answered n (answers ++ a ∷ []) ≡ is_answered n answers
says-nothing n answers a e = answered-too n answers a ∙ ap (λ b. is_answered n answers || (b || false)) e ∙ or-false (is_answered n answers)

says-done : (n : ℕ) (answers : List Answer) (a : Answer) → is_done_of n a ≡ true → is_answered n (answers ++ a ∷ []) ≡ true
says-done n answers a e = answered-too n answers a ∙ ap (λ b. is_answered n answers || (b || false)) e ∙ or-true (is_answered n answers)

arrived-still : (before : ℕ) (answers : List Answer) (a : Answer) (jobs : List JobState) → ((n : ℕ) → before < n → is_done_of n a ≡ false) → HaveArrived before answers jobs →
    HaveArrived before (answers ++ a ∷ []) jobs
arrived-still before answers a [] f h = tt
arrived-still before answers a (j ∷ jobs) f h =
    (h.0 ∙ sym (says-nothing (suc before) answers a (f (suc before) (omega arith))), arrived-still (suc before) answers a jobs (λ n l. f n (omega (arith, l))) h.1)

no-job : (m n : ℕ) → m < n → (m == n) ≡ false
no-job m n l = grind (arith, nat_tests)

same-job : (m n : ℕ) → m ≡ n → (m == n) ≡ true
same-job m n e = grind (arith, nat_tests)

other-job : (m n : ℕ) → n < m → (m == n) ≡ false
other-job m n l = grind (arith, nat_tests)

arrived-now : (before : ℕ) (answers : List Answer) (o : JobOutcome) (number at : ℕ) (jobs : List JobState) (n : ℕ) (x : JobState) → number ≡ suc (before + n) → slice_get jobs n ≡ Some x →
    HaveArrived before answers jobs → HaveArrived before (answers ++ Answer.Done number o at ∷ []) (slice_set jobs n (record x { outcome = Some o }))
arrived-now before answers o number at [] n x e there h = tt
arrived-now before answers o number at (j ∷ jobs) zero x e there h = (
  sym (says-done (suc before) answers (Answer.Done number o at) (same-job number (suc before) (omega (arith, e)))),
  arrived-still (suc before) answers (Answer.Done number o at) jobs (λ n l. no-job number n (omega (arith, e, l))) h.1,
)
arrived-now before answers o number at (j ∷ jobs) (suc n) x e there h = (
  h.0 ∙ sym (says-nothing (suc before) answers (Answer.Done number o at) (other-job number (suc before) (omega (arith, e)))),
  arrived-now (suc before) answers o number at jobs n x (omega (arith, e)) there h.1,
)

posted-still : (before : ℕ) (o : JobOutcome) (jobs : List JobState) (n : ℕ) (x : JobState) → slice_get jobs n ≡ Some x →
    as_posted before (slice_set jobs n (record x { outcome = Some o })) ≡ as_posted before jobs
posted-still before o [] n x e = refl
posted-still before o (j ∷ jobs) zero x e = ap (λ (z : JobState). posted_job (suc before) z.job ∷ as_posted (suc before) jobs) (let same : x ≡ j = cc e in same)
posted-still before o (j ∷ jobs) (suc n) x e = ap (λ ps. posted_job (suc before) j.job ∷ ps) (posted-still (suc before) o jobs n x e)

length-still : (jobs : List JobState) (n : ℕ) (x : JobState) → length (slice_set jobs n x) ≡ length jobs
length-still [] n x = refl
length-still (j ∷ jobs) zero x = refl
length-still (j ∷ jobs) (suc n) x = ap suc (length-still jobs n x)

job-found : (jobs : List JobState) (number n : ℕ) (x : JobState) → number ≡ suc (0 + n) → slice_get jobs n ≡ Some x → job_at number jobs ≡ Some x
job-found [] number n x e there = absurd (cc there)
job-found (j ∷ jobs) number n x e there =
    let next : number ≡ suc n = omega (arith, e) in
    subst (λ m. job_at m (j ∷ jobs) ≡ Some x) (sym next) there

-- an answer that names no job
other-answer : (posts : List PostedJob) (answers : List Answer) (a : Answer) (s : State) → ((n : ℕ) → is_done_of n a ≡ false) → KnowsJobs posts answers s → KnowsJobs posts (answers ++ a ∷ []) s
other-answer posts answers a s f k = record {
  posts_are = k.posts_are;
  arrived = arrived-still 0 answers a s.jobs (λ n l. f n) k.arrived;
  no_other = λ n l. says-nothing n answers a (f n) ∙ k.no_other n l;
}

done-answer : (posts : List PostedJob) (answers : List Answer) (number : ℕ) (o : JobOutcome) (at : ℕ) (s : State) → IsThere 0 number s.jobs → KnowsJobs posts answers s →
    KnowsJobs posts (answers ++ Answer.Done number o at ∷ []) (arrives number o (job_at number s.jobs) s)
done-answer posts answers number o at s w k =
    subst (λ x. KnowsJobs posts (answers ++ Answer.Done number o at ∷ []) (arrives number o x s)) (sym (job-found s.jobs number w.place w.job w.is_number w.is_there))
    (record {
      posts_are = k.posts_are ∙ sym (ap (λ n. as_posted 0 (slice_set s.jobs n (record w.job { outcome = Some o }))) place ∙ posted-still 0 o s.jobs w.place w.job w.is_there);
      arrived =
          subst (λ n. HaveArrived 0 (answers ++ Answer.Done number o at ∷ []) (slice_set s.jobs n (record w.job { outcome = Some o }))) (sym place)
          (arrived-now 0 answers o number at s.jobs w.place w.job w.is_number w.is_there k.arrived);
      no_other = λ n l.
          let e = length-still s.jobs (number - 1) (record w.job { outcome = Some o }) in
          let below = w.below in
          let is = w.is_number in
          says-nothing n answers (Answer.Done number o at) (no-job number n (omega (arith, l, e, below, is))) ∙ k.no_other n (omega (arith, l, e));
    })
  where
    place : number - 1 ≡ w.place
    place = let is = w.is_number in omega (arith, is)

pub answers-know : (posts : List PostedJob) (answers : List Answer) (q : Question) (a : Answer) (s : State) → s.posts ≡ [] → IsLegal posts answers q a → KnowsJobs posts answers s →
    KnowsJobs posts (answers ++ a ∷ []) (take_answer a s)
unfolding take_answer
answers-know posts answers q (Answer.Nothing t) s none legal k =
    let r = other-answer posts answers (Answer.Nothing t) s (λ n. refl) k in record { posts_are = r.posts_are; arrived = r.arrived; no_other = r.no_other }
answers-know posts answers q (Answer.Elapsed t) s none legal k =
    let r = other-answer posts answers (Answer.Elapsed t) s (λ n. refl) k in record { posts_are = r.posts_are; arrived = r.arrived; no_other = r.no_other }
answers-know posts answers q (Answer.Done number o at) s none legal k =
    let all : posts ≡ as_posted 0 s.jobs = sym (append-nil posts) ∙ ap (λ ps. posts ++ posts_of_step ps) (sym none) ∙ k.posts_are in
    let t : State = record s { moment = at } in
    let there = subst (λ ps. Contains ps (posted_job number legal.0.0.0)) all legal.0.0.1 in
    let r = done-answer posts answers number o at t (posted-there 0 s.jobs there.0 (posted_job number legal.0.0.0) there.1 there.2)
    (record { posts_are = k.posts_are; arrived = k.arrived; no_other = k.no_other }) in
    record { posts_are = r.posts_are; arrived = r.arrived; no_other = r.no_other }

-- ---- a question

some-outstanding : (before : ℕ) (answers : List Answer) (jobs : List JobState) → HaveArrived before answers jobs → any_outstanding jobs ≡ true → 0 < length (outstanding (as_posted before jobs) answers)
some-outstanding before answers [] h e = absurd (cc e)
some-outstanding before answers (j ∷ jobs) h e = by j.outcome (is_answered (suc before) answers) h.0 e (some-outstanding (suc before) answers jobs h.1)
  where
    by : (o : Option JobOutcome) (b : Bool) → is_some o ≡ b → (is_none o || any_outstanding jobs) ≡ true → (any_outstanding jobs ≡ true → 0 < length (outstanding (as_posted (suc before) jobs) answers)) →
        0 < length (if not b then (posted_job (suc before) j.job ∷ outstanding (as_posted (suc before) jobs) answers) else outstanding (as_posted (suc before) jobs) answers)
    by None b e k rest = subst (λ c. 0 < length (if not c then (posted_job (suc before) j.job ∷ outstanding (as_posted (suc before) jobs) answers) else outstanding (as_posted (suc before) jobs) answers)) e (omega arith)
    by (Some o) b e k rest = subst (λ c. 0 < length (if not c then (posted_job (suc before) j.job ∷ outstanding (as_posted (suc before) jobs) answers) else outstanding (as_posted (suc before) jobs) answers)) e (rest k)

-- a moment that is no later than the last
before-last : (t : ℕ) → min t LAST_MOMENT ≤ LAST_MOMENT
before-last t = min-le_right t LAST_MOMENT

pub may-ask : (posts : List PostedJob) (answers : List Answer) (q : Question) (s : State) → s.posts ≡ [] → KnowsJobs posts answers s → question s ≡ Some q → MayAsk posts answers q
may-ask posts answers q s none k e = by (any_numbered s.items) (least_deadline s.items) e
  where
    all : as_posted 0 s.jobs ≡ posts
    all = sym k.posts_are ∙ ap (λ ps. posts ++ posts_of_step ps) none ∙ append-nil posts

    jobs : (b : Bool) → any_outstanding s.jobs ≡ b → (if b then Some (Question.Wait None) else None) ≡ Some q → MayAsk posts answers q
    jobs true some e = subst (MayAsk posts answers) (let w : Question.Wait None ≡ q = cc e in w) (subst (λ ps. 0 < length (outstanding ps answers)) all (some-outstanding 0 answers s.jobs k.arrived some))
    jobs false some e = absurd (cc e)

    by : (b : Bool) (d : Option ℕ) → (if b then Some Question.Poll else asks_wait s d) ≡ Some q → MayAsk posts answers q
    by true d e = subst (MayAsk posts answers) (let w : Question.Poll ≡ q = cc e in w) tt
    by false None e = jobs (any_outstanding s.jobs) refl e
    by false (Some t) e = subst (MayAsk posts answers) (let w : Question.Wait (Some (min t LAST_MOMENT)) ≡ q = cc e in w) (before-last t)

-- ---- the beginning

pub starts-know : (c : Scenario) → StandsKnowing [] [] (starts lands 0 [] (first_state c))
starts-know c =
    standing [] [] _ (starts-keeps (KnowsJobs [] []) (knowing-kept [] []) lands 0 [] (first_state c) (lands-keeps (KnowsJobs [] []) (knowing-kept [] []))
    (record { posts_are = refl; arrived = tt; no_other = λ n l. refl }))
