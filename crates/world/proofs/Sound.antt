-- What a world by a rule keeps goes on to hold, and makes its answers legal.
use Rattle.std.proofs.Common.{◌≡◌, ℕ, suc, ◌+◌, ◌<◌, ◌≤◌, ◌↔◌, ◌==◌, Bool, true, false, not, ◌||◌, cond, if◌then◌else◌, nat_le, List, [], ◌∷◌, ◌++◌, map, length, min, max, Option, Some, None, refl, sym, ap, ◌∙◌, subst, arith}
use Rattle.std.specs.Prelude.{filter, Contains, All}
use Rattle.std.proofs.lemmas.Bool.{false≢true}
use Rattle.std.proofs.lemmas.Bool.Decides.{nat_tests}
use Rattle.std.proofs.lemmas.List.Elements.{filter-append, filter_passes, filter_agree, All-nil, All-cons, All-weaker, All-filter, All-push, All-contains, All-contains_itself}
use Rattle.std.proofs.lemmas.List.{get_or-map, length-map}
use Rattle.std.proofs.lemmas.List.Folds.{list_any-append}
use mathlib.Core.List.{map-append}
use Rattle.gv_values.specs.declared.job.Job.{Job}
use Rattle.gv_values.specs.declared.job.JobOutcome.{JobOutcome}
use Rattle.gv_values.specs.declared.job.Answer.{Answer}
use Rattle.world_rules.specs.declared.question.Question.{Question}
use Rattle.world_rules.specs.declared.question.PostedJob.{PostedJob}
use Rattle.world_rules.specs.declared.question.DueJob.{DueJob}
use Rattle.world_rules.specs.Evaluate.{eval}
use Rattle.world_rules.specs.Legal.{posted, moment_of, last_answered_moment, is_done_of, is_posted, is_answered, outstanding, IsOutcomeOf, Answers, IsLegal, MayAsk}
use Rattle.world_rules.specs.Script.{due_job, comes_before, sooner, first_due, done_by, scripted, without_done}
use Rattle.world_rules.specs.declared.limits.TheConstants.{LAST_MOMENT}
use Rattle.world.specs.Ruled.{posted_of, IsSound, AnswersNow, IsLegalNow}
use Rattle.world.proofs.Filtered.{map-filter, filter-filter}

pub last_moment_of-push : (answers : List Answer) (answer : Answer) → last_answered_moment (answers ++ answer ∷ []) ≡ moment_of answer
last_moment_of-push [] answer = refl
last_moment_of-push (a ∷ []) answer = refl
last_moment_of-push (a ∷ b ∷ answers) answer = last_moment_of-push (b ∷ answers) answer

pub or_false : (a b : Bool) → (a || b) ≡ false → (a ≡ false) × (b ≡ false)
or_false true b e = absurd (false≢true (sym e))
or_false false b e = (refl, e)

pub false_or : (a b : Bool) → a ≡ false → b ≡ false → (a || b) ≡ false
false_or a b e f = λ i. e i || f i

or_right : (a b : Bool) → b ≡ true → (a || b) ≡ true
or_right true b e = refl
or_right false b e = e

pub same_number : (n : ℕ) → (n == n) ≡ true
same_number n = grind (arith, nat_tests)

posted_each : (posts : List PostedJob) → All (λ (post : PostedJob). is_posted post.number posts ≡ true) posts
posted_each [] = All-nil (λ (post : PostedJob). is_posted post.number [] ≡ true)
posted_each (p ∷ ps) =
    All-cons (λ (post : PostedJob). is_posted post.number (p ∷ ps) ≡ true) p ps (ap (λ b. b || is_posted p.number ps) (same_number p.number))
    (All-weaker (λ (post : PostedJob). is_posted post.number ps ≡ true) (λ (post : PostedJob). is_posted post.number (p ∷ ps) ≡ true)
    (λ post e. or_right (p.number == post.number) (is_posted post.number ps) e) ps (posted_each ps))

-- the number of a posted job was posted
pub contains_posted : (posts : List PostedJob) (number : ℕ) (job : Job) → Contains posts (posted number job) → is_posted number posts ≡ true
contains_posted posts number job h = All-contains (λ (post : PostedJob). is_posted post.number posts ≡ true) posts (posted number job) (posted_each posts) h

pub sound_post : (posts : List PostedJob) (answers : List Answer) (jobs : List DueJob) (moment number : ℕ) (job : Job) (due : ℕ) → IsSound posts answers jobs moment
    → is_posted number posts ≡ false → due ≤ LAST_MOMENT → IsSound (posts ++ posted number job ∷ []) answers (jobs ++ due_job number job due ∷ []) moment
sound_post posts answers jobs moment number job due s new fits =
    let open_ : is_answered number answers ≡ false = s.answered number new in record {
      outstanding_are = map-append posted_of jobs (due_job number job due ∷ []) ∙ (ap (λ l. l ++ posted number job ∷ []) s.outstanding_are
          ∙ (ap (λ (b : Bool). outstanding posts answers ++ cond (not b) (posted number job ∷ []) []) (sym open_)
          ∙ sym (filter-append (λ (post : PostedJob). not (is_answered post.number answers)) posts (posted number job ∷ []))));
      due = All-push (λ (j : DueJob). j.due ≤ LAST_MOMENT) jobs (due_job number job due) s.due fits;
      answered = λ n none. s.answered n (or_false _ _ (sym (list_any-append (λ (post : PostedJob). post.number == n) posts (posted number job ∷ [])) ∙ none)).0;
      timely = s.timely;
      fits = s.fits;
    }

-- an answer names no job that wasn't posted
names_posted : (posts : List PostedJob) (before : List Answer) (question : Question) (answer : Answer) (n : ℕ) → Answers posts before question answer → is_posted n posts ≡ false → is_done_of n answer ≡ false
names_posted posts before question (Answer.Done number outcome at) n h none = unequal (number == n) refl
  where
    unequal : (b : Bool) → (number == n) ≡ b → b ≡ false
    unequal false e = refl
    unequal true e = let same : number ≡ n = grind (arith, nat_tests) in
        absurd (false≢true (sym none ∙ (ap (λ k. is_posted k posts) (sym same) ∙ contains_posted posts number h.0.0 h.0.1)))
names_posted posts before question (Answer.Elapsed at) n h none = refl
names_posted posts before question (Answer.Nothing at) n h none = refl

pub sound_answer : (posts : List PostedJob) (answers : List Answer) (jobs : List DueJob) (moment : ℕ) (question : Question) (answer : Answer) → IsSound posts answers jobs moment
    → IsLegal posts answers question answer → IsSound posts (answers ++ answer ∷ []) (without_done answer jobs) (moment_of answer)
sound_answer posts answers jobs moment question answer s legal =
    let more = λ (n : ℕ). list_any-append (is_done_of n) answers (answer ∷ []) in record {
      outstanding_are = map-filter posted_of (λ (post : PostedJob). not (is_done_of post.number answer)) jobs
          ∙ (ap (filter (λ (post : PostedJob). not (is_done_of post.number answer))) s.outstanding_are
          ∙ (sym (filter-filter (λ (post : PostedJob). is_answered post.number answers) (λ (post : PostedJob). is_done_of post.number answer) posts)
          ∙ filter_agree _ (λ (post : PostedJob). not (is_answered post.number (answers ++ answer ∷ []))) (λ post. ap not (sym (more post.number))) posts));
      due = All-filter (λ (job : DueJob). not (is_done_of job.number answer)) (λ (job : DueJob). job.due ≤ LAST_MOMENT) jobs s.due;
      answered = λ n none. more n ∙ false_or _ _ (s.answered n none) (false_or _ false (names_posted posts answers question answer n legal.0 none) refl);
      timely = last_moment_of-push answers answer;
      fits = legal.2;
    }

pub contains_head : {A : Type 0} (x : A) (xs : List A) → Contains (x ∷ xs) x
contains_head x xs = (0, omega arith, refl)

pub contains_tail : {A : Type 0} (x y : A) (xs : List A) → Contains xs y → Contains (x ∷ xs) y
contains_tail x y xs h = (suc h.0, (let l = h.1 in omega arith), h.2)

chosen : (b : Bool) (x y : DueJob) (xs : List DueJob) → Contains xs y → Contains (x ∷ xs) (if b then x else y)
chosen true x y xs h = contains_head x xs
chosen false x y xs h = contains_tail x y xs h

sooner_in : (job : DueJob) (other : Option DueJob) (jobs : List DueJob) → ((x : DueJob) → other ≡ Some x → Contains jobs x) → Contains (job ∷ jobs) (sooner job other)
sooner_in job None jobs h = contains_head job jobs
sooner_in job (Some x) jobs h = chosen (comes_before job x) job x jobs (h x refl)

-- the job that comes first is one of the jobs
pub first_in : (jobs : List DueJob) (x : DueJob) → first_due jobs ≡ Some x → Contains jobs x
first_in [] x e = absurd (cc)
first_in (job ∷ jobs) x e =
    let is : sooner job (first_due jobs) ≡ x = cc in subst (λ (y : DueJob). Contains (job ∷ jobs) y) is (sooner_in job (first_due jobs) jobs (first_in jobs))

-- where there are jobs one comes first
some_first : (jobs : List DueJob) → 0 < length jobs → (x : DueJob) × (first_due jobs ≡ Some x)
some_first [] l = absurd (omega arith)
some_first (job ∷ jobs) l = (sooner job (first_due jobs), refl)

pub contains_filter : {A : Type 0} (q : A → Bool) (xs : List A) (x : A) → Contains (filter q xs) x → Contains xs x × (q x ≡ true)
contains_filter q xs x h = (
  All-contains (Contains xs) (filter q xs) x (All-filter q (Contains xs) xs (All-contains_itself xs)) h,
  All-contains (λ y. q y ≡ true) (filter q xs) x (filter_passes q xs) h,
)

pub not_true : (b : Bool) → not b ≡ true → b ≡ false
not_true true e = absurd (false≢true e)
not_true false e = refl

-- an outstanding job may be answered, with what it comes to
pub may_answer : (posts : List PostedJob) (answers : List Answer) (jobs : List DueJob) (moment : ℕ) (x : DueJob) → IsSound posts answers jobs moment → Contains jobs x
    → IsOutcomeOf x.number (eval x.job) posts × (is_answered x.number answers ≡ false)
may_answer posts answers jobs moment x s h =
    let image : Contains (map posted_of jobs) (posted_of x) =
    (h.0, (let l = h.1 in let same = length-map jobs posted_of in omega arith), get_or-map posted_of jobs h.0 x (posted_of x) h.1 ∙ ap posted_of h.2) in
    let there = contains_filter (λ (post : PostedJob). not (is_answered post.number answers)) posts (posted_of x) (subst (λ l. Contains l (posted_of x)) s.outstanding_are image) in
    ((x.job, there.0, refl), not_true _ there.1)

-- a Done of an outstanding job, at a moment that fits
done_legal : (posts : List PostedJob) (answers : List Answer) (jobs : List DueJob) (moment : ℕ) (question : Question) (x : DueJob) → IsSound posts answers jobs moment → Contains jobs x
    → IsLegal posts answers question (Answer.Done x.number (eval x.job) (max x.due moment))
done_legal posts answers jobs moment question x s h =
    let due : x.due ≤ LAST_MOMENT = All-contains (λ (job : DueJob). job.due ≤ LAST_MOMENT) jobs x s.due h in let timely = s.timely in let fits = s.fits in
    (may_answer posts answers jobs moment x s h, omega arith, omega arith)

-- Done or the other answer, whichever the rule gives, where both would be legal
done_by_legal : (posts : List PostedJob) (answers : List Answer) (jobs : List DueJob) (limit moment : ℕ) (first : Option DueJob) (question : Question) (otherwise : Answer)
    → ((x : DueJob) → first ≡ Some x → IsLegal posts answers question (Answer.Done x.number (eval x.job) (max x.due moment)))
    → IsLegal posts answers question otherwise → IsLegal posts answers question (done_by limit moment first otherwise)
done_by_legal posts answers jobs limit moment None question otherwise h o = o
done_by_legal posts answers jobs limit moment (Some x) question otherwise h o = either (nat_le x.due limit)
  where
    either : (b : Bool) → IsLegal posts answers question (if b then Answer.Done x.number (eval x.job) (max x.due moment) else otherwise)
    either true = h x refl
    either false = o

-- a wait without end, where a job is outstanding
wait_legal : (posts : List PostedJob) (answers : List Answer) (jobs : List DueJob) (moment : ℕ) (x : DueJob) → IsSound posts answers jobs moment → first_due jobs ≡ Some x
    → IsLegal posts answers (Question.Wait None) (done_by LAST_MOMENT moment (first_due jobs) (Answer.Elapsed moment))
wait_legal posts answers jobs moment x s e =
    let due : x.due ≤ LAST_MOMENT = All-contains (λ (job : DueJob). job.due ≤ LAST_MOMENT) jobs x s.due (first_in jobs x e) in
    let soon : nat_le x.due LAST_MOMENT ≡ true = grind (arith, nat_tests) in
    subst (λ (f : Option DueJob). IsLegal posts answers (Question.Wait None) (done_by LAST_MOMENT moment f (Answer.Elapsed moment))) (sym e)
    (subst (λ (b : Bool). IsLegal posts answers (Question.Wait None) (if b then Answer.Done x.number (eval x.job) (max x.due moment) else Answer.Elapsed moment)) (sym soon)
    (done_legal posts answers jobs moment (Question.Wait None) x s (first_in jobs x e)))

later : (posts : List PostedJob) (answers : List Answer) (jobs : List DueJob) (moment now : ℕ) → IsSound posts answers jobs moment → moment ≤ now → now ≤ LAST_MOMENT → (x : DueJob) → Contains jobs x → (question : Question)
    → IsLegal posts answers question (Answer.Done x.number (eval x.job) (max x.due now))
later posts answers jobs moment now s le fits x h question =
    let due : x.due ≤ LAST_MOMENT = All-contains (λ (job : DueJob). job.due ≤ LAST_MOMENT) jobs x s.due h in let timely = s.timely in
    (may_answer posts answers jobs moment x s h, omega arith, omega arith)

-- the answers of a script are legal
pub scripted_legal : (tick : ℕ) (posts : List PostedJob) (answers : List Answer) (jobs : List DueJob) (moment : ℕ) (question : Question) → IsSound posts answers jobs moment → MayAsk posts answers question
    → IsLegal posts answers question (scripted tick jobs moment question)
scripted_legal tick posts answers jobs moment Question.Poll s may =
    let timely = s.timely in let fits = s.fits in let now : ℕ = min (moment + tick) LAST_MOMENT in
    done_by_legal posts answers jobs now now (first_due jobs) Question.Poll (Answer.Nothing now)
    (λ x e. later posts answers jobs moment now s (omega arith) (omega arith) x (first_in jobs x e) Question.Poll)
    (tt, omega arith, omega arith)
scripted_legal tick posts answers jobs moment (Question.Wait None) s may =
    let some_ = some_first jobs (let same = ap length s.outstanding_are in let mapped = length-map jobs posted_of in omega arith) in
    wait_legal posts answers jobs moment some_.0 s some_.1
scripted_legal tick posts answers jobs moment (Question.Wait (Some until)) s may =
    let timely = s.timely in let fits = s.fits in
    done_by_legal posts answers jobs until moment (first_due jobs) (Question.Wait (Some until)) (Answer.Elapsed (max until moment))
    (λ x e. done_legal posts answers jobs moment (Question.Wait (Some until)) x s (first_in jobs x e))
    (omega arith, omega arith, omega arith)

-- ---- what is legal, by the outstanding jobs

pub kept_each : {A : Type 0} (q : A → Bool) (xs : List A) → All (λ x. q x ≡ true → Contains (filter q xs) x) xs
kept_each {A = A} q [] = All-nil (λ x. q x ≡ true → Contains (filter q []) x)
kept_each {A = A} q (y ∷ ys) =
    let f = filter q ys in
    All-cons (λ x. q x ≡ true → Contains (filter q (y ∷ ys)) x) y ys (λ e. subst (λ b. Contains (cond b (y ∷ f) f) y) (sym e) (contains_head y f))
    (All-weaker (λ x. q x ≡ true → Contains f x) (λ x. q x ≡ true → Contains (filter q (y ∷ ys)) x) (λ x h e. more (q y) x (h e)) ys (kept_each q ys))
  where
    more : (b : Bool) (x : A) → Contains (filter q ys) x → Contains (cond b (y ∷ filter q ys) (filter q ys)) x
    more true x h = contains_tail y x (filter q ys) h
    more false x h = h

mapped_each : {A B : Type 0} (f : A → B) (xs : List A) → All (λ z. (x : A) × Contains xs x × (f x ≡ z)) (map f xs)
mapped_each {A = A} {B = B} f [] = All-nil (λ z. (x : A) × Contains [] x × (f x ≡ z))
mapped_each {A = A} {B = B} f (y ∷ ys) =
    All-cons (λ z. (x : A) × Contains (y ∷ ys) x × (f x ≡ z)) (f y) (map f ys) (y, contains_head y ys, refl)
    (All-weaker (λ z. (x : A) × Contains ys x × (f x ≡ z)) (λ z. (x : A) × Contains (y ∷ ys) x × (f x ≡ z)) (λ z h. (h.0, contains_tail y h.0 ys h.1, h.2)) (map f ys) (mapped_each f ys))

answers_as : (posts : List PostedJob) (answers : List Answer) (jobs : List DueJob) (moment : ℕ) (question : Question) (answer : Answer) → IsSound posts answers jobs moment
    → AnswersNow jobs question answer → Answers posts answers question answer
answers_as posts answers jobs moment question (Answer.Done number outcome at) s h =
    subst (λ (z : ℕ × JobOutcome). IsOutcomeOf z.0 z.1 posts × (is_answered z.0 answers ≡ false)) (λ i. (h.2.0 i, sym h.2.1 i)) (may_answer posts answers jobs moment h.0 s h.1)
answers_as posts answers jobs moment Question.Poll (Answer.Elapsed at) s h = h
answers_as posts answers jobs moment (Question.Wait None) (Answer.Elapsed at) s h = h
answers_as posts answers jobs moment (Question.Wait (Some until)) (Answer.Elapsed at) s h = h
answers_as posts answers jobs moment Question.Poll (Answer.Nothing at) s h = h
answers_as posts answers jobs moment (Question.Wait None) (Answer.Nothing at) s h = h
answers_as posts answers jobs moment (Question.Wait (Some until)) (Answer.Nothing at) s h = h

-- the job that an answer names is outstanding
answers_now : (posts : List PostedJob) (answers : List Answer) (jobs : List DueJob) (moment : ℕ) (question : Question) (answer : Answer) → IsSound posts answers jobs moment
    → Answers posts answers question answer → AnswersNow jobs question answer
answers_now posts answers jobs moment question (Answer.Done number outcome at) s h =
    let post = posted number h.0.0 in
    let kept = All-contains (λ (p : PostedJob). not (is_answered p.number answers) ≡ true → Contains (outstanding posts answers) p) posts post
    (kept_each (λ (p : PostedJob). not (is_answered p.number answers)) posts) h.0.1 (ap not h.1) in
    let there = All-contains (λ z. (x : DueJob) × Contains jobs x × (posted_of x ≡ z)) (map posted_of jobs) post (mapped_each posted_of jobs)
    (subst (λ l. Contains l post) (sym s.outstanding_are) kept) in
    (there.0, there.1, (ap (λ (p : PostedJob). p.number) there.2, h.0.2 ∙ sym (ap (λ (p : PostedJob). eval p.job) there.2)))
answers_now posts answers jobs moment Question.Poll (Answer.Elapsed at) s h = h
answers_now posts answers jobs moment (Question.Wait None) (Answer.Elapsed at) s h = h
answers_now posts answers jobs moment (Question.Wait (Some until)) (Answer.Elapsed at) s h = h
answers_now posts answers jobs moment Question.Poll (Answer.Nothing at) s h = h
answers_now posts answers jobs moment (Question.Wait None) (Answer.Nothing at) s h = h
answers_now posts answers jobs moment (Question.Wait (Some until)) (Answer.Nothing at) s h = h

-- what is legal by the outstanding jobs is what is legal
pub legal_now : (posts : List PostedJob) (answers : List Answer) (jobs : List DueJob) (moment : ℕ) (question : Question) (answer : Answer) → IsSound posts answers jobs moment
    → IsLegalNow jobs moment question answer ↔ IsLegal posts answers question answer
legal_now posts answers jobs moment question answer s = (
  λ h. (answers_as posts answers jobs moment question answer s h.0, subst (λ m. m ≤ moment_of answer) (sym s.timely) h.1, h.2),
  λ h. (answers_now posts answers jobs moment question answer s h.0, subst (λ m. m ≤ moment_of answer) s.timely h.1, h.2),
)
