-- A world that answers as a script stays tied to the one that does its jobs.
use Rattle.std.proofs.Common.{◌≡◌, ◌≢◌, ℕ, zero, suc, ◌<◌, ◌≤◌, ◌⊎◌, inl, inr, ◌==◌, ◌||◌, Bool, true, false, not, cond, if◌then◌else◌, List, [], ◌∷◌, ◌++◌, length, Some, None, refl, sym, ap, ◌∙◌, subst, arith}
use Rattle.std.specs.Prelude.{filter, Contains, Result, Ok, Err, OnOk, OnErr}
use Rattle.std.proofs.lemmas.Bool.{false≢true}
use Rattle.std.proofs.lemmas.Bool.Decides.{nat_tests}
use Rattle.std.proofs.lemmas.List.Elements.{All-contains, Contains-push_cases, filter_agree}
use Rattle.std.proofs.lemmas.List.Folds.{list_any-append}
use Rattle.gv_values.specs.declared.job.Answer.{Answer}
use Rattle.gv_values.specs.declared.job.Job.{Job}
use Rattle.gv_values.specs.declared.job.JobOutcome.{JobOutcome}
use Rattle.world_rules.specs.declared.question.DueJob.{DueJob}
use Rattle.world_rules.specs.declared.question.PostedJob.{PostedJob}
use Rattle.world_rules.specs.declared.question.Question.{Question}
use Rattle.world_rules.specs.Evaluate.{eval}
use Rattle.world_rules.specs.Legal.{IsLegal, IsOutcomeOf, is_answered, is_done_of, is_posted, outstanding, posted}
use Rattle.world_rules.specs.Rules.{RuleState, rule_after_post, start}
use Rattle.world.specs.Outside.{Begins, WorldMeaning, Posts}
use Rattle.world.specs.declared.script.ScriptWorld.{ScriptWorld}
use Rattle.world.specs.Holding.{IsTied, Leads, Places, Takes}
use Rattle.world.specs.Kept.{SameScript, SameSetting, rule_state, script_meaning}
use Rattle.world.proofs.Filtered.{filter-filter}
use Rattle.world.proofs.Sound.{contains_head, contains_posted, contains_tail, false_or, kept_each, or_false, same_number}

-- ---- answers and posts that grow by one

answered_before : (n : ℕ) (answers : List Answer) (answer : Answer) → is_answered n (answers ++ answer ∷ []) ≡ false → (is_answered n answers ≡ false) × (is_done_of n answer ≡ false)
answered_before n answers answer e =
    let both = or_false (is_answered n answers) (is_done_of n answer || false) (sym (list_any-append (is_done_of n) answers (answer ∷ [])) ∙ e) in
    (both.0, (or_false (is_done_of n answer) false both.1).0)

unanswered_after : (n : ℕ) (answers : List Answer) (answer : Answer) → is_answered n answers ≡ false → is_done_of n answer ≡ false → is_answered n (answers ++ answer ∷ []) ≡ false
unanswered_after n answers answer e f = list_any-append (is_done_of n) answers (answer ∷ []) ∙ false_or _ _ e (false_or _ false f refl)

or_left : (a b : Bool) → a ≡ true → (a || b) ≡ true
or_left true b e = refl
or_left false b e = absurd (false≢true e)

or_last : (a b : Bool) → b ≡ true → (a || (b || false)) ≡ true
or_last true b e = refl
or_last false true e = refl
or_last false false e = absurd (false≢true e)

answered_still : (n : ℕ) (answers : List Answer) (answer : Answer) → is_answered n answers ≡ true → is_answered n (answers ++ answer ∷ []) ≡ true
answered_still n answers answer e = list_any-append (is_done_of n) answers (answer ∷ []) ∙ or_left _ _ e

answered_now : (n : ℕ) (answers : List Answer) (answer : Answer) → is_done_of n answer ≡ true → is_answered n (answers ++ answer ∷ []) ≡ true
answered_now n answers answer e = list_any-append (is_done_of n) answers (answer ∷ []) ∙ or_last _ _ e

posted_before : (n number : ℕ) (posts : List PostedJob) (job : Job) → is_posted n (posts ++ posted number job ∷ []) ≡ false → is_posted n posts ≡ false
posted_before n number posts job e =
    (or_false (is_posted n posts) ((number == n) || false) (sym (list_any-append (λ (post : PostedJob). post.number == n) posts (posted number job ∷ [])) ∙ e)).0

posted_others : (n number : ℕ) (posts : List PostedJob) (job : Job) → is_posted n (posts ++ posted number job ∷ []) ≡ true → (number == n) ≡ false → is_posted n posts ≡ true
posted_others n number posts job e apart =
    by (is_posted n posts) (sym (list_any-append (λ (post : PostedJob). post.number == n) posts (posted number job ∷ [])) ∙ e)
  where
    by : (b : Bool) → (b || ((number == n) || false)) ≡ true → b ≡ true
    by true h = refl
    by false h = absurd (false≢true (sym (false_or (number == n) false apart refl) ∙ h))

-- ---- jobs that are owed

shorter_or_same : {A : Type 0} (q : A → Bool) (xs : List A) → length (filter q xs) ≤ length xs
shorter_or_same q [] = omega arith
shorter_or_same q (x ∷ xs) = by (q x) (shorter_or_same q xs)
  where
    by : (b : Bool) → length (filter q xs) ≤ length xs → length (cond b (x ∷ filter q xs) (filter q xs)) ≤ length (x ∷ xs)
    by true h = omega arith
    by false h = omega arith

shorter : {A : Type 0} (q : A → Bool) (xs : List A) (y : A) → ((x : A) (ys : List A) → Contains (x ∷ ys) y → (x ≡ y) ⊎ Contains ys y) → Contains xs y → q y ≡ false → length (filter q xs) < length xs
shorter q [] y cases h e = let within = h.1 in absurd (omega arith)
shorter q (x ∷ xs) y cases h e = by (cases x xs h) (λ there. shorter q xs y cases there e)
  where
    gone : (b : Bool) → b ≡ false → length (cond b (x ∷ filter q xs) (filter q xs)) < length (x ∷ xs)
    gone true f = absurd (false≢true (sym f))
    gone false f = let few = shorter_or_same q xs in omega arith

    later : (b : Bool) → length (filter q xs) < length xs → length (cond b (x ∷ filter q xs) (filter q xs)) < length (x ∷ xs)
    later true f = omega arith
    later false f = omega arith

    by : (x ≡ y) ⊎ Contains xs y → (Contains xs y → length (filter q xs) < length xs) → length (filter q (x ∷ xs)) < length (x ∷ xs)
    by (inl same) rest = gone (q x) (ap q same ∙ e)
    by (inr there) rest = later (q x) (rest there)

post_cases : (y x : PostedJob) (ys : List PostedJob) → Contains (x ∷ ys) y → (x ≡ y) ⊎ Contains ys y
post_cases y x ys (zero, within, is) = inl is
post_cases y x ys (suc n, within, is) = inr (n, omega arith, is)

-- a job that was posted and not answered is owed
pub is_owed : (posts : List PostedJob) (answers : List Answer) (number : ℕ) (job : Job) → Contains posts (posted number job) → is_answered number answers ≡ false
    → Contains (outstanding posts answers) (posted number job)
is_owed posts answers number job there waits =
    All-contains (λ (p : PostedJob). not (is_answered p.number answers) ≡ true → Contains (outstanding posts answers) p) posts (posted number job)
    (kept_each (λ (p : PostedJob). not (is_answered p.number answers)) posts) there (ap not waits)

pub owes_some : (posts : List PostedJob) (answers : List Answer) (number : ℕ) (job : Job) → Contains posts (posted number job) → is_answered number answers ≡ false
    → 0 < length (outstanding posts answers)
owes_some posts answers number job there waits = let h = is_owed posts answers number job there waits in let within = h.1 in omega arith

-- each answer leaves one less
pub owes_less : (posts : List PostedJob) (answers : List Answer) (number : ℕ) (outcome : JobOutcome) (at : ℕ) → IsOutcomeOf number outcome posts → is_answered number answers ≡ false
    → length (outstanding posts (answers ++ Answer.Done number outcome at ∷ [])) < length (outstanding posts answers)
owes_less posts answers number outcome at right waits =
    let q = λ (p : PostedJob). not (number == p.number) in
    let is : outstanding posts (answers ++ Answer.Done number outcome at ∷ []) ≡ filter q (outstanding posts answers) =
    filter_agree _ (λ (p : PostedJob). not (is_answered p.number answers || ((number == p.number) || false)))
    (λ p. ap not (list_any-append (is_done_of p.number) answers (Answer.Done number outcome at ∷ []))) posts
    ∙ filter-filter (λ (p : PostedJob). is_answered p.number answers) (λ (p : PostedJob). number == p.number) posts in
    subst (λ (l : List PostedJob). length l < length (outstanding posts answers)) (sym is)
    (shorter q (outstanding posts answers) (posted number right.0) (post_cases (posted number right.0)) (is_owed posts answers number right.0 right.1 waits) (ap not (same_number number)))

-- ---- the tie

-- neither runs, and the script was never begun
pub tied_anew : (inner script : WorldMeaning) (places : Places) → inner.runs ≡ false → script.runs ≡ false → script.workers ≡ 0 → script.posts ≡ [] → script.answers ≡ []
    → ((n : ℕ) → places n ≡ None) → IsTied inner script places
tied_anew inner script places stopped still none posts answers empty = record {
  same_runs = stopped ∙ sym still;
  begun = λ runs. absurd (false≢true (sym still ∙ runs));
  same_workers = λ some_. absurd (omega arith);
  same_posts = λ some_. absurd (omega arith);
  alone = λ n a b h k. absurd (nowhere (posted n a) (subst (λ (l : List PostedJob). Contains l (posted n a)) posts h));
  posted_first = λ some_ n h. absurd (omega arith);
  ahead = λ n h. ap (is_answered n) answers;
  placed = λ n h k e. false≢true (sym (ap (is_posted n) posts) ∙ h);
  awaited = λ n h. absurd (cc (empty n));
  came = λ n outcome h. absurd (cc (empty n));
  right = λ n outcome job h k. absurd (cc (empty n));
}
  where
    nowhere : (p : PostedJob) → Contains [] p → ⊥
    nowhere p h = let within = h.1 in omega arith

-- both were begun
pub tied_begun : (inner script : WorldMeaning) (places : Places) (workers : ℕ) → 0 < workers → inner.runs ≡ true → inner.workers ≡ workers → inner.posts ≡ [] → inner.answers ≡ []
    → script.runs ≡ true → script.workers ≡ workers → script.posts ≡ [] → script.answers ≡ [] → ((n : ℕ) → places n ≡ None) → IsTied inner script places
tied_begun inner script places workers some_ runs same posts0 answers0 goes own posts answers empty = record {
  same_runs = runs ∙ sym goes;
  begun = λ h. omega arith;
  same_workers = λ h. same ∙ sym own;
  same_posts = λ h. posts0 ∙ sym posts;
  alone = λ n a b h k. absurd (nowhere (posted n a) (subst (λ (l : List PostedJob). Contains l (posted n a)) posts h));
  posted_first = λ more n h. ap (is_answered n) answers0;
  ahead = λ n h. ap (is_answered n) answers;
  placed = λ n h k e. false≢true (sym (ap (is_posted n) posts) ∙ h);
  awaited = λ n h. absurd (cc (empty n));
  came = λ n outcome h. absurd (cc (empty n));
  right = λ n outcome job h k. absurd (cc (empty n));
}
  where
    nowhere : (p : PostedJob) → Contains [] p → ⊥
    nowhere p h = let within = h.1 in omega arith

-- a place was made for a job that wasn't posted
pub tied_placed : (inner script : WorldMeaning) (places more : Places) (number : ℕ) → IsTied inner script places → 0 < script.workers → is_posted number script.posts ≡ false
    → ((n : ℕ) → more n ≡ (if number == n then Some None else places n)) → IsTied inner script more
tied_placed inner script places more number t begun new is = record {
  same_runs = t.same_runs;
  begun = t.begun;
  same_workers = t.same_workers;
  same_posts = t.same_posts;
  alone = t.alone;
  posted_first = t.posted_first;
  ahead = t.ahead;
  placed = λ n h k e. placed_by n (number == n) h k (sym (is n) ∙ e);
  awaited = λ n h. awaited_by n (number == n) refl (sym (is n) ∙ h);
  came = λ n outcome h. came_by n outcome (number == n) (sym (is n) ∙ h);
  right = λ n outcome job h k. right_by n outcome job (number == n) (sym (is n) ∙ h) k;
}
  where
    placed_by : (n : ℕ) (b : Bool) → is_posted n script.posts ≡ true → is_answered n script.answers ≡ false → cond b (Some None) (places n) ≡ None → ⊥
    placed_by n true h k e = cc
    placed_by n false h k e = t.placed n h k e

    awaited_by : (n : ℕ) (b : Bool) → (number == n) ≡ b → cond b (Some None) (places n) ≡ Some None → is_answered n inner.answers ≡ false
    awaited_by n true same h = let e : number ≡ n = grind (arith, nat_tests) in t.posted_first begun n (ap (λ k. is_posted k script.posts) (sym e) ∙ new)
    awaited_by n false same h = t.awaited n h

    came_by : (n : ℕ) (outcome : JobOutcome) (b : Bool) → cond b (Some None) (places n) ≡ Some (Some outcome) → is_answered n inner.answers ≡ true
    came_by n outcome true h = absurd (cc h)
    came_by n outcome false h = t.came n outcome h

    right_by : (n : ℕ) (outcome : JobOutcome) (job : Job) (b : Bool) → cond b (Some None) (places n) ≡ Some (Some outcome) → Contains script.posts (posted n job) → outcome ≡ eval job
    right_by n outcome job true h k = absurd (cc h)
    right_by n outcome job false h k = t.right n outcome job h k

-- both were posted a job that has a place
pub tied_posted : (inner posted_inner script posted_script : WorldMeaning) (places : Places) (number : ℕ) (job : Job) → IsTied inner script places → 0 < script.workers → is_posted number script.posts ≡ false
    → places number ≡ Some None → Posts inner posted_inner number job → posted_script.posts ≡ script.posts ++ posted number job ∷ [] → posted_script.answers ≡ script.answers
    → posted_script.workers ≡ script.workers → posted_script.runs ≡ script.runs → IsTied posted_inner posted_script places
tied_posted inner v script w places number job t begun new place p posts answers workers runs = record {
  same_runs = p.rest.runs ∙ t.same_runs ∙ sym runs;
  begun = λ h. omega arith;
  same_workers = λ h. p.rest.workers ∙ t.same_workers begun ∙ sym workers;
  same_posts = λ h. p.posts ∙ ap (λ (l : List PostedJob). l ++ posted number job ∷ []) (t.same_posts begun) ∙ sym posts;
  alone = λ n a b h k. alone_by n a b (Contains-push_cases script.posts (posted number job) (posted n a) (subst (λ (l : List PostedJob). Contains l (posted n a)) posts h))
      (Contains-push_cases script.posts (posted number job) (posted n b) (subst (λ (l : List PostedJob). Contains l (posted n b)) posts k));
  posted_first = λ some_ n h. ap (is_answered n) p.answers ∙ t.posted_first begun n (posted_before n number script.posts job (sym (ap (is_posted n) posts) ∙ h));
  ahead = λ n h. ap (is_answered n) answers ∙ t.ahead n (sym (ap (is_answered n) p.answers) ∙ h);
  placed = λ n h k. placed_by n (number == n) refl (sym (ap (is_posted n) posts) ∙ h) (sym (ap (is_answered n) answers) ∙ k);
  awaited = λ n h. ap (is_answered n) p.answers ∙ t.awaited n h;
  came = λ n outcome h. ap (is_answered n) p.answers ∙ t.came n outcome h;
  right = λ n outcome other h k. right_by n outcome other h (Contains-push_cases script.posts (posted number job) (posted n other) (subst (λ (l : List PostedJob). Contains l (posted n other)) posts k));
}
  where
    apart : (n : ℕ) (a : Job) → Contains script.posts (posted n a) → number ≡ n → ⊥
    apart n a h same = false≢true (sym new ∙ ap (λ k. is_posted k script.posts) same ∙ contains_posted script.posts n a h)

    number_of : (n : ℕ) (a : Job) → posted number job ≡ posted n a → number ≡ n
    number_of n a e = ap (λ (x : PostedJob). x.number) e

    job_of : (n : ℕ) (a : Job) → posted number job ≡ posted n a → job ≡ a
    job_of n a e = ap (λ (x : PostedJob). x.job) e

    alone_by : (n : ℕ) (a b : Job) → Contains script.posts (posted n a) ⊎ (posted number job ≡ posted n a) → Contains script.posts (posted n b) ⊎ (posted number job ≡ posted n b) → a ≡ b
    alone_by n a b (inl h) (inl k) = t.alone n a b h k
    alone_by n a b (inl h) (inr k) = absurd (apart n a h (number_of n b k))
    alone_by n a b (inr h) (inl k) = absurd (apart n b k (number_of n a h))
    alone_by n a b (inr h) (inr k) = sym (job_of n a h) ∙ job_of n b k

    placed_by : (n : ℕ) (b : Bool) → (number == n) ≡ b → is_posted n (script.posts ++ posted number job ∷ []) ≡ true → is_answered n script.answers ≡ false → places n ≢ None
    placed_by n true same h k = let e : number ≡ n = grind (arith, nat_tests) in λ none. absurd (cc (ap places (sym e) ∙ place, none))
    placed_by n false same h k = t.placed n (posted_others n number script.posts job h same) k

    right_by : (n : ℕ) (outcome : JobOutcome) (other : Job) → places n ≡ Some (Some outcome) → Contains script.posts (posted n other) ⊎ (posted number job ≡ posted n other) → outcome ≡ eval other
    right_by n outcome other h (inl k) = t.right n outcome other h k
    right_by n outcome other h (inr k) = let e : number ≡ n = ap (λ (x : PostedJob). x.number) k in absurd (cc (ap places (sym e) ∙ place, h))

-- the other answered that a job is done, and its result lies in its place
pub tied_took : (inner after script : WorldMeaning) (places filled : Places) → IsTied inner script places → 0 < script.workers → Takes inner after places filled → IsTied after script filled
tied_took inner after script places filled t begun o = record {
  same_runs = o.rest.runs ∙ t.same_runs;
  begun = t.begun;
  same_workers = λ h. o.rest.workers ∙ t.same_workers h;
  same_posts = λ h. o.posts ∙ t.same_posts h;
  alone = t.alone;
  posted_first = λ h n k. ap (is_answered n) o.answers ∙ unanswered_after n inner.answers answer (t.posted_first h n k) (other_than n k);
  ahead = λ n h. t.ahead n (before n h);
  placed = λ n h k e. placed_by n (o.number == n) h k (sym (o.places n) ∙ e);
  awaited = λ n h. awaited_by n (o.number == n) refl (sym (o.places n) ∙ h);
  came = λ n outcome h. ap (is_answered n) o.answers ∙ came_by n outcome (o.number == n) refl (sym (o.places n) ∙ h);
  right = λ n outcome job h k. right_by n outcome job (o.number == n) refl (sym (o.places n) ∙ h) k;
}
  where
    answer : Answer
    answer = Answer.Done o.number o.outcome o.at

    before : (n : ℕ) → is_answered n after.answers ≡ false → is_answered n inner.answers ≡ false
    before n h = (answered_before n inner.answers answer (sym (ap (is_answered n) o.answers) ∙ h)).0

    there : Contains script.posts (posted o.number o.right.0)
    there = subst (λ (l : List PostedJob). Contains l (posted o.number o.right.0)) (t.same_posts begun) o.right.1

    other_than : (n : ℕ) → is_posted n script.posts ≡ false → (o.number == n) ≡ false
    other_than n k = by (o.number == n) refl
      where
        by : (b : Bool) → (o.number == n) ≡ b → b ≡ false
        by false e = refl
        by true e = let same : o.number ≡ n = grind (arith, nat_tests) in
            absurd (false≢true (sym k ∙ ap (λ m. is_posted m script.posts) (sym same) ∙ contains_posted script.posts o.number o.right.0 there))

    placed_by : (n : ℕ) (b : Bool) → is_posted n script.posts ≡ true → is_answered n script.answers ≡ false → cond b (Some (Some o.outcome)) (places n) ≡ None → ⊥
    placed_by n true h k e = cc
    placed_by n false h k e = t.placed n h k e

    awaited_by : (n : ℕ) (b : Bool) → (o.number == n) ≡ b → cond b (Some (Some o.outcome)) (places n) ≡ Some None → is_answered n after.answers ≡ false
    awaited_by n true same h = absurd (cc h)
    awaited_by n false same h = ap (is_answered n) o.answers ∙ unanswered_after n inner.answers answer (t.awaited n h) same

    came_by : (n : ℕ) (outcome : JobOutcome) (b : Bool) → (o.number == n) ≡ b → cond b (Some (Some o.outcome)) (places n) ≡ Some (Some outcome) → is_answered n (inner.answers ++ answer ∷ []) ≡ true
    came_by n outcome true same h = answered_now n inner.answers answer same
    came_by n outcome false same h = answered_still n inner.answers answer (t.came n outcome h)

    right_by : (n : ℕ) (outcome : JobOutcome) (job : Job) (b : Bool) → (o.number == n) ≡ b → cond b (Some (Some o.outcome)) (places n) ≡ Some (Some outcome) → Contains script.posts (posted n job) → outcome ≡ eval job
    right_by n outcome job true same h k =
        let e : o.number ≡ n = grind (arith, nat_tests) in
        let came : o.outcome ≡ outcome = cc h in
        let own : o.right.0 ≡ job = t.alone n o.right.0 job (subst (λ m. Contains script.posts (posted m o.right.0)) e there) k in
        sym came ∙ o.right.2 ∙ ap eval own
    right_by n outcome job false same h k = t.right n outcome job h k

-- the script answered that a job is done whose result had come, and its place is gone
pub tied_answered : (inner script after : WorldMeaning) (places fewer : Places) (number : ℕ) (outcome given : JobOutcome) (at : ℕ) → IsTied inner script places → places number ≡ Some (Some outcome)
    → after.posts ≡ script.posts → after.answers ≡ script.answers ++ Answer.Done number given at ∷ [] → after.workers ≡ script.workers → after.runs ≡ script.runs
    → ((n : ℕ) → fewer n ≡ (if number == n then None else places n)) → IsTied inner after fewer
tied_answered inner script after places fewer number outcome given at t came posts answers workers runs is = record {
  same_runs = t.same_runs ∙ sym runs;
  begun = λ h. let some_ = t.begun (sym runs ∙ h) in omega arith;
  same_workers = λ h. t.same_workers (omega arith) ∙ sym workers;
  same_posts = λ h. t.same_posts (omega arith) ∙ sym posts;
  alone = λ n a b h k. t.alone n a b (subst (λ (l : List PostedJob). Contains l (posted n a)) posts h) (subst (λ (l : List PostedJob). Contains l (posted n b)) posts k);
  posted_first = λ h n k. t.posted_first (omega arith) n (sym (ap (is_posted n) posts) ∙ k);
  ahead = λ n h. ap (is_answered n) answers ∙ unanswered_after n script.answers (Answer.Done number given at) (t.ahead n h) (ahead_by n (number == n) refl h);
  placed = λ n h k e. placed_by n (sym (ap (is_posted n) posts) ∙ h) (answered_before n script.answers (Answer.Done number given at) (sym (ap (is_answered n) answers) ∙ k)) (sym (is n) ∙ e);
  awaited = λ n h. awaited_by n (number == n) (sym (is n) ∙ h);
  came = λ n o h. came_by n o (number == n) (sym (is n) ∙ h);
  right = λ n o job h k. right_by n o job (number == n) (sym (is n) ∙ h) (subst (λ (l : List PostedJob). Contains l (posted n job)) posts k);
}
  where
    ahead_by : (n : ℕ) (b : Bool) → (number == n) ≡ b → is_answered n inner.answers ≡ false → b ≡ false
    ahead_by n false same h = refl
    ahead_by n true same h = let e : number ≡ n = grind (arith, nat_tests) in
        absurd (false≢true (sym h ∙ ap (λ k. is_answered k inner.answers) (sym e) ∙ t.came number outcome came))

    placed_by : (n : ℕ) → is_posted n script.posts ≡ true → (is_answered n script.answers ≡ false) × ((number == n) ≡ false) → (if number == n then None else places n) ≡ None → ⊥
    placed_by n h k e = t.placed n h k.0 (sym (ap (λ (b : Bool). if b then None else places n) k.1) ∙ e)

    awaited_by : (n : ℕ) (b : Bool) → cond b None (places n) ≡ Some None → is_answered n inner.answers ≡ false
    awaited_by n true h = absurd (cc h)
    awaited_by n false h = t.awaited n h

    came_by : (n : ℕ) (o : JobOutcome) (b : Bool) → cond b None (places n) ≡ Some (Some o) → is_answered n inner.answers ≡ true
    came_by n o true h = absurd (cc h)
    came_by n o false h = t.came n o h

    right_by : (n : ℕ) (o : JobOutcome) (job : Job) (b : Bool) → cond b None (places n) ≡ Some (Some o) → Contains script.posts (posted n job) → o ≡ eval job
    right_by n o job true h k = absurd (cc h)
    right_by n o job false h k = t.right n o job h k

-- the script answered that no job is done
pub tied_silent : (inner script after : WorldMeaning) (places : Places) (answer : Answer) → IsTied inner script places → ((n : ℕ) → is_done_of n answer ≡ false)
    → after.posts ≡ script.posts → after.answers ≡ script.answers ++ answer ∷ [] → after.workers ≡ script.workers → after.runs ≡ script.runs → IsTied inner after places
tied_silent inner script after places answer t silent posts answers workers runs = record {
  same_runs = t.same_runs ∙ sym runs;
  begun = λ h. let some_ = t.begun (sym runs ∙ h) in omega arith;
  same_workers = λ h. t.same_workers (omega arith) ∙ sym workers;
  same_posts = λ h. t.same_posts (omega arith) ∙ sym posts;
  alone = λ n a b h k. t.alone n a b (subst (λ (l : List PostedJob). Contains l (posted n a)) posts h) (subst (λ (l : List PostedJob). Contains l (posted n b)) posts k);
  posted_first = λ h n k. t.posted_first (omega arith) n (sym (ap (is_posted n) posts) ∙ k);
  ahead = λ n h. ap (is_answered n) answers ∙ unanswered_after n script.answers answer (t.ahead n h) (silent n);
  placed = λ n h k. t.placed n (sym (ap (is_posted n) posts) ∙ h) (answered_before n script.answers answer (sym (ap (is_answered n) answers) ∙ k)).0;
  awaited = t.awaited;
  came = t.came;
  right = λ n o job h k. t.right n o job h (subst (λ (l : List PostedJob). Contains l (posted n job)) posts k);
}

-- neither runs any longer
pub tied_finished : (inner script : WorldMeaning) (places : Places) → IsTied inner script places → IsTied (record inner { runs = false }) (record script { runs = false }) places
tied_finished inner script places t = record {
  same_runs = refl;
  begun = λ h. absurd (false≢true h);
  same_workers = t.same_workers;
  same_posts = t.same_posts;
  alone = t.alone;
  posted_first = t.posted_first;
  ahead = t.ahead;
  placed = t.placed;
  awaited = t.awaited;
  came = t.came;
  right = t.right;
}

-- the script is as before, to those that use it
tied_same : (inner script after : WorldMeaning) (places : Places) → IsTied inner script places → after.posts ≡ script.posts → after.answers ≡ script.answers → after.workers ≡ script.workers → after.runs ≡ script.runs
    → IsTied inner after places
tied_same inner script after places t posts answers workers runs = record {
  same_runs = t.same_runs ∙ sym runs;
  begun = λ h. let some_ = t.begun (sym runs ∙ h) in omega arith;
  same_workers = λ h. t.same_workers (omega arith) ∙ sym workers;
  same_posts = λ h. t.same_posts (omega arith) ∙ sym posts;
  alone = λ n a b h k. t.alone n a b (subst (λ (l : List PostedJob). Contains l (posted n a)) posts h) (subst (λ (l : List PostedJob). Contains l (posted n b)) posts k);
  posted_first = λ h n k. t.posted_first (omega arith) n (sym (ap (is_posted n) posts) ∙ k);
  ahead = λ n h. ap (is_answered n) answers ∙ t.ahead n h;
  placed = λ n h k. t.placed n (sym (ap (is_posted n) posts) ∙ h) (sym (ap (is_answered n) answers) ∙ k);
  awaited = t.awaited;
  came = t.came;
  right = λ n o job h k. t.right n o job h (subst (λ (l : List PostedJob). Contains l (posted n job)) posts k);
}

-- the places are as before
tied_places : (inner script : WorldMeaning) (places same : Places) → IsTied inner script places → ((n : ℕ) → same n ≡ places n) → IsTied inner script same
tied_places inner script places same t is = record {
  same_runs = t.same_runs;
  begun = t.begun;
  same_workers = t.same_workers;
  same_posts = t.same_posts;
  alone = t.alone;
  posted_first = t.posted_first;
  ahead = t.ahead;
  placed = λ n h k e. t.placed n h k (sym (is n) ∙ e);
  awaited = λ n h. t.awaited n (sym (is n) ∙ h);
  came = λ n o h. t.came n o (sym (is n) ∙ h);
  right = λ n o job h k. t.right n o job (sym (is n) ∙ h) k;
}

-- ---- what the other owes

posted_there : (number : ℕ) (posts : List PostedJob) → is_posted number posts ≡ true → (job : Job) × Contains posts (posted number job)
posted_there number [] h = absurd (false≢true h)
posted_there number (p ∷ ps) h = by (p.number == number) refl h (posted_there number ps)
  where
    by : (b : Bool) → (p.number == number) ≡ b → (b || is_posted number ps) ≡ true → (is_posted number ps ≡ true → (job : Job) × Contains ps (posted number job)) → (job : Job) × Contains (p ∷ ps) (posted number job)
    by true test h rest = let same : p.number ≡ number = grind (arith, nat_tests) in
        (p.job, subst (λ n. Contains (p ∷ ps) (posted n p.job)) same (contains_head p ps))
    by false test h rest = let r = rest h in (r.0, contains_tail p (posted number r.0) ps r.1)

-- a job that waits for the script's answer, and for whose result there is an empty place
pub owed_to : (inner script : WorldMeaning) (places : Places) (number : ℕ) → IsTied inner script places → script.runs ≡ true → is_posted number script.posts ≡ true → places number ≡ Some None
    → 0 < length (outstanding inner.posts inner.answers)
owed_to inner script places number t runs there empty =
    let job = posted_there number script.posts there in
    owes_some inner.posts inner.answers number job.0 (subst (λ (l : List PostedJob). Contains l (posted number job.0)) (sym (t.same_posts (t.begun runs))) job.1) (t.awaited number empty)

-- each job that the other owes has a place
pub placed_there : (inner script : WorldMeaning) (places : Places) → IsTied inner script places → script.runs ≡ true
    → (n : ℕ) → is_posted n inner.posts ≡ true → is_answered n inner.answers ≡ false → places n ≢ None
placed_there inner script places t runs n h k = t.placed n (sym (ap (is_posted n) (t.same_posts (t.begun runs))) ∙ h) (t.ahead n k)

-- each result that comes leaves one less
pub takes_less : (v w : WorldMeaning) (old new : Places) → Takes v w old new → length (outstanding w.posts w.answers) < length (outstanding v.posts v.answers)
takes_less v w old new o =
    subst (λ (z : List PostedJob × List Answer). length (outstanding z.0 z.1) < length (outstanding v.posts v.answers)) (λ i. (sym o.posts i, sym o.answers i))
    (owes_less v.posts v.answers o.number o.outcome o.at o.right o.first)

-- a result came, or the other was as before
pub tied_after_take : {A E : Type 0} (inner v script : WorldMeaning) (places more : Places) (r : Result A E) → IsTied inner script places → script.runs ≡ true
    → OnOk r (Takes inner v places more) → OnErr r (v ≡ inner) → OnErr r ((n : ℕ) → more n ≡ places n) → IsTied v script more
tied_after_take inner v script places more (Ok x) t runs took kept same = tied_took inner v script places more t (t.begun runs) took
tied_after_take inner v script places more (Err e) t runs took kept same = subst (λ (m : WorldMeaning). IsTied m script more) (sym kept) (tied_places inner script places more t same)

-- ---- the answer

-- a result that lies in its place is that of the job that the script names
pub right_is : (inner script : WorldMeaning) (places : Places) (question : Question) (job : DueJob) (at : ℕ) (outcome : JobOutcome) → IsTied inner script places
    → IsLegal script.posts script.answers question (Answer.Done job.number (eval job.job) at) → places job.number ≡ Some (Some outcome) → outcome ≡ eval job.job
right_is inner script places question job at outcome t legal came =
    let own = legal.0.0 in t.right job.number outcome own.0 came own.1 ∙ sym own.2

-- the script stored an answer, and the place of its job is gone
pub tied_stored : (inner script after : WorldMeaning) (places fewer : Places) (answer : Answer) → IsTied inner script places
    → ((number : ℕ) (outcome : JobOutcome) (at : ℕ) → answer ≡ Answer.Done number outcome at → places number ≡ Some (Some outcome))
    → after.posts ≡ script.posts → after.answers ≡ script.answers ++ answer ∷ [] → after.workers ≡ script.workers → after.runs ≡ script.runs
    → ((n : ℕ) → fewer n ≡ (if is_done_of n answer then None else places n)) → IsTied inner after fewer
tied_stored inner script after places fewer (Answer.Done number outcome at) t came posts answers workers runs is =
    tied_answered inner script after places fewer number outcome outcome at t (came number outcome at refl) posts answers workers runs is
tied_stored inner script after places fewer (Answer.Elapsed at) t came posts answers workers runs is =
    tied_places inner after places fewer (tied_silent inner script after places (Answer.Elapsed at) t (λ n. refl) posts answers workers runs) is
tied_stored inner script after places fewer (Answer.Nothing at) t came posts answers workers runs is =
    tied_places inner after places fewer (tied_silent inner script after places (Answer.Nothing at) t (λ n. refl) posts answers workers runs) is

-- ---- of a script world

-- both were begun
pub tied_after_begin : (before inner : WorldMeaning) (s : ScriptWorld) (places : Places) (workers : ℕ) → 0 < workers → Begins before inner workers
    → rule_state s [] ≡ start [] → s.workers ≡ workers → s.running ≡ true → ((n : ℕ) → places n ≡ None) → IsTied inner (script_meaning s) places
tied_after_begin before inner s places workers some_ b state own runs empty =
    tied_begun inner (script_meaning s) places workers some_ b.runs b.workers_are b.posts b.answers runs own
    (ap (λ (u : RuleState). u.posts) state) (ap (λ (u : RuleState). u.answers) state) empty

-- a place was made for a job, which then both were posted, or neither
pub tied_after_post : {A E : Type 0} (inner v : WorldMeaning) (s w : ScriptWorld) (places more : Places) (number : ℕ) (job : Job) (takes : ℕ) (r : Result A E) → IsTied inner (script_meaning s) places
    → s.running ≡ true → is_posted number s.posts.items ≡ false → ((n : ℕ) → more n ≡ (if number == n then Some None else places n))
    → OnOk r ((listed : List Answer) → rule_state w listed ≡ rule_after_post (rule_state s listed) number job takes) → OnOk r (SameSetting s w) → OnErr r (SameScript s w)
    → OnOk r (Posts inner v number job) → OnErr r (v ≡ inner) → IsTied v (script_meaning w) more
tied_after_post inner v s w places more number job takes (Ok x) t runs new is state setting refused p kept =
    tied_posted inner v (script_meaning s) (script_meaning w) more number job (tied_placed inner (script_meaning s) places more number t (t.begun runs) new is) (t.begun runs) new
    (is number ∙ ap (λ (b : Bool). if b then Some None else places number) (same_number number)) p
    (ap (λ (u : RuleState). u.posts) (state [])) (ap (λ (u : RuleState). u.answers) (state [])) setting.workers setting.running
tied_after_post inner v s w places more number job takes (Err e) t runs new is state setting refused p kept =
    subst (λ (m : WorldMeaning). IsTied m (script_meaning w) more) (sym kept)
    (tied_same inner (script_meaning s) (script_meaning w) more (tied_placed inner (script_meaning s) places more number t (t.begun runs) new is)
    refused.posts refused.answers refused.setting.workers refused.setting.running)

-- ---- at the end

pub leads : (inner script : WorldMeaning) (places : Places) → IsTied inner script places → Leads inner script
leads inner script places t = record {
  same_runs = t.same_runs;
  same_workers = t.same_workers;
  same_posts = t.same_posts;
  ahead = λ number h. by number (is_answered number inner.answers) refl h;
}
  where
    by : (number : ℕ) (b : Bool) → is_answered number inner.answers ≡ b → is_answered number script.answers ≡ true → b ≡ true
    by number true e h = refl
    by number false e h = absurd (false≢true (sym (t.ahead number e) ∙ h))
