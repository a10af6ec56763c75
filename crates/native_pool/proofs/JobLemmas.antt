-- The jobs of a pool: where each stands, once a step was made.
use Rattle.std.proofs.Common.{◌≡◌, ℕ, zero, suc, ◌+◌, ◌<◌, ◌≤◌, ◌==◌, Bool, true, false, ◌||◌, cond, List, [], ◌∷◌, ◌++◌, map, length, set, get_or, Option, Some, None, refl, sym, ap, ◌∙◌, subst, arith}
use Rattle.std.specs.Prelude.{All, option_map, option_to_list, is_some, Contains}
use Rattle.std.specs.List.{flat_map}
use Rattle.std.proofs.lemmas.Bool.{false≢true}
use Rattle.std.proofs.lemmas.Bool.Decides.{nat_tests}
use Rattle.std.proofs.lemmas.List.{flat_map_more, map-append}
use Rattle.std.proofs.lemmas.List.Elements.{All-nil, All-cons, All-head, All-tail, All-weaker, All-push, All-append, All-set}
use Rattle.gv_values.specs.declared.job.Job.{Job}
use Rattle.gv_values.specs.declared.job.Answer.{Answer}
use Rattle.world_rules.specs.declared.question.PostedJob.{PostedJob}
use Rattle.world_rules.specs.Evaluate.{eval}
use Rattle.world_rules.specs.Legal.{posted, is_posted, is_answered, IsOutcomeOf}
use Rattle.native_board.specs.declared.found.Finished.{Finished}
use Rattle.native_board.specs.declared.views.CellState.{CellState}
use Rattle.native_board.specs.declared.views.CellState.TheVariants.{Done}
use Rattle.native_board.specs.declared.views.HubCell.{HubCell}
use Rattle.native_board.specs.declared.views.HubCell.TheVariants.{Vacant, Sent}
use Rattle.native_board.specs.Passes.{swept_cell, finished_at, after_sweep, finished}
use Rattle.native_pool.specs.Desks.{one_if, occurs, sent_number, done_number, job_posted_as, IsPostedCell, IsResult, KeepsJobs}

same_number : (n : ℕ) → (n == n) ≡ true
same_number n = grind (arith, nat_tests)

pub occurs-append : (n : ℕ) (xs ys : List ℕ) → occurs n (xs ++ ys) ≡ occurs n xs + occurs n ys
occurs-append n [] ys = omega arith
occurs-append n (x ∷ xs) ys = let rest = occurs-append n xs ys in omega arith

-- a number that was not posted occurs in no post
pub unposted : (n : ℕ) (posts : List PostedJob) → is_posted n posts ≡ false → occurs n (map (λ (p : PostedJob). p.number) posts) ≡ 0
unposted n [] h = refl
unposted n (p ∷ ps) h = by_test (unposted n ps) (p.number == n) refl
  where
    by_test : (is_posted n ps ≡ false → occurs n (map (λ (q : PostedJob). q.number) ps) ≡ 0) → (b : Bool) → (p.number == n) ≡ b → occurs n (map (λ (q : PostedJob). q.number) (p ∷ ps)) ≡ 0
    by_test rest true e = absurd (false≢true (sym h ∙ ap (λ b. b || is_posted n ps) e))
    by_test rest false e = let none : one_if (p.number == n) ≡ 0 = ap one_if e in let fewer = rest (sym (ap (λ b. b || is_posted n ps) e) ∙ h) in omega (arith, none, fewer)

-- a number that no answer has was not answered
pub unanswered : (n : ℕ) (answers : List Answer) → occurs n (flat_map done_number answers) ≡ 0 → is_answered n answers ≡ false
unanswered n [] h = refl
unanswered n (Answer.Done k o at ∷ answers) h = by_test (unanswered n answers) (k == n) refl
  where
    by_test : (occurs n (flat_map done_number answers) ≡ 0 → is_answered n answers ≡ false) → (b : Bool) → (k == n) ≡ b → is_answered n (Answer.Done k o at ∷ answers) ≡ false
    by_test rest true e = let count : one_if (k == n) ≡ 1 = ap one_if e in absurd (omega (arith, h, count))
    by_test rest false e = ap (λ b. b || is_answered n answers) e
        ∙ rest (let none : one_if (k == n) ≡ 0 = ap one_if e in omega (arith, h, none))
unanswered n (Answer.Elapsed at ∷ answers) h = unanswered n answers h
unanswered n (Answer.Nothing at ∷ answers) h = unanswered n answers h

pub some_is : {X : Type 0} (a b : X) → Some a ≡ Some b → a ≡ b
some_is a b h = ap (λ o. elim o [ Some x ↦ x | None ↦ a ]) h

-- the job under a number was posted with it
pub job_contains : (posts : List PostedJob) (n : ℕ) (j : Job) → job_posted_as n posts ≡ Some j → Contains posts (posted n j)
job_contains [] n j h = absurd (false≢true (ap is_some h))
job_contains (p ∷ ps) n j h = by_test (job_contains ps n j) (p.number == n) refl
  where
    by_test : (job_posted_as n ps ≡ Some j → Contains ps (posted n j)) → (b : Bool) → (p.number == n) ≡ b → Contains (p ∷ ps) (posted n j)
    by_test rest true e = let number : p.number ≡ n = grind (arith, nat_tests) in
        let job : p.job ≡ j = some_is p.job j (sym (ap (λ b. cond b (Some p.job) (job_posted_as n ps)) e) ∙ h) in
        let same : p ≡ posted n j = λ i. record { number = number i; job = job i } in
        subst (λ (q : PostedJob). Contains (p ∷ ps) q) same (0, omega arith, refl)
    by_test rest false e = let c = rest (sym (ap (λ b. cond b (Some p.job) (job_posted_as n ps)) e) ∙ h) in let l = c.1 in (suc c.0, omega arith, c.2)

job_kept : (posts : List PostedJob) (q : PostedJob) (n : ℕ) (j : Job) → job_posted_as n posts ≡ Some j → job_posted_as n (posts ++ q ∷ []) ≡ Some j
job_kept [] q n j h = absurd (false≢true (ap is_some h))
job_kept (p ∷ ps) q n j h = by_test (job_kept ps q n j) (p.number == n) refl
  where
    by_test : (job_posted_as n ps ≡ Some j → job_posted_as n (ps ++ q ∷ []) ≡ Some j) → (b : Bool) → (p.number == n) ≡ b → job_posted_as n (p ∷ ps ++ q ∷ []) ≡ Some j
    by_test rest true e = ap (λ b. cond b (Some p.job) (job_posted_as n (ps ++ q ∷ []))) e ∙ (sym (ap (λ b. cond b (Some p.job) (job_posted_as n ps)) e) ∙ h)
    by_test rest false e = ap (λ b. cond b (Some p.job) (job_posted_as n (ps ++ q ∷ []))) e
        ∙ rest (sym (ap (λ b. cond b (Some p.job) (job_posted_as n ps)) e) ∙ h)

job_new : (posts : List PostedJob) (n : ℕ) (j : Job) → is_posted n posts ≡ false → job_posted_as n (posts ++ posted n j ∷ []) ≡ Some j
job_new [] n j h = ap (λ b. cond b (Some j) None) (same_number n)
job_new (p ∷ ps) n j h = by_test (job_new ps n j) (p.number == n) refl
  where
    by_test : (is_posted n ps ≡ false → job_posted_as n (ps ++ posted n j ∷ []) ≡ Some j) → (b : Bool) → (p.number == n) ≡ b → job_posted_as n (p ∷ ps ++ posted n j ∷ []) ≡ Some j
    by_test rest true e = absurd (false≢true (sym h ∙ ap (λ b. b || is_posted n ps) e))
    by_test rest false e = ap (λ b. cond b (Some p.job) (job_posted_as n (ps ++ posted n j ∷ []))) e
        ∙ rest (sym (ap (λ b. b || is_posted n ps) e) ∙ h)

result_kept : (posts : List PostedJob) (q : PostedJob) (f : Finished) → IsResult posts f → IsResult (posts ++ q ∷ []) f
result_kept posts q f h = by_job (job_posted_as f.number posts) refl
  where
    by_job : (o : Option Job) → job_posted_as f.number posts ≡ o → IsResult (posts ++ q ∷ []) f
    by_job (Some j) e = ap (option_map eval) (job_kept posts q f.number j e ∙ sym e) ∙ h
    by_job None e = absurd (false≢true (ap is_some (sym (ap (option_map eval) e) ∙ h)))

cell_kept : (posts : List PostedJob) (q : PostedJob) (x : HubCell) → IsPostedCell posts x → IsPostedCell (posts ++ q ∷ []) x
cell_kept posts q (Sent k j) h = job_kept posts q k j h
cell_kept posts q x h = tt

-- the result of a posted job is its outcome
pub result_of : (posts : List PostedJob) (f : Finished) → IsResult posts f → IsOutcomeOf f.number f.outcome posts
result_of posts f h = by_job (job_posted_as f.number posts) refl
  where
    by_job : (o : Option Job) → job_posted_as f.number posts ≡ o → IsOutcomeOf f.number f.outcome posts
    by_job (Some j) e = (j, job_contains posts f.number j e, sym (some_is (eval j) f.outcome (sym (ap (option_map eval) e) ∙ h)))
    by_job None e = absurd (false≢true (ap is_some (sym (ap (option_map eval) e) ∙ h)))

pushed : (m : ℕ) (posts : List PostedJob) (n : ℕ) (j : Job)
    → occurs m (map (λ (p : PostedJob). p.number) (posts ++ posted n j ∷ [])) ≡ occurs m (map (λ (p : PostedJob). p.number) posts) + one_if (n == m)
pushed m [] n j = omega arith
pushed m (p ∷ posts) n j = let rest = pushed m posts n j in omega arith

answered_more : (m : ℕ) (answers : List Answer) (a : Answer) → occurs m (flat_map done_number (answers ++ a ∷ [])) ≡ occurs m (flat_map done_number answers) + occurs m (done_number a)
answered_more m answers a = sym (ap (occurs m) (flat_map_more done_number [] answers a)) ∙ occurs-append m (flat_map done_number answers) (done_number a)

one_if_le : (b : Bool) → one_if b ≤ 1
one_if_le true = omega arith
one_if_le false = omega arith

-- a job that was not posted before comes last of those that wait
pub keeps_post : (w : List PostedJob) (cells : List HubCell) (held : List Finished) (posts : List PostedJob) (answers : List Answer) (n : ℕ) (j : Job) → is_posted n posts ≡ false
    → KeepsJobs w cells held posts answers → KeepsJobs (w ++ posted n j ∷ []) cells held (posts ++ posted n j ∷ []) answers
keeps_post w cells held posts answers n j new s = record {
  once = λ m. once_at m (n == m) refl;
  each = λ m. let was = s.each m in let a = pushed m w n j in let b = pushed m posts n j in omega arith;
  waiting_posted = All-push (λ (p : PostedJob). job_posted_as p.number (posts ++ posted n j ∷ []) ≡ Some p.job) w (posted n j)
      (All-weaker (λ (p : PostedJob). job_posted_as p.number posts ≡ Some p.job) (λ (p : PostedJob). job_posted_as p.number (posts ++ posted n j ∷ []) ≡ Some p.job)
      (λ p h. job_kept posts (posted n j) p.number p.job h) w s.waiting_posted) (job_new posts n j new);
  cells_posted = All-weaker (IsPostedCell posts) (IsPostedCell (posts ++ posted n j ∷ [])) (cell_kept posts (posted n j)) cells s.cells_posted;
  held_posted = All-weaker (IsResult posts) (IsResult (posts ++ posted n j ∷ [])) (result_kept posts (posted n j)) held s.held_posted;
}
  where
    once_at : (m : ℕ) (b : Bool) → (n == m) ≡ b → occurs m (map (λ (p : PostedJob). p.number) (posts ++ posted n j ∷ [])) ≤ 1
    once_at m true e = let same : n ≡ m = grind (arith, nat_tests) in let none = unposted n posts new in
        let nothing : occurs m (map (λ (p : PostedJob). p.number) posts) ≡ 0 = subst (λ k. occurs k (map (λ (p : PostedJob). p.number) posts) ≡ 0) same none in
        let one = one_if_le (n == m) in let b = pushed m posts n j in omega (arith, nothing, one, b)
    once_at m false e = let none : one_if (n == m) ≡ 0 = ap one_if e in let was = s.once m in let b = pushed m posts n j in omega (arith, none, was, b)

sent_set : (m : ℕ) (cells : List HubCell) (i n : ℕ) (j : Job) → get_or cells i Vacant ≡ Vacant → i < length cells
    → occurs m (flat_map sent_number (set cells i (Sent n j))) ≡ one_if (n == m) + occurs m (flat_map sent_number cells)
sent_set m [] i n j free l = absurd (omega (arith, l))
sent_set m (x ∷ xs) zero n j free l = ap (λ c. one_if (n == m) + occurs m (sent_number c ++ flat_map sent_number xs)) (sym free)
sent_set m (x ∷ xs) (suc i) n j free l =
    let rest = sent_set m xs i n j free (omega (arith, l)) in
    let a = occurs-append m (sent_number x) (flat_map sent_number (set xs i (Sent n j))) in
    let b = occurs-append m (sent_number x) (flat_map sent_number xs) in omega arith

-- the oldest job goes into a free cell
pub keeps_fill : (w : List PostedJob) (cells : List HubCell) (held : List Finished) (posts : List PostedJob) (answers : List Answer) (i n : ℕ) (j : Job) → get_or cells i Vacant ≡ Vacant
    → i < length cells → KeepsJobs (posted n j ∷ w) cells held posts answers → KeepsJobs w (set cells i (Sent n j)) held posts answers
keeps_fill w cells held posts answers i n j free l s = record {
  once = s.once;
  each = λ m. let was = s.each m in let a = sent_set m cells i n j free l in omega arith;
  waiting_posted = All-tail (λ (p : PostedJob). job_posted_as p.number posts ≡ Some p.job) (posted n j) w s.waiting_posted;
  cells_posted = All-set (IsPostedCell posts) cells i (Sent n j) (All-head (λ (p : PostedJob). job_posted_as p.number posts ≡ Some p.job) (posted n j) w s.waiting_posted) s.cells_posted;
  held_posted = s.held_posted;
}

cell_count : (m : ℕ) (st : CellState) (x : HubCell)
    → occurs m (sent_number (swept_cell st x)) + occurs m (map (λ (f : Finished). f.number) (option_to_list (finished_at st x))) ≡ occurs m (sent_number x)
cell_count m (Done e) (Sent k j) = omega arith
cell_count m st x = omega arith

pub swept_count : (m : ℕ) (cells : List HubCell) (seen : List CellState)
    → occurs m (flat_map sent_number (after_sweep cells seen)) + occurs m (map (λ (f : Finished). f.number) (finished cells seen)) ≡ occurs m (flat_map sent_number cells)
swept_count m cells [] = omega arith
swept_count m [] (st ∷ sts) = refl
swept_count m (x ∷ xs) (st ∷ sts) =
    let rest = swept_count m xs sts in let cell = cell_count m st x in
    let a = occurs-append m (sent_number (swept_cell st x)) (flat_map sent_number (after_sweep xs sts)) in
    let b = occurs-append m (sent_number x) (flat_map sent_number xs) in
    let c = ap (occurs m) (map-append (λ (f : Finished). f.number) (option_to_list (finished_at st x)) (finished xs sts)) in
    let d = occurs-append m (map (λ (f : Finished). f.number) (option_to_list (finished_at st x))) (map (λ (f : Finished). f.number) (finished xs sts)) in omega arith

cell_result : (posts : List PostedJob) (st : CellState) (x : HubCell) → IsPostedCell posts x → All (IsResult posts) (option_to_list (finished_at st x))
cell_result posts (Done e) (Sent k j) h = All-cons (IsResult posts) (record { number = k; outcome = eval j }) [] (ap (option_map eval) h) (All-nil (IsResult posts))
cell_result posts st x h = All-nil (IsResult posts)

swept_posted : (posts : List PostedJob) (st : CellState) (x : HubCell) → IsPostedCell posts x → IsPostedCell posts (swept_cell st x)
swept_posted posts (Done e) (Sent k j) h = tt
swept_posted posts st x h = h

results_posted : (posts : List PostedJob) (cells : List HubCell) (seen : List CellState) → All (IsPostedCell posts) cells → All (IsResult posts) (finished cells seen)
results_posted posts cells [] h = All-nil (IsResult posts)
results_posted posts [] (st ∷ sts) h = All-nil (IsResult posts)
results_posted posts (x ∷ xs) (st ∷ sts) h = All-append (IsResult posts) (option_to_list (finished_at st x)) (finished xs sts)
    (cell_result posts st x (All-head (IsPostedCell posts) x xs h)) (results_posted posts xs sts (All-tail (IsPostedCell posts) x xs h))

left_posted : (posts : List PostedJob) (cells : List HubCell) (seen : List CellState) → All (IsPostedCell posts) cells → All (IsPostedCell posts) (after_sweep cells seen)
left_posted posts cells [] h = h
left_posted posts [] (st ∷ sts) h = h
left_posted posts (x ∷ xs) (st ∷ sts) h = All-cons (IsPostedCell posts) (swept_cell st x) (after_sweep xs sts) (swept_posted posts st x (All-head (IsPostedCell posts) x xs h))
    (left_posted posts xs sts (All-tail (IsPostedCell posts) x xs h))

-- a sweep takes results out of cells, and these are held
pub keeps_sweep : (w : List PostedJob) (cells : List HubCell) (seen : List CellState) (posts : List PostedJob) (answers : List Answer) → KeepsJobs w cells [] posts answers
    → KeepsJobs w (after_sweep cells seen) (finished cells seen) posts answers
keeps_sweep w cells seen posts answers s = record {
  once = s.once;
  each = λ m. let was = s.each m in let a = swept_count m cells seen in omega arith;
  waiting_posted = s.waiting_posted;
  cells_posted = left_posted posts cells seen s.cells_posted;
  held_posted = results_posted posts cells seen s.cells_posted;
}

-- the first result that is held is handed on
pub keeps_hand : (w : List PostedJob) (cells : List HubCell) (f : Finished) (held : List Finished) (posts : List PostedJob) (answers : List Answer) → KeepsJobs w cells (f ∷ held) posts answers
    → IsResult posts f × (is_answered f.number answers ≡ false) × ((at : ℕ) → KeepsJobs w cells held posts (answers ++ Answer.Done f.number f.outcome at ∷ []))
keeps_hand w cells f held posts answers s = (
  All-head (IsResult posts) f held s.held_posted,
  unanswered f.number answers (let was = s.each f.number in let most = s.once f.number in let one : one_if (f.number == f.number) ≡ 1 = ap one_if (same_number f.number) in omega (arith, was, most, one)),
  λ at. record {
    once = s.once;
    each = λ m. let was = s.each m in let a = answered_more m answers (Answer.Done f.number f.outcome at) in omega arith;
    waiting_posted = s.waiting_posted;
    cells_posted = s.cells_posted;
    held_posted = All-tail (IsResult posts) f held s.held_posted;
  },
)

-- the oldest job is evaluated and answered
pub keeps_eval : (w : List PostedJob) (cells : List HubCell) (held : List Finished) (posts : List PostedJob) (answers : List Answer) (n : ℕ) (j : Job)
    → KeepsJobs (posted n j ∷ w) cells held posts answers
    → IsResult posts (record { number = n; outcome = eval j }) × (is_answered n answers ≡ false) × ((at : ℕ) → KeepsJobs w cells held posts (answers ++ Answer.Done n (eval j) at ∷ []))
keeps_eval w cells held posts answers n j s = (
  ap (option_map eval) (All-head (λ (p : PostedJob). job_posted_as p.number posts ≡ Some p.job) (posted n j) w s.waiting_posted),
  unanswered n answers (let was = s.each n in let most = s.once n in let one : one_if (n == n) ≡ 1 = ap one_if (same_number n) in omega (arith, was, most, one)),
  λ at. record {
    once = s.once;
    each = λ m. let was = s.each m in let a = answered_more m answers (Answer.Done n (eval j) at) in omega arith;
    waiting_posted = All-tail (λ (p : PostedJob). job_posted_as p.number posts ≡ Some p.job) (posted n j) w s.waiting_posted;
    cells_posted = s.cells_posted;
    held_posted = s.held_posted;
  },
)

-- an answer that names no job changes nothing of the jobs
pub keeps_silent : (w : List PostedJob) (cells : List HubCell) (held : List Finished) (posts : List PostedJob) (answers : List Answer) (a : Answer) → done_number a ≡ []
    → KeepsJobs w cells held posts answers → KeepsJobs w cells held posts (answers ++ a ∷ [])
keeps_silent w cells held posts answers a none s = record {
  once = s.once;
  each = λ m. let was = s.each m in let more = answered_more m answers a in let silent : occurs m (done_number a) ≡ 0 = ap (occurs m) none in omega (arith, was, more, silent);
  waiting_posted = s.waiting_posted;
  cells_posted = s.cells_posted;
  held_posted = s.held_posted;
}
