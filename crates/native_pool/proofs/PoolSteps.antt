-- What the calls of a pool come to.
use Rattle.std.proofs.Common.{◌≡◌, ℕ, zero, suc, ◌+◌, ◌≤◌, true, false, List, [], ◌∷◌, ◌++◌, map, length, drop, replicate, get_or, Some, None, refl, sym, ap, ◌∙◌, subst, arith}
use Rattle.std.specs.Prelude.{All, Result, Ok, Err, is_ok, is_some, slice_get}
use Rattle.std.proofs.lemmas.Bool.{false≢true}
use Rattle.native_board.specs.declared.views.HubCell.TheVariants.{Vacant}
use Rattle.native_board.specs.Rules.{hub_cell, begun}
use Rattle.gv_values.specs.declared.job.Job.{Job}
use Rattle.world_rules.specs.declared.question.PostedJob.{PostedJob}
use Rattle.world_rules.specs.Legal.{posted, is_posted}
use Rattle.std.specs.List.{flat_map}
use Rattle.std.proofs.lemmas.List.{length-replicate}
use Rattle.std.proofs.lemmas.List.Elements.{All-nil, All-cons}
use Rattle.native_board.specs.Passes.{is_sent}
use Rattle.native_pool.specs.Desks.{DeskView, Balances, KeepsJobs, SameCells, Fills, occurs, sent_number, job_posted_as, IsPostedCell, IsResult}
use Rattle.native_pool.specs.Pools.{Pool, IsSound, IsSoundDesk, KeepsStarts, WhileRunning, passed, told_cell, numbers_from}
use Rattle.native_pool.proofs.JobLemmas.{some_is, keeps_post}
use Rattle.native_pool.proofs.DeskSteps.{jobs_as}
use Rattle.native_pool.proofs.AnswerSteps.{balances_as}

-- a pool that doesn't run
pub sound_stopped : (p : Pool) → p.desk ≡ None → p.moment ≤ passed p → IsSound p
sound_stopped p none timely = record { timely = timely; running = λ d h. absurd (false≢true (ap is_some (sym none ∙ h))) }

-- where a worker of a cell was started, its start told that it runs
start_at : (starts : List (Result ℕ ℕ)) (b n i : ℕ) → map told_cell starts ≡ numbers_from b n → get_or (map (λ (s : Result ℕ ℕ). is_ok s) starts) i false ≡ true → slice_get starts i ≡ Some (Ok (b + i))
start_at [] b n i cells h = absurd (false≢true h)
start_at (Ok c ∷ starts) b zero i cells h = let l = ap length cells in absurd (omega (arith, l))
start_at (Err c ∷ starts) b zero i cells h = let l = ap length cells in absurd (omega (arith, l))
start_at (Ok c ∷ starts) b (suc n) zero cells h =
    let first = ap (λ l. get_or l 0 c) cells in let same : c ≡ b + 0 = omega (arith, first) in ap (λ k. Some (Ok k)) same
start_at (Err c ∷ starts) b (suc n) zero cells h = absurd (false≢true h)
start_at (Ok c ∷ starts) b (suc n) (suc i) cells h = start_on (start_at starts (suc b) n i (ap (drop 1) cells) h)
  where
    start_on : slice_get starts i ≡ Some (Ok (suc b + i)) → slice_get starts i ≡ Some (Ok (b + suc i))
    start_on h = let same : suc b + i ≡ b + suc i = omega arith in h ∙ ap (λ k. Some (Ok k)) same
start_at (Err c ∷ starts) b (suc n) (suc i) cells h = start_on (start_at starts (suc b) n i (ap (drop 1) cells) h)
  where
    start_on : slice_get starts i ≡ Some (Ok (suc b + i)) → slice_get starts i ≡ Some (Ok (b + suc i))
    start_on h = let same : suc b + i ≡ b + suc i = omega arith in h ∙ ap (λ k. Some (Ok k)) same

-- a job lies only in a cell whose worker runs
pub keeps_starts : (p : Pool) (d : DeskView) → IsSoundDesk p d → ((i : ℕ) → is_sent (hub_cell d.hub i) ≡ true → get_or d.started i false ≡ true) → KeepsStarts p d
keeps_starts p d s used = record {
  one_each = s.one_each;
  running = λ i h. let same : 0 + i ≡ i = omega arith in start_at p.starts 0 p.workers i s.one_each (ap (λ l. get_or l i false) (sym s.started) ∙ used i h) ∙ ap (λ k. Some (Ok k)) same;
}

-- a pool that runs
pub sound_running : (p : Pool) (d : DeskView) → p.desk ≡ Some d → p.moment ≤ passed p → IsSoundDesk p d → IsSound p
sound_running p d is timely s = record { timely = timely; running = λ e h. subst (IsSoundDesk p) (some_is d e (sym is ∙ h)) s }

pub starts_of : (p : Pool) (d : DeskView) → p.desk ≡ Some d → IsSoundDesk p d → ((i : ℕ) → is_sent (hub_cell d.hub i) ≡ true → get_or d.started i false ≡ true) → WhileRunning KeepsStarts p
starts_of p d is s used = λ e h. subst (KeepsStarts p) (some_is d e (sym is ∙ h)) (keeps_starts p d s used)

-- a pool whose hub went on, with the same workers
pub sound_on : (p q : Pool) (d e : DeskView) → IsSoundDesk p d → SameCells d e → Balances e q.posts q.answers → q.starts ≡ p.starts → q.workers ≡ p.workers → IsSoundDesk q e
sound_on p q d e s same jobs starts workers = record {
  jobs = jobs;
  cells = same.made ∙ (s.cells ∙ sym same.cells);
  one_each = ap (map told_cell) starts ∙ (s.one_each ∙ ap (numbers_from 0) (sym workers));
  started = same.started ∙ (s.started ∙ ap (map (λ (start : Result ℕ ℕ). is_ok start)) (sym starts));
}

-- a pool to which a job more was posted
pub sound_post : (p q : Pool) (d m e : DeskView) (n : ℕ) (j : Job) → IsSoundDesk p d → is_posted n p.posts ≡ false → m ≡ record d { waiting = d.waiting ++ posted n j ∷ [] } → Fills m e
    → q.posts ≡ p.posts ++ posted n j ∷ [] → q.answers ≡ p.answers → q.starts ≡ p.starts → q.workers ≡ p.workers → IsSoundDesk q e
sound_post p q d m e n j s new added fills posts answers starts workers =
    let more : DeskView = record d { waiting = d.waiting ++ posted n j ∷ [] } in
    let kept : Balances more (p.posts ++ posted n j ∷ []) p.answers = keeps_post d.waiting d.hub.cells d.held p.posts p.answers n j new s.jobs in
    let jobs = fills.rests.jobs (p.posts ++ posted n j ∷ []) p.answers (subst (λ (u : DeskView). Balances u (p.posts ++ posted n j ∷ []) p.answers) (sym added) kept) in
    let same : SameCells d m = subst (SameCells d) (sym added) (record { started = refl; made = refl; cells = refl }) in
    sound_on p q d e s (record { started = fills.rests.same.started ∙ same.started; made = fills.rests.same.made ∙ same.made; cells = fills.rests.same.cells ∙ same.cells })
    (balances_as e (p.posts ++ posted n j ∷ []) q.posts p.answers q.answers posts answers jobs) starts workers

none_sent : (m n : ℕ) → occurs m (flat_map sent_number (replicate n Vacant)) ≡ 0
none_sent m zero = refl
none_sent m (suc n) = none_sent m n

vacant_posted : (n : ℕ) → All (IsPostedCell []) (replicate n Vacant)
vacant_posted zero = All-nil (IsPostedCell [])
vacant_posted (suc n) = All-cons (IsPostedCell []) Vacant (replicate n Vacant) tt (vacant_posted n)

keeps_none : (n : ℕ) → KeepsJobs [] (replicate n Vacant) [] [] []
keeps_none n = record {
  once = λ m. omega arith;
  each = λ m. let none = none_sent m n in omega arith;
  waiting_posted = All-nil (λ (p : PostedJob). job_posted_as p.number [] ≡ Some p.job);
  cells_posted = vacant_posted n;
  held_posted = All-nil (IsResult []);
}

-- a pool that has just begun
pub sound_begin : (q : Pool) (e : DeskView) (n : ℕ) → e.hub ≡ begun n n → e.waiting ≡ [] → e.held ≡ [] → e.started ≡ map (λ (start : Result ℕ ℕ). is_ok start) q.starts → q.posts ≡ [] → q.answers ≡ []
    → map told_cell q.starts ≡ numbers_from 0 q.workers → IsSoundDesk q e
sound_begin q e n hub waiting held started posts answers cells = record {
  jobs = balances_as e [] q.posts [] q.answers posts answers (jobs_as [] e.waiting (replicate n Vacant) e.hub.cells [] e.held [] [] waiting (ap (λ h. h.cells) hub) held (keeps_none n));
  cells = ap (λ h. h.made) hub ∙ (sym (length-replicate n Vacant) ∙ ap (λ h. length h.cells) (sym hub));
  one_each = cells;
  started = started;
}
