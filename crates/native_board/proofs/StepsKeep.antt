-- Each step keeps the rule of the board.
use Rattle.std.proofs.Common.{◌≡◌, ℕ, zero, suc, ◌+◌, ◌*◌, ◌<◌, List, [], ◌∷◌, ◌++◌, length, replicate, get_or, set, sym, refl, ap, ◌∙◌, subst, ◌⊎◌, ⊎_elim, inl, inr, arith, length-append, length-set, get_or-set_same, get_or-set_other}
use Rattle.std.specs.Prelude.{slice_index}
use mathlib.Core.Option.{none, some, some-injective, some-ne-none}
use mathlib.Core.List.{map-append}
use lib.IntN.{ℤ}
use lib.ListN.{get_elem?}
use Rattle.std.proofs.lemmas.List.{length-replicate, get_or-replicate}
use lib.Seq.{set-get_or}
use Rattle.atomic_table.proofs.Lists.{set_again}
use Rattle.atomic_table.specs.Table.{Me, step, keeps, Allows, Splits, opening}
use Rattle.gv_values.specs.declared.job.JobKind.{JobKind}
use Rattle.gv_values.specs.declared.job.Job.{Job}
use Rattle.gv_values.specs.declared.job.JobKind.TheVariants as kind
use Rattle.gv_values.specs.declared.job.Job.TheVariants as job
use Rattle.gv_values.specs.declared.job.JobOutcome.{JobOutcome}
use Rattle.gv_values.specs.declared.fault.FaultKind.{FaultKind}
use Rattle.world_rules.proofs.JobEnds.{IsJobEnd}
use Rattle.native_board.specs.declared.views.Signal.{Signal}
use Rattle.native_board.specs.declared.views.Signal.TheVariants.{High}
use Rattle.native_board.specs.declared.views.Ended.{Ended}
use Rattle.native_board.specs.declared.views.CellState.{CellState}
use Rattle.native_board.specs.declared.views.CellState.TheVariants.{Free, Posted, Stop, Done}
use Rattle.native_board.specs.declared.views.HubCell.{HubCell}
use Rattle.native_board.specs.declared.views.HubCell.TheVariants.{Vacant, Ordered, Filled, Sent, Taking, Stopped}
use Rattle.native_board.specs.declared.views.HubView.{HubView}
use Rattle.native_board.specs.declared.views.WorkerStage.{WorkerStage}
use Rattle.native_board.specs.declared.views.WorkerStage.TheVariants.{Idle, Asked, Numbered, Holds, Valued, Owes}
use Rattle.native_board.specs.declared.views.WorkerView.{WorkerView}
use Rattle.native_board.specs.declared.views.View.{View}
use Rattle.native_board.specs.declared.views.View.TheVariants.{Hub, Worker}
use Rattle.native_board.specs.Words.{CellWords, cell_words, state_in, signed_in, signal_in, ended_of, value_of, job_outcome_of}
use Rattle.gv_values.specs.JobParts.{kind_of, argument_of}
use Rattle.gv_values.specs.Job.{job_of}
use Rattle.world_rules.specs.Evaluate.{eval}
use Rattle.native_board.specs.Rules.{CellRule, NoLost, Fits, signal_of, begun, first, Shows, Carries, Rests, Takes, Stops, untaken, hub_cell, posts_at, Kept}
use Rattle.native_board.specs.Plays.{with_worker, new_worker, marked, counted, on_cell, on_post, on_stage, ordered, filled, sent, stopped, asked, begun_with, looked, numbered, holds, valued, owing, rested, freed, lowered, saw, swept, IsJob, StoresFree, StoresValue, StoresDone, SwapsHigh, SwapsLow, LoadsNext, LoadsValue, StoresOrder, StoresArgument, StoresPosted, StoresStop, LoadsState, LoadsOrder, LoadsArgument}
use Rattle.native_board.proofs.Moves.{spares, put_word, puts, in_board, has_count, own_in_board, off_cells, is_high, lowers, sees, started_fits, hub_seat, hub_at, hub_or, worker_at, CountsElse, moved}

abbrev M : Type 0
M = Me (Unit {0}) View

-- what a store in the word q of cell i asks of a row, where the hub's view of the cell goes from old to new and its
-- counts to ps
abbrev HubRows : HubView → ℕ → ℕ → ℕ → HubCell → HubCell → List ℕ → Type 0
HubRows h i q x old new ps =
    (g : Signal) (c : CellWords) (w : WorkerStage) (t : ℕ) → Fits g (length h.seen) i c old (posts_at h i) w t → Fits g (length h.seen) i (put_word c q x) new (get_or ps i 0) w t

-- each store of the hub in the word p of cell i
hub_stores : (slots id : ℕ) (me : M) (h : HubView) (i : ℕ) → me.0 ≡ Hub h → i < h.made → (old new : HubCell) → hub_cell h i ≡ old → (q p x : ℕ) → p ≡ q + 1 → q < 4 → (ps : List ℕ)
    → CountsElse i h.posts ps → HubRows h i q x old new ps → (told : M → Type 0) → told (Hub (moved h i new ps), me.1) → Allows Kept slots id me (4 * i + p) (λ _. x) (λ _. told)
hub_stores slots id me h i is low old new was q p x place small ps ce rows told tells s r deep seat _ =
    let seat' : get_elem? s.views id ≡ some (Hub h) = seat ∙ ap some is in let at : ℕ = 4 * i + p in
    let inside = in_board s r id h seat' i low in
    let here : cell_words (set s.words at x) i ≡ put_word (cell_words s.words i) q x = puts s.words i q at x (omega arith) small (omega arith) in
    let apart = spares s.words i q at x (omega arith) small in (
      Hub (moved h i new ps),
      keeps,
      tt,
      hub_at s r id h seat' i low (set s.words at x) apart old new ps was ce
          (λ w t f. subst (λ (z : Signal × CellWords). Fits z.0 (length h.seen) i z.1 new (get_or ps i 0) w t) (λ k. (sym apart.2 k, sym here k)) (rows (signal_of s.words) (cell_words s.words i) w t f)),
      tells,
    )

-- each such store but that of POSTED, which counts nothing
hub_marks : (slots id : ℕ) (me : M) (h : HubView) (i : ℕ) → me.0 ≡ Hub h → i < h.made → (old : HubCell) → hub_cell h i ≡ old → (q p x : ℕ) → p ≡ q + 1 → q < 4 → (f : HubCell → HubCell)
    → HubRows h i q x old (f old) h.posts → Allows Kept slots id me (4 * i + p) (λ _. x) (λ _ m'. (j : ℕ) → 4 * i + p ≡ 4 * j + p → m' ≡ (on_cell f j me.0, me.1))
hub_marks slots id me h i is low old was q p x place small f rows =
    hub_stores slots id me h i is low old (f old) was q p x place small h.posts (refl, λ j n. refl) rows (λ m'. (j : ℕ) → 4 * i + p ≡ 4 * j + p → m' ≡ (on_cell f j me.0, me.1))
    (λ j e. let same : i ≡ j = omega arith in λ c. (((λ k. Hub (marked h i (f (sym was k)))) ∙ (λ k. on_cell f (same k) (sym is k))) c, me.1))

order_row : (g : Signal) (n i : ℕ) (c : CellWords) (x : ℕ) (st : CellState) (w : WorkerStage) → CellRule c st Vacant w → CellRule (put_word c 1 x) st (ordered x Vacant) w × NoLost g n i st (ordered x Vacant) w
order_row g n i c x Free w t = ((t, refl, refl), tt)
order_row g n i c x st w t = absurd t

pub stores_order : (slots id : ℕ) (me : M) (h : HubView) (i x : ℕ) → me.0 ≡ Hub h → i < h.made → hub_cell h i ≡ Vacant
    → Allows Kept slots id me (4 * i + 2) (λ _. x) (λ _. StoresOrder (step slots (4 * i + 2) x 0 none) me x)
stores_order slots id me h i x is low was = hub_marks slots id me h i is low Vacant was 1 2 x refl (omega arith) (ordered x)
    (λ g c w t f. let row = order_row g (length h.seen) i c x (state_in c.state) w f.0 in (row.0, row.1, f.2))

signed_job : (k : JobKind) (y : ℤ) → (kind_of (job_of k y) ≡ k) × (argument_of (job_of k y) ≡ y)
signed_job kind.Sum y = (refl, refl)
signed_job kind.Collatz y = (refl, refl)
signed_job kind.Fail y = (refl, refl)
signed_job kind.Echo y = (refl, refl)

argument_row : (g : Signal) (n i : ℕ) (c : CellWords) (k : ℕ) (d : JobKind) (x : ℕ) (st : CellState) (w : WorkerStage) → CellRule c st (Ordered k d) w → CellRule (put_word c 2 x) st (filled x (Ordered k d)) w × NoLost g n i st (filled x (Ordered k d)) w
argument_row g n i c k d x Free w t = let j = signed_job d (signed_in x) in ((t.0, (t.1, t.2 ∙ sym j.0, sym j.1)), tt)
argument_row g n i c k d x st w t = absurd t

pub stores_argument : (slots id : ℕ) (me : M) (h : HubView) (i x k : ℕ) (d : JobKind) → me.0 ≡ Hub h → i < h.made → hub_cell h i ≡ Ordered k d
    → Allows Kept slots id me (4 * i + 3) (λ _. x) (λ _. StoresArgument (step slots (4 * i + 3) x 0 none) me x)
stores_argument slots id me h i x k d is low was = hub_marks slots id me h i is low (Ordered k d) was 2 3 x refl (omega arith) (filled x)
    (λ g c w t f. let row = argument_row g (length h.seen) i c k d x (state_in c.state) w f.0 in (row.0, row.1, f.2))

-- a worker that is between two jobs may be so at a posted job
rests_takes : (c : CellWords) (k : ℕ) (j : Job) (w : WorkerStage) → Rests w → Takes c k j w
rests_takes c k j Idle t = tt
rests_takes c k j Owes t = tt
rests_takes c k j w t = absurd t

-- a worker that is between two jobs has not begun with the one that was just posted
rests_untaken : (w : WorkerStage) → Rests w → untaken Posted w ≡ 1
rests_untaken Idle t = refl
rests_untaken Owes t = refl
rests_untaken w t = absurd t

posted_row : (c : CellWords) (k : ℕ) (j : Job) (st : CellState) (w : WorkerStage) → CellRule c st (Filled k j) w → CellRule (put_word c 0 1) Posted (Sent k j) w × (untaken Posted w ≡ untaken st w + 1)
posted_row c k j Free w t = ((t.1, rests_takes (put_word c 0 1) k j w t.0), rests_untaken w t.0)
posted_row c k j st w t = absurd t

-- only the count of cell i grows
counts_else : (h : HubView) (i : ℕ) → CountsElse i h.posts (set h.posts i (posts_at h i + 1))
counts_else h i = (length-set h.posts i _, λ j n. get_or-set_other h.posts i j _ 0 n)

posts_more : (slots id : ℕ) (me : M) (h : HubView) (i k : ℕ) (j : Job) → me.0 ≡ Hub h → i < h.made → i < length h.posts → hub_cell h i ≡ Filled k j
    → Allows Kept slots id me (4 * i + 1) (λ _. 1) (λ _. StoresPosted (step slots (4 * i + 1) 1 0 none) me 1)
posts_more slots id me h i k j is low inside was =
    hub_stores slots id me h i is low (Filled k j) (Sent k j) was 0 1 1 refl (omega arith) (set h.posts i (posts_at h i + 1)) (counts_else h i)
    (λ g c w t f. let row = posted_row c k j (state_in c.state) w f.0 in let more = get_or-set_same h.posts i (posts_at h i + 1) 0 inside in let count = f.2 in let one = row.1 in (row.0, tt, omega arith))
    (StoresPosted (step slots (4 * i + 1) 1 0 none) me 1)
    (λ n e. let same : i ≡ n = omega arith in λ c. (((λ k. Hub (counted (marked h i (sent (sym was k))) i)) ∙ (λ k. on_post (same k) (sym is k))) c, me.1))

-- the counts of the rule are as many as the cells, so that a started cell has one
pub stores_posted : (slots id : ℕ) (me : M) (h : HubView) (i k : ℕ) (j : Job) → me.0 ≡ Hub h → i < h.made → hub_cell h i ≡ Filled k j
    → Allows Kept slots id me (4 * i + 1) (λ _. 1) (λ _. StoresPosted (step slots (4 * i + 1) 1 0 none) me 1)
stores_posted slots id me h i k j is low was s r deep seat small =
    posts_more slots id me h i k j is low (has_count s r id h (seat ∙ ap some is) i low) was s r deep seat small

rests_stops : (w : WorkerStage) → Rests w → Stops w
rests_stops Idle t = tt
rests_stops Owes t = tt
rests_stops w t = absurd t

stop_row : (c : CellWords) (st : CellState) (w : WorkerStage) → CellRule c st Vacant w → CellRule (put_word c 0 2) Stop Stopped w × (untaken Stop w ≡ untaken st w)
stop_row c Free w t = (rests_stops w t, refl)
stop_row c st w t = absurd t

pub stores_stop : (slots id : ℕ) (me : M) (h : HubView) (i : ℕ) → me.0 ≡ Hub h → i < h.made → hub_cell h i ≡ Vacant
    → Allows Kept slots id me (4 * i + 1) (λ _. 2) (λ _. StoresStop (step slots (4 * i + 1) 2 0 none) me 2)
stores_stop slots id me h i is low was = hub_marks slots id me h i is low Vacant was 0 1 2 refl (omega arith) stopped
    (λ g c w t f. let row = stop_row c (state_in c.state) w f.0 in let count = f.2 in let same = row.1 in (row.0, tt, omega arith))

free_row : (c : CellWords) (k : ℕ) (j : Job) (st : CellState) (w : WorkerStage) → CellRule c st (Taking k j) w → CellRule (put_word c 0 0) Free Vacant w × (untaken Free w ≡ untaken st w)
free_row c k j (Done e) w t = (t.0, refl)
free_row c k j st w t = absurd t

pub stores_free : (slots id : ℕ) (me : M) (h : HubView) (i k : ℕ) (j : Job) → me.0 ≡ Hub h → i < h.made → hub_cell h i ≡ Taking k j
    → Allows Kept slots id me (4 * i + 1) (λ _. 0) (λ _. StoresFree (step slots (4 * i + 1) 0 0 none) me 0)
stores_free slots id me h i k j is low was = hub_marks slots id me h i is low (Taking k j) was 0 1 0 refl (omega arith) freed
    (λ g c w t f. let row = free_row c k j (state_in c.state) w f.0 in let count = f.2 in let same = row.1 in (row.0, tt, omega arith))

-- each load of the worker of cell w.cell, after which it is `after` of what it read
worker_loads : (slots id at : ℕ) (me : M) (w : WorkerView) → me.0 ≡ Worker w → (after : ℕ → WorkerView) → ((n : ℕ) → (after n).cell ≡ w.cell)
    → ((ws : List ℕ) (x : HubCell) (p : ℕ) (g : Signal) (reached : ℕ) → let c : CellWords = cell_words ws w.cell in
    Fits g reached w.cell c x p w.stage w.takes → Fits g reached w.cell c x p (after (get_or ws at 0)).stage (after (get_or ws at 0)).takes)
    → Allows Kept slots id me at (λ n. n) (λ n m'. m' ≡ (Worker (after n), me.1))
worker_loads slots id at me w is after stays rows s r deep seat _ =
    let same = set-get_or s.words at 0 in let n : ℕ = get_or s.words at 0 in (
      Worker (after n),
      keeps,
      tt,
      worker_at s r id w (seat ∙ ap some is) (after n) (stays n) (set s.words at n) (ap length same) (λ j k. ap (λ ws. cell_words ws j) same) (inl (ap signal_of same))
          (λ x p reached t. subst (λ ws. Fits (signal_of ws) reached w.cell (cell_words ws w.cell) x p (after n).stage (after n).takes) (sym same) (rows s.words x p (signal_of s.words) reached t)),
      refl,
    )

asked_row : (g : Signal) (n i : ℕ) (c : CellWords) (st : CellState) (x : HubCell) (w : WorkerStage) → CellRule c st x w × NoLost g n i st x w → CellRule c st x (asked st w) × NoLost g n i st x (asked st w)
asked_row g n i c Posted (Sent k j) Idle t = ((t.0.0, tt), tt)
asked_row g n i c Stop Stopped Idle t = (tt, tt)
asked_row g n i c st x w t = t

-- a worker that finds a job has begun with one more
asked_count : (st : CellState) (w : WorkerStage) (p t : ℕ) → p ≡ t + untaken st w → p ≡ (t + begun_with st w) + untaken st (asked st w)
asked_count Posted Idle p t e = omega arith
asked_count Posted w p t e = omega arith
asked_count Stop Idle p t e = omega arith
asked_count st w p t e = omega arith

own_state : (slots id : ℕ) (me : M) (w : WorkerView) → me.0 ≡ Worker w
    → Allows Kept slots id me (4 * w.cell + 1) (λ n. n) (LoadsState (step slots (4 * w.cell + 1) 0 0 none) me)
own_state slots id me w is s r deep seat small = let n : ℕ = get_or s.words (4 * w.cell + 1) 0 in
    let t = worker_loads slots id (4 * w.cell + 1) me w is
    (λ n. record w { stage = asked (state_in n) w.stage; looks = w.looks + 1; takes = w.takes + begun_with (state_in n) w.stage; last = state_in n }) (λ n. refl)
    (λ ws x p g reached f. let c : CellWords = cell_words ws w.cell in let row = asked_row g reached w.cell c (state_in c.state) x w.stage (f.0, f.1) in
    (row.0, row.1, asked_count (state_in c.state) w.stage p w.takes f.2)) s r deep seat small in
    (t.0, t.1, t.2, t.3, t.4 ∙ λ c. (looked (state_in n) (sym is c), me.1))

-- where a worker is at a job, its cell is posted
at_a_job : (c : CellWords) (st : CellState) (x : HubCell) (w : WorkerStage) (P : CellState → HubCell → Type 0) → (Rests w → ⊥) → (Stops w → ⊥) → CellRule c st x w
    → ((k : ℕ) (j : Job) → st ≡ Posted → x ≡ Sent k j → Carries c k j → Takes c k j w → P Posted (Sent k j)) → P st x
at_a_job c Posted (Sent k j) w P a b t go = go k j refl refl t.0 t.1
at_a_job c Free Vacant w P a b t go = absurd (a t)
at_a_job c Free (Ordered k d) w P a b t go = absurd (a t.0)
at_a_job c Free (Filled k j) w P a b t go = absurd (a t.0)
at_a_job c Stop Stopped w P a b t go = absurd (b t)
at_a_job c (Done e) (Sent k j) w P a b t go = absurd (a t.0)
at_a_job c (Done e) (Taking k j) w P a b t go = absurd (a t.0)
at_a_job c st x w P a b t go = absurd t

-- the argument, read as that of a job of its kind, is the job
pub job_again : (j : Job) (k : JobKind) (y : ℤ) → k ≡ kind_of j → y ≡ argument_of j → job_of k y ≡ j
job_again (job.Sum x) k y a b = λ i. job_of (a i) (b i)
job_again (job.Collatz x) k y a b = λ i. job_of (a i) (b i)
job_again (job.Fail x) k y a b = λ i. job_of (a i) (b i)
job_again (job.Echo x) k y a b = λ i. job_of (a i) (b i)

own_order : (slots id : ℕ) (me : M) (w : WorkerView) → me.0 ≡ Worker w → w.stage ≡ Asked
    → Allows Kept slots id me (4 * w.cell + 2) (λ n. n) (LoadsOrder (step slots (4 * w.cell + 2) 0 0 none) me)
own_order slots id me w is was s r deep seat small = let n : ℕ = get_or s.words (4 * w.cell + 2) 0 in
    let t = worker_loads slots id (4 * w.cell + 2) me w is (λ n. record w { stage = numbered n w.stage }) (λ n. refl)
    (λ ws x p g reached. let c : CellWords = cell_words ws w.cell in subst (λ (z : WorkerStage). Fits g reached w.cell c x p z w.takes → Fits g reached w.cell c x p (numbered c.order z) w.takes) (sym was)
    (λ f. let v : WorkerStage = numbered c.order Asked in
    at_a_job c (state_in c.state) x Asked (λ st y. (p ≡ w.takes + untaken st Asked) → CellRule c st y v × NoLost g reached w.cell st y v × (p ≡ w.takes + untaken st v)) (λ e. e) (λ e. e) f.0
    (λ k j _ _ carries _ count. ((carries, (carries.0, carries.1)), tt, count)) f.2)) s r deep seat small in
    (t.0, t.1, t.2, t.3, t.4 ∙ λ c. (on_stage (numbered n) (sym is c), me.1))

own_argument : (slots id : ℕ) (me : M) (w : WorkerView) (k : ℕ) (d : JobKind) → me.0 ≡ Worker w → w.stage ≡ Numbered k d
    → Allows Kept slots id me (4 * w.cell + 3) (λ n. n) (LoadsArgument (step slots (4 * w.cell + 3) 0 0 none) me)
own_argument slots id me w k d is was s r deep seat small = let n : ℕ = get_or s.words (4 * w.cell + 3) 0 in
    let t = worker_loads slots id (4 * w.cell + 3) me w is (λ n. record w { stage = holds n w.stage }) (λ n. refl)
    (λ ws x p g reached. let c : CellWords = cell_words ws w.cell in subst (λ (z : WorkerStage). Fits g reached w.cell c x p z w.takes → Fits g reached w.cell c x p (holds c.argument z) w.takes) (sym was)
    (λ f. let v : WorkerStage = holds c.argument (Numbered k d) in
    at_a_job c (state_in c.state) x (Numbered k d) (λ st y. (p ≡ w.takes + untaken st (Numbered k d)) → CellRule c st y v × NoLost g reached w.cell st y v × (p ≡ w.takes + untaken st v)) (λ e. e) (λ e. e) f.0
    (λ k j _ _ carries takes count. ((carries, (takes.0, job_again j d (signed_in c.argument) takes.1 carries.2)), tt, count)) f.2)) s r deep seat small in
    (t.0, t.1, t.2, t.3, t.4 ∙ λ c. (on_stage (holds n) (sym is c), me.1))

no_rest_at : {A : Type 0} (l : List A) (a b : A) (i : ℕ) → get_elem? (l ++ a ∷ []) i ≡ some b → (get_elem? l i ≡ some b) ⊎ ((i ≡ length l) × (a ≡ b))
no_rest_at [] a b zero e = inr (refl, some-injective a b e)
no_rest_at [] a b (suc i) e = absurd (some-ne-none b (sym e))
no_rest_at (x ∷ xs) a b zero e = inl e
no_rest_at (x ∷ xs) a b (suc i) e = ⊎_elim (λ t. inl t) (λ t. inr (ap suc t.0, t.1)) (no_rest_at xs a b i e)

pub splits_worker : (id : ℕ) (v : View) (h : HubView) → v ≡ Hub h → h.made < length h.cells → Splits Kept id v (with_worker v) (new_worker v)
splits_worker id v h is room s r at =
    let fit = r.made_fit in let made = r.made_are in
    let seat = hub_seat r.hub r.workers id h (subst (λ vs. get_elem? vs id ≡ some (Hub h)) r.views_are (at ∙ ap some is)) in
    let same : h ≡ r.hub = seat.1 in let room' : r.hub.made < length r.hub.cells = subst (λ (z : HubView). z.made < length z.cells) same room in
    let free = r.unstarted r.hub.made (omega arith) room' in
    let w : WorkerView = record { cell = r.hub.made; stage = Idle; looks = 0; takes = 0; last = Free } in
    let hub' : HubView = record r.hub { made = r.hub.made + 1 } in record {
      hub = hub';
      workers = r.workers ++ w ∷ [];
      views_are = (λ c. set (r.views_are c) (seat.0 c) (with_worker ((is ∙ ap (λ z. Hub z) same) c)) ++ new_worker ((is ∙ ap (λ z. Hub z) same) c) ∷ [])
          ∙ (λ c. Hub hub' ∷ sym (map-append (λ (z : WorkerView). Worker z) r.workers (w ∷ [])) c);
      made_are = length-append r.workers (w ∷ []) ∙ ap (λ k. k + 1) made;
      made_fit = omega arith;
      posts_fit = r.posts_fit;
      wide = r.wide;
      started = λ i u e. ⊎_elim (λ (t : get_elem? r.workers i ≡ some u). r.started i u t)
          (λ (t : (i ≡ length r.workers) × (w ≡ u)). subst (λ (z : ℕ × WorkerView). (z.1.cell ≡ z.0) × Fits (signal_of s.words) (length r.hub.seen) z.0 (cell_words s.words z.0) (hub_cell hub' z.0) (posts_at hub' z.0) z.1.stage z.1.takes)
          (λ c. (sym (t.0 ∙ made) c, t.1 c)) (
            refl,
            subst (λ (z : CellState × HubCell × ℕ). let c : CellWords = cell_words s.words r.hub.made in
                CellRule c z.0 z.1 Idle × NoLost (signal_of s.words) (length r.hub.seen) r.hub.made z.0 z.1 Idle × (z.2 ≡ 0 + untaken z.0 Idle))
                (λ c. (sym free.0 c, sym free.1 c, sym free.2 c)) (tt, tt, refl),
          ))
          (no_rest_at r.workers w u i e);
      unstarted = λ i l m. r.unstarted i (omega arith) m;
    }

pub told_hub : (me m' : M) (h : HubView) (i : ℕ) (f : HubCell → HubCell) (old : HubCell) → me ≡ (Hub h, []) → hub_cell h i ≡ old → m' ≡ (on_cell f i me.0, me.1) → m' ≡ (Hub (marked h i (f old)), [])
told_hub me m' h i f old is was e = e ∙ ((λ c. (on_cell f i (is c).0, (is c).1)) ∙ (λ c. (Hub (marked h i (f (was c))), [])))

pub told_sent : (me m' : M) (h : HubView) (i k : ℕ) (j : Job) → me ≡ (Hub h, []) → hub_cell h i ≡ Filled k j → m' ≡ (on_post i me.0, me.1) → m' ≡ (Hub (counted (marked h i (Sent k j)) i), [])
told_sent me m' h i k j is was e = e ∙ ((λ c. (on_post i (is c).0, (is c).1)) ∙ (λ c. (Hub (counted (marked h i (sent (was c))) i), [])))

pub told_worker : (me m' : M) (w : WorkerView) (f : WorkerStage → WorkerStage) (old : WorkerStage) → me ≡ (Worker w, []) → w.stage ≡ old → m' ≡ (on_stage f me.0, me.1) → m' ≡ (Worker (record w { stage = f old }), [])
told_worker me m' w f old is was e = e ∙ ((λ c. (on_stage f (is c).0, (is c).1)) ∙ (λ c. (Worker (record w { stage = f (was c) }), [])))

pub loads_state : (slots id : ℕ) (me : M) (w : WorkerView) (i : ℕ) → me.0 ≡ Worker w → w.cell ≡ i → Allows Kept slots id me (4 * i + 1) (λ n. n) (LoadsState (step slots (4 * i + 1) 0 0 none) me)
loads_state slots id me w i is own = subst (λ i. Allows Kept slots id me (4 * i + 1) (λ n. n) (LoadsState (step slots (4 * i + 1) 0 0 none) me)) own (own_state slots id me w is)

pub loads_order : (slots id : ℕ) (me : M) (w : WorkerView) (i : ℕ) → me.0 ≡ Worker w → w.cell ≡ i → w.stage ≡ Asked → Allows Kept slots id me (4 * i + 2) (λ n. n) (LoadsOrder (step slots (4 * i + 2) 0 0 none) me)
loads_order slots id me w i is own was = subst (λ i. Allows Kept slots id me (4 * i + 2) (λ n. n) (LoadsOrder (step slots (4 * i + 2) 0 0 none) me)) own (own_order slots id me w is was)

pub loads_argument : (slots id : ℕ) (me : M) (w : WorkerView) (i k : ℕ) (d : JobKind) → me.0 ≡ Worker w → w.cell ≡ i → w.stage ≡ Numbered k d → Allows Kept slots id me (4 * i + 3) (λ n. n) (LoadsArgument (step slots (4 * i + 3) 0 0 none) me)
loads_argument slots id me w i k d is own was = subst (λ i. Allows Kept slots id me (4 * i + 3) (λ n. n) (LoadsArgument (step slots (4 * i + 3) 0 0 none) me)) own (own_argument slots id me w k d is was)

pub told_look : (me m' : M) (w : WorkerView) (st : CellState) → me ≡ (Worker w, []) → w.stage ≡ Idle → m' ≡ (looked st me.0, me.1)
    → m' ≡ (Worker (record w { stage = asked st Idle; looks = w.looks + 1; takes = w.takes + begun_with st Idle; last = st }), [])
told_look me m' w st is was e =
    e ∙ ((λ c. (looked st (is c).0, (is c).1)) ∙ (λ c. (Worker (record w { stage = asked st (was c); looks = w.looks + 1; takes = w.takes + begun_with st (was c); last = st }), [])))

-- each store of the worker in the word p of its cell
worker_stores : (slots id : ℕ) (me : M) (w : WorkerView) → me.0 ≡ Worker w → (old : WorkerStage) → w.stage ≡ old → (q p x : ℕ) → p ≡ q + 1 → q < 4 → (f : WorkerStage → WorkerStage)
    → ((c : CellWords) (y : HubCell) (n : ℕ) (g : Signal) (reached : ℕ) → Fits g reached w.cell c y n old w.takes → Fits g reached w.cell (put_word c q x) y n (f old) w.takes)
    → Allows Kept slots id me (4 * w.cell + p) (λ _. x) (λ _ m'. m' ≡ (on_stage f me.0, me.1))
worker_stores slots id me w is old was q p x place small f rows s r deep seat _ =
    let seat' : get_elem? s.views id ≡ some (Worker w) = seat ∙ ap some is in let at : ℕ = 4 * w.cell + p in
    let inside = own_in_board s r id w seat' in let apart = spares s.words w.cell q at x (omega arith) small in
    let here : cell_words (set s.words at x) w.cell ≡ put_word (cell_words s.words w.cell) q x = puts s.words w.cell q at x (omega arith) small (omega arith) in
    let w' : WorkerView = record w { stage = f w.stage } in (
      Worker w',
      keeps,
      tt,
      worker_at s r id w seat' w' refl (set s.words at x) apart.0 apart.1 (inl apart.2)
          (λ y n reached t. subst (λ (z : Signal × CellWords × WorkerStage). Fits z.0 reached w.cell z.1 y n (f z.2) w.takes) (λ k. (sym apart.2 k, sym here k, sym was k))
          (rows (cell_words s.words w.cell) y n (signal_of s.words) reached (subst (λ z. Fits (signal_of s.words) reached w.cell (cell_words s.words w.cell) y n z w.takes) was t))),
      λ c. (on_stage f (sym is c), me.1),
    )

own_value : (slots id : ℕ) (me : M) (w : WorkerView) (n : ℕ) (b : Job) (x : ℕ) → me.0 ≡ Worker w → w.stage ≡ Holds n b → signed_in x ≡ value_of (eval b)
    → Allows Kept slots id me (4 * w.cell + 4) (λ _. x) (λ _. StoresValue (step slots (4 * w.cell + 4) x 0 none) me x)
own_value slots id me w n b x is was reads = worker_stores slots id me w is (Holds n b) was 3 4 x refl (omega arith) valued
    (λ c y p g reached f. at_a_job c (state_in c.state) y (Holds n b)
    (λ st z. (p ≡ w.takes + untaken st (Holds n b)) → CellRule (put_word c 3 x) st z (Valued n b) × NoLost g reached w.cell st z (Valued n b) × (p ≡ w.takes + untaken st (Valued n b))) (λ e. e) (λ e. e) f.0
    (λ k j _ _ carries takes count. ((carries, (takes.0, takes.1, reads ∙ ap (λ (z : Job). value_of (eval z)) takes.1)), tt, count)) f.2)

own_done : (slots id : ℕ) (me : M) (w : WorkerView) (n : ℕ) (b : Job) (x : ℕ) → me.0 ≡ Worker w → w.stage ≡ Valued n b → state_in x ≡ Done (ended_of (eval b))
    → Allows Kept slots id me (4 * w.cell + 1) (λ _. x) (λ _. StoresDone (step slots (4 * w.cell + 1) x 0 none) me x)
own_done slots id me w n b x is was reads = worker_stores slots id me w is (Valued n b) was 0 1 x refl (omega arith) owing
    (λ c y p g reached f. at_a_job c (state_in c.state) y (Valued n b)
    (λ st z. (p ≡ w.takes + untaken st (Valued n b)) → CellRule (put_word c 0 x) (state_in x) z Owes × NoLost g reached w.cell (state_in x) z Owes × (p ≡ w.takes + untaken (state_in x) Owes)) (λ e. e) (λ e. e) f.0
    (λ k j _ _ carries takes count. subst (λ (st : CellState). CellRule (put_word c 0 x) st (Sent k j) Owes × NoLost g reached w.cell st (Sent k j) Owes × (p ≡ w.takes + untaken st Owes)) (sym reads)
    ((tt, ap (λ (z : Job). ended_of (eval z)) takes.1, takes.2), inr (inl refl), count)) f.2)

-- a worker that has raised the signal rests
rest_row : (c : CellWords) (st : CellState) (y : HubCell) → CellRule c st y Owes → CellRule c st y Idle
rest_row c Free Vacant t = t
rest_row c Free (Ordered k d) t = t
rest_row c Free (Filled k j) t = t
rest_row c Posted (Sent k j) t = t
rest_row c (Done e) (Sent k j) t = t
rest_row c (Done e) (Taking k j) t = t
rest_row c Stop Stopped t = t
rest_row c st y t = absurd t

rest_count : (st : CellState) → untaken st Owes ≡ untaken st Idle
rest_count Posted = refl
rest_count Free = refl
rest_count Stop = refl
rest_count (Done e) = refl

pub swaps_high : (slots id : ℕ) (me : M) (w : WorkerView) → me.0 ≡ Worker w → w.stage ≡ Owes → Allows Kept slots id me 0 (λ _. 1) (SwapsHigh (step slots 0 1 0 none) me)
swaps_high slots id me w is was s r deep seat _ =
    let seat' : get_elem? s.views id ≡ some (Worker w) = seat ∙ ap some is in let inside = own_in_board s r id w seat' in
    let high : signal_of (set s.words 0 1) ≡ High = ap signal_in (get_or-set_same s.words 0 1 0 (omega arith)) in let w' : WorkerView = record w { stage = rested w.stage } in
    let here : cell_words (set s.words 0 1) w.cell ≡ cell_words s.words w.cell = off_cells s.words 1 w.cell in (
      Worker w',
      keeps,
      tt,
      worker_at s r id w seat' w' refl (set s.words 0 1) (length-set s.words 0 1) (λ j _. off_cells s.words 1 j) (inr high)
          (λ y n reached t. let c : CellWords = cell_words s.words w.cell in let st : CellState = state_in c.state in
          let row = subst (λ z. CellRule c st y z × (n ≡ w.takes + untaken st z)) was (t.0, t.2) in
          subst (λ (z : CellWords × WorkerStage). Fits (signal_of (set s.words 0 1)) reached w.cell z.0 y n (rested z.1) w.takes) (λ k. (sym here k, sym was k))
          (rest_row c st y row.0, is_high _ reached w.cell st y Idle high, row.1 ∙ ap (λ u. w.takes + u) (rest_count st))),
      λ c. (on_stage rested (sym is c), me.1),
    )

pub swaps_low : (slots id : ℕ) (me : M) (h : HubView) → me.0 ≡ Hub h → Allows Kept slots id me 0 (λ _. 0) (SwapsLow (step slots 0 0 0 none) me)
swaps_low slots id me h is s r deep seat _ = (lowered (Hub h), keeps, tt, lowers s r id h (seat ∙ ap some is) 0, λ c. (lowered (sym is c), me.1))

same_hub : (h k : HubView) → Hub h ≡ Hub k → h ≡ k
same_hub h k e = ap (hub_or h) e

job_there : (c : CellWords) (e : Ended) (x : HubCell) (w : WorkerStage) → CellRule c (Done e) x w → IsJob x
job_there c e (Sent k j) w t = tt
job_there c e (Taking k j) w t = tt
job_there c e x w t = absurd t

done_job : (c : CellWords) (st : CellState) (x : HubCell) (w : WorkerStage) (e : Ended) → CellRule c st x w → st ≡ Done e → IsJob x
done_job c st x w e t is = job_there c e x w (subst (λ (z : CellState). CellRule c z x w) is t)

-- how the job ended that a sweep finds done
sent_done : (c : CellWords) (st : CellState) (x : HubCell) (w : WorkerStage) (k : ℕ) (j : Job) (e : Ended) → CellRule c st x w → x ≡ Sent k j → st ≡ Done e → e ≡ ended_of (eval j)
sent_done c st x w k j e t a b = (subst (λ (z : CellState × HubCell). CellRule c z.0 z.1 w) (λ i. (b i, a i)) t).1

taking_shows : (c : CellWords) (st : CellState) (w : WorkerStage) (k : ℕ) (j : Job) → CellRule c st (Taking k j) w → Shows c j
taking_shows c (Done e) w k j t = t.2
taking_shows c st w k j t = absurd t

pub loads_next : (slots id : ℕ) (me : M) (h : HubView) → me.0 ≡ Hub h → length h.seen < h.made → Allows Kept slots id me (4 * length h.seen + 1) (λ n. n) (LoadsNext (step slots (4 * length h.seen + 1) 0 0 none) me)
loads_next slots id me h is low s r deep seat _ =
    let seat' : get_elem? s.views id ≡ some (Hub h) = seat ∙ ap some is in let i : ℕ = length h.seen in let n : ℕ = get_or s.words (4 * i + 1) 0 in
    let same = set-get_or s.words (4 * i + 1) 0 in let fits = started_fits s r id h seat' i low in (
      Hub (saw h (state_in n)),
      keeps,
      tt,
      subst (λ ws. Kept record { words = ws; homes = s.homes; views = set s.views id (Hub (saw h (state_in n))) }) (sym same) (sees s r id h seat' low),
      (
        λ c. (swept (state_in n) (sym is c), me.1),
        (λ g e at_g st. let back : h ≡ g = same_hub h g (sym is ∙ at_g) in subst (λ (z : HubView). IsJob (hub_cell z (length z.seen))) back (done_job (cell_words s.words i) (state_in n) (hub_cell h i) fits.0 e fits.2.0 st)),
        λ g k j e at_g was st. let back : h ≡ g = same_hub h g (sym is ∙ at_g) in
            sent_done (cell_words s.words i) (state_in n) (hub_cell h i) fits.0 k j e fits.2.0 (subst (λ (z : HubView). hub_cell z (length z.seen) ≡ Sent k j) (sym back) was) st,
      ),
    )

pub loads_value : (slots id : ℕ) (me : M) (h : HubView) (i k : ℕ) (j : Job) → me.0 ≡ Hub h → i < h.made → hub_cell h i ≡ Taking k j
    → Allows Kept slots id me (4 * i + 4) (λ n. n) (LoadsValue (step slots (4 * i + 4) 0 0 none) me)
loads_value slots id me h i k j is low was s r deep seat _ =
    let same = set-get_or s.words (4 * i + 4) 0 in let fits = started_fits s r id h (seat ∙ ap some is) i low in (
      me.0,
      keeps,
      tt,
      subst (λ (z : List ℕ × List View). Kept record { words = z.0; homes = s.homes; views = z.1 }) (λ c. (sym same c, sym (set_again s.views id me.0 seat) c)) r,
      (
        refl,
        λ g a b d at_g word takes. let back : h ≡ g = same_hub h g (sym is ∙ at_g) in let there : i ≡ a = omega arith in
            let now : hub_cell h i ≡ Taking b d = (λ c. hub_cell (back c) (there c)) ∙ takes in
            taking_shows (cell_words s.words i) (state_in (cell_words s.words i).state) fits.0 b d (subst (λ z. CellRule (cell_words s.words i) (state_in (cell_words s.words i).state) z fits.0) now fits.2.0),
      ),
    )

pub stores_value : (slots id : ℕ) (me : M) (w : WorkerView) (i n : ℕ) (b : Job) (x : ℕ) → me.0 ≡ Worker w → w.cell ≡ i → w.stage ≡ Holds n b → signed_in x ≡ value_of (eval b)
    → Allows Kept slots id me (4 * i + 4) (λ _. x) (λ _. StoresValue (step slots (4 * i + 4) x 0 none) me x)
stores_value slots id me w i n b x is own was reads = subst (λ i. Allows Kept slots id me (4 * i + 4) (λ _. x) (λ _. StoresValue (step slots (4 * i + 4) x 0 none) me x)) own (own_value slots id me w n b x is was reads)

pub stores_done : (slots id : ℕ) (me : M) (w : WorkerView) (i n : ℕ) (b : Job) (x : ℕ) → me.0 ≡ Worker w → w.cell ≡ i → w.stage ≡ Valued n b → state_in x ≡ Done (ended_of (eval b))
    → Allows Kept slots id me (4 * i + 1) (λ _. x) (λ _. StoresDone (step slots (4 * i + 1) x 0 none) me x)
stores_done slots id me w i n b x is own was reads = subst (λ i. Allows Kept slots id me (4 * i + 1) (λ _. x) (λ _. StoresDone (step slots (4 * i + 1) x 0 none) me x)) own (own_done slots id me w n b x is was reads)

-- an outcome of a job is read again as it was stored
pub outcome_again : (e : Ended) (v : ℤ) (o : JobOutcome) → IsJobEnd o → e ≡ ended_of o → v ≡ value_of o → job_outcome_of e v ≡ o
outcome_again e v (JobOutcome.Int x) ends a b = λ i. job_outcome_of (a i) (b i)
outcome_again e v (JobOutcome.Fault FaultKind.ValueError) ends a b = λ i. job_outcome_of (a i) (b i)
outcome_again e v (JobOutcome.Fault FaultKind.OverflowError) ends a b = λ i. job_outcome_of (a i) (b i)
outcome_again e v (JobOutcome.Fault (FaultKind.Error x)) ends a b = λ i. job_outcome_of (a i) (b i)
outcome_again e v o ends a b = absurd ends

pub loads_next_at : (slots id : ℕ) (me : M) (h : HubView) (i : ℕ) → me.0 ≡ Hub h → i ≡ length h.seen → i < h.made → Allows Kept slots id me (4 * i + 1) (λ n. n) (LoadsNext (step slots (4 * i + 1) 0 0 none) me)
loads_next_at slots id me h i is next low = subst (λ i. i < h.made → Allows Kept slots id me (4 * i + 1) (λ n. n) (LoadsNext (step slots (4 * i + 1) 0 0 none) me)) (sym next) (loads_next slots id me h is) low

zeros : (n i : ℕ) → slice_index (replicate n 0) i ≡ 0
zeros zero i = refl
zeros (suc n) zero = refl
zeros (suc n) (suc i) = zeros n i

pub opens : (n : ℕ) → Kept (opening (replicate (4 * n + 1) 0) [] (first n))
opens n = let cells = length-replicate n Vacant in record {
  hub = begun n 0;
  workers = [];
  views_are = refl;
  made_are = refl;
  made_fit = omega arith;
  posts_fit = length-replicate n 0 ∙ sym cells;
  wide = length-replicate (4 * n + 1) 0 ∙ ap (λ k. 4 * k + 1) (sym cells);
  started = λ i w e. absurd (some-ne-none w (sym e));
  unstarted = λ i _ l. (ap state_in (zeros (4 * n + 1) (4 * i + 1)), get_or-replicate n i Vacant Vacant (omega arith), zeros n i);
}
