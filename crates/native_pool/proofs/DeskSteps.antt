-- What the steps of a desk come to.
use Rattle.std.proofs.Common.{◌≡◌, ◌⊎◌, inl, inr, ℕ, zero, suc, ◌+◌, ◌<◌, Bool, true, false, ◌||◌, nat_lt, List, [], ◌∷◌, ◌++◌, length, get_or, get_or-set_other, length-set, Option, Some, None, refl, sym, ap, ◌∙◌, subst, arith, append_assoc}
use mathlib.Core.Logic.{dite}
use native.Mathlib.Decide.{ℕ_discrete}
use Rattle.std.specs.Prelude.{IfSome}
use Rattle.std.specs.List.{list_any}
use Rattle.std.proofs.lemmas.Bool.{false≢true}
use Rattle.std.proofs.lemmas.Bool.Decides.{nat_tests}
use Rattle.std.proofs.lemmas.Grind.{get_or-set_at}
use Rattle.gv_values.specs.declared.job.Job.{Job}
use Rattle.gv_values.specs.declared.job.Answer.{Answer}
use Rattle.world_rules.specs.declared.question.PostedJob.{PostedJob}
use Rattle.world_rules.specs.Evaluate.{eval}
use Rattle.world_rules.specs.Legal.{posted}
use Rattle.native_board.specs.declared.found.Finished.{Finished}
use Rattle.native_board.specs.declared.views.HubCell.{HubCell}
use Rattle.native_board.specs.declared.views.HubCell.TheVariants.{Vacant, Sent}
use Rattle.native_board.specs.Boards.{after_post}
use Rattle.native_board.specs.Passes.{is_sent, Sweeps, finished, after_sweep}
use Rattle.native_pool.specs.Desks.{DeskView, CanTake, has_workers, IsResult, KeepsJobs, SameCells, IsLater, Rests, Fills, Refills, Settles, KeepsResults, Hands, HandsDue}
use Rattle.native_pool.proofs.DeskKeeps.{length-after_sweep}
use Rattle.native_pool.proofs.JobLemmas.{keeps_fill, keeps_sweep, keeps_hand, keeps_eval}

not_nil : {X : Type 0} (x : X) (xs : List X) → x ∷ xs ≡ [] → ⊥
not_nil x xs h = let n = ap length h in omega (arith, n)

or_right : (a b : Bool) → b ≡ true → (a || b) ≡ true
or_right true b e = refl
or_right false b e = e

or_left : (a b : Bool) → a ≡ true → (a || b) ≡ true
or_left true b e = refl
or_left false b e = absurd (false≢true e)

worker_at : (bs : List Bool) (i : ℕ) → get_or bs i false ≡ true → list_any (λ (b : Bool). b) bs ≡ true
worker_at [] i h = absurd (false≢true h)
worker_at (b ∷ bs) zero h = or_left b (list_any (λ (c : Bool). c) bs) h
worker_at (b ∷ bs) (suc i) h = or_right b (list_any (λ (c : Bool). c) bs) (worker_at bs i h)

pub jobs_as : (v w : List PostedJob) (cells sells : List HubCell) (held weld : List Finished) (posts : List PostedJob) (answers : List Answer) → w ≡ v → sells ≡ cells → weld ≡ held
    → KeepsJobs v cells held posts answers → KeepsJobs w sells weld posts answers
jobs_as v w cells sells held weld posts answers a b c s =
    subst (λ (u : List PostedJob). KeepsJobs u sells weld posts answers) (sym a) (subst (λ (u : List HubCell). KeepsJobs v u weld posts answers) (sym b) (subst (λ (u : List Finished). KeepsJobs v cells u posts answers) (sym c) s))

same_refl : (d : DeskView) → SameCells d d
same_refl d = record { started = refl; made = refl; cells = refl }

same_trans : (d m e : DeskView) → SameCells d m → SameCells m e → SameCells d e
same_trans d m e a b = record { started = b.started ∙ a.started; made = b.made ∙ a.made; cells = b.cells ∙ a.cells }

idle_on : (d m : DeskView) → SameCells d m → has_workers d ≡ false → has_workers m ≡ false
idle_on d m a h = ap (list_any (λ (b : Bool). b)) a.started ∙ h

pub later_refl : (w : List PostedJob) → IsLater w w
later_refl w = record { gone = []; is = refl }

pub later_same : (w v : List PostedJob) → v ≡ w → IsLater w v
later_same w v e = record { gone = []; is = sym e }

pub later_trans : (u v w : List PostedJob) → IsLater u v → IsLater v w → IsLater u w
later_trans u v w a b = record { gone = a.gone ++ b.gone; is = a.is ∙ ap (λ (l : List PostedJob). a.gone ++ l) b.is ∙ sym (append_assoc a.gone b.gone w) }

pub rests_refl : (d : DeskView) → Rests d d
rests_refl d = record { same = same_refl d; sweeps = omega arith; held = refl; idle = λ h. refl; order = later_refl d.waiting; jobs = λ posts answers s. s }

pub rests_trans : (d m e : DeskView) → Rests d m → Rests m e → Rests d e
rests_trans d m e a b = record {
  same = same_trans d m e a.same b.same;
  sweeps = let s = a.sweeps in let t = b.sweeps in omega (arith, s, t);
  held = b.held ∙ a.held;
  idle = λ h. b.idle (idle_on d m a.same h) ∙ a.idle h;
  order = later_trans d.waiting m.waiting e.waiting a.order b.order;
  jobs = λ posts answers s. b.jobs posts answers (a.jobs posts answers s);
}

pub fills_trans : (d m e : DeskView) → Fills d m → Fills m e → Fills d e
fills_trans d m e a b = record {
  rests = rests_trans d m e a.rests b.rests;
  seen = b.seen ∙ a.seen;
  sweeps = b.sweeps ∙ a.sweeps;
  empty = λ h. b.empty (a.empty h);
  takes = λ i h. a.takes i (b.takes i h);
}

-- a job more waits, and some were posted to cells
pub keeps_results : (d m e : DeskView) (w : List PostedJob) → m ≡ record d { waiting = w } → Fills m e → KeepsResults d e
keeps_results d m e w added fills = record {
  held = fills.rests.held ∙ ap (λ v. v.held) added;
  seen = fills.seen ∙ ap (λ v. v.hub.seen) added;
  sweeps = fills.sweeps ∙ ap (λ v. v.hub.sweeps) added;
}

-- the desk once its oldest job was posted to a cell
abbrev posting : DeskView → ℕ → ℕ → Job → List PostedJob → DeskView
posting d i n j w = record d { hub = after_post d.hub i n j; waiting = w }

-- the cell is taken then
pub is_taken : (d : DeskView) (i n : ℕ) (j : Job) (w : List PostedJob) → i < length d.hub.cells → CanTake (posting d i n j w) i → ⊥
is_taken d i n j w l h = false≢true (sym (ap is_sent (sym (get_or-set_at d.hub.cells i i (Sent n j) Vacant refl l) ∙ h.0.1)))

pub fills_post : (d : DeskView) (i n : ℕ) (j : Job) (w : List PostedJob) → d.hub.made ≡ length d.hub.cells → CanTake d i → d.waiting ≡ posted n j ∷ w → Fills d (posting d i n j w)
fills_post d i n j w made can waits = let below = can.0.0 in let l : i < length d.hub.cells = omega (arith, made, below) in record {
  rests = record {
    same = record { started = refl; made = refl; cells = length-set d.hub.cells i (Sent n j) };
    sweeps = omega arith;
    held = refl;
    idle = λ h. absurd (false≢true (sym h ∙ worker_at d.started i can.1));
    order = record { gone = posted n j ∷ []; is = waits };
    jobs = λ posts answers s. keeps_fill w d.hub.cells d.held posts answers i n j can.0.1 l (subst (λ (u : List PostedJob). KeepsJobs u d.hub.cells d.held posts answers) waits s);
  };
  seen = refl;
  sweeps = refl;
  empty = λ h. absurd (not_nil (posted n j) w (sym waits ∙ h));
  takes = λ k h. dite (ℕ_discrete k i) (λ e. absurd (is_taken d i n j w l (subst (λ (m : ℕ). CanTake (posting d i n j w) m) e h)))
      (λ ne. ((h.0.0, sym (get_or-set_other d.hub.cells i k (Sent n j) Vacant ne) ∙ h.0.1), h.1));
}

pub refills_from : (d m e : DeskView) → d.held ≡ [] → Sweeps d.hub m.hub → m.held ≡ finished d.hub.cells m.hub.seen → m.started ≡ d.started → m.waiting ≡ d.waiting → Fills m e
    → ((i : ℕ) → CanTake e i → e.waiting ≡ []) → Refills d e
refills_from d m e none swept held started waiting fills full =
    let same : SameCells d m = record { started = started; made = swept.made; cells = ap length swept.cells ∙ length-after_sweep d.hub.cells m.hub.seen } in record {
      same = same_trans d m e same fills.rests.same;
      after = m.hub;
      swept = swept;
      seen = fills.seen;
      sweeps = fills.sweeps;
      held = fills.rests.held ∙ held;
      idle = λ h. fills.rests.idle (idle_on d m same h) ∙ waiting;
      order = later_trans d.waiting m.waiting e.waiting (later_same d.waiting m.waiting waiting) fills.rests.order;
      full = full;
      jobs = λ posts answers s. fills.rests.jobs posts answers (jobs_as d.waiting m.waiting (after_sweep d.hub.cells m.hub.seen) m.hub.cells (finished d.hub.cells m.hub.seen) m.held posts answers waiting swept.cells held
          (keeps_sweep d.waiting d.hub.cells m.hub.seen posts answers (jobs_as d.waiting d.waiting d.hub.cells d.hub.cells d.held [] posts answers refl refl (sym none) s)));
    }

-- the first result that is held is handed on
pub due_held : (d e : DeskView) (f : Finished) → e.waiting ≡ d.waiting → e.hub ≡ d.hub → f ∷ e.held ≡ d.held → HandsDue d e f
due_held d e f waiting hub held = λ posts answers s.
    let given = keeps_hand d.waiting d.hub.cells f e.held posts answers (subst (λ (u : List Finished). KeepsJobs d.waiting d.hub.cells u posts answers) (sym held) s) in
    (given.0, given.1, λ at. jobs_as d.waiting e.waiting d.hub.cells e.hub.cells e.held e.held posts (answers ++ Answer.Done f.number f.outcome at ∷ []) waiting (ap (λ h. h.cells) hub) refl (given.2 at))

pub due_swept : (d m e : DeskView) (f : Finished) → Refills d m → HandsDue m e f → HandsDue d e f
due_swept d m e f r due = λ posts answers s. due posts answers (r.jobs posts answers s)

pub due_here : (d e : DeskView) (f : Finished) (j : Job) → e.held ≡ d.held → e.hub ≡ d.hub → d.waiting ≡ posted f.number j ∷ e.waiting → f.outcome ≡ eval j → HandsDue d e f
due_here d e f j held hub waiting outcome = λ posts answers s.
    let given = keeps_eval e.waiting d.hub.cells d.held posts answers f.number j (subst (λ (u : List PostedJob). KeepsJobs u d.hub.cells d.held posts answers) waiting s) in
    let g : Finished = record { number = f.number; outcome = eval j } in
    let same : g ≡ f = λ i. record { number = f.number; outcome = (sym outcome) i } in (
      subst (IsResult posts) same given.0,
      given.1,
      λ at. jobs_as e.waiting e.waiting d.hub.cells e.hub.cells d.held e.held posts (answers ++ Answer.Done f.number f.outcome at ∷ []) refl (ap (λ h. h.cells) hub) held
          (subst (λ (h : Finished). KeepsJobs e.waiting d.hub.cells d.held posts (answers ++ Answer.Done h.number h.outcome at ∷ [])) same (given.2 at)),
    )

same_from : (d e : DeskView) → e.hub ≡ d.hub → e.started ≡ d.started → SameCells d e
same_from d e hub started = record { started = started; made = ap (λ h. h.made) hub; cells = ap (λ h. length h.cells) hub }

pub hands_held : (d e : DeskView) (f : Finished) → e.hub ≡ d.hub → e.started ≡ d.started → f ∷ e.held ≡ d.held → e.waiting ≡ d.waiting → Hands d e f × SameCells d e
hands_held d e f hub started held waiting = (inl (held, later_same d.waiting e.waiting waiting), same_from d e hub started)

pub hands_swept : (d m e : DeskView) (f : Finished) → d.held ≡ [] → Refills d m → e.hub ≡ m.hub → e.started ≡ m.started → f ∷ e.held ≡ m.held → e.waiting ≡ m.waiting → Hands d e f × SameCells d e
hands_swept d m e f none r hub started held waiting = (
  inr (inl (record {
    none_held = none;
    at = d;
    rests = rests_refl d;
    after = r.after;
    swept = r.swept;
    seen = ap (λ h. h.seen) hub ∙ r.seen;
    sweeps = ap (λ h. h.sweeps) hub ∙ r.sweeps;
    found = held ∙ r.held;
    order = later_trans d.waiting m.waiting e.waiting r.order (later_same m.waiting e.waiting waiting);
  })),
  same_trans d m e r.same (same_from m e hub started),
)

-- a sweep that found nothing settles the desk, where a worker was started or no job waits
pub settles : (d m e : DeskView) → d.held ≡ [] → Refills d m → m.held ≡ [] → e.hub ≡ m.hub → e.started ≡ m.started → e.held ≡ m.held → e.waiting ≡ m.waiting
    → (has_workers m ≡ false → m.waiting ≡ []) → Settles d e
settles d m e was r none hub started held waiting idle = record {
  rests = record {
    same = same_trans d m e r.same (same_from m e hub started);
    sweeps = let more = rises in omega (arith, more);
    held = held ∙ (none ∙ sym was);
    idle = λ h. waiting ∙ r.idle h;
    order = later_trans d.waiting m.waiting e.waiting r.order (later_same m.waiting e.waiting waiting);
    jobs = λ posts answers s. jobs_as m.waiting e.waiting m.hub.cells e.hub.cells m.held e.held posts answers waiting (ap (λ h. h.cells) hub) held (r.jobs posts answers s);
  };
  swept = let more = rises in omega (arith, more);
  quiet = record { none_held = held ∙ none; none_waits = waits e.waiting refl };
}
  where
    rises : e.hub.sweeps ≡ d.hub.sweeps + 1
    rises = ap (λ h. h.sweeps) hub ∙ (r.sweeps ∙ r.swept.more)

    free : (i : ℕ) → CanTake e i → m.waiting ≡ []
    free i h = r.full i ((subst (λ g. i < g.made) hub h.0.0, subst (λ g. get_or g.cells i Vacant ≡ Vacant) hub h.0.1), ap (λ l. get_or l i false) (sym started) ∙ h.1)

    waits : (w : List PostedJob) → e.waiting ≡ w → (e.waiting ≡ []) ⊎ ((has_workers e ≡ true) × ((i : ℕ) → CanTake e i → ⊥))
    waits [] h = inl h
    waits (x ∷ xs) h = by_worker (has_workers e) refl
      where
        by_worker : (b : Bool) → has_workers e ≡ b → (e.waiting ≡ []) ⊎ ((has_workers e ≡ true) × ((i : ℕ) → CanTake e i → ⊥))
        by_worker true t = inr (t, λ i c. not_nil x xs (sym h ∙ (waiting ∙ free i c)))
        by_worker false t = inl (waiting ∙ idle (ap (list_any (λ (b : Bool). b)) (sym started) ∙ t))

-- a number below the next one is below this one, or is this one
pub below_or_here : (i n : ℕ) → i < n + 1 → (i < n) ⊎ (i ≡ n)
below_or_here i n l = by_test (nat_lt i n) refl
  where
    by_test : (b : Bool) → nat_lt i n ≡ b → (i < n) ⊎ (i ≡ n)
    by_test true e = inl (grind (arith, nat_tests))
    by_test false e = inr (grind (arith, nat_tests))

-- the job that the hub evaluated, where there was one
pub due_evaluated : (d m e : DeskView) (r : Option Finished) → Refills d m → e.held ≡ m.held → e.hub ≡ m.hub
    → IfSome r (λ f. (job : Job) × (m.waiting ≡ posted f.number job ∷ e.waiting) × (f.outcome ≡ eval job)) → IfSome r (λ f. HandsDue d e f)
due_evaluated d m e (Some f) r held hub h = due_swept d m e f r (due_here m e f h.0 held hub h.1 h.2)
due_evaluated d m e None r held hub h = h
