-- One more cell of a sweep.
use Rattle.std.proofs.Common.{◌≡◌, ◌≢◌, true, ℕ, zero, suc, ◌+◌, ◌*◌, ◌≤◌, List, [], ◌∷◌, ◌++◌, length, get_or, set, sym, refl, ap, ◌∙◌, subst, Option, None, option_to_list, length-append, append_assoc, append-nil}
use Rattle.std.proofs.lemmas.List.{set-set, get_or_at}
use mathlib.Core.Logic.{dite}
use native.Mathlib.Decide.{ℕ_discrete}
use Rattle.gv_values.specs.declared.job.Job.{Job}
use Rattle.native_board.specs.declared.found.Finished.{Finished}
use Rattle.native_board.specs.declared.views.Ended.{Ended}
use Rattle.native_board.specs.declared.views.CellState.{CellState}
use Rattle.native_board.specs.declared.views.CellState.TheVariants.{Free, Posted, Stop, Done}
use Rattle.native_board.specs.declared.views.HubCell.{HubCell}
use Rattle.native_board.specs.declared.views.HubCell.TheVariants.{Vacant}
use Rattle.native_board.specs.declared.views.HubView.{HubView}
use Rattle.native_board.specs.declared.views.View.TheVariants.{Hub}
use Rattle.native_board.specs.Rules.{hub_cell}
use Rattle.native_board.specs.Plays.{marked, saw, taken}
use Rattle.native_board.specs.Passes.{Place, hub_in, hub_of, is_settled, IsMarked, IsHub, BecomesHub, swept_cell, finished_at, after_sweep, finished, is_sent, SweepsNext, SweepsTo}
use Rattle.gv_values.specs.declared.limits.TheConstants.{MOST_WORKERS}

pub hub_again : (s t : Place) (g : HubView) (cells xs : List HubCell) → IsHub s cells → t.table_id ≡ s.table_id → t.me ≡ (Hub g, []) → g.made ≡ (hub_of s).made → g.cells ≡ xs → length xs ≡ length cells
    → ((i : ℕ) → is_settled (get_or xs i Vacant) ≡ true) → IsHub t xs
hub_again s t g cells xs h table me made same len ok = let is : hub_of t ≡ g = ap (λ v. hub_in v.0) me in record {
  knows = me ∙ (λ k. (Hub (sym is k), []));
  same_cells = ap (λ v. v.cells) is ∙ same;
  all_made = ap (λ v. v.made) is ∙ (made ∙ (h.all_made ∙ sym len));
  table = ap (λ z. z.words) table ∙ (h.table ∙ ap (λ n. 4 * n + 1) (sym len));
  few = subst (λ n. n ≤ MOST_WORKERS) (sym len) h.few;
  settled = ok;
}

-- the hub's view once it has seen a job done, has read its value and has freed its cell
pub took : (s t u v : Place) (i k : ℕ) (j : Job) (e : Ended) → i ≡ length (hub_of s).seen → BecomesHub s t (saw (hub_of s) (Done e)) → BecomesHub t u (hub_of t) → IsMarked u v i Vacant
    → v.me ≡ (Hub (record (hub_of s) { cells = set (hub_of s).cells i Vacant; seen = (hub_of s).seen ++ Done e ∷ [] }), [])
took s t u v i k j e at a b m =
    let h : HubView = hub_of s in let one : hub_of t ≡ saw h (Done e) = ap (λ z. hub_in z.0) a.knows in let two : hub_of u ≡ saw h (Done e) = ap (λ z. hub_in z.0) b.knows ∙ one in
    m.knows ∙ ((λ c. (Hub (marked (two c) i Vacant), [])) ∙ ((λ c. (Hub (marked (saw h (Done e)) (at c) Vacant), []))
    ∙ ((λ c. (Hub (record (saw h (Done e)) { cells = set-set h.cells (length h.seen) (taken (Done e) (hub_cell h (length h.seen))) Vacant c }), [])) ∙ (λ c. (Hub (record h { cells = set h.cells (sym at c) Vacant; seen = h.seen ++ Done e ∷ [] }), [])))))

after_snoc : (xs : List HubCell) (sts : List CellState) (st : CellState) → after_sweep xs (sts ++ st ∷ []) ≡ set (after_sweep xs sts) (length sts) (swept_cell st (get_or (after_sweep xs sts) (length sts) Vacant))
after_snoc [] [] st = refl
after_snoc (x ∷ xs) [] st = refl
after_snoc [] (u ∷ us) st = refl
after_snoc (x ∷ xs) (u ∷ us) st = ap (λ l. swept_cell u x ∷ l) (after_snoc xs us st)

here_snoc : (xs : List HubCell) (sts : List CellState) → get_or (after_sweep xs sts) (length sts) Vacant ≡ get_or xs (length sts) Vacant
here_snoc xs [] = refl
here_snoc [] (u ∷ us) = refl
here_snoc (x ∷ xs) (u ∷ us) = here_snoc xs us

none_vacant : (st : CellState) → finished_at st Vacant ≡ None
none_vacant (Done e) = refl
none_vacant Free = refl
none_vacant Posted = refl
none_vacant Stop = refl

finished_snoc : (xs : List HubCell) (sts : List CellState) (st : CellState) → finished xs (sts ++ st ∷ []) ≡ finished xs sts ++ option_to_list (finished_at st (get_or xs (length sts) Vacant))
finished_snoc [] [] st = ap option_to_list (sym (none_vacant st))
finished_snoc (x ∷ xs) [] st = append-nil _
finished_snoc [] (u ∷ us) st = ap option_to_list (sym (none_vacant st))
finished_snoc (x ∷ xs) (u ∷ us) st = ap (λ l. option_to_list (finished_at u x) ++ l) (finished_snoc xs us st) ∙ sym (append_assoc (option_to_list (finished_at u x)) _ _)

else_snoc : {A : Type 0} (xs : List A) (x d : A) (i : ℕ) → i ≢ length xs → get_or (xs ++ x ∷ []) i d ≡ get_or xs i d
else_snoc [] x d zero n = absurd (n refl)
else_snoc [] x d (suc i) n = refl
else_snoc (y ∷ ys) x d zero n = refl
else_snoc (y ∷ ys) x d (suc i) n = else_snoc ys x d i (λ e. n (ap suc e))

sent_snoc : (xs : List HubCell) (sts : List CellState) (st : CellState) → ((i : ℕ) (e : Ended) → get_or sts i Free ≡ Done e → is_sent (get_or xs i Vacant) ≡ true)
    → ((e : Ended) → st ≡ Done e → is_sent (get_or xs (length sts) Vacant) ≡ true) → (i : ℕ) (e : Ended) → get_or (sts ++ st ∷ []) i Free ≡ Done e → is_sent (get_or xs i Vacant) ≡ true
sent_snoc xs sts st h here i e at = dite (ℕ_discrete i (length sts))
    (λ is. ap (λ n. is_sent (get_or xs n Vacant)) is ∙ here e (sym (get_or_at sts st [] Free i (sym is)) ∙ at))
    (λ n. h i e (sym (else_snoc sts st Free i n) ∙ at))

pub sweeps_next : (h g f : HubView) (i : ℕ) (r : Option Finished) → SweepsTo h g i → SweepsNext g f r → SweepsTo h f (i + 1) × (finished h.cells f.seen ≡ finished h.cells g.seen ++ option_to_list r)
sweeps_next h g f i r a b =
    let seen : f.seen ≡ g.seen ++ b.state ∷ [] = ap (λ v. v.seen) b.hub in
    let cell : hub_cell g (length g.seen) ≡ get_or h.cells (length g.seen) Vacant = ap (λ l. get_or l (length g.seen) Vacant) a.cells ∙ here_snoc h.cells g.seen in (
      record {
        more = ap (λ v. v.sweeps) b.hub ∙ a.more;
        reached = ap length seen ∙ (length-append g.seen (b.state ∷ []) ∙ ap (λ n. n + 1) a.reached);
        cells = ap (λ v. v.cells) b.hub ∙ ((λ k. set (a.cells k) (length g.seen) (swept_cell b.state (get_or (a.cells k) (length g.seen) Vacant))) ∙ (sym (after_snoc h.cells g.seen b.state) ∙ ap (after_sweep h.cells) (sym seen)));
        made = ap (λ v. v.made) b.hub ∙ a.made;
        posts = ap (λ v. v.posts) b.hub ∙ a.posts;
        sent = λ i e at. sent_snoc h.cells g.seen b.state a.sent (λ d is. ap is_sent (sym cell) ∙ b.job d is) i e (ap (λ l. get_or l i Free) (sym seen) ∙ at);
      },
      ap (finished h.cells) seen ∙ (finished_snoc h.cells g.seen b.state ∙ ap (λ x. finished h.cells g.seen ++ option_to_list x) (ap (finished_at b.state) (sym cell) ∙ sym b.result)),
    )
