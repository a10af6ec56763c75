-- What a pass still knows after a step.
use Rattle.std.proofs.Common.{◌≡◌, true, ℕ, zero, suc, ◌+◌, ◌++◌, Some, slice_get, ◌*◌, ◌<◌, ◌≤◌, List, [], ◌∷◌, length, set, sym, refl, ap, ◌∙◌, subst, arith, get_or, get_or-set_other, length-set}
use mathlib.Core.Logic.{dite}
use native.Mathlib.Decide.{ℕ_discrete}
use Rattle.std.proofs.lemmas.Grind.{get_or-set_at}
use Rattle.std.proofs.lemmas.List.{set-set}
use Rattle.std.proofs.lemmas.Option.{get_or_from_slice_get, slice_get_within}
use Rattle.native_board.specs.declared.views.HubCell.{HubCell}
use Rattle.native_board.specs.declared.views.HubCell.TheVariants.{Vacant, Sent}
use Rattle.native_board.specs.declared.views.View.TheVariants.{Hub}
use Rattle.gv_values.specs.declared.job.Job.{Job}
use Rattle.native_board.specs.declared.views.HubView.{HubView}
use Rattle.native_board.specs.Plays.{marked, counted}
use Rattle.native_board.specs.Passes.{Place, is_settled, hub_in, hub_of, IsMarked, IsSent, IsHub}
use Rattle.gv_values.specs.declared.limits.TheConstants.{MOST_WORKERS}

pub marked_again : (s t u : Place) (i : ℕ) (x y : HubCell) → IsMarked s t i x → IsMarked t u i y → IsMarked s u i y
marked_again s t u i x y a b = record {
  table = b.table ∙ a.table;
  seat = b.seat ∙ a.seat;
  knows = b.knows ∙ ((λ k. (Hub (marked (hub_in (a.knows k).0) i y), [])) ∙ (λ k. (Hub (record (hub_of s) { cells = set-set (hub_of s).cells i x y k }), [])));
}

-- the hub's pass after a post, by its steps
pub sent_last : (s t u : Place) (i k : ℕ) (x : HubCell) (j : Job) → IsMarked s t i x → IsSent t u i k j → IsSent s u i k j
sent_last s t u i k x j a b = record {
  table = b.table ∙ a.table;
  seat = b.seat ∙ a.seat;
  knows = b.knows ∙ ((λ c. (Hub (counted (marked (hub_in (a.knows c).0) i (Sent k j)) i), [])) ∙ (λ c. (Hub (counted (record (hub_of s) { cells = set-set (hub_of s).cells i x (Sent k j) c }) i), [])));
}

pub sent_is : (s t : Place) (i k : ℕ) (j : Job) → IsSent s t i k j → hub_of t ≡ counted (marked (hub_of s) i (Sent k j)) i
sent_is s t i k j m = ap (λ v. hub_in v.0) m.knows

pub settled_set : (cells : List HubCell) (i j : ℕ) (x : HubCell) → i < length cells → is_settled x ≡ true → is_settled (get_or cells j Vacant) ≡ true → is_settled (get_or (set cells i x) j Vacant) ≡ true
settled_set cells i j x l a b = dite (ℕ_discrete j i) (λ e. ap is_settled (get_or-set_at cells i j x Vacant e l) ∙ a) (λ n. ap is_settled (get_or-set_other cells i j x Vacant n) ∙ b)

-- a step at cell i that leaves the view g keeps what a pass knows
hub_again_at : (s t : Place) (cells : List HubCell) (i : ℕ) (x : HubCell) (g : HubView) → i < (hub_of s).made → is_settled x ≡ true → IsHub s cells → t.table_id ≡ s.table_id → t.me ≡ (Hub g, [])
    → g.cells ≡ set (hub_of s).cells i x → g.made ≡ (hub_of s).made → IsHub t (set cells i x)
hub_again_at s t cells i x g low ok h table me cells_are made_is = let all = h.all_made in let is : hub_of t ≡ g = ap (λ v. hub_in v.0) me in let len = length-set cells i x in record {
  knows = me ∙ (λ k. (Hub (sym is k), []));
  same_cells = ap (λ v. v.cells) is ∙ (cells_are ∙ ap (λ l. set l i x) h.same_cells);
  all_made = ap (λ v. v.made) is ∙ (made_is ∙ (h.all_made ∙ sym len));
  table = ap (λ z. z.words) table ∙ (h.table ∙ ap (λ n. 4 * n + 1) (sym len));
  few = subst (λ n. n ≤ MOST_WORKERS) (sym len) h.few;
  settled = λ j. settled_set cells i j x (omega arith) ok (h.settled j);
}

pub hub_kept : (s t : Place) (cells : List HubCell) (i : ℕ) (x : HubCell) → i < (hub_of s).made → is_settled x ≡ true → IsHub s cells → IsMarked s t i x → IsHub t (set cells i x)
hub_kept s t cells i x low ok h m = hub_again_at s t cells i x (marked (hub_of s) i x) low ok h m.table m.knows refl refl

pub hub_sent : (s t : Place) (cells : List HubCell) (i k : ℕ) (j : Job) → i < (hub_of s).made → IsHub s cells → IsSent s t i k j → IsHub t (set cells i (Sent k j))
hub_sent s t cells i k j low h m = hub_again_at s t cells i (Sent k j) (counted (marked (hub_of s) i (Sent k j)) i) low refl h m.table m.knows refl refl

-- what holds of each item, by its number from b on, holds with one more
pub each_snoc : {A : Type 0} (P : A → ℕ → Type 0) (xs : List A) (x : A) (b : ℕ) → P x (b + length xs) → ((k : ℕ) (p : A) → slice_get xs k ≡ Some p → P p (b + k))
    → (k : ℕ) (p : A) → slice_get (xs ++ x ∷ []) k ≡ Some p → P p (b + k)
each_snoc P [] x b here h zero p e = subst (λ y. P y (b + 0)) (get_or_from_slice_get (x ∷ []) 0 p x e) here
each_snoc P [] x b here h (suc k) p e = let w = slice_get_within (x ∷ []) (suc k) p e in let one : length (x ∷ []) ≡ 1 = refl in absurd (omega arith)
each_snoc P (y ∷ ys) x b here h zero p e = h 0 p e
each_snoc P (y ∷ ys) x b here h (suc k) p e = let next = λ (n : ℕ). (let e : b + suc n ≡ (b + 1) + n = omega arith in e) in
    subst (P p) (sym (next k)) (each_snoc P ys x (b + 1) (subst (P x) (next (length ys)) here) (λ j q g. subst (P q) (next j) (h (suc j) q g)) k p e)
