-- What telling the workers to end, and joining them, comes to.
use Rattle.std.proofs.Common.{◌≡◌, ℕ, ◌<◌, List, [], ◌∷◌, map, length, Option, Some, refl, sym, ap, ◌∙◌, subst, arith}
use Rattle.std.specs.Prelude.{Result, Ok, Err, is_ok}
use Rattle.std.proofs.lemmas.List.{length-map}
use Rattle.std.proofs.lemmas.Option.{slice_get_within}
use Rattle.native_board.specs.declared.views.HubCell.TheVariants.{Stopped}
use Rattle.native_board.specs.declared.views.HubView.{HubView}
use Rattle.native_board.specs.Rules.{hub_cell}
use Rattle.native_pool.specs.Desks.{DeskView}
use Rattle.native_pool.specs.Pools.{BoardView, Pool, IsSoundDesk, HasStopped, WhileRunning, joined_each}
use Rattle.native_pool.specs.Views.{start_cell}
use Rattle.native_pool.proofs.JobLemmas.{some_is}

joins_first : (start : Result ℕ ℕ) (starts : List (Result ℕ ℕ)) (joins : ℕ) → joined_each starts (joined_each (start ∷ []) joins) ≡ joined_each (start ∷ starts) joins
joins_first (Ok cell) starts joins = refl
joins_first (Err cell) starts joins = refl

-- the worker of the first start was joined, where it runs
pub joins_next : {R F : Type 0} (running : R → ℕ) (refused : F → ℕ) (starts left : List (Result R F)) (start : Result R F) (before after all : ℕ) → starts ≡ start ∷ left
    → after ≡ joined_each (start_cell running refused start ∷ []) before → joined_each (map (start_cell running refused) starts) before ≡ all
    → joined_each (map (start_cell running refused) left) after ≡ all
joins_next running refused starts left start before after all taken counted was =
    let sees = start_cell running refused in
    ap (joined_each (map sees left)) counted ∙ (joins_first (sees start) (map sees left) before ∙ (ap (λ l. joined_each (map sees l) before) (sym taken) ∙ was))

-- the workers of all cells were told to end, so each that runs was
pub told_stop : (p : Pool) (d : DeskView) (ended : Option BoardView) (hub : HubView) → p.desk ≡ Some d → IsSoundDesk p d → ended ≡ Some (record { board = d.board; hub = hub }) → hub.posts ≡ d.hub.posts → d.hub.sweeps < hub.sweeps
    → ((i : ℕ) → i < length d.started → hub_cell hub i ≡ Stopped) → WhileRunning (λ (pool : Pool) (desk : DeskView). HasStopped pool ended desk) p
told_stop p d ended hub is sound known posts swept stopped =
    let all : length d.started ≡ length p.starts = ap length sound.started ∙ length-map p.starts (λ (start : Result ℕ ℕ). is_ok start) in
    λ e h. subst (HasStopped p ended) (some_is d e (sym is ∙ h))
    (record { hub = hub; is = known; posts = posts; swept = swept; stopped = λ i runs. stopped i (let below = slice_get_within p.starts i _ runs in omega (arith, below, all)) })
