use Rattle.std.proofs.Common.{rules, ap, ◌≡◌, ◌∙◌}
use Rattle.native_board.specs.declared.views.CellState.TheVariants.{Done}
use Rattle.native_board.specs.Words.{state_in, ended_of}
use Rattle.world_rules.specs.Evaluate.{eval}
use Rattle.native_board.proofs.StepsKeep.{stores_done}
use Rattle.native_board.proofs.steps.store_done.Goals as goal

pub store-requires : goal.store-requires
store-requires c = let v = c.requires.valued in let at = v.2 in
    let reads : state_in c.done_word.result ≡ Done (ended_of (eval v.1)) = c.done_word.ensures ∙ ap (λ e. Done e) (c.ended_of.ensures ∙ ap ended_of v.3) in
    (c.requires.board, search rules, stores_done _ _ _ _ _ _ _ _ (ap (λ m. m.0) at.0) at.1 at.2 reads)
