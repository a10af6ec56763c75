use Rattle.std.proofs.Common.{rules, ap, refl}
use Rattle.native_board.proofs.StepsKeep.{stores_posted, told_sent}
use Rattle.native_board.proofs.steps.store_posted.Goals as goal

pub store-requires : goal.store-requires
store-requires c = let v = c.requires.filled in (c.requires.board, search rules, stores_posted _ _ _ _ _ _ _ (ap (λ m. m.0) v.0) v.1 v.2)

pub returns : goal.returns
returns c = let v = c.requires.filled in let e = c.store.ensures in record { table = e.0; seat = e.1; knows = told_sent _ _ _ _ _ _ v.0 v.2 (e.2 _ refl) }
