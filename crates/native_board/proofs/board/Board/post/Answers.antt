use Rattle.native_board.proofs.PassesKeep.{marked_again, sent_last, sent_is, hub_sent}
use Rattle.native_board.proofs.board.Board.post.Goals as goal

pub invariant_of-hub : goal.invariant_of-hub
invariant_of-hub c =
    let m = sent_last _ _ _ _ _ _ _ (marked_again _ _ _ _ _ _ c.store_order.ensures c.store_argument.ensures) c.store_posted.ensures in
    record { known = hub_sent _ _ _ _ _ _ c.requires.free.0 c.args.hub.now.known m }

pub returns-clause-sent : goal.returns-clause-sent
returns-clause-sent c = sent_is _ _ _ _ _ (sent_last _ _ _ _ _ _ _ (marked_again _ _ _ _ _ _ c.store_order.ensures c.store_argument.ensures) c.store_posted.ensures)
