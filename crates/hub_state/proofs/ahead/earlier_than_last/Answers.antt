use Rattle.std.proofs.Common.{sym, ◌∙◌, arith}
use Rattle.held_items.proofs.Tallying.{place_in_line}
use Rattle.hub_state.proofs.ahead.earlier_than_last.Goals as goal

pub returns : goal.returns
returns c =
    let n = c.args.held.now.next_since in
    c.waiting_in.ensures ∙ sym (place_in_line c.args.kind c.args.object n n c.args.held.now.entries (omega arith) c.items_stand_in_order.ensures.ascends)
