use Rattle.std.proofs.Common.{◌∙◌, sym, ap, length, arith, get_or}
use Rattle.native_board.specs.declared.views.HubCell.TheVariants.{Vacant}
use Rattle.native_board.specs.Boards.{hub_view}
use Rattle.native_board.specs.Passes.{is_sent}
use Rattle.native_pool.proofs.DeskKeeps.{after_sent, length-after_sweep}
use Rattle.native_pool.proofs.desk.Desk.sweep.Goals as goal

pub invariant_of-self : goal.invariant_of-self
invariant_of-self c = let d = c.args.self.now in let swept = c.sweep.ensures.swept in let len = length-after_sweep (hub_view d.pass).cells (hub_view c.sweep.new.hub).seen in
    let same = ap length swept.cells in let few = d.cells in let room = d.room in let kept = c.sweep.ensures.capacity in record {
      same_board = c.sweep.ensures.board ∙ d.same_board;
      cells = omega arith;
      few = d.few;
      room = omega arith;
      used = λ i h. d.used i (after_sent (hub_view d.pass).cells (hub_view c.sweep.new.hub).seen i (ap (λ l. is_sent (get_or l i Vacant)) (sym swept.cells) ∙ h));
    }
