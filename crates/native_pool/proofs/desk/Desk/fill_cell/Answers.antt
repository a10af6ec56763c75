use Rattle.std.proofs.Common.{rules, ◌≡◌, ◌∷◌, sym, subst}
use Rattle.world_rules.specs.Legal.{posted}
use Rattle.native_pool.specs.Desks.{DeskView, CanTake, Fills}
use Rattle.native_pool.specs.Views.{desk_view}
use Rattle.native_pool.proofs.DeskSteps.{fills_post}
use Rattle.native_pool.proofs.desk.Desk.fill_cell.Goals as goal

pub returns-clause-fills : goal.returns-clause-fills
returns-clause-fills c = let d = c.args.self.now in let can : CanTake (desk_view d) c.args.cell = search rules in
    let waits : d.waiting.items ≡ posted c.in-Some.field-0.number c.in-Some.field-0.job ∷ c.pop_front.new.self.items = c.in-Some.ensures.items in
    subst (λ (e : DeskView). Fills (desk_view d) e) (λ i. record { board = (sym c.post.ensures.board) i; hub = (sym c.post.ensures.sent) i; started = d.started.items; waiting = c.pop_front.new.self.items; held = d.held.items })
    (fills_post (desk_view d) c.args.cell c.in-Some.field-0.number c.in-Some.field-0.job c.pop_front.new.self.items c.requires.made can waits)
