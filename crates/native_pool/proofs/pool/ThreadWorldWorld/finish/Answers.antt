use Rattle.std.proofs.Common.{rules, arith, ◌≡◌, Some, ap, subst}
use Rattle.std.specs.Prelude.{option_map}
use Rattle.native_board.specs.Boards.{hub_view}
use Rattle.native_pool.specs.Desks.{DeskView}
use Rattle.native_pool.specs.Pools.{Pool, HasStopped, WhileRunning}
use Rattle.native_pool.specs.Views.{board_view, desk_view}
use Rattle.native_pool.proofs.StopSteps.{told_stop}
use Rattle.native_pool.proofs.pool.ThreadWorldWorld.finish.Goals as goal

pub returns-clause-told : goal.returns-clause-told
returns-clause-told g c =
    let d = desk_view c.in-Some.desk in let hub = hub_view c.wind_down.result in let told = c.wind_down.ensures in let ended = board_view c.wind_down.result in
    let here : option_map desk_view c.self.inside.desk ≡ Some d = search rules in
    subst (WhileRunning (λ (pool : Pool) (desk : DeskView). HasStopped pool (Some ended) desk)) c.self.view_is
    (told_stop _ d (Some ended) hub here (c.self.invariant.running d here) (ap (λ b. Some (record { board = b; hub = hub })) told.same_board) told.posts told.swept (λ i below. told.stopped i (let ok = c.in-Some.desk.started.ok in omega (arith, below, ok))))
