use Rattle.std.proofs.Common.{arith, map, refl, ap, subst, ◌∙◌}
use Rattle.native_pool.specs.Pools.{RefusedWhereRisen}
use Rattle.native_pool.specs.Views.{desk_view, start_cell}
use Rattle.native_pool.proofs.PoolSteps.{sound_begin, sound_running, starts_of}
use Rattle.native_pool.proofs.pool.ThreadWorldWorld.begin.Goals as goal

pub invariant_of-self : goal.invariant_of-self
invariant_of-self g c =
    let e = desk_view c.new.result in let is = c.new.ensures in let zero = c.restart.ensures.moment in
    sound_running _ e refl (omega (arith, zero))
    (sound_begin _ e c.args.workers (ap (λ d. d.hub) is ∙ c.in_ok-board.ensures.view) (ap (λ d. d.waiting) is) (ap (λ d. d.held) is ∙ c.in_ok-held.ensures.items)
    (ap (λ d. d.started) is ∙ c.start_all.ensures.started) c.restart.ensures.posts c.restart.ensures.answers (c.start_all.ensures.cells ∙ c.in_ok-board.ensures.cells))

pub returns-clause-starts : goal.returns-clause-starts
returns-clause-starts g c =
    let e = desk_view c.new.result in let is = c.new.ensures in
    starts_of _ e refl
    (sound_begin _ e c.args.workers (ap (λ d. d.hub) is ∙ c.in_ok-board.ensures.view) (ap (λ d. d.waiting) is) (ap (λ d. d.held) is ∙ c.in_ok-held.ensures.items)
    (ap (λ d. d.started) is ∙ c.start_all.ensures.started) c.restart.ensures.posts c.restart.ensures.answers (c.start_all.ensures.cells ∙ c.in_ok-board.ensures.cells)) c.new.result.used

pub returns-clause-risen : goal.returns-clause-risen
returns-clause-risen g c =
    subst (λ r. RefusedWhereRisen r (g.S.Spawner.refusals c.start_all.new.spawner) (map (start_cell g.S.Spawner.running_cell g.S.Spawner.refused_cell) c.start_all.new.starts.items))
    (ap (λ p. p.refusals) c.self.view_is) c.start_all.ensures.risen
