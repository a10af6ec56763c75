use Rattle.std.proofs.Common.{rules, ◌≡◌, inl, inr, refl, subst}
use Rattle.machine.specs.Run.{run, script_run}
use Rattle.run_command.specs.Running.{IsHeldAhead, RanHeld}
use Rattle.run_command.proofs.InWorlds.{held_ahead, left_as_it_was, ran_held, script_ran}
use Rattle.run_command.proofs.running.run_held.Goals as goal

-- what holds of the world that was given back holds of the one that was lent
held_there : {W : Type 0} (P : W → Type 0) (back lent : W) → back ≡ lent → P back → P lent
held_there P back lent e h = subst P e h

pub returns-in-Some-clause-lawful : goal.returns-in-Some-clause-lawful
returns-in-Some-clause-lawful g c =
    (c.scripts_run_lawfully.ensures c.args.engine.scenario c.args.engine.turns c.args.engine.moves 0 c.requires.well_formed).lawful

pub returns-in-Some-clause-written : goal.returns-in-Some-clause-written
returns-in-Some-clause-written g c =
    script_ran c.followers_run_scripts.ensures c.in-Some.end c.args.engine.scenario c.args.engine.turns c.args.engine.moves _ 0 c.run_in_world-ran.new.world.inner.ghost_name _ c.run_in_world-ran.new.world.script _ _
    c.new-held.result.no_tick c.in-Some.ensures.ran

pub returns-in-Some-clause-native : goal.returns-in-Some-clause-native
returns-in-Some-clause-native g c = λ wf m.
    let told = c.posts_and_answers_are_told.ensures in
    let ran = ran_held c.followers_run_scripts.ensures told.posts told.answers c.in-Some.end c.args.engine.scenario c.args.engine.turns c.args.engine.moves c.args.workers c.run_in_world-ran.new.world.inner.ghost_name _
    (g.W.World.meaning c.into_inner.result.now) (g.W.World.stands_for c.into_inner.result.now) c.run_in_world-ran.new.world.script _ _ c.new-held.result.no_tick c.requires.some c.in-Some.ensures.ran c.into_inner.ensures.leads c.into_inner.ensures.logged wf m in
    held_there (λ v. RanHeld c.args.workers (script_run c.args.engine.scenario c.args.engine.turns c.args.engine.moves 0) (g.W.World.meaning v) (g.W.World.stands_for v)) c.into_inner.result.now _ (search rules) ran

pub returns-in-Some-clause-began : goal.returns-in-Some-clause-began
returns-in-Some-clause-began g c =
    inl (held_there (λ v. IsHeldAhead g.W.World.waits (run c.args.engine.scenario c.args.engine.turns c.args.engine.moves) (g.W.World.meaning v) (g.K.Sink.written c.args.out.now) (g.K.Sink.written c.run_in_world-ran.new.out) (g.K.Sink.handed c.run_in_world-ran.new.out)) c.into_inner.result.now _ (search rules)
    (held_ahead g.W.World.waits c.in-Some.end c.args.engine.scenario c.args.engine.turns c.args.engine.moves c.args.workers c.run_in_world-ran.new.world.inner.ghost_name _ (g.W.World.meaning c.into_inner.result.now) (g.W.World.stands_for c.into_inner.result.now) c.run_in_world-ran.new.world.script _ _ _
    c.requires.some c.in-Some.ensures.ran c.into_inner.ensures.leads c.into_inner.ensures.logged c.in-Some.ensures.ahead))

pub returns-in-None-clause-began : goal.returns-in-None-clause-began
returns-in-None-clause-began g c = inr (c.in-None.ensures.unwritten, refl)

pub returns-in-None-clause-written : goal.returns-in-None-clause-written
returns-in-None-clause-written g c = left_as_it_was _ _ _ c.in-None.ensures.unwritten

pub returns-in-Some-clause-hands : goal.returns-in-Some-clause-hands
returns-in-Some-clause-hands g c = c.in-Some.ensures.hands

pub returns-in-None-clause-hands : goal.returns-in-None-clause-hands
returns-in-None-clause-hands g c = λ w m. absurd (m refl)
