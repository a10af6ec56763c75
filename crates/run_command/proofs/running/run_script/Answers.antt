use Rattle.std.proofs.Common.{refl}
use Rattle.world.specs.Kept.{script_meaning}
use Rattle.run_command.proofs.InWorlds.{left_as_it_was, script_ran}
use Rattle.run_command.proofs.running.run_script.Goals as goal

pub returns-in-Some-clause-written : goal.returns-in-Some-clause-written
returns-in-Some-clause-written g c =
    script_ran c.followers_run_scripts.ensures c.in-Some.end c.args.engine.scenario c.args.engine.turns c.args.engine.moves _ c.args.tick 0 (script_meaning c.new-world.result) c.run_in_world.new.world _ _
    c.new-world.ensures.tick c.in-Some.ensures.ran

pub returns-in-Some-clause-lawful : goal.returns-in-Some-clause-lawful
returns-in-Some-clause-lawful g c =
    (c.scripts_run_lawfully.ensures c.args.engine.scenario c.args.engine.turns c.args.engine.moves c.args.tick c.requires.well_formed).lawful

pub returns-clause-written : goal.returns-clause-written
returns-clause-written g c = left_as_it_was _ _ _ c.in-None.ensures.unwritten

pub returns-clause-lawful : goal.returns-clause-lawful
returns-clause-lawful g c =
    (c.scripts_run_lawfully.ensures c.args.engine.scenario c.args.engine.turns c.args.engine.moves c.args.tick c.requires.well_formed).lawful

pub returns-in-Some-clause-hands : goal.returns-in-Some-clause-hands
returns-in-Some-clause-hands g c = c.in-Some.ensures.hands

pub returns-clause-hands : goal.returns-clause-hands
returns-clause-hands g c = λ w m. absurd (m refl)
