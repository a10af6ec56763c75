use Rattle.std.proofs.Common.{ap}
use Rattle.machine.specs.Run.{run}
use Rattle.world.specs.Outside.{WorldMeaning}
use Rattle.run_command.proofs.Handing.{ahead_later}
use Rattle.run_command.proofs.InWorlds.{counts_handed, ran_in_world}
use Rattle.run_command.proofs.running.run_in_world.Goals as goal

pub returns-clause-ran : goal.returns-clause-ran
returns-clause-ran g c =
    let ran = c.run-end.ensures in
    ran_in_world c.run-end.result.end c.handed_on.result _ c.args.workers _ _ _ _ _ _ _ _ _ c.in-Ok.ensures.begins ran.rule c.finish.ensures.ended c.finish.ensures.log
    ran.written ran.ahead ran.log ran.legal c.handed_on.ensures.same c.handed_on.ensures.end

pub returns-clause-counts : goal.returns-clause-counts
returns-clause-counts g c =
    let ran = c.run-end.ensures in
    let handed = c.handed_on.ensures in
    counts_handed c.run-end.result.end c.handed_on.result _ _ _ ran.write_fault ran.unfailed ran.never_falls handed.end handed.failed handed.unfailed handed.never_falls

pub returns-clause-ahead : goal.returns-clause-ahead
returns-clause-ahead g c = λ waits.
    ahead_later (run c.args.engine.scenario c.args.engine.turns c.args.engine.moves) _ _ _ _ _ (ap (λ (m : WorldMeaning). m.answers) c.finish.ensures.ended) (c.run-end.ensures.handed waits) c.handed_on.ensures.never_taken_back

pub returns-clause-hands : goal.returns-clause-hands
returns-clause-hands g c = c.handed_on.ensures.hands
