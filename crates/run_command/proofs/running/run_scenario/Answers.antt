use Rattle.std.proofs.Common.{inr, refl}
use Rattle.run_command.proofs.InWorlds.{begun_by_held, begun_by_script, begun_by_workers, few_held, few_workers, held_so, ran_by_held, ran_by_script, ran_by_workers, some_held, some_workers}
use Rattle.gv_io.proofs.StreamLaws.{AppendsPrefix-nothing}
use Rattle.run_command.proofs.Handing.{began_held, began_natively, began_script}
use Rattle.run_command.proofs.running.run_scenario.Goals as goal

pub unreachable-requires : goal.unreachable-requires
unreachable-requires g c =
    let budgets = c.requires.budgets in
    let refused = rw c.in-Err-Budgets.field-0-is at c.in-Err-Budgets.ensures.refused in
    refused (record { few_turns = budgets.few_turns; few_moves = budgets.few_moves })

pub run_natively-requires-clause-some : goal.run_natively-requires-clause-some
run_natively-requires-clause-some g c = some_workers c.args.options.world _ c.in-Native.is c.requires.range

pub run_natively-requires-clause-few : goal.run_natively-requires-clause-few
run_natively-requires-clause-few g c = few_workers c.args.options.world _ c.in-Native.is c.requires.range

pub returns-in-Err-Memory-clause-written : goal.returns-in-Err-Memory-clause-written
returns-in-Err-Memory-clause-written g c = AppendsPrefix-nothing _ _

pub returns-in-Err-Memory-clause-begun : goal.returns-in-Err-Memory-clause-begun
returns-in-Err-Memory-clause-begun g c = inr (refl, refl)

pub returns-in-Script-clause-written : goal.returns-in-Script-clause-written
returns-in-Script-clause-written g c =
    ran_by_script c.run_script.result c.args.options c.in-Script.tick _ c.args.checked c.in-Ok.engine _ _ c.in-Ok.ensures.prepared c.in-Script.is c.run_script.ensures.written

pub returns-in-Native-clause-written : goal.returns-in-Native-clause-written
returns-in-Native-clause-written g c =
    ran_by_workers c.run_natively.result c.args.options c.in-Native.workers _ c.args.checked c.in-Ok.engine _ _ c.in-Ok.ensures.prepared c.in-Native.is c.run_natively.ensures.written

pub returns-in-Script-clause-begun : goal.returns-in-Script-clause-begun
returns-in-Script-clause-begun g c =
    begun_by_script _ c.args.options c.in-Script.tick _ c.args.checked c.in-Ok.engine _ _ c.in-Ok.ensures.prepared c.in-Script.is c.run_script.ensures.lawful

pub returns-in-Native-clause-begun : goal.returns-in-Native-clause-begun
returns-in-Native-clause-begun g c =
    begun_by_workers _ c.args.options c.in-Native.workers _ c.args.checked c.in-Ok.engine _ _ c.in-Ok.ensures.prepared c.in-Native.is c.run_natively.ensures.begun

pub run_held-requires-clause-some : goal.run_held-requires-clause-some
run_held-requires-clause-some g c = some_held c.args.options.world _ c.in-Held.is c.requires.range

pub run_held-requires-clause-few : goal.run_held-requires-clause-few
run_held-requires-clause-few g c = few_held c.args.options.world _ c.in-Held.is c.requires.range

pub returns-in-Held-clause-written : goal.returns-in-Held-clause-written
returns-in-Held-clause-written g c =
    ran_by_held c.run_held.result c.args.options c.in-Held.workers _ c.args.checked c.in-Ok.engine _ _ c.in-Ok.ensures.prepared c.in-Held.is c.run_held.ensures.written

pub returns-in-Held-clause-held : goal.returns-in-Held-clause-held
returns-in-Held-clause-held g c = λ workers is wf m.
    held_so c.args.options c.in-Held.workers workers _ c.args.checked c.in-Ok.engine _ _ c.in-Ok.ensures.prepared c.in-Held.is is (c.run_held.ensures.native wf m)

pub returns-in-Held-clause-begun : goal.returns-in-Held-clause-begun
returns-in-Held-clause-begun g c =
    begun_by_held _ c.args.options c.in-Held.workers _ c.args.checked c.in-Ok.engine _ _ c.in-Ok.ensures.prepared c.in-Held.is c.run_held.ensures.lawful

pub returns-in-Err-Memory-clause-began : goal.returns-in-Err-Memory-clause-began
returns-in-Err-Memory-clause-began g c = inr (record { unwritten = refl; untried = refl; kept = λ workers natively. refl })

pub returns-in-Script-clause-began : goal.returns-in-Script-clause-began
returns-in-Script-clause-began g c = began_script _ c.args.options c.in-Script.tick c.args.checked _ _ _ _ _ _ _ c.in-Script.is

pub returns-in-Native-clause-began : goal.returns-in-Native-clause-began
returns-in-Native-clause-began g c =
    began_natively _ c.args.options c.in-Native.workers c.args.checked _ _ c.in-Ok.engine c.run_natively.result _ _ _ _ _ c.in-Ok.ensures.prepared c.in-Native.is c.run_natively.ensures.counts c.run_natively.ensures.began

pub returns-in-Held-clause-began : goal.returns-in-Held-clause-began
returns-in-Held-clause-began g c =
    began_held _ c.args.options c.in-Held.workers c.args.checked _ _ c.in-Ok.engine c.run_held.result _ _ _ _ _ c.in-Ok.ensures.prepared c.in-Held.is c.run_held.ensures.counts c.run_held.ensures.began

pub returns-in-Err-Memory-clause-hands : goal.returns-in-Err-Memory-clause-hands
returns-in-Err-Memory-clause-hands g c = λ w m. absurd (m refl)
