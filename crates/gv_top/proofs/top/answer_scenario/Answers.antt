use Rattle.std.proofs.Common.{arith, sym, ap, subst, ◌∙◌}
use Rattle.command_words.specs.declared.command.NamedCommand.TheVariants as named
use Rattle.command_words.specs.declared.command.TextCommand.{TextCommand}
use Rattle.command_words.specs.Ranges.{IsInRange}
use Rattle.run_command.specs.Running.{run_of}
use Rattle.gv_top.specs.Words.{is_native_text}
use Rattle.gv_top.proofs.Deciding.{decided_of_this, run_decided}
use Rattle.gv_top.proofs.Handing.{scenario_began, scenario_hands}
use Rattle.gv_top.proofs.InWorlds.{format_runs_nothing, run_lawful, scenario_ran}
use Rattle.gv_top.proofs.Tops.{run_counts, run_explained, run_status}
use Rattle.gv_top.proofs.top.answer_scenario.Goals as goal

pub run_scenario-requires-clause-range : goal.run_scenario-requires-clause-range
run_scenario-requires-clause-range g c = (let P : TextCommand → Type 0 = λ d. IsInRange (named.Text d) in subst P c.in-Run.is c.requires.range).2

pub run_scenario-requires-clause-budgets : goal.run_scenario-requires-clause-budgets
run_scenario-requires-clause-budgets g c =
    let r = (let P : TextCommand → Type 0 = λ d. IsInRange (named.Text d) in subst P c.in-Run.is c.requires.range) in
    record { some_turns = r.0.0; few_turns = r.0.1; some_moves = r.1.0; few_moves = r.1.1 }

pub returns-in-Run-clause-answer : goal.returns-in-Run-clause-answer
returns-in-Run-clause-answer g c =
    let given = (g.W.World.meaning c.run_scenario.new.native).answers in
    let old = g.K.Sink.written c.args.out.now in
    let new = g.K.Sink.written c.run_scenario.new.out in
    decided_of_this c.args.command (TextCommand.Run c.in-Run.options) given c.args.checked c.verdict_of_run.result old new c.in-Run.is
    (run_decided c.run_scenario.result c.verdict_of_run.result (run_of c.in-Run.options given c.args.checked) old new c.verdict_of_run.ensures c.run_scenario.ensures.written)

pub returns-in-Run-clause-ran : goal.returns-in-Run-clause-ran
returns-in-Run-clause-ran g c =
    scenario_ran c.args.command c.in-Run.options c.run_scenario.result _ c.args.checked _ _ _ _ c.in-Run.is c.verdict_of_run.ensures c.run_scenario.ensures.begun c.run_scenario.ensures.native c.run_scenario.ensures.held

pub returns-in-Run-clause-lawful : goal.returns-in-Run-clause-lawful
returns-in-Run-clause-lawful g c = λ options e.
    let given = (g.W.World.meaning c.run_scenario.new.native).answers in
    run_lawful c.run_scenario.result _ c.in-Run.options given c.args.checked _ _ c.verdict_of_run.ensures c.run_scenario.ensures.written c.run_scenario.ensures.begun

pub returns-in-Run-clause-untouched : goal.returns-in-Run-clause-untouched
returns-in-Run-clause-untouched g c = λ h. c.run_scenario.ensures.untouched (sym (ap is_native_text c.in-Run.is) ∙ h)

pub returns-in-Format-clause-ran : goal.returns-in-Format-clause-ran
returns-in-Format-clause-ran g c = λ options e. format_runs_nothing c.args.command options _ c.in-Format.is e

pub returns-in-Format-clause-lawful : goal.returns-in-Format-clause-lawful
returns-in-Format-clause-lawful g c = λ options e. format_runs_nothing c.args.command options _ c.in-Format.is e

pub returns-in-Run-clause-writes : goal.returns-in-Run-clause-writes
returns-in-Run-clause-writes g c = run_counts c.run_scenario.result _ _ _ c.verdict_of_run.ensures c.run_scenario.ensures.counts

pub returns-in-Run-clause-began : goal.returns-in-Run-clause-began
returns-in-Run-clause-began g c = scenario_began _ c.args.command c.in-Run.options c.args.checked _ _ _ _ _ _ _ c.in-Run.is c.run_scenario.ensures.began

pub returns-in-Format-clause-began : goal.returns-in-Format-clause-began
returns-in-Format-clause-began g c = λ options e. format_runs_nothing c.args.command options _ c.in-Format.is e

pub returns-in-Run-clause-hands : goal.returns-in-Run-clause-hands
returns-in-Run-clause-hands g c = scenario_hands c.run_scenario.result _ _ _ _ _ c.verdict_of_run.ensures c.run_scenario.ensures.hands

pub returns-in-Run-clause-command : goal.returns-in-Run-clause-command
returns-in-Run-clause-command g c = λ h. run_status c.run_scenario.result _ 2 c.verdict_of_run.ensures h (λ e. omega arith) (λ e. omega arith) (λ e. omega arith) (λ e. omega arith) (λ e. omega arith) (λ e. omega arith)

pub returns-in-Run-clause-no_net : goal.returns-in-Run-clause-no_net
returns-in-Run-clause-no_net g c = λ h. run_status c.run_scenario.result _ 10 c.verdict_of_run.ensures h (λ e. omega arith) (λ e. omega arith) (λ e. omega arith) (λ e. omega arith) (λ e. omega arith) (λ e. omega arith)

pub returns-in-Run-clause-unrefused : goal.returns-in-Run-clause-unrefused
returns-in-Run-clause-unrefused g c = λ h. run_status c.run_scenario.result _ 3 c.verdict_of_run.ensures h (λ e. omega arith) (λ e. omega arith) (λ e. omega arith) (λ e. omega arith) (λ e. omega arith) (λ e. omega arith)

pub returns-in-Run-clause-read : goal.returns-in-Run-clause-read
returns-in-Run-clause-read g c = λ h. run_status c.run_scenario.result _ 4 c.verdict_of_run.ensures h (λ e. omega arith) (λ e. omega arith) (λ e. omega arith) (λ e. omega arith) (λ e. omega arith) (λ e. omega arith)

pub returns-in-Run-clause-explained : goal.returns-in-Run-clause-explained
returns-in-Run-clause-explained g c = run_explained c.run_scenario.result _ c.verdict_of_run.ensures
