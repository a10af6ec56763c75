use Rattle.std.proofs.Common.{ap, sym, ◌∙◌, arith}
use Rattle.line_counter.specs.Lines.{CounterState}
use Rattle.world.specs.Kept.{script_meaning}
use Rattle.gv_top.proofs.Storms.{was_counted}
use Rattle.gv_top.proofs.storming.count_run.Goals as goal

pub unreachable-requires : goal.unreachable-requires
unreachable-requires c =
    let refused = rw c.in-Err-Budgets.field-0-is at c.in-Err-Budgets.ensures.refused in
    refused (record { few_turns = omega arith; few_moves = omega arith })

pub returns : goal.returns
returns c =
    let ran = c.run-ran.ensures in
    was_counted c.followers_run_scripts.ensures c.run-ran.result c.lines.result c.args.checked c.in-Ok-new.engine (script_meaning c.new-world.result) _ c.run-ran.new.world
    c.new-counter.result.text c.run-ran.new.sink.text c.in-Ok-new.ensures.prepared c.new-world.ensures.tick c.in-Ok.ensures.begins ran.rule
    (ap (λ (s : CounterState). s.text) c.new-counter.ensures) (sym c.is_broken_off.ensures ∙ c.if-is_broken_off.false) c.lines.ensures ran.written ran.numbers ran.log ran.tried
