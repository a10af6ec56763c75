use Rattle.scenario_check.proofs.Judged.{function_judged}
use Rattle.scenario_check.proofs.judge.judge_function.Goals as goal

pub returns : goal.returns
returns c = λ s h. function_judged s c.args.function.now c.args.first c.in_ok-head.head c.in_ok-judge_body.field-0 c.in_ok-head.ensures (c.in_ok-judge_body.ensures s h)
