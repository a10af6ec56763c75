use Rattle.std.proofs.Common.{◌≡◌, ◌∙◌, ap, sym, ◌++◌, ◌+◌, drop, arith}
use Rattle.std.specs.List.{flat_map}
use Rattle.std.proofs.lemmas.Grind.{common_steps}
use Rattle.scenario_rules.specs.Rules.{first_after, function_refusals}
use Rattle.scenario_check.proofs.FirstPlace.{first_both}
use Rattle.scenario_check.proofs.judge.judge_functions.Goals as goal

pub loop-function-preserved : goal.loop-function-preserved
loop-function-preserved c = λ s h.
    let next : flat_map (function_refusals s) (drop c.loop-function.function-index c.args.functions.now)
    ≡ function_refusals s c.function-item.result ++ flat_map (function_refusals s) (drop (c.loop-function.function-index + 1) c.args.functions.now) = grind (arith, common_steps) in
    ap (λ p. first_after p (flat_map (function_refusals s) (drop (c.loop-function.function-index + 1) c.args.functions.now))) (c.in_ok-least.ensures s h)
    ∙ sym (first_both c.loop-function.least (function_refusals s c.function-item.result) (flat_map (function_refusals s) (drop (c.loop-function.function-index + 1) c.args.functions.now)))
    ∙ ap (λ ps. first_after c.loop-function.least ps) (sym next) ∙ c.loop-function.invariant s h
