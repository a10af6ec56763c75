use Rattle.std.proofs.Common.{◌≡◌, ◌∙◌, ap, [], ◌∷◌, ◌++◌, ◌+◌, map, take, nat_eq, arith}
use Rattle.std.proofs.lemmas.Grind.{common_steps}
use Rattle.std.specs.Cmp.Lexicographic.{pointwise}
use Rattle.std.specs.Map.{lookup}
use Rattle.scenario_rules.specs.Declarations.{function_entry}
use Rattle.scenario_check.proofs.lists.declare_functions.Goals as goal

pub loop-function-preserved : goal.loop-function-preserved
loop-function-preserved c = λ ds h x.
    let more : (ds ++ map function_entry (take c.loop-function.function-index c.args.functions.now)) ++ (c.function-item.result.name, c.function_as.result) ∷ []
    ≡ ds ++ map function_entry (take (c.loop-function.function-index + 1) c.args.functions.now) = grind (arith, common_steps) in
    c.in_ok-declare.ensures (ds ++ map function_entry (take c.loop-function.function-index c.args.functions.now)) (c.loop-function.invariant ds h) x
    ∙ ap (λ es. lookup (pointwise nat_eq x) es) more
