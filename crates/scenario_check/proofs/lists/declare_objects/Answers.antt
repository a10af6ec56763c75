use Rattle.std.proofs.Common.{◌≡◌, ◌∙◌, ap, [], ◌∷◌, ◌++◌, ◌+◌, map, take, nat_eq, arith}
use Rattle.std.proofs.lemmas.Grind.{common_steps}
use Rattle.std.specs.Cmp.Lexicographic.{pointwise}
use Rattle.std.specs.Map.{lookup}
use Rattle.scenario_rules.specs.declared.declared.Declared.TheVariants as declared
use Rattle.scenario_rules.specs.Declarations.{object_entry}
use Rattle.scenario_check.proofs.lists.declare_objects.Goals as goal

pub loop-object-preserved : goal.loop-object-preserved
loop-object-preserved c = λ ds h x.
    let more : (ds ++ map object_entry (take c.loop-object.object-index c.args.objects.now)) ++ (c.object-item.result.name, declared.Object c.object-item.result.object) ∷ []
    ≡ ds ++ map object_entry (take (c.loop-object.object-index + 1) c.args.objects.now) = grind (arith, common_steps) in
    c.in_ok-declare.ensures (ds ++ map object_entry (take c.loop-object.object-index c.args.objects.now)) (c.loop-object.invariant ds h) x
    ∙ ap (λ es. lookup (pointwise nat_eq x) es) more
