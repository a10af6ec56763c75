use Rattle.std.proofs.Common.{subst, sym}
use Rattle.scenario_tree.specs.declared.tree.Scenario.{Scenario}
use Rattle.body_values.specs.Numbers.{HaveNumbers}
use Rattle.body_values.proofs.Own.{own_found}
use Rattle.body_values.proofs.code.Code.known_numbers.Goals as goal

pub returns-then-is_same : goal.returns-then-is_same
returns-then-is_same c =
    own_found c.args.self.now c.self.inside.own c.args.number c.in-Some.own.now c.args.name.now
    (subst (λ (s : Scenario). HaveNumbers s c.self.inside.own) c.self.view_is c.self.invariant.5) (sym c.in-Some.ensures.value) (c.is_same.ensures c.if-is_same.true)
