use Rattle.std.proofs.Common.{◌∙◌, ap, length, subst, sym}
use Rattle.scenario_tree.specs.declared.tree.Scenario.{Scenario}
use Rattle.body_values.specs.Numbers.{HasNames}
use Rattle.body_values.proofs.Named.{object_absent, object_named}
use Rattle.body_values.proofs.code.Code.object_numbered.Goals as goal

pub returns-in-Some : goal.returns-in-Some
returns-in-Some c =
    c.known_object.ensures ∙ object_named c.args.blocks.now.names c.args.number c.args.self.now.objects c.in-Some.name.now (sym c.in-Some.ensures)

pub returns-in-None : goal.returns-in-None
returns-in-None c =
    let names : HasNames c.args.self.now = subst HasNames c.self.view_is c.self.invariant.4 in
    c.len.ensures ∙ ap (λ (s : Scenario). length s.objects) c.self.view_is ∙ object_absent c.args.blocks.now.names c.args.number c.args.self.now.objects (sym c.in-None.ensures) names.0
