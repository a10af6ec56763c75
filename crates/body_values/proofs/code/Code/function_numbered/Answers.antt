use Rattle.std.proofs.Common.{◌∙◌, ap, length, subst, sym}
use Rattle.std.proofs.lemmas.List.{length-map}
use Rattle.scenario_tree.specs.declared.tree.Scenario.{Scenario}
use Rattle.body_values.specs.Codes.{function_of}
use Rattle.body_values.specs.Numbers.{HasNames}
use Rattle.body_values.proofs.Named.{function_absent, function_named}
use Rattle.body_values.proofs.code.Code.function_numbered.Goals as goal

pub returns-in-Some : goal.returns-in-Some
returns-in-Some c =
    c.known_function.ensures ∙ function_named c.args.blocks.now.names c.args.number c.args.self.now.functions c.in-Some.name.now (sym c.in-Some.ensures)

pub returns-in-None : goal.returns-in-None
returns-in-None c =
    let names : HasNames c.args.self.now = subst HasNames c.self.view_is c.self.invariant.4 in
    c.len.ensures ∙ sym (length-map c.self.inside.functions (function_of c.self.inside.blocks.value)) ∙ ap (λ (s : Scenario). length s.functions) c.self.view_is
    ∙ function_absent c.args.blocks.now.names c.args.number c.args.self.now.functions (sym c.in-None.ensures) names.1
