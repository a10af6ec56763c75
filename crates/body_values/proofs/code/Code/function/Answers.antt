use Rattle.std.proofs.Common.{◌≡◌, ◌∙◌, ap, length, subst, sym, unwrap_or}
use Rattle.std.proofs.lemmas.List.{length-map}
use Rattle.scenario_tree.specs.declared.tree.Scenario.{Scenario}
use Rattle.name_table.specs.Tables.{found}
use Rattle.body_values.specs.Codes.{function_of}
use Rattle.body_values.specs.Numbers.{NumbersFunctions}
use Rattle.body_values.proofs.Numbered.{function_found}
use Rattle.body_values.proofs.code.Code.function.Goals as goal

pub returns : goal.returns
returns c =
    let numbers = c.self.inside.function_numbers in
    let holds : NumbersFunctions numbers c.args.self.now.functions = subst (λ (s : Scenario). NumbersFunctions numbers s.functions) c.self.view_is c.self.invariant.3 in
    let count : length c.self.inside.functions ≡ length c.args.self.now.functions =
    sym (length-map c.self.inside.functions (function_of c.self.inside.blocks.value)) ∙ ap (λ (s : Scenario). length s.functions) c.self.view_is in
    c.unwrap_or.ensures ∙ ap (λ o. unwrap_or o c.len.result) c.find-number.ensures
    ∙ ap (λ x. unwrap_or (found numbers x) c.len.result) c.bytes.ensures.same
    ∙ ap (unwrap_or (found numbers c.args.name.now)) (c.len.ensures ∙ count)
    ∙ function_found numbers c.args.self.now.functions c.args.name.now holds
