use Rattle.std.proofs.Common.{rules, ◌≡◌, ◌∙◌, ap, sym, subst, ℕ, List, map, slice_get, unwrap_or}
use Rattle.scenario_tree.specs.declared.tree.Function.{Function}
use Rattle.scenario_tree.specs.declared.tree.Scenario.{Scenario}
use Rattle.body_blocks.specs.Trees.{Coded}
use Rattle.body_names.specs.Naming.{name_of}
use Rattle.machine.specs.Greenlets.{no_function}
use Rattle.body_values.specs.declared.functions.FlatFunction.{FlatFunction}
use Rattle.body_values.specs.Codes.{function_of}
use Rattle.body_blocks.specs.Few.{HasFewCalls}
use Rattle.body_values.specs.Functions.{function_at}
use Rattle.body_values.specs.Parameters.{given}
use Rattle.body_values.proofs.Few.{function-at-few}
use Rattle.body_values.proofs.Parameters.{begun_named}
use Rattle.body_values.proofs.code.Code.start.Goals as goal

pub returns-in_err-locals-clause-few : goal.returns-in_err-locals-clause-few
returns-in_err-locals-clause-few c = function-at-few c.args.self.now c.args.number (subst HasFewCalls c.self.view_is c.self.invariant.1)

pub returns-in_err-blocks-clause-few : goal.returns-in_err-blocks-clause-few
returns-in_err-blocks-clause-few c = function-at-few c.args.self.now c.args.number (subst HasFewCalls c.self.view_is c.self.invariant.1)

pub returns-clause-few : goal.returns-clause-few
returns-clause-few c = function-at-few c.args.self.now c.args.number (subst HasFewCalls c.self.view_is c.self.invariant.1)

pub returns-clause-named : goal.returns-clause-named
returns-clause-named c =
    let t : Coded = c.self.inside.blocks.value in
    let f : FlatFunction = c.function_of_number-function.result.now in
    let copied : c.in_ok-blocks.blocks.value ≡ t = search rules in
    let own : (function_at c.args.number c.args.self.now).parameters ≡ map (name_of t.names) f.parameters =
    ap (λ (s : Scenario). (function_at c.args.number s).parameters) (sym c.self.view_is)
    ∙ ap (λ (fs : List FlatFunction). (unwrap_or (slice_get (map (function_of t) fs) c.args.number) no_function).parameters) (sym c.as_slice.ensures)
    ∙ ap (λ (g : Function). g.parameters) (c.function_of_number-function.ensures t) in
    begun_named t.names c.in_ok-blocks.blocks.value.names f.parameters c.args.arguments c.in_ok-locals.locals (function_at c.args.number c.args.self.now)
    (c.in_ok-locals.ensures ∙ ap (λ (ns : List ℕ). given ns c.args.arguments) c.as_slice-2.ensures) (ap (λ (x : Coded). x.names) copied) own
