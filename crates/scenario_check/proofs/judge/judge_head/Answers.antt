use Rattle.std.proofs.Common.{◌≡◌, ◌∙◌, ap, ◌++◌, map, ℕ, List}
use Rattle.scenario_rules.specs.declared.mention.Named.{Named}
use Rattle.scenario_rules.specs.Declarations.{parameters, repeated}
use Rattle.scenario_check.proofs.Judged.{head_judged}
use Rattle.scenario_check.proofs.judge.judge_head.Goals as goal

abbrev named : ℕ → List ℕ → Named
named line x = record { line = line; name = x }

pub returns : goal.returns
returns c =
    let listed : c.add_names.new.list ≡ parameters c.args.function.now =
    c.in_ok-add_names.ensures
    ∙ ap (λ z. z ++ map (named c.args.function.now.line) c.as_slice.result.now) c.new-parameters.ensures
    ∙ ap (λ ns. map (named c.args.function.now.line) ns) c.as_slice.ensures in
    head_judged c.args.first c.noted_names-repeated.result c.noted-head.result c.noted_past.result c.args.function.now c.as_slice-3.result.now c.as_slice-4.result.now c.head_reason.result
    (c.as_slice-3.ensures ∙ c.in_ok-sorted.ensures.repeated ∙ ap repeated (c.as_slice-2.ensures ∙ listed)) (c.as_slice-4.ensures ∙ listed) c.head_reason.ensures
    c.noted_names-repeated.ensures c.noted-head.ensures c.noted_past.ensures
