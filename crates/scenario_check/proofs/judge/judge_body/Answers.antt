use Rattle.std.proofs.Common.{◌≡◌, ◌∙◌, ◌++◌, ap}
use Rattle.std.specs.List.{flat_map}
use Rattle.scenario_rules.specs.Declarations.{given_by}
use Rattle.name_table.specs.Tables.{found}
use Rattle.scenario_check.proofs.Judged.{body_judged}
use Rattle.scenario_check.proofs.judge.judge_body.Goals as goal

pub returns : goal.returns
returns c = λ s h.
    let listed : c.as_slice.result.now ≡ flat_map given_by c.args.said.now =
    c.as_slice.ensures ∙ c.in_ok-add_all_given.ensures ∙ ap (λ z. z ++ flat_map given_by c.args.said.now) c.new-given.ensures in
    body_judged s c.args.function.now c.args.first c.noted_past-past.result c.noted_words.result (found c.args.names.now) (found c.in_ok-locals.locals.names) c.as_slice.result.now c.as_slice-2.result.now c.args.said.now
    h c.requires listed c.in_ok-locals.ensures.names (c.as_slice-2.ensures ∙ c.in_ok-locals.ensures.different) c.noted_past-past.ensures c.noted_words.ensures
