use Rattle.std.proofs.Common.{◌∙◌, ap, sym, ◌++◌, None}
use Rattle.std.specs.List.{flat_map}
use Rattle.scenario_rules.specs.Declarations.{named_functions, named_objects, repeated}
use Rattle.scenario_grammar.specs.declared.reason.RuleReason.TheVariants as rule
use Rattle.scenario_rules.specs.Rules.{first_after, function_refusals, most_functions, most_objects, past, place_of, refused_names}
use Rattle.scenario_check.proofs.FirstPlace.{first_both}
use Rattle.scenario_check.proofs.judge.place.Goals as goal

pub returns : goal.returns
unfolding place_of
returns c =
    let s = c.args.scenario.now in
    let declared = refused_names rule.TooMany (past (most_objects s.profile) (named_objects s)) ++ refused_names rule.TooMany (past (most_functions s.profile) (named_functions s))
    ++ refused_names rule.DeclaredTwice (repeated (named_objects s ++ named_functions s)) in
    c.in_ok-judge_functions.ensures s c.in_ok-names.ensures
    ∙ ap (λ p. first_after p (flat_map (function_refusals s) c.as_slice.result.now)) c.in_ok-first.ensures
    ∙ ap (λ fs. first_after (first_after None declared) (flat_map (function_refusals s) fs)) c.as_slice.ensures
    ∙ sym (first_both None declared (flat_map (function_refusals s) s.functions))
