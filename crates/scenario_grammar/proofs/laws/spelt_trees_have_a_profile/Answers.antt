use Rattle.scenario_grammar.proofs.Complete.{has_profile}
use Rattle.scenario_grammar.proofs.laws.spelt_trees_have_a_profile.Goals as goal

pub returns : goal.returns
returns c = λ s h. has_profile s h.0 h.1
