use Rattle.scenario_grammar.proofs.Printing.{third_spelt}
use Rattle.scenario_grammar.proofs.laws.spelt_trees_are_of_profile_3.Goals as goal

pub returns : goal.returns
returns c = λ s h short. third_spelt s h.0 h.1 short
