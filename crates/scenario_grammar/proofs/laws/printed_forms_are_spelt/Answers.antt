use Rattle.scenario_grammar.proofs.Printing.{printing}
use Rattle.scenario_grammar.proofs.laws.printed_forms_are_spelt.Goals as goal

pub returns : goal.returns
returns c = λ s h short. printing s h.0 h.1 short
