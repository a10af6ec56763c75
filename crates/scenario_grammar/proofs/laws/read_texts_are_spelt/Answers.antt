use Rattle.scenario_grammar.proofs.Sound.{sound}
use Rattle.scenario_grammar.proofs.laws.read_texts_are_spelt.Goals as goal

pub returns : goal.returns
returns c = λ s bytes e. sound s bytes e
