use Rattle.scenario_grammar.proofs.Complete.{complete}
use Rattle.scenario_grammar.proofs.laws.spelt_texts_are_read.Goals as goal

pub returns : goal.returns
returns c = λ s bytes h. complete s bytes h
