use Rattle.scenario_grammar.proofs.Complete.{complete}
use Rattle.scenario_grammar.proofs.Placed.{accepted, read_there, refused_there}
use Rattle.scenario_grammar.proofs.Refused.{refused_so}
use Rattle.scenario_grammar.proofs.Sound.{sound}
use Rattle.scenario_grammar.proofs.laws.texts_without_a_place_are_spelt.Goals as goal

pub returns-clause-refused : goal.returns-clause-refused
returns-clause-refused c = λ bytes p e. refused_there bytes p e

pub returns-clause-reason : goal.returns-clause-reason
returns-clause-reason c = λ bytes p e. refused_so bytes p e

pub returns-clause-spelt : goal.returns-clause-spelt
returns-clause-spelt c = λ bytes. (λ none. let r = read_there bytes none in (r.0, sound r.0 bytes r.1), λ h. accepted bytes h.0 (complete h.0 bytes h.1))
