use Rattle.std.proofs.Common.{◌≡◌, Result, Ok, sym, ◌∙◌}
use Rattle.scenario_tree.specs.declared.tree.Scenario.{Scenario}
use Rattle.scenario_grammar.specs.declared.place.Place.{Place}
use Rattle.scenario_grammar.proofs.Complete.{complete}
use Rattle.scenario_grammar.proofs.laws.texts_have_one_tree.Goals as goal

same : (s t : Scenario) → (let r : Result Scenario Place = Ok s in r) ≡ Ok t → s ≡ t
same s t e = cc

pub returns : goal.returns
returns c = λ s t bytes h k. same s t (sym (complete s bytes h) ∙ complete t bytes k)
