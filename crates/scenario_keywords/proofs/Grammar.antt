-- The roles of the fixed words are those that the grammar gives them.
use Rattle.std.proofs.Common.{◌≡◌, refl}
use Rattle.scenario_grammar.specs.declared.keyword.Keyword.{Keyword}
use Rattle.scenario_grammar.specs.declared.keyword.Keyword.TheVariants as k
use Rattle.scenario_grammar.specs.Place.{role_by}
use Rattle.scenario_grammar.specs.Reading.{gives}
use Rattle.scenario_keywords.specs.Roles.{gives_value, grammar_role, role_of_word}

pub grammar_roles : (word : Keyword) → grammar_role (role_of_word word) ≡ role_by word
grammar_roles k.Profile = refl
grammar_roles _ = refl

pub grammar_gives : (word : Keyword) → gives_value (role_of_word word) ≡ gives word
grammar_gives k.Profile = refl
grammar_gives _ = refl
