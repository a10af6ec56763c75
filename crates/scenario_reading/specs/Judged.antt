-- What comes of the bytes of a text: its well-formed scenario, or the place where it is refused.
use Rattle.std.specs.Prelude.{IsTrue, ℕ, List, Some, None, Ok, Err, Result}
use Rattle.scenario_tree.specs.declared.tree.Scenario.{Scenario}
use Rattle.scenario_grammar.specs.declared.place.Place.{Place}
use Rattle.scenario_grammar.specs.Parsed.{reading}
use Rattle.scenario_grammar.specs.ReasonNumbers.{is_reason}
use Rattle.scenario_rules.specs.Rules.{place_of}
use Rattle.scenario_lang.specs.declared.text.ParseRefusal.{ParseRefusal}
use Rattle.scenario_lang.specs.declared.text.ParseRefusal.TheVariants as parse

-- a scenario, unless it breaks a rule, or the first place where it does
abbrev pub checked : Scenario → Result Scenario Place
checked s = elim (place_of s) [ None ↦ Ok s | Some place ↦ Err place ]

-- the well-formed scenario that the bytes spell, or the place where they are refused
abbrev pub judged_text : List ℕ → Result Scenario Place
judged_text bytes = elim (reading bytes) [ Ok s ↦ checked s | Err place ↦ Err place ]

-- the place has one of the reasons
abbrev pub HasReason : Place → Type 0
HasReason place = IsTrue (is_reason place.reason)

abbrev pub IsRefusedWithReason : ParseRefusal → Type 0
IsRefusedWithReason (parse.Refused place) = HasReason place
IsRefusedWithReason parse.Memory = Unit {0}
