-- What is read is spelt, what is refused is spelt by no tree, and what is printed is read again.
use Rattle.std.proofs.Common.{◌≡◌, ◌≤◌, ◌↔◌, ℕ, List, length, Option, Some, None, Result, Ok, Err, sym, ◌∙◌}
use Rattle.scenario_tree.specs.declared.tree.Scenario.{Scenario}
use Rattle.scenario_grammar.specs.declared.place.Place.{Place}
use Rattle.scenario_grammar.specs.Bare.{bare}
use Rattle.scenario_grammar.specs.Layout.{most_of_profile}
use Rattle.scenario_grammar.specs.Parsed.{reading}
use Rattle.scenario_grammar.specs.Place.{place}
use Rattle.scenario_grammar.specs.Printed.{printed}
use Rattle.scenario_grammar.specs.Spells.{Spells}
use Rattle.scenario_grammar.specs.Spelt.{HasSpelling}
use Rattle.scenario_lang.specs.declared.text.ParseRefusal.{ParseRefusal}
use Rattle.scenario_lang.specs.declared.text.ParseRefusal.TheVariants as parse
use Rattle.scenario_lang.specs.Lines.{IsRefused, IsSpelt, Parses}
use Rattle.scenario_lang.specs.Written.{IsReadAgain, IsWritten}

pub parsed_is_spelt : ((s : Scenario) (bytes : List ℕ) → reading bytes ≡ Ok s → Spells s bytes) → (bytes : List ℕ) (r : Result Scenario ParseRefusal) → Parses (reading bytes) r → IsSpelt bytes r
parsed_is_spelt law bytes (Ok s) h = law s bytes h
parsed_is_spelt law bytes (Err e) h = tt

pub parsed_is_refused : ((bytes : List ℕ) (p : Place) → reading bytes ≡ Err p → place bytes ≡ Some p) → ((bytes : List ℕ) → (place bytes ≡ None) ↔ ((s : Scenario) × Spells s bytes))
    → (bytes : List ℕ) (r : Result Scenario ParseRefusal) → Parses (reading bytes) r → IsRefused bytes r
parsed_is_refused at spelt bytes (Ok s) h = tt
parsed_is_refused at spelt bytes (Err (parse.Refused p)) h = (at bytes p h, λ s t. let n = (spelt bytes).1 (s, t) in let e = at bytes p h in cc)
parsed_is_refused at spelt bytes (Err parse.Memory) h = tt

pub read_again : ((s : Scenario) → HasSpelling s → length (printed s) ≤ most_of_profile s.profile → (t : Scenario) × Spells t (printed s) × (bare s ≡ bare t))
    → ((s : Scenario) (bytes : List ℕ) → Spells s bytes → reading bytes ≡ Ok s) → (s : Scenario) → IsWritten s → IsReadAgain s
read_again spelt read s w few = let t = spelt s w.spelt few in (t.0, (read t.0 (printed s) t.1, t.2))
