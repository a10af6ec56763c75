-- What was read and checked: it is spelt, and each refusal has one of the reasons that have a text.
use Rattle.std.proofs.Common.{◌≡◌, ℕ, Bool, true, false, ◌||◌, List, Some, Result, Ok, Err, IfErr, IfOk, refl, sym, subst}
use Rattle.scenario_tree.specs.declared.tree.Scenario.{Scenario}
use Rattle.scenario_grammar.specs.declared.place.Place.{Place}
use Rattle.scenario_grammar.specs.Parsed.{reading}
use Rattle.scenario_grammar.specs.ReasonNumbers.{is_rule_reason, is_text_reason}
use Rattle.scenario_lang.specs.declared.text.ParseRefusal.{ParseRefusal}
use Rattle.scenario_lang.specs.declared.text.ParseRefusal.TheVariants as parse
use Rattle.scenario_grammar.specs.Spells.{Spells}
use Rattle.scenario_lang.specs.Lines.{IsSpelt, Parses}
use Rattle.scenario_check.specs.Checks.{IsPlaced}
use Rattle.scenario_rules.specs.Rules.{place_of}
use Rattle.scenario_reading.specs.Judged.{HasReason, IsRefusedWithReason}

text_reason : (p : Place) → is_text_reason p.reason ≡ true → HasReason p
text_reason p h = rw h refl

rule_reason : (p : Place) → is_rule_reason p.reason ≡ true → HasReason p
rule_reason p h = either_way (is_text_reason p.reason)
  where
    either_way : (text : Bool) → (text || is_rule_reason p.reason) ≡ true
    either_way true = refl
    either_way false = h

pub read_has_reason : ((bytes : List ℕ) (p : Place) → reading bytes ≡ Err p → is_text_reason p.reason ≡ true) → (bytes : List ℕ) (e : ParseRefusal)
    → Parses (reading bytes) (Err e) → IsRefusedWithReason e
read_has_reason law bytes (parse.Refused p) h = text_reason p (law bytes p h)
read_has_reason law bytes parse.Memory h = tt

pub placed_has_reason : ((s : Scenario) (p : Place) → place_of s ≡ Some p → is_rule_reason p.reason ≡ true) → (s : Scenario) (r : Result Scenario ParseRefusal)
    → IsPlaced s r → IfErr r IsRefusedWithReason
placed_has_reason law s (Ok c) h = tt
placed_has_reason law s (Err (parse.Refused p)) h = rule_reason p (law s p h.0)
placed_has_reason law s (Err parse.Memory) h = tt

-- the scenario that was checked is the one that the bytes spell
pub still_spelt : (bytes : List ℕ) (s : Scenario) (r : Result Scenario ParseRefusal) → Spells s bytes → IfOk r (λ c. c ≡ s) → IsSpelt bytes r
still_spelt bytes s (Ok c) t e = let P : Scenario → Type 0 = λ x. Spells x bytes in subst P (sym e) t
still_spelt bytes s (Err e) t h = tt
