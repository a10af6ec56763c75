-- The first place of two lists, one after the other.
use Rattle.std.proofs.Common.{◌≡◌, refl, sym, ap, ◌∙◌, List, [], ◌∷◌, ◌++◌, Option, Some, None}
use Rattle.std.proofs.lemmas.Bool.{false≢true}
use Rattle.std.specs.Option.{is_some}
use Rattle.scenario_tree.specs.declared.tree.Scenario.{Scenario}
use Rattle.scenario_grammar.specs.declared.place.Place.{Place}
use Rattle.scenario_rules.specs.Rules.{IsWellFormed, earlier_place, first_after, place_of, refusals}

pub first_both : (p : Option Place) (xs ys : List Place) → first_after p (xs ++ ys) ≡ first_after (first_after p xs) ys
first_both p [] ys = refl
first_both p (x ∷ xs) ys = first_both (Some (earlier_place p x)) xs ys

never_none : (p : Place) (ps : List Place) → first_after (Some p) ps ≡ None → ⊥
never_none p [] h = false≢true (sym (ap is_some h))
never_none p (q ∷ qs) h = never_none (earlier_place (Some p) q) qs h

-- a scenario without a place is well formed
pub well_formed : (s : Scenario) → place_of s ≡ None → IsWellFormed s
unfolding place_of IsWellFormed
well_formed s h = none_by (refusals s) h
  where
    none_by : (ps : List Place) → first_after None ps ≡ None → ps ≡ []
    none_by [] h = refl
    none_by (p ∷ ps) h = absurd (never_none p ps h)

-- a scenario with a place is not
pub not_well_formed : (s : Scenario) (p : Place) → place_of s ≡ Some p → IsWellFormed s → ⊥
unfolding place_of IsWellFormed
not_well_formed s p h w = false≢true (ap is_some (sym (ap (λ ps. first_after None ps) w) ∙ h))
