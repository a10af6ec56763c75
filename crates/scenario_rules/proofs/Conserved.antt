-- What keeps the rules keeps them in profile 3.
use Rattle.std.proofs.Common.{◌≡◌, refl, ap, ℕ, ◌≤◌, Bool, true, false, if◌then◌else◌, nat_lt, List, [], ◌∷◌, ◌++◌, Option, Some, None, inl, inr, arith}
use Rattle.std.specs.Prelude.{slice_get}
use Rattle.std.proofs.lemmas.Option.{slice_get_cases}
use Rattle.scenario_tree.specs.declared.limits.TheConstants.{MOST_DECLARED, MOST_FUNCTIONS, MOST_OBJECTS}
use Rattle.scenario_tree.specs.declared.tree.Scenario.{Scenario}
use Rattle.scenario_grammar.specs.declared.reason.RuleReason.{RuleReason}
use Rattle.scenario_grammar.specs.declared.reason.RuleReason.TheVariants as rule
use Rattle.scenario_grammar.specs.Spelt.{in_profile_3}
use Rattle.scenario_rules.specs.declared.mention.Named.{Named}
use Rattle.scenario_rules.specs.Declarations.{named_functions, named_objects}
use Rattle.scenario_rules.specs.Rules.{IsWellFormed, most_functions, most_objects, past, refused_names}

both_empty : {X : Type 0} (xs ys : List X) → xs ++ ys ≡ [] → (xs ≡ []) × (ys ≡ [])
both_empty [] ys h = (refl, h)
both_empty (x ∷ xs) ys h = cc

not_refused : (reason : RuleReason) (names : List Named) → refused_names reason names ≡ [] → names ≡ []
not_refused reason [] h = refl
not_refused reason (n ∷ ns) h = cc

none_past : (found : Option Named) → ◌≡◌ {A = List Named} (elim found [ None ↦ [] | Some n ↦ n ∷ [] ]) [] → found ≡ None
none_past None h = refl
none_past (Some n) h = cc

gone_past : (found : Option Named) → found ≡ None → ◌≡◌ {A = List Named} (elim found [ None ↦ [] | Some n ↦ n ∷ [] ]) []
gone_past None h = refl
gone_past (Some n) h = cc

none_more : (few most : ℕ) (names : List Named) → few ≤ most → slice_get names few ≡ None → slice_get names most ≡ None
none_more few most names l h = elim (slice_get_cases names few).1 [
  | inl (n, inside, found, same) ↦ cc
  | inr (short, none) ↦ (elim (slice_get_cases names most).1 [
    | inl (n, inside, found, same) ↦ absurd (omega (arith, l, short, inside))
    | inr (below, gone) ↦ gone
  ])
]

-- where none is past so many, none is past more
past_more : (few most : ℕ) (names : List Named) → few ≤ most → past few names ≡ [] → past most names ≡ []
past_more few most names l h = gone_past (slice_get names most) (none_more few most names l (none_past (slice_get names few) h))

objects_fit : (profile : ℕ) → most_objects profile ≤ MOST_DECLARED
objects_fit profile = by (nat_lt profile 3)
  where
    by : (b : Bool) → (if b then MOST_OBJECTS else MOST_DECLARED) ≤ MOST_DECLARED
    by true = omega arith
    by false = omega arith

functions_fit : (profile : ℕ) → most_functions profile ≤ MOST_DECLARED
functions_fit profile = by (nat_lt profile 3)
  where
    by : (b : Bool) → (if b then MOST_FUNCTIONS else MOST_DECLARED) ≤ MOST_DECLARED
    by true = omega arith
    by false = omega arith

kept_names : (few most : ℕ) (names : List Named) → few ≤ most → refused_names rule.TooMany (past few names) ≡ [] → refused_names rule.TooMany (past most names) ≡ []
kept_names few most names l h = ap (refused_names rule.TooMany) (past_more few most names l (not_refused rule.TooMany (past few names) h))

pub conserved : (s : Scenario) → IsWellFormed s → IsWellFormed (in_profile_3 s)
unfolding IsWellFormed
conserved s h =
    let one = both_empty _ _ h in
    let two = both_empty _ _ one.0 in
    let three = both_empty _ _ two.0 in
    let objects = kept_names (most_objects s.profile) MOST_DECLARED (named_objects s) (objects_fit s.profile) three.0 in
    let functions = kept_names (most_functions s.profile) MOST_DECLARED (named_functions s) (functions_fit s.profile) three.1 in
    rw (objects, functions, two.1, one.1) refl
