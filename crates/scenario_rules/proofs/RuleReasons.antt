-- Each place of a refusal has a reason of the rules.
use Rattle.std.proofs.Common.{◌≡◌, refl, sym, ap, ◌∙◌, ℕ, Bool, true, false, ◌&&◌, if◌then◌else◌, List, [], ◌∷◌, ◌++◌, Option, Some, None}
use Rattle.std.specs.List.{flat_map, list_all}
use Rattle.std.proofs.lemmas.Bool.{false≢true}
use Rattle.std.proofs.lemmas.List.Folds.{list_all-append}
use Rattle.scenario_tree.specs.declared.tree.Function.{Function}
use Rattle.scenario_tree.specs.declared.tree.Scenario.{Scenario}
use Rattle.scenario_grammar.specs.declared.place.Place.{Place}
use Rattle.scenario_grammar.specs.declared.reason.RuleReason.{RuleReason}
use Rattle.scenario_grammar.specs.declared.reason.RuleReason.TheVariants as rule
use Rattle.scenario_grammar.specs.Reason.{rule_number}
use Rattle.scenario_grammar.specs.ReasonNumbers.{is_rule_reason}
use Rattle.scenario_rules.specs.declared.mention.Mention.{Mention}
use Rattle.scenario_rules.specs.declared.mention.Named.{Named}
use Rattle.scenario_rules.specs.Declarations.{different, given_names, named_functions, named_objects, parameters, repeated}
use Rattle.scenario_rules.specs.Mention.{mentions}
use Rattle.scenario_rules.specs.Rules.{IsWellFormed, earlier_place, first_after, function_refusals, is_before, is_hub_in_raw_body, is_too_deep, is_undeclared, is_wrong_count, is_wrong_head, is_wrong_kind, most_functions, most_objects, past, place_of, refusals, refused, refused_names, word_refusals}
use Rattle.scenario_rules.specs.declared.limits.TheConstants.{MOST_LOCAL_NAMES}
use Rattle.scenario_tree.specs.declared.limits.TheConstants.{MOST_PARAMETERS}

-- the place has a reason of the rules
abbrev is_by_rule : Place → Bool
is_by_rule p = is_rule_reason p.reason

abbrev are_by_rule : List Place → Bool
are_by_rule ps = list_all is_by_rule ps

-- each place has
record AreByRule (ps : List Place) : Type 0 where
  each : are_by_rule ps ≡ true

both_by_rule : (xs ys : List Place) → AreByRule xs → AreByRule ys → AreByRule (xs ++ ys)
both_by_rule xs ys hx hy = record { each = list_all-append is_by_rule xs ys ∙ ap (λ a. a && are_by_rule ys) hx.each ∙ hy.each }

each_by_rule : {A : Type 0} (f : A → List Place) → ((x : A) → AreByRule (f x)) → (xs : List A) → AreByRule (flat_map f xs)
each_by_rule f each [] = record { each = refl }
each_by_rule f each (x ∷ xs) = both_by_rule (f x) (flat_map f xs) (each x) (each_by_rule f each xs)

by_rule : (r : RuleReason) → is_rule_reason (rule_number r) ≡ true
by_rule rule.Undeclared = refl
by_rule rule.DeclaredTwice = refl
by_rule rule.WrongKind = refl
by_rule rule.WrongCount = refl
by_rule rule.HubInRawBody = refl
by_rule rule.TimeoutsTooDeep = refl
by_rule rule.TooMany = refl

refused_by_rule : (r : RuleReason) (line : ℕ) (so : Bool) → AreByRule (refused r line so)
refused_by_rule r line true = record { each = ap (λ a. a && true) (by_rule r) }
refused_by_rule r line false = record { each = refl }

names_by_rule : (r : RuleReason) (names : List Named) → AreByRule (refused_names r names)
names_by_rule r names = record { each = by names }
  where
    by : (names : List Named) → are_by_rule (refused_names r names) ≡ true
    by [] = refl
    by (n ∷ names) = ap (λ a. a && are_by_rule (refused_names r names)) (by_rule r) ∙ by names

word_by_rule : (s : Scenario) (f : Function) (m : Mention) → AreByRule (word_refusals s f m)
word_by_rule s f m =
    both_by_rule _ (refused rule.TimeoutsTooDeep m.line (is_too_deep s f m.says))
    (both_by_rule _ (refused rule.HubInRawBody m.line (is_hub_in_raw_body s f m.says))
    (both_by_rule _ (refused rule.WrongCount m.line (is_wrong_count s f m.says))
    (both_by_rule (refused rule.Undeclared m.line (is_undeclared s f m.says)) (refused rule.WrongKind m.line (is_wrong_kind s f m.says))
    (refused_by_rule rule.Undeclared m.line (is_undeclared s f m.says)) (refused_by_rule rule.WrongKind m.line (is_wrong_kind s f m.says)))
    (refused_by_rule rule.WrongCount m.line (is_wrong_count s f m.says))) (refused_by_rule rule.HubInRawBody m.line (is_hub_in_raw_body s f m.says))) (refused_by_rule rule.TimeoutsTooDeep m.line (is_too_deep s f m.says))

function_by_rule : (s : Scenario) (f : Function) → AreByRule (function_refusals s f)
function_by_rule s f =
    both_by_rule _ (flat_map (word_refusals s f) (mentions f))
    (both_by_rule _ (refused_names rule.TooMany (past MOST_LOCAL_NAMES (different (given_names f))))
    (both_by_rule _ (refused_names rule.TooMany (past MOST_PARAMETERS (parameters f)))
    (both_by_rule (refused_names rule.DeclaredTwice (repeated (parameters f))) (refused rule.WrongCount f.line (is_wrong_head f))
    (names_by_rule rule.DeclaredTwice (repeated (parameters f))) (refused_by_rule rule.WrongCount f.line (is_wrong_head f)))
    (names_by_rule rule.TooMany (past MOST_PARAMETERS (parameters f))))
    (names_by_rule rule.TooMany (past MOST_LOCAL_NAMES (different (given_names f)))))
    (each_by_rule (word_refusals s f) (word_by_rule s f) (mentions f))

all_by_rule : (s : Scenario) → AreByRule (refusals s)
all_by_rule s =
    both_by_rule _ (flat_map (function_refusals s) s.functions)
    (both_by_rule _ (refused_names rule.DeclaredTwice (repeated (named_objects s ++ named_functions s)))
    (both_by_rule (refused_names rule.TooMany (past (most_objects s.profile) (named_objects s))) (refused_names rule.TooMany (past (most_functions s.profile) (named_functions s)))
    (names_by_rule rule.TooMany (past (most_objects s.profile) (named_objects s))) (names_by_rule rule.TooMany (past (most_functions s.profile) (named_functions s))))
    (names_by_rule rule.DeclaredTwice (repeated (named_objects s ++ named_functions s))))
    (each_by_rule (function_refusals s) (function_by_rule s) s.functions)

-- the earlier of two places is one of them
earlier_by_rule : (p q : Place) → is_by_rule p ≡ true → is_by_rule q ≡ true → is_by_rule (earlier_place (Some p) q) ≡ true
earlier_by_rule p q hp hq = by (is_before q p)
  where
    by : (b : Bool) → is_by_rule (if b then q else p) ≡ true
    by true = hq
    by false = hp

-- of two that are one after the other both
both_of : (a b : Bool) → a && b ≡ true → (a ≡ true) × (b ≡ true)
both_of true b h = (refl, h)
both_of false b h = absurd (false≢true h)

abbrev reason_of : Option Place → Bool
reason_of None = true
reason_of (Some p) = is_by_rule p

first_by_rule : (p : Place) (ps : List Place) → is_by_rule p ≡ true → are_by_rule ps ≡ true → reason_of (first_after (Some p) ps) ≡ true
first_by_rule p [] hp all = hp
first_by_rule p (q ∷ ps) hp all =
    let b = both_of (is_by_rule q) (are_by_rule ps) all in
    first_by_rule (earlier_place (Some p) q) ps (earlier_by_rule p q hp b.0) b.1

pub place_by_rule : (s : Scenario) (p : Place) → place_of s ≡ Some p → is_rule_reason p.reason ≡ true
unfolding place_of
place_by_rule s p e = sym (ap reason_of e) ∙ by (refusals s) (all_by_rule s).each
  where
    by : (ps : List Place) → are_by_rule ps ≡ true → reason_of (first_after None ps) ≡ true
    by [] all = refl
    by (q ∷ ps) all = let b = both_of (is_by_rule q) (are_by_rule ps) all in first_by_rule q ps b.0 b.1

pub no_place : (s : Scenario) → IsWellFormed s → place_of s ≡ None
unfolding place_of IsWellFormed
no_place s w = ap (first_after None) w
