-- Which lines of a scenario break its rules, and why. The rules are this project's own.
use Rattle.std.specs.Prelude.{◌≡◌, ℕ, Bool, true, false, ◌&&◌, ◌||◌, not, nat_lt, ◌==◌, if◌then◌else◌, List, [], ◌∷◌, ◌++◌, map, length, Option, Some, None, slice_get}
use Rattle.std.specs.List.{flat_map}
use Rattle.std.specs.Option.{is_some}
use Rattle.gv_values.specs.declared.name.Name.{Name}
use Rattle.scenario_tree.specs.declared.tree.Function.{Function}
use Rattle.scenario_tree.specs.declared.tree.Scenario.{Scenario}
use Rattle.scenario_tree.specs.declared.limits.TheConstants.{MOST_DECLARED, MOST_FUNCTIONS, MOST_OBJECTS, MOST_PARAMETERS}
use Rattle.scenario_grammar.specs.declared.place.Place.{Place}
use Rattle.scenario_grammar.specs.declared.reason.RuleReason.{RuleReason}
use Rattle.scenario_grammar.specs.declared.reason.RuleReason.TheVariants as rule
use Rattle.scenario_grammar.specs.Reason.{rule_number}
use Rattle.scenario_grammar.specs.Spells.{is_main}
use Rattle.scenario_rules.specs.declared.declared.Declared.TheVariants as declared
use Rattle.scenario_rules.specs.declared.mention.Mention.{Mention}
use Rattle.scenario_rules.specs.declared.mention.Named.{Named}
use Rattle.scenario_rules.specs.declared.mention.Says.{Says}
use Rattle.scenario_rules.specs.declared.mention.Says.TheVariants as says
use Rattle.scenario_rules.specs.Declarations.{declared_as, named_objects, named_functions, repeated, different, parameters, given_names, is_local, is_kind}
use Rattle.scenario_rules.specs.Mention.{mentions}
use Rattle.scenario_rules.specs.declared.limits.TheConstants.{MOST_LOCAL_NAMES}

abbrev pub is_declared : Scenario → Name → Bool
is_declared s x = is_some (declared_as s x)

-- A name is used that nothing declares: in a local's place no object, no function and no local name of the function; in
-- an object's or a function's place no object and no function.
abbrev pub is_undeclared : Scenario → Function → Says → Bool
is_undeclared s f (says.Uses x) = not (is_declared s x) && not (is_local f x)
is_undeclared s f (says.Object kind x) = not (is_declared s x)
is_undeclared s f (says.Calls n x) = not (is_declared s x)
is_undeclared s f (says.Runs x) = not (is_declared s x)
is_undeclared s f _ = false

-- A name stands for what it is not declared as. An object or a function is no local name, wherever it stands as one.
abbrev pub is_wrong_kind : Scenario → Function → Says → Bool
is_wrong_kind s f (says.Uses x) = is_declared s x
is_wrong_kind s f (says.Gives x) = is_declared s x
is_wrong_kind s f (says.Object kind x) = elim (declared_as s x) [ Some (declared.Object o) ↦ not (is_kind kind o) | Some d ↦ true | None ↦ false ]
is_wrong_kind s f (says.Calls n x) = elim (declared_as s x) [ Some (declared.Function count) ↦ false | Some d ↦ true | None ↦ false ]
is_wrong_kind s f (says.Runs x) = elim (declared_as s x) [ Some declared.RawBody ↦ false | Some d ↦ true | None ↦ false ]
is_wrong_kind s f _ = false

-- A function is called with another count of arguments than it has parameters.
abbrev pub is_wrong_count : Scenario → Function → Says → Bool
is_wrong_count s f (says.Calls n x) = elim (declared_as s x) [ Some (declared.Function count) ↦ not (n == count) | Some d ↦ false | None ↦ false ]
is_wrong_count s f _ = false

-- A statement that asks the hub stands in a raw body.
abbrev pub is_hub_in_raw_body : Scenario → Function → Says → Bool
is_hub_in_raw_body s f says.AsksHub = f.is_raw
is_hub_in_raw_body s f _ = false

-- A timeout block stands in `MOST_TIMEOUTS` others.
abbrev pub is_too_deep : Scenario → Function → Says → Bool
is_too_deep s f says.NestsTooDeep = true
is_too_deep s f _ = false

-- the line is refused for this reason, where it is so
abbrev pub refused : RuleReason → ℕ → Bool → List Place
refused reason line so = if so then record { line = line; reason = rule_number reason } ∷ [] else []

-- each line where one of these names stands
abbrev pub refused_names : RuleReason → List Named → List Place
refused_names reason names = map (λ (n : Named). record { line = n.line; reason = rule_number reason }) names

-- the first name past so many
abbrev pub past : ℕ → List Named → List Named
past most names = elim (slice_get names most) [ None ↦ [] | Some n ↦ n ∷ [] ]

-- the most objects of a scenario of this profile
abbrev pub most_objects : ℕ → ℕ
most_objects profile = if nat_lt profile 3 then MOST_OBJECTS else MOST_DECLARED

-- the most functions of a scenario of this profile
abbrev pub most_functions : ℕ → ℕ
most_functions profile = if nat_lt profile 3 then MOST_FUNCTIONS else MOST_DECLARED

-- what a word of a function breaks
abbrev pub word_refusals : Scenario → Function → Mention → List Place
word_refusals s f m =
    refused rule.Undeclared m.line (is_undeclared s f m.says)
    ++ refused rule.WrongKind m.line (is_wrong_kind s f m.says)
    ++ refused rule.WrongCount m.line (is_wrong_count s f m.says)
    ++ refused rule.HubInRawBody m.line (is_hub_in_raw_body s f m.says)
    ++ refused rule.TimeoutsTooDeep m.line (is_too_deep s f m.says)

-- `main` has parameters, or a raw body has not one
abbrev pub is_wrong_head : Function → Bool
is_wrong_head f = if f.is_raw then not (length f.parameters == 1) else is_main f && not (length f.parameters == 0)

-- what a function breaks: two of its parameters have one name, its head has a wrong count of parameters, it has more
-- parameters or local names than there may be, or a word breaks a rule
abbrev pub function_refusals : Scenario → Function → List Place
function_refusals s f =
    refused_names rule.DeclaredTwice (repeated (parameters f))
    ++ refused rule.WrongCount f.line (is_wrong_head f)
    ++ refused_names rule.TooMany (past MOST_PARAMETERS (parameters f))
    ++ refused_names rule.TooMany (past MOST_LOCAL_NAMES (different (given_names f)))
    ++ flat_map (word_refusals s f) (mentions f)

-- the lines that break a rule: too many objects or functions, two of one name, or one in a function
abbrev pub refusals : Scenario → List Place
refusals s =
    refused_names rule.TooMany (past (most_objects s.profile) (named_objects s))
    ++ refused_names rule.TooMany (past (most_functions s.profile) (named_functions s))
    ++ refused_names rule.DeclaredTwice (repeated (named_objects s ++ named_functions s))
    ++ flat_map (function_refusals s) s.functions

-- A scenario is well formed: none of its lines breaks a rule.
unfoldable pub IsWellFormed : Scenario → Type 0
IsWellFormed s = refusals s ≡ []

-- the lesser line, then the lesser reason
abbrev pub is_before : Place → Place → Bool
is_before p q = nat_lt p.line q.line || p.line == q.line && nat_lt p.reason q.reason

-- the first of two places
abbrev pub earlier_place : Option Place → Place → Place
earlier_place None q = q
earlier_place (Some p) q = if is_before q p then q else p

-- the first of a place and of those in a list
abbrev pub first_after : Option Place → List Place → Option Place
first_after p [] = p
first_after p (q ∷ qs) = first_after (Some (earlier_place p q)) qs

-- Where a scenario is refused, if it is: the first line that breaks a rule, and there the least reason.
unfoldable pub place_of : Scenario → Option Place
place_of s = first_after None (refusals s)
