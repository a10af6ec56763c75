-- Each call of a well-formed scenario has few arguments: as many as some function has parameters, which has no more
-- than it may.
use Rattle.std.proofs.Common.{◌≡◌, ◌≤◌, refl, ◌∙◌, ℕ, Bool, true, false, List, [], ◌∷◌, ◌++◌, length, map, cond, Option, Some, None, inl, inr, arith}
use Rattle.std.proofs.lemmas.Bool.{and_from, and_parts}
use Rattle.std.proofs.lemmas.Bool.Decides.{nat_tests}
use Rattle.std.proofs.lemmas.List.{length-map}
use Rattle.std.proofs.lemmas.List.Folds.{list_all-append}
use Rattle.std.proofs.lemmas.Option.{slice_get_cases}
use Rattle.std.specs.Prelude.{not, ◌==◌, if◌then◌else◌, nat_eq, nat_le, slice_get}
use Rattle.std.specs.List.{flat_map, list_all}
use Rattle.std.specs.Map.{lookup}
use Rattle.std.specs.Option.{is_some}
use Rattle.std.specs.Cmp.Lexicographic.{pointwise}
use Rattle.gv_values.specs.declared.name.Name.{Name}
use Rattle.scenario_tree.specs.declared.tree.Declaration.{Declaration}
use Rattle.scenario_tree.specs.declared.tree.Function.{Function}
use Rattle.scenario_tree.specs.declared.tree.Scenario.{Scenario}
use Rattle.scenario_grammar.specs.declared.reason.RuleReason.{RuleReason}
use Rattle.scenario_grammar.specs.declared.reason.RuleReason.TheVariants as rule
use Rattle.scenario_rules.specs.declared.declared.Declared.{Declared}
use Rattle.scenario_rules.specs.declared.declared.Declared.TheVariants as declared
use Rattle.scenario_rules.specs.declared.mention.Mention.{Mention}
use Rattle.scenario_rules.specs.declared.mention.Named.{Named}
use Rattle.scenario_rules.specs.declared.mention.Says.{Says}
use Rattle.scenario_rules.specs.declared.mention.Says.TheVariants as says
use Rattle.scenario_rules.specs.Declarations.{declarations, declared_as, function_as, function_entry, object_entry, parameters}
use Rattle.scenario_rules.specs.Mention.{block_mentions, mentions, on}
use Rattle.scenario_rules.specs.declared.limits.TheConstants.{MOST_TIMEOUTS}
use Rattle.scenario_rules.specs.Rules.{IsWellFormed, function_refusals, is_undeclared, is_wrong_count, is_wrong_kind, past, refused, refused_names, word_refusals}
use Rattle.scenario_tree.specs.declared.limits.TheConstants.{MOST_PARAMETERS}
use Rattle.body_blocks.specs.Few.{HasFewCalls, has_few_function}
use Rattle.machine_arguments.proofs.Parts.{AreFew, are_few, every-block, few-right, is_few}

-- ---- what is not refused

none-left : {X : Type 0} (xs ys : List X) → xs ++ ys ≡ [] → xs ≡ []
none-left [] ys h = refl
none-left (x ∷ xs) ys h = absurd (cc h)

none-right : {X : Type 0} (xs ys : List X) → xs ++ ys ≡ [] → ys ≡ []
none-right [] ys h = h
none-right (x ∷ xs) ys h = absurd (cc h)

not-refused : (reason : RuleReason) (line : ℕ) (so : Bool) → refused reason line so ≡ [] → so ≡ false
not-refused reason line true h = absurd (cc h)
not-refused reason line false h = refl

no-names : (reason : RuleReason) (names : List Named) → refused_names reason names ≡ [] → names ≡ []
no-names reason [] h = refl
no-names reason (n ∷ ns) h = absurd (cc h)

none-past : (most : ℕ) (names : List Named) → past most names ≡ [] → length names ≤ most
none-past most names h = by (slice_get names most) refl h
  where
    by : (o : Option Named) → slice_get names most ≡ o → ◌≡◌ {A = List Named} (elim o [ None ↦ [] | Some n ↦ n ∷ [] ]) [] → length names ≤ most
    by None e k = elim (slice_get_cases names most).1 [ inl (n, inside, found, same) ↦ absurd (cc (e, found)) | inr (few, none) ↦ few ]
    by (Some n) e k = absurd (cc k)

-- ---- declarations

-- a function that has no more parameters than it may have
abbrev declares_few : Declared → Bool
declares_few (declared.Function count) = nat_le count MOST_PARAMETERS
declares_few d = true

abbrev declares_few_if_any : Option Declared → Bool
declares_few_if_any None = true
declares_few_if_any (Some d) = declares_few d

abbrev is_few_entry : Name × Declared → Bool
is_few_entry e = declares_few e.1

-- what is found is among all that are declared
found-few : (test : Name → Bool) (es : List (Name × Declared)) → list_all is_few_entry es ≡ true → declares_few_if_any (lookup test es) ≡ true
found-few test [] h = refl
found-few test (e ∷ es) h = by (test e.0) (found-few test es both.1)
  where
    both : (is_few_entry e ≡ true) × (list_all is_few_entry es ≡ true)
    both = and_parts (is_few_entry e) (list_all is_few_entry es) h

    by : (b : Bool) → declares_few_if_any (lookup test es) ≡ true → declares_few_if_any (cond b (Some e.1) (lookup test es)) ≡ true
    by true rest = both.0
    by false rest = rest

objects-few : (ds : List Declaration) → list_all is_few_entry (map object_entry ds) ≡ true
objects-few [] = refl
objects-few (d ∷ ds) = objects-few ds

function-few : (f : Function) → length f.parameters ≤ MOST_PARAMETERS → declares_few (function_as f) ≡ true
function-few f h = by f.is_raw
  where
    by : (b : Bool) → declares_few (if b then declared.RawBody else declared.Function (length f.parameters)) ≡ true
    by true = refl
    by false = grind (arith, nat_tests)

parameters-few : (c : Scenario) (f : Function) → function_refusals c f ≡ [] → length f.parameters ≤ MOST_PARAMETERS
parameters-few c f h =
    rw length-map at (none-past MOST_PARAMETERS (parameters f) (no-names rule.TooMany (past MOST_PARAMETERS (parameters f)) (none-right _ _ (none-left _ _ (none-left _ _ h)))))

functions-few : (c : Scenario) (fs : List Function) → flat_map (function_refusals c) fs ≡ [] → list_all is_few_entry (map function_entry fs) ≡ true
functions-few c [] h = refl
functions-few c (f ∷ fs) h =
    and_from (is_few_entry (function_entry f)) (list_all is_few_entry (map function_entry fs)) (function-few f (parameters-few c f (none-left _ _ h)))
    (functions-few c fs (none-right (function_refusals c f) _ h))

declared-few : (c : Scenario) (x : Name) → flat_map (function_refusals c) c.functions ≡ [] → declares_few_if_any (declared_as c x) ≡ true
declared-few c x h =
    found-few (pointwise nat_eq x) (declarations c)
    (list_all-append is_few_entry (map object_entry c.objects) (map function_entry c.functions)
    ∙ and_from (list_all is_few_entry (map object_entry c.objects)) (list_all is_few_entry (map function_entry c.functions)) (objects-few c.objects) (functions-few c c.functions h))

-- ---- calls

-- a call of what is declared, as a function of so many parameters
call-few : (n : ℕ) (o : Option Declared) → declares_few_if_any o ≡ true → not (is_some o) ≡ false →
    ◌≡◌ {A = Bool} (elim o [ Some (declared.Function count) ↦ false | Some d ↦ true | None ↦ false ]) false →
    ◌≡◌ {A = Bool} (elim o [ Some (declared.Function count) ↦ not (n == count) | Some d ↦ false | None ↦ false ]) false →
    nat_le n MOST_PARAMETERS ≡ true
call-few n None h i j k = absurd (cc i)
call-few n (Some (declared.Function count)) h i j k = grind (arith, nat_tests)
call-few n (Some d) h i j k = absurd (cc j)

word-few : (c : Scenario) (f : Function) (m : Mention) → ((x : Name) → declares_few_if_any (declared_as c x) ≡ true) → word_refusals c f m ≡ [] → is_few m.says ≡ true
word-few c f m known h = by m.says (none-left _ _ (none-left _ _ first)) (none-right _ _ (none-left _ _ first)) (none-right _ _ first)
  where
    first : refused rule.Undeclared m.line (is_undeclared c f m.says) ++ refused rule.WrongKind m.line (is_wrong_kind c f m.says) ++ refused rule.WrongCount m.line (is_wrong_count c f m.says) ≡ []
    first = none-left _ _ (none-left _ _ h)

    by : (w : Says) → refused rule.Undeclared m.line (is_undeclared c f w) ≡ [] → refused rule.WrongKind m.line (is_wrong_kind c f w) ≡ [] →
        refused rule.WrongCount m.line (is_wrong_count c f w) ≡ [] → is_few w ≡ true
    by (says.Calls n x) i j k =
        call-few n (declared_as c x) (known x) (not-refused rule.Undeclared m.line (is_undeclared c f (says.Calls n x)) i) (not-refused rule.WrongKind m.line (is_wrong_kind c f (says.Calls n x)) j)
        (not-refused rule.WrongCount m.line (is_wrong_count c f (says.Calls n x)) k)
    by w i j k = refl

words-few : (c : Scenario) (f : Function) (ms : List Mention) → ((x : Name) → declares_few_if_any (declared_as c x) ≡ true) → flat_map (word_refusals c f) ms ≡ [] → AreFew ms
words-few c f [] known h = refl
words-few c f (m ∷ ms) known h =
    and_from (is_few m.says) (are_few ms) (word-few c f m known (none-left _ _ h)) (words-few c f ms known (none-right (word_refusals c f m) _ h))

body-few : (c : Scenario) (f : Function) → ((x : Name) → declares_few_if_any (declared_as c x) ≡ true) → function_refusals c f ≡ [] → has_few_function f ≡ true
body-few c f known h =
    every-block f.body MOST_TIMEOUTS
    (few-right (on f.line (map (λ x. says.Gives x) f.parameters)) (block_mentions MOST_TIMEOUTS f.body)
    (words-few c f (mentions f) known (none-right _ (flat_map (word_refusals c f) (mentions f)) h)))

bodies-few : (c : Scenario) (fs : List Function) → ((x : Name) → declares_few_if_any (declared_as c x) ≡ true) → flat_map (function_refusals c) fs ≡ [] → list_all has_few_function fs ≡ true
bodies-few c [] known h = refl
bodies-few c (f ∷ fs) known h =
    and_from (has_few_function f) (list_all has_few_function fs) (body-few c f known (none-left _ _ h)) (bodies-few c fs known (none-right (function_refusals c f) _ h))

-- each call of a well-formed scenario has few arguments
pub calls-few : (c : Scenario) → IsWellFormed c → HasFewCalls c
unfolding IsWellFormed
calls-few c w =
    let none : flat_map (function_refusals c) c.functions ≡ [] = none-right _ (flat_map (function_refusals c) c.functions) w in
    bodies-few c c.functions (λ x. declared-few c x none) none
