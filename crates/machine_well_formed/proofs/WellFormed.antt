-- The bodies of a well-formed scenario fit.
use Rattle.std.proofs.Common.{◌≡◌, refl, ap, ◌∙◌, sym, ℕ, suc, ◌+◌, Bool, true, false, List, [], ◌∷◌, ◌++◌, map, cond, arith}
use Rattle.std.proofs.lemmas.Bool.{and_from}
use Rattle.std.proofs.lemmas.Bool.Decides.{nat_tests}
use Rattle.std.proofs.lemmas.List.Folds.{list_all-append}
use Rattle.std.specs.Cmp.Lexicographic.{pointwise}
use Rattle.std.specs.List.{flat_map, list_all}
use Rattle.std.specs.Map.{lookup}
use Rattle.std.specs.Option.{is_some}
use Rattle.std.specs.Prelude.{not, nat_eq, if◌then◌else◌, Option, Some, None, slice_get, unwrap_or, length, nat_lt}
use Rattle.gv_values.specs.declared.name.Name.{Name}
use Rattle.scenario_tree.specs.declared.tree.Declaration.{Declaration}
use Rattle.scenario_tree.specs.declared.tree.Function.{Function}
use Rattle.scenario_tree.specs.declared.tree.Object.{Object}
use Rattle.scenario_tree.specs.declared.tree.Scenario.{Scenario}
use Rattle.scenario_grammar.specs.declared.reason.RuleReason.{RuleReason}
use Rattle.scenario_grammar.specs.declared.reason.RuleReason.TheVariants as reason
use Rattle.scenario_rules.specs.declared.declared.Declared.{Declared}
use Rattle.scenario_rules.specs.declared.declared.Declared.TheVariants as declared
use Rattle.scenario_rules.specs.declared.mention.Mention.{Mention}
use Rattle.scenario_rules.specs.declared.mention.Says.{Says}
use Rattle.scenario_rules.specs.declared.mention.Says.TheVariants as says
use Rattle.scenario_rules.specs.declared.mention.Wanted.{Wanted}
use Rattle.scenario_rules.specs.Declarations.{declared_as, function_as, function_entry, named_functions, named_objects, object_entry, parameters, repeated, different, given_names, is_kind}
use Rattle.scenario_rules.specs.Mention.{block_mentions, mentions, on}
use Rattle.scenario_rules.specs.declared.limits.TheConstants.{MOST_LOCAL_NAMES, MOST_TIMEOUTS}
use Rattle.scenario_tree.specs.declared.limits.TheConstants.{MOST_PARAMETERS}
use Rattle.scenario_rules.specs.Rules.{IsWellFormed, function_refusals, is_hub_in_raw_body, is_too_deep, is_undeclared, is_wrong_count, is_wrong_head, is_wrong_kind, most_functions, most_objects, past, refused, refused_names, word_refusals}
use Rattle.machine.specs.Expressions.{function_number, object_number}
use Rattle.machine.specs.Greenlets.{no_function}
use Rattle.machine.proofs.Halves.{right}
use Rattle.machine_well_formed.specs.Texts.{IsFitText, fits, is_fit_function, is_raw_function, may_say, is_function, is_wanted}

none-left : {X : Type 0} (xs ys : List X) → xs ++ ys ≡ [] → xs ≡ []
none-left [] ys h = refl
none-left (x ∷ xs) ys h = absurd (cc h)

none-right : {X : Type 0} (xs ys : List X) → xs ++ ys ≡ [] → ys ≡ []
none-right [] ys h = h
none-right (x ∷ xs) ys h = absurd (cc h)

-- nothing comes of any
none-each : {X Y : Type 0} (f : X → List Y) (p : X → Bool) → ((x : X) → f x ≡ [] → p x ≡ true) → (xs : List X) → flat_map f xs ≡ [] → list_all p xs ≡ true
none-each f p g [] h = refl
none-each f p g (x ∷ xs) h = and_from (p x) _ (g x (none-left (f x) (flat_map f xs) h)) (none-each f p g xs (none-right (f x) (flat_map f xs) h))

unrefused : (why : RuleReason) (line : ℕ) (so : Bool) → refused why line so ≡ [] → so ≡ false
unrefused why line true h = absurd (cc h)
unrefused why line false h = refl

-- ---- a name that is declared as a raw body is that of one

function-raw : (fs : List Function) (x : Name) → lookup (pointwise nat_eq x) (map function_entry fs) ≡ Some declared.RawBody →
    (unwrap_or (slice_get fs (function_number x fs)) no_function).is_raw ≡ true
function-raw [] x h = absurd (cc h)
function-raw (f ∷ fs) x h = by (pointwise nat_eq x f.name) h (function-raw fs x)
  where
    own : (b : Bool) → f.is_raw ≡ b → Some (if b then declared.RawBody else declared.Function (length f.parameters)) ≡ Some declared.RawBody → f.is_raw ≡ true
    own true e h = e
    own false e h = absurd (cc h)

    later : (n : ℕ) → slice_get (f ∷ fs) (n + 1) ≡ slice_get fs n
    later n = let e : n + 1 ≡ suc n = omega arith in ap (slice_get (f ∷ fs)) e

    by : (b : Bool) → cond b (Some (function_as f)) (lookup (pointwise nat_eq x) (map function_entry fs)) ≡ Some declared.RawBody →
        (lookup (pointwise nat_eq x) (map function_entry fs) ≡ Some declared.RawBody → (unwrap_or (slice_get fs (function_number x fs)) no_function).is_raw ≡ true) →
        (unwrap_or (slice_get (f ∷ fs) (if b then 0 else function_number x fs + 1)) no_function).is_raw ≡ true
    by true e rest = own f.is_raw refl e
    by false e rest = ap (λ (o : Option Function). (unwrap_or o no_function).is_raw) (later (function_number x fs)) ∙ rest e

object-none : (ds : List Declaration) (x : Name) (es : List (Name × Declared)) → lookup (pointwise nat_eq x) (map object_entry ds ++ es) ≡ Some declared.RawBody →
    lookup (pointwise nat_eq x) es ≡ Some declared.RawBody
object-none [] x es h = h
object-none (d ∷ ds) x es h = by (pointwise nat_eq x d.name) h (object-none ds x es)
  where
    by : (b : Bool) → cond b (Some (declared.Object d.object)) (lookup (pointwise nat_eq x) (map object_entry ds ++ es)) ≡ Some declared.RawBody →
        (lookup (pointwise nat_eq x) (map object_entry ds ++ es) ≡ Some declared.RawBody → lookup (pointwise nat_eq x) es ≡ Some declared.RawBody) → lookup (pointwise nat_eq x) es ≡ Some declared.RawBody
    by true e rest = absurd (cc e)
    by false e rest = rest e

raw-declared : (c : Scenario) (x : Name) → declared_as c x ≡ Some declared.RawBody → is_raw_function c (function_number x c.functions) ≡ true
raw-declared c x h = function-raw c.functions x (object-none c.objects x (map function_entry c.functions) h)

-- a name that is declared as a function or an object has its number
function-there : (fs : List Function) (x : Name) (n : ℕ) → lookup (pointwise nat_eq x) (map function_entry fs) ≡ Some (declared.Function n) → nat_lt (function_number x fs) (length fs) ≡ true
function-there [] x n h = absurd (cc h)
function-there (f ∷ fs) x n h = by (pointwise nat_eq x f.name) h (function-there fs x n)
  where
    first : nat_lt 0 (length (f ∷ fs)) ≡ true
    first = grind (arith, nat_tests)

    later : nat_lt (function_number x fs) (length fs) ≡ true → nat_lt (function_number x fs + 1) (length (f ∷ fs)) ≡ true
    later e = grind (arith, nat_tests, e)

    by : (b : Bool) → cond b (Some (function_as f)) (lookup (pointwise nat_eq x) (map function_entry fs)) ≡ Some (declared.Function n) →
        (lookup (pointwise nat_eq x) (map function_entry fs) ≡ Some (declared.Function n) → nat_lt (function_number x fs) (length fs) ≡ true) →
        nat_lt (if b then 0 else function_number x fs + 1) (length (f ∷ fs)) ≡ true
    by true e rest = first
    by false e rest = later (rest e)

object-none-function : (ds : List Declaration) (x : Name) (n : ℕ) (es : List (Name × Declared)) → lookup (pointwise nat_eq x) (map object_entry ds ++ es) ≡ Some (declared.Function n) →
    lookup (pointwise nat_eq x) es ≡ Some (declared.Function n)
object-none-function [] x n es h = h
object-none-function (d ∷ ds) x n es h = by (pointwise nat_eq x d.name) h (object-none-function ds x n es)
  where
    by : (b : Bool) → cond b (Some (declared.Object d.object)) (lookup (pointwise nat_eq x) (map object_entry ds ++ es)) ≡ Some (declared.Function n) →
        (lookup (pointwise nat_eq x) (map object_entry ds ++ es) ≡ Some (declared.Function n) → lookup (pointwise nat_eq x) es ≡ Some (declared.Function n)) → lookup (pointwise nat_eq x) es ≡ Some (declared.Function n)
    by true e rest = absurd (cc e)
    by false e rest = rest e

-- no function is declared as an object
no-object : (fs : List Function) (x : Name) (o : Object) → lookup (pointwise nat_eq x) (map function_entry fs) ≡ Some (declared.Object o) → ⊥
no-object [] x o h = cc h
no-object (f ∷ fs) x o h = by (pointwise nat_eq x f.name) f.is_raw h (no-object fs x o)
  where
    by : (b raw : Bool) → cond b (Some (if raw then declared.RawBody else declared.Function (length f.parameters))) (lookup (pointwise nat_eq x) (map function_entry fs)) ≡ Some (declared.Object o) →
        (lookup (pointwise nat_eq x) (map function_entry fs) ≡ Some (declared.Object o) → ⊥) → ⊥
    by true true e rest = cc e
    by true false e rest = cc e
    by false raw e rest = rest e

-- the object of the name is the one that is declared so
abbrev declared-at : List Declaration → ℕ → Option Object
declared-at ds n = elim (slice_get ds n) [ Some d ↦ Some d.object | None ↦ None ]

object-there : (ds : List Declaration) (fs : List Function) (x : Name) (o : Object) → lookup (pointwise nat_eq x) (map object_entry ds ++ map function_entry fs) ≡ Some (declared.Object o) →
    declared-at ds (object_number x ds) ≡ Some o
object-there [] fs x o h = absurd (no-object fs x o h)
object-there (d ∷ ds) fs x o h = by (pointwise nat_eq x d.name) h (object-there ds fs x o)
  where
    later : (n : ℕ) → slice_get (d ∷ ds) (n + 1) ≡ slice_get ds n
    later n = let e : n + 1 ≡ suc n = omega arith in ap (slice_get (d ∷ ds)) e

    own : Some (declared.Object d.object) ≡ Some (declared.Object o) → Some d.object ≡ Some o
    own e = cc e

    by : (b : Bool) → cond b (Some (declared.Object d.object)) (lookup (pointwise nat_eq x) (map object_entry ds ++ map function_entry fs)) ≡ Some (declared.Object o) →
        (lookup (pointwise nat_eq x) (map object_entry ds ++ map function_entry fs) ≡ Some (declared.Object o) → declared-at ds (object_number x ds) ≡ Some o) →
        declared-at (d ∷ ds) (if b then 0 else object_number x ds + 1) ≡ Some o
    by true e rest = own e
    by false e rest = ap (λ (z : Option Declaration). elim z [ Some y ↦ Some y.object | None ↦ None ]) (later (object_number x ds)) ∙ rest e

calls-known : (c : Scenario) (f : Function) (n : ℕ) (x : Name) → is_undeclared c f (says.Calls n x) ≡ false → is_wrong_kind c f (says.Calls n x) ≡ false → is_function c (function_number x c.functions) ≡ true
calls-known c f n x u w = by (declared_as c x) refl u w
  where
    by : (o : Option Declared) → declared_as c x ≡ o → not (is_some o) ≡ false → ◌≡◌ {A = Bool} (elim o [ Some (declared.Function count) ↦ false | Some d ↦ true | None ↦ false ]) false →
        is_function c (function_number x c.functions) ≡ true
    by None e u w = absurd (cc u)
    by (Some (declared.Function m)) e u w = function-there c.functions x m (object-none-function c.objects x m (map function_entry c.functions) e)
    by (Some declared.RawBody) e u w = absurd (cc w)
    by (Some (declared.Object o)) e u w = absurd (cc w)

object-known : (c : Scenario) (f : Function) (kind : Wanted) (x : Name) → is_undeclared c f (says.Object kind x) ≡ false → is_wrong_kind c f (says.Object kind x) ≡ false →
    is_wanted c kind (object_number x c.objects) ≡ true
object-known c f kind x u w = by (declared_as c x) refl u w
  where
    right-kind : (b : Bool) → not b ≡ false → b ≡ true
    right-kind true h = refl
    right-kind false h = absurd (cc h)

    of : (z : Option Declaration) (o : Object) → ◌≡◌ {A = Option Object} (elim z [ Some d ↦ Some d.object | None ↦ None ]) (Some o) → is_kind kind o ≡ true →
        ◌≡◌ {A = Bool} (elim z [ Some d ↦ is_kind kind d.object | None ↦ false ]) true
    of None o e k = absurd (cc e)
    of (Some d) o e k = let same : d.object ≡ o = cc e in ap (is_kind kind) same ∙ k

    by : (o : Option Declared) → declared_as c x ≡ o → not (is_some o) ≡ false → ◌≡◌ {A = Bool} (elim o [ Some (declared.Object p) ↦ not (is_kind kind p) | Some d ↦ true | None ↦ false ]) false →
        is_wanted c kind (object_number x c.objects) ≡ true
    by None e u w = absurd (cc u)
    by (Some (declared.Object o)) e u w = of (slice_get c.objects (object_number x c.objects)) o (object-there c.objects c.functions x o e) (right-kind (is_kind kind o) w)
    by (Some (declared.Function m)) e u w = absurd (cc w)
    by (Some declared.RawBody) e u w = absurd (cc w)

-- ---- words

runs-raw : (c : Scenario) (f : Function) (x : Name) → is_undeclared c f (says.Runs x) ≡ false → is_wrong_kind c f (says.Runs x) ≡ false → declared_as c x ≡ Some declared.RawBody
runs-raw c f x u w = by (declared_as c x) u w
  where
    by : (o : Option Declared) → not (is_some o) ≡ false → ◌≡◌ {A = Bool} (elim o [ Some declared.RawBody ↦ false | Some d ↦ true | None ↦ false ]) false → o ≡ Some declared.RawBody
    by None u w = absurd (cc u)
    by (Some declared.RawBody) u w = refl
    by (Some (declared.Object o)) u w = absurd (cc w)
    by (Some (declared.Function n)) u w = absurd (cc w)

not-it : (b : Bool) → b ≡ false → not b ≡ true
not-it true e = absurd (cc e)
not-it false e = refl

word-fits : (c : Scenario) (f : Function) (s : Says) → is_undeclared c f s ≡ false → is_wrong_kind c f s ≡ false → is_hub_in_raw_body c f s ≡ false → is_too_deep c f s ≡ false →
    may_say c (not f.is_raw) s ≡ true
word-fits c f says.AsksHub u w h d = not-it f.is_raw h
word-fits c f says.NestsTooDeep u w h d = absurd (cc d)
word-fits c f (says.Runs x) u w h d = raw-declared c x (runs-raw c f x u w)
word-fits c f (says.Uses x) u w h d = refl
word-fits c f (says.Gives x) u w h d = refl
word-fits c f (says.Object k x) u w h d = object-known c f k x u w
word-fits c f (says.Calls n x) u w h d = calls-known c f n x u w

mention-fits : (c : Scenario) (f : Function) (m : Mention) → word_refusals c f m ≡ [] → may_say c (not f.is_raw) m.says ≡ true
mention-fits c f m h =
    let deep = none-right (refused reason.Undeclared m.line (is_undeclared c f m.says) ++ refused reason.WrongKind m.line (is_wrong_kind c f m.says) ++ refused reason.WrongCount m.line (is_wrong_count c f m.says)
    ++ refused reason.HubInRawBody m.line (is_hub_in_raw_body c f m.says)) (refused reason.TimeoutsTooDeep m.line (is_too_deep c f m.says)) h in
    let four = none-left (refused reason.Undeclared m.line (is_undeclared c f m.says) ++ refused reason.WrongKind m.line (is_wrong_kind c f m.says) ++ refused reason.WrongCount m.line (is_wrong_count c f m.says)
    ++ refused reason.HubInRawBody m.line (is_hub_in_raw_body c f m.says)) (refused reason.TimeoutsTooDeep m.line (is_too_deep c f m.says)) h in
    let raw = none-right (refused reason.Undeclared m.line (is_undeclared c f m.says) ++ refused reason.WrongKind m.line (is_wrong_kind c f m.says) ++ refused reason.WrongCount m.line (is_wrong_count c f m.says))
    (refused reason.HubInRawBody m.line (is_hub_in_raw_body c f m.says)) four in
    let three = none-left (refused reason.Undeclared m.line (is_undeclared c f m.says) ++ refused reason.WrongKind m.line (is_wrong_kind c f m.says) ++ refused reason.WrongCount m.line (is_wrong_count c f m.says))
    (refused reason.HubInRawBody m.line (is_hub_in_raw_body c f m.says)) four in
    let two = none-left (refused reason.Undeclared m.line (is_undeclared c f m.says) ++ refused reason.WrongKind m.line (is_wrong_kind c f m.says)) (refused reason.WrongCount m.line (is_wrong_count c f m.says)) three in
    word-fits c f m.says
    (unrefused reason.Undeclared m.line _ (none-left (refused reason.Undeclared m.line (is_undeclared c f m.says)) (refused reason.WrongKind m.line (is_wrong_kind c f m.says)) two))
    (unrefused reason.WrongKind m.line _ (none-right (refused reason.Undeclared m.line (is_undeclared c f m.says)) (refused reason.WrongKind m.line (is_wrong_kind c f m.says)) two))
    (unrefused reason.HubInRawBody m.line _ raw) (unrefused reason.TimeoutsTooDeep m.line _ deep)

-- ---- functions

function-fits : (c : Scenario) (f : Function) → function_refusals c f ≡ [] → is_fit_function c f ≡ true
function-fits c f h =
    let words = none-right (refused_names reason.DeclaredTwice (repeated (parameters f)) ++ refused reason.WrongCount f.line (is_wrong_head f) ++ refused_names reason.TooMany (past MOST_PARAMETERS (parameters f))
    ++ refused_names reason.TooMany (past MOST_LOCAL_NAMES (different (given_names f)))) (flat_map (word_refusals c f) (mentions f)) h in
    let all : fits c (not f.is_raw) (mentions f) ≡ true = none-each (word_refusals c f) (λ (m : Mention). may_say c (not f.is_raw) m.says) (mention-fits c f) (mentions f) words in
    right (fits c (not f.is_raw) (on f.line (map (λ x. says.Gives x) f.parameters))) _
    (sym (list_all-append (λ (m : Mention). may_say c (not f.is_raw) m.says) (on f.line (map (λ x. says.Gives x) f.parameters)) (block_mentions MOST_TIMEOUTS f.body)) ∙ all)

pub well-formed-fits : (c : Scenario) → IsWellFormed c → IsFitText c
unfolding IsWellFormed
well-formed-fits c h =
    none-each (function_refusals c) (is_fit_function c) (function-fits c) c.functions
    (none-right (refused_names reason.TooMany (past (most_objects c.profile) (named_objects c)) ++ refused_names reason.TooMany (past (most_functions c.profile) (named_functions c))
    ++ refused_names reason.DeclaredTwice (repeated (named_objects c ++ named_functions c))) (flat_map (function_refusals c) c.functions) h)
