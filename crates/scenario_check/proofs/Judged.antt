-- That a function is judged by its words.
use Rattle.std.proofs.Common.{◌≡◌, refl, sym, ap, ◌∙◌, ℕ, Bool, true, false, ◌&&◌, ◌==◌, not, if◌then◌else◌, List, [], ◌∷◌, ◌++◌, map, nat_eq, append_assoc, Option, Some, None}
use Rattle.std.specs.List.{flat_map}
use Rattle.std.specs.Option.{is_some}
use Rattle.gv_values.specs.declared.name.Name.{Name}
use Rattle.scenario_tree.specs.declared.tree.Function.{Function}
use Rattle.scenario_tree.specs.declared.tree.Scenario.{Scenario}
use Rattle.scenario_grammar.specs.declared.place.Place.{Place}
use Rattle.scenario_grammar.specs.declared.reason.RuleReason.{RuleReason}
use Rattle.scenario_grammar.specs.declared.reason.RuleReason.TheVariants as rule
use Rattle.scenario_rules.specs.declared.declared.Declared.{Declared}
use Rattle.scenario_rules.specs.declared.declared.Declared.TheVariants as declared
use Rattle.scenario_rules.specs.declared.mention.Mention.{Mention}
use Rattle.scenario_rules.specs.declared.mention.Says.{Says}
use Rattle.scenario_rules.specs.declared.mention.Says.TheVariants as says
use Rattle.scenario_rules.specs.declared.mention.Wanted.{Wanted}
use Rattle.scenario_rules.specs.declared.mention.Named.{Named}
use Rattle.scenario_rules.specs.Declarations.{declared_as, different, given_by, given_names, is_among, is_kind, is_local, parameters, repeated}
use Rattle.scenario_rules.specs.Mention.{mentions}
use Rattle.scenario_rules.specs.Rules.{first_after, function_refusals, is_wrong_head, past, refused, refused_names, word_refusals}
use Rattle.scenario_rules.specs.declared.limits.TheConstants.{MOST_LOCAL_NAMES}
use Rattle.scenario_tree.specs.declared.limits.TheConstants.{MOST_PARAMETERS}
use Rattle.scenario_check.specs.Sorting.{pair}
use Rattle.scenario_check.proofs.FirstPlace.{first_both}
use Rattle.scenario_check.proofs.Sorting.{among_by}
use Rattle.std.specs.Cmp.Lexicographic.{pointwise}
use Rattle.std.specs.Map.{lookup}
use Rattle.scenario_check.specs.Words.{call_reason, object_reason, placed, run_reason, use_reason, word_reason}

pub refused_if : (r : RuleReason) (line : ℕ) (b : Bool) → placed line (if b then Some r else None) ≡ refused r line b
refused_if r line true = refl
refused_if r line false = refl

uses : (line : ℕ) (d : Option Declared) (l : Bool) → refused rule.Undeclared line (not (is_some d) && not l) ++ refused rule.WrongKind line (is_some d) ++ [] ++ [] ++ [] ≡ placed line (use_reason d l)
uses line (Some d) l = refl
uses line None true = refl
uses line None false = refl

objects : (line : ℕ) (kind : Wanted) (d : Option Declared) →
    refused rule.Undeclared line (not (is_some d))
    ++ refused rule.WrongKind line (elim d [ Some (declared.Object o) ↦ not (is_kind kind o) | Some d ↦ true | None ↦ false ]) ++ [] ++ [] ++ [] ≡ placed line (object_reason kind d)
objects line kind None = refl
objects line kind (Some (declared.Object o)) = by (is_kind kind o)
  where
    by : (b : Bool) → refused rule.WrongKind line (not b) ++ [] ++ [] ++ [] ≡ placed line (if b then None else Some rule.WrongKind)
    by true = refl
    by false = refl
objects line kind (Some (declared.Function n)) = refl
objects line kind (Some declared.RawBody) = refl

calls : (line n : ℕ) (d : Option Declared) →
    refused rule.Undeclared line (not (is_some d))
    ++ refused rule.WrongKind line (elim d [ Some (declared.Function count) ↦ false | Some d ↦ true | None ↦ false ])
    ++ refused rule.WrongCount line (elim d [ Some (declared.Function count) ↦ not (n == count) | Some d ↦ false | None ↦ false ]) ++ [] ++ [] ≡ placed line (call_reason n d)
calls line n None = refl
calls line n (Some (declared.Object o)) = refl
calls line n (Some (declared.Function count)) = by (n == count)
  where
    by : (b : Bool) → refused rule.WrongCount line (not b) ++ [] ++ [] ≡ placed line (if b then None else Some rule.WrongCount)
    by true = refl
    by false = refl
calls line n (Some declared.RawBody) = refl

runs : (line : ℕ) (d : Option Declared) →
    refused rule.Undeclared line (not (is_some d))
    ++ refused rule.WrongKind line (elim d [ Some declared.RawBody ↦ false | Some d ↦ true | None ↦ false ]) ++ [] ++ [] ++ [] ≡ placed line (run_reason d)
runs line None = refl
runs line (Some (declared.Object o)) = refl
runs line (Some (declared.Function n)) = refl
runs line (Some declared.RawBody) = refl

gives : (line : ℕ) (d : Option Declared) → refused rule.WrongKind line (is_some d) ++ [] ++ [] ++ [] ≡ placed line (Rattle.scenario_check.specs.Words.give_reason d)
gives line None = refl
gives line (Some d) = refl

hubs : (line : ℕ) (b : Bool) → refused rule.HubInRawBody line b ++ [] ≡ placed line (if b then Some rule.HubInRawBody else None)
hubs line true = refl
hubs line false = refl

word_by : (s : Scenario) (f : Function) (line : ℕ) (what : Says) → word_refusals s f (record { line = line; says = what }) ≡ placed line (word_reason (declared_as s) (is_local f) f.is_raw what)
word_by s f line (says.Uses x) = uses line (declared_as s x) (is_local f x)
word_by s f line (says.Gives x) = gives line (declared_as s x)
word_by s f line (says.Object kind x) = objects line kind (declared_as s x)
word_by s f line (says.Calls n x) = calls line n (declared_as s x)
word_by s f line (says.Runs x) = runs line (declared_as s x)
word_by s f line says.AsksHub = hubs line f.is_raw
word_by s f line says.NestsTooDeep = refl

same_reason : (names other : Name → Option Declared) (locals known : Name → Bool) (raw : Bool) → ((x : Name) → names x ≡ other x) → ((x : Name) → locals x ≡ known x) →
    (what : Says) → word_reason names locals raw what ≡ word_reason other known raw what
same_reason names other locals known raw h k (says.Uses x) = ap (λ d. use_reason d (locals x)) (h x) ∙ ap (λ l. use_reason (other x) l) (k x)
same_reason names other locals known raw h k (says.Gives x) = ap (λ d. Rattle.scenario_check.specs.Words.give_reason d) (h x)
same_reason names other locals known raw h k (says.Object kind x) = ap (λ d. object_reason kind d) (h x)
same_reason names other locals known raw h k (says.Calls n x) = ap (λ d. call_reason n d) (h x)
same_reason names other locals known raw h k (says.Runs x) = ap (λ d. run_reason d) (h x)
same_reason names other locals known raw h k says.AsksHub = refl
same_reason names other locals known raw h k says.NestsTooDeep = refl

-- the words of a function by tables of what is declared and given in it
pub words_by : (s : Scenario) (f : Function) (names : Name → Option Declared) (locals : Name → Bool) → ((x : Name) → names x ≡ declared_as s x) → ((x : Name) → locals x ≡ is_local f x) →
    (ms : List Mention) → flat_map (λ (m : Mention). placed m.line (word_reason names locals f.is_raw m.says)) ms ≡ flat_map (word_refusals s f) ms
words_by s f names locals h k [] = refl
words_by s f names locals h k (m ∷ ms) =
    ap (λ r. placed m.line r ++ flat_map (λ (m : Mention). placed m.line (word_reason names locals f.is_raw m.says)) ms) (same_reason names (declared_as s) locals (is_local f) f.is_raw h k m.says)
    ∙ ap (λ ps. ps ++ flat_map (λ (m : Mention). placed m.line (word_reason names locals f.is_raw m.says)) ms) (sym (word_by s f m.line m.says))
    ∙ ap (λ ps. word_refusals s f m ++ ps) (words_by s f names locals h k ms)

-- ---- the parts of a function, one after the other

pub head_judged : (first p q r : Option Place) (f : Function) (again list : List Named) (reason : Option RuleReason) →
    again ≡ repeated (parameters f) → list ≡ parameters f → reason ≡ (if is_wrong_head f then Some rule.WrongCount else None) →
    p ≡ first_after first (refused_names rule.DeclaredTwice again) → q ≡ first_after p (placed f.line reason) → r ≡ first_after q (refused_names rule.TooMany (past MOST_PARAMETERS list)) →
    r ≡ first_after first (refused_names rule.DeclaredTwice (repeated (parameters f)) ++ refused rule.WrongCount f.line (is_wrong_head f) ++ refused_names rule.TooMany (past MOST_PARAMETERS (parameters f)))
head_judged first p q r f again list reason a l e h i j =
    let twice = refused_names rule.DeclaredTwice (repeated (parameters f)) in
    let head = refused rule.WrongCount f.line (is_wrong_head f) in
    let many = refused_names rule.TooMany (past MOST_PARAMETERS (parameters f)) in
    let p_is : p ≡ first_after first twice = h ∙ ap (λ ns. first_after first (refused_names rule.DeclaredTwice ns)) a in
    let q_is : q ≡ first_after p head = i ∙ ap (λ x. first_after p (placed f.line x)) e ∙ ap (λ ps. first_after p ps) (refused_if rule.WrongCount f.line (is_wrong_head f)) in
    j ∙ ap (λ ns. first_after q (refused_names rule.TooMany (past MOST_PARAMETERS ns))) l
    ∙ ap (λ z. first_after z many) (q_is ∙ ap (λ z. first_after z head) p_is)
    ∙ sym (first_both first (twice ++ head) many ∙ ap (λ z. first_after z many) (first_both first twice head))

known_among : (f : Name → Option ℕ) (list : List Named) → ((x : Name) → f x ≡ lookup (pointwise nat_eq x) (map pair list)) → (x : Name) → is_some (f x) ≡ is_among x list
known_among = among_by

pub body_judged : (s : Scenario) (f : Function) (first p q : Option Place) (names : Name → Option Declared) (locals : Name → Option ℕ) (given new : List Named) (said : List Mention) →
    ((x : Name) → names x ≡ declared_as s x) → said ≡ mentions f → given ≡ flat_map given_by said → ((x : Name) → locals x ≡ lookup (pointwise nat_eq x) (map pair given)) → new ≡ different given →
    p ≡ first_after first (refused_names rule.TooMany (past MOST_LOCAL_NAMES new)) →
    q ≡ first_after p (flat_map (λ (m : Mention). placed m.line (word_reason names (λ x. is_some (locals x)) f.is_raw m.says)) said) →
    q ≡ first_after first (refused_names rule.TooMany (past MOST_LOCAL_NAMES (different (given_names f))) ++ flat_map (word_refusals s f) (mentions f))
body_judged s f first p q names locals given new said h m g k d i j =
    let all : given ≡ given_names f = g ∙ ap (λ ms. flat_map given_by ms) m in
    let local : (x : Name) → is_some (locals x) ≡ is_local f x = λ x. known_among locals given k x ∙ ap (λ ns. is_among x ns) all in
    let many = refused_names rule.TooMany (past MOST_LOCAL_NAMES (different (given_names f))) in
    j ∙ ap (λ ps. first_after p ps) (words_by s f names (λ x. is_some (locals x)) h local said)
    ∙ ap (λ ms. first_after p (flat_map (word_refusals s f) ms)) m
    ∙ ap (λ z. first_after z (flat_map (word_refusals s f) (mentions f))) (i ∙ ap (λ ns. first_after first (refused_names rule.TooMany (past MOST_LOCAL_NAMES ns))) (d ∙ ap different all))
    ∙ sym (first_both first many (flat_map (word_refusals s f) (mentions f)))

pub function_judged : (s : Scenario) (f : Function) (first p q : Option Place) →
    p ≡ first_after first (refused_names rule.DeclaredTwice (repeated (parameters f)) ++ refused rule.WrongCount f.line (is_wrong_head f) ++ refused_names rule.TooMany (past MOST_PARAMETERS (parameters f))) →
    q ≡ first_after p (refused_names rule.TooMany (past MOST_LOCAL_NAMES (different (given_names f))) ++ flat_map (word_refusals s f) (mentions f)) →
    q ≡ first_after first (function_refusals s f)
function_judged s f first p q h i =
    let head = refused_names rule.DeclaredTwice (repeated (parameters f)) ++ refused rule.WrongCount f.line (is_wrong_head f) ++ refused_names rule.TooMany (past MOST_PARAMETERS (parameters f)) in
    let many = refused_names rule.TooMany (past MOST_LOCAL_NAMES (different (given_names f))) in
    let words = flat_map (word_refusals s f) (mentions f) in
    i ∙ ap (λ z. first_after z (many ++ words)) h ∙ sym (first_both first head (many ++ words)) ∙ ap (λ ps. first_after first ps) (sym (append_assoc head many words))
