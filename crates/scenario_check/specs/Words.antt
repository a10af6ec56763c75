-- Why a word is refused, by what a table has at its name.
use Rattle.std.specs.Prelude.{ℕ, Bool, true, false, ◌==◌, if◌then◌else◌, List, [], ◌∷◌, Option, Some, None}
use Rattle.gv_values.specs.declared.name.Name.{Name}
use Rattle.scenario_grammar.specs.declared.place.Place.{Place}
use Rattle.scenario_grammar.specs.declared.reason.RuleReason.{RuleReason}
use Rattle.scenario_grammar.specs.declared.reason.RuleReason.TheVariants as rule
use Rattle.scenario_grammar.specs.Reason.{rule_number}
use Rattle.scenario_rules.specs.declared.declared.Declared.{Declared}
use Rattle.scenario_rules.specs.declared.declared.Declared.TheVariants as declared
use Rattle.scenario_rules.specs.declared.mention.Says.{Says}
use Rattle.scenario_rules.specs.declared.mention.Says.TheVariants as says
use Rattle.scenario_rules.specs.declared.mention.Wanted.{Wanted}
use Rattle.scenario_rules.specs.Declarations.{is_kind}

-- a name that is used: it is to be a local one
abbrev pub use_reason : Option Declared → Bool → Option RuleReason
use_reason (Some d) local = Some rule.WrongKind
use_reason None true = None
use_reason None false = Some rule.Undeclared

-- a name that takes a value: nothing else declares it
abbrev pub give_reason : Option Declared → Option RuleReason
give_reason (Some d) = Some rule.WrongKind
give_reason None = None

-- a name of an object: it is of this kind
abbrev pub object_reason : Wanted → Option Declared → Option RuleReason
object_reason kind None = Some rule.Undeclared
object_reason kind (Some (declared.Object o)) = if is_kind kind o then None else Some rule.WrongKind
object_reason kind (Some d) = Some rule.WrongKind

-- a function that is called with so many arguments
abbrev pub call_reason : ℕ → Option Declared → Option RuleReason
call_reason n None = Some rule.Undeclared
call_reason n (Some (declared.Function count)) = if n == count then None else Some rule.WrongCount
call_reason n (Some d) = Some rule.WrongKind

-- a raw body
abbrev pub run_reason : Option Declared → Option RuleReason
run_reason None = Some rule.Undeclared
run_reason (Some declared.RawBody) = None
run_reason (Some d) = Some rule.WrongKind

-- what a line says, by the declared names and the local ones
abbrev pub word_reason : (Name → Option Declared) → (Name → Bool) → Bool → Says → Option RuleReason
word_reason names is_local is_raw (says.Uses x) = use_reason (names x) (is_local x)
word_reason names is_local is_raw (says.Gives x) = give_reason (names x)
word_reason names is_local is_raw (says.Object kind x) = object_reason kind (names x)
word_reason names is_local is_raw (says.Calls n x) = call_reason n (names x)
word_reason names is_local is_raw (says.Runs x) = run_reason (names x)
word_reason names is_local is_raw says.AsksHub = if is_raw then Some rule.HubInRawBody else None
word_reason names is_local is_raw says.NestsTooDeep = Some rule.TimeoutsTooDeep

-- the place, where there is a reason
abbrev pub placed : ℕ → Option RuleReason → List Place
placed line None = []
placed line (Some r) = record { line = line; reason = rule_number r } ∷ []
