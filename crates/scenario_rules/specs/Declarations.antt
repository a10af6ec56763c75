-- What the names of a scenario are declared as, and which names a function has of its own.
use Rattle.std.specs.Prelude.{ℕ, Bool, true, false, nat_eq, if◌then◌else◌, List, [], ◌∷◌, ◌++◌, map, length, Option}
use Rattle.std.specs.List.{list_any, flat_map}
use Rattle.std.specs.Map.{lookup}
use Rattle.std.specs.Cmp.Lexicographic.{pointwise}
use Rattle.gv_values.specs.declared.name.Name.{Name}
use Rattle.scenario_tree.specs.declared.tree.Declaration.{Declaration}
use Rattle.scenario_tree.specs.declared.tree.Function.{Function}
use Rattle.scenario_tree.specs.declared.tree.Object.{Object}
use Rattle.scenario_tree.specs.declared.tree.Object.TheVariants as object
use Rattle.scenario_tree.specs.declared.tree.QueueKind.TheVariants as queue
use Rattle.scenario_tree.specs.declared.tree.Scenario.{Scenario}
use Rattle.scenario_rules.specs.declared.declared.Declared.{Declared}
use Rattle.scenario_rules.specs.declared.declared.Declared.TheVariants as declared
use Rattle.scenario_rules.specs.declared.mention.Mention.{Mention}
use Rattle.scenario_rules.specs.declared.mention.Named.{Named}
use Rattle.scenario_rules.specs.declared.mention.Says.{Says}
use Rattle.scenario_rules.specs.declared.mention.Says.TheVariants as says
use Rattle.scenario_rules.specs.declared.mention.Wanted.{Wanted}
use Rattle.scenario_rules.specs.declared.mention.Wanted.TheVariants as wanted
use Rattle.scenario_rules.specs.Mention.{mentions}

abbrev pub function_as : Function → Declared
function_as f = if f.is_raw then declared.RawBody else declared.Function (length f.parameters)

abbrev pub object_entry : Declaration → Name × Declared
object_entry d = (d.name, declared.Object d.object)

abbrev pub function_entry : Function → Name × Declared
function_entry f = (f.name, function_as f)

-- objects and functions share one space of names, the objects first
abbrev pub declarations : Scenario → List (Name × Declared)
declarations s = map object_entry s.objects ++ map function_entry s.functions

-- what the first declaration of the name says
abbrev pub declared_as : Scenario → Name → Option Declared
declared_as s x = lookup (pointwise nat_eq x) (declarations s)

abbrev pub named_declaration : Declaration → Named
named_declaration d = record { line = d.line; name = d.name }

abbrev pub named_function : Function → Named
named_function f = record { line = f.line; name = f.name }

abbrev pub named_objects : Scenario → List Named
named_objects s = map named_declaration s.objects

abbrev pub named_functions : Scenario → List Named
named_functions s = map named_function s.functions

abbrev pub is_among : Name → List Named → Bool
is_among x names = list_any (λ (n : Named). pointwise nat_eq x n.name) names

-- those whose name stands before them already
abbrev pub repeated_after : List Named → List Named → List Named
repeated_after before [] = []
repeated_after before (n ∷ ns) = (if is_among n.name before then n ∷ [] else []) ++ repeated_after (before ++ n ∷ []) ns

abbrev pub repeated : List Named → List Named
repeated = repeated_after []

-- those whose name does not stand before them
abbrev pub new_after : List Named → List Named → List Named
new_after before [] = []
new_after before (n ∷ ns) = (if is_among n.name before then [] else n ∷ []) ++ new_after (before ++ n ∷ []) ns

-- each different name where it stands first
abbrev pub different : List Named → List Named
different = new_after []

abbrev pub parameters : Function → List Named
parameters f = map (λ x. record { line = f.line; name = x }) f.parameters

abbrev pub given_by : Mention → List Named
given_by m = given m.line m.says
  where
    given : ℕ → Says → List Named
    given line (says.Gives x) = record { line = line; name = x } ∷ []
    given line _ = []

-- the names that are given a value, again and again: parameters, and what lines of the body name
abbrev pub given_names : Function → List Named
given_names f = flat_map given_by (mentions f)

-- a local name: some line of the function gives it a value
abbrev pub is_local : Function → Name → Bool
is_local f x = is_among x (given_names f)

-- the object is of the kind that is wanted
abbrev pub is_kind : Wanted → Object → Bool
is_kind wanted.Event object.Event = true
is_kind wanted.Result object.Result = true
is_kind wanted.EventOrResult object.Event = true
is_kind wanted.EventOrResult object.Result = true
is_kind wanted.Semaphore (object.Semaphore n) = true
is_kind wanted.Semaphore (object.BoundedSemaphore n) = true
is_kind wanted.SemaphoreOrLock (object.Semaphore n) = true
is_kind wanted.SemaphoreOrLock (object.BoundedSemaphore n) = true
is_kind wanted.SemaphoreOrLock object.Lock = true
is_kind wanted.Queue (object.Queue kind size) = true
is_kind wanted.JoinQueue (object.Queue queue.Join size) = true
is_kind wanted.GroupOrPool object.Group = true
is_kind wanted.GroupOrPool (object.Pool n) = true
is_kind wanted.NativePool (object.Native n) = true
is_kind wanted.Channel object.Channel = true
is_kind wanted kind = false
