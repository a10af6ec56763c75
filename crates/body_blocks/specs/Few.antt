-- That calls have few arguments: no more than a function may have parameters. It stands here since `body_entries` says
-- it of what a body has still to do, and `body_values` of the code, and neither of these stands on the other. This
-- project's own.
use Rattle.std.specs.Prelude.{◌≡◌, ◌≤◌, Bool, true, ◌&&◌, nat_le, List, [], Option, Some, None, length, unwrap_or}
use Rattle.std.specs.List.{list_all}
use Rattle.scenario_tree.specs.declared.tree.Action.TheBlock.{laid-Action, laid-Except, laid-Statement}
use Rattle.scenario_tree.specs.declared.tree.Action.TheFolds.{family, steps}
use Rattle.scenario_tree.specs.declared.tree.Action.TheOpen.{Action-F, Except-F, Statement-F}
use Rattle.scenario_tree.specs.declared.tree.Action.{Action}
use Rattle.scenario_tree.specs.declared.tree.Except.{Except}
use Rattle.scenario_tree.specs.declared.tree.Function.{Function}
use Rattle.scenario_tree.specs.declared.tree.Giving.{Giving}
use Rattle.scenario_tree.specs.declared.tree.Giving.TheVariants as giving
use Rattle.scenario_tree.specs.declared.tree.Scenario.{Scenario}
use Rattle.scenario_tree.specs.declared.tree.Statement.{Statement}
use Rattle.scenario_tree.specs.declared.limits.TheConstants.{MOST_PARAMETERS}

-- ---- statements with all that is inside them

-- a statement that makes a greenlet gives it few arguments
abbrev pub gives_few : Giving → Bool
gives_few (giving.Spawn f es) = nat_le (length es) MOST_PARAMETERS
gives_few (giving.SpawnLater ms f es) = nat_le (length es) MOST_PARAMETERS
gives_few (giving.New f es) = nat_le (length es) MOST_PARAMETERS
gives_few (giving.GroupSpawn x f es) = nat_le (length es) MOST_PARAMETERS
gives_few g = true

-- each of the parts has few
abbrev pub all_few : List Bool → Bool
all_few parts = list_all (λ part. part) parts

-- a block that may be left out
abbrev pub perhaps_few : Option (List Bool) → Bool
perhaps_few None = true
perhaps_few (Some parts) = all_few parts

-- one level of a statement, by whether its parts have few
abbrev pub action_few : Action-F Bool Bool Bool → Bool
action_few (Action-F.Command x) = true
action_few (Action-F.Giving target x) = gives_few x
action_few (Action-F.If e then_part else_part) = all_few then_part && perhaps_few else_part
action_few (Action-F.While e body) = all_few body
action_few (Action-F.Try body excepts finally) = all_few body && all_few excepts && perhaps_few finally
action_few (Action-F.Timeout ms silent body) = all_few body

abbrev pub except_few : Except-F Bool Bool Bool → Bool
except_few x = all_few x.body

abbrev pub statement_few : Statement-F Bool Bool Bool → Bool
statement_few x = x.action

-- each call of the statement, and of what is inside it, has few arguments
unfoldable pub has_few : Statement → Bool
has_few = laid-Statement (family Bool Bool Bool) (steps Bool Bool Bool action_few except_few statement_few)

-- so has each call of what stands on the line of a statement
unfoldable pub has_few_action : Action → Bool
has_few_action = laid-Action (family Bool Bool Bool) (steps Bool Bool Bool action_few except_few statement_few)

-- so has each call of an except
unfoldable pub has_few_except : Except → Bool
has_few_except = laid-Except (family Bool Bool Bool) (steps Bool Bool Bool action_few except_few statement_few)

-- so has each call of a block
abbrev pub HasFew : List Statement → Type 0
HasFew ss = list_all has_few ss ≡ true

-- so has each call of the excepts of a try
abbrev pub HasFewExcepts : List Except → Type 0
HasFewExcepts es = list_all has_few_except es ≡ true

-- so has each call of a function
abbrev pub has_few_function : Function → Bool
has_few_function f = list_all has_few f.body

-- so has each call of a scenario
abbrev pub HasFewCalls : Scenario → Type 0
HasFewCalls c = list_all has_few_function c.functions ≡ true

-- ---- statements by their form

-- so many arguments a statement gives that makes a greenlet
abbrev pub HasFewArguments : Giving → Type 0
HasFewArguments (giving.Spawn f es) = length es ≤ MOST_PARAMETERS
HasFewArguments (giving.SpawnLater ms f es) = length es ≤ MOST_PARAMETERS
HasFewArguments (giving.New f es) = length es ≤ MOST_PARAMETERS
HasFewArguments (giving.GroupSpawn x f es) = length es ≤ MOST_PARAMETERS
HasFewArguments g = Unit {0}

-- what stands on the line of a statement gives few arguments, and so does each call of its blocks
abbrev pub HasFewParts : Action-F Action Except Statement → Type 0
HasFewParts (Action-F.Command command) = Unit {0}
HasFewParts (Action-F.Giving x g) = HasFewArguments g
HasFewParts (Action-F.If e yes' no') = HasFew yes' × HasFew (unwrap_or no' [])
HasFewParts (Action-F.While e body) = HasFew body
HasFewParts (Action-F.Try body excepts finally) = HasFew body × HasFewExcepts excepts × HasFew (unwrap_or finally [])
HasFewParts (Action-F.Timeout ms silent body) = HasFew body
