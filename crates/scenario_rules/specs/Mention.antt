-- What the lines of a function say that the rules look at: each name with what it stands for there, each statement that
-- asks the hub, and each timeout block that stands too deep.
use Rattle.std.specs.Prelude.{ℕ, zero, suc, ◌-◌, List, [], ◌∷◌, ◌++◌, map, length, Option, Some, None}
use Rattle.std.specs.List.{flat_map}
use Rattle.gv_values.specs.declared.name.Name.{Name}
use Rattle.scenario_tree.specs.declared.tree.Action.TheOpen.{Action-F, Except-F, Statement-F}
use Rattle.scenario_tree.specs.declared.tree.Command.{Command}
use Rattle.scenario_tree.specs.declared.tree.Command.TheVariants as command
use Rattle.scenario_tree.specs.declared.tree.Expression.{Expression}
use Rattle.scenario_tree.specs.declared.tree.Expression.TheBlock.{laid-Expression}
use Rattle.scenario_tree.specs.declared.tree.Expression.TheFolds.{family, steps}
use Rattle.scenario_tree.specs.declared.tree.Expression.TheOpen.{Expression-F}
use Rattle.scenario_tree.specs.declared.tree.Function.{Function}
use Rattle.scenario_tree.specs.declared.tree.Giving.{Giving}
use Rattle.scenario_tree.specs.declared.tree.Giving.TheVariants as giving
use Rattle.scenario_tree.specs.declared.tree.Query.{Query}
use Rattle.scenario_tree.specs.declared.tree.Query.TheVariants as query
use Rattle.scenario_tree.specs.declared.tree.Action.TheBlock.{laid-Statement}
use Rattle.scenario_tree.specs.declared.tree.Action.TheFolds.{family as statement_family, steps as statement_steps}
use Rattle.scenario_tree.specs.declared.tree.Statement.{Statement}
use Rattle.scenario_rules.specs.declared.mention.Mention.{Mention}
use Rattle.scenario_rules.specs.declared.mention.Says.{Says}
use Rattle.scenario_rules.specs.declared.mention.Says.TheVariants as says
use Rattle.scenario_rules.specs.declared.mention.Wanted.{Wanted}
use Rattle.scenario_rules.specs.declared.mention.Wanted.TheVariants as wanted
use Rattle.scenario_rules.specs.declared.limits.TheConstants.{MOST_TIMEOUTS}

-- what is asked of which objects
abbrev pub wanted_by : Query → Wanted
wanted_by query.IsSet = wanted.EventOrResult
wanted_by query.Counter = wanted.Semaphore
wanted_by query.QueueSize = wanted.Queue
wanted_by query.Unfinished = wanted.JoinQueue
wanted_by query.Members = wanted.GroupOrPool

-- one level of an expression, by what its operands say
abbrev pub layer_says : Expression-F (List Says) → List Says
layer_says (Expression-F.Local x) = says.Uses x ∷ []
layer_says (Expression-F.Query q x) = says.Object (wanted_by q) x ∷ []
layer_says (Expression-F.Unary op a) = a
layer_says (Expression-F.Binary op a b) = a ++ b
layer_says (Expression-F.And a b) = a ++ b
layer_says (Expression-F.Or a b) = a ++ b
layer_says (Expression-F.List operands) = flat_map (λ a. a) operands
layer_says _ = []

abbrev pub expression_says : Expression → List Says
expression_says = laid-Expression (family (List Says)) (steps (List Says) layer_says)

abbrev pub all_say : List Expression → List Says
all_say es = flat_map expression_says es

-- an expression that may be left out
abbrev pub perhaps_says : Option Expression → List Says
perhaps_says None = []
perhaps_says (Some e) = expression_says e

abbrev pub hub : List Says
hub = says.AsksHub ∷ []

-- in their places the names stand for an object of this kind
abbrev pub says_object : Wanted → Name → List Says
says_object kind x = says.Object kind x ∷ []

-- the name of a function and its arguments
abbrev pub call : Name → List Expression → List Says
call f es = says.Calls (length es) f ∷ all_say es

abbrev pub command_says : Command → List Says
command_says (command.Print e) = expression_says e
command_says (command.Let x e) = says.Gives x ∷ expression_says e
command_says (command.Return e) = expression_says e
command_says (command.Raise e) = expression_says e
command_says (command.Start e) = hub ++ expression_says e
command_says (command.Sleep t) = hub
command_says (command.Join e t) = hub ++ expression_says e
command_says (command.Kill e f w) = hub ++ expression_says e ++ perhaps_says f
command_says (command.KillAll e f w) = hub ++ expression_says e ++ perhaps_says f
command_says (command.Unlink e) = hub ++ expression_says e
command_says (command.Set x) = hub ++ says_object wanted.Event x
command_says (command.Clear x) = hub ++ says_object wanted.Event x
command_says (command.ResultSet x e) = hub ++ says_object wanted.Result x ++ expression_says e
command_says (command.ResultFail x e) = hub ++ says_object wanted.Result x ++ expression_says e
command_says (command.Release x) = hub ++ says_object wanted.SemaphoreOrLock x
command_says (command.QueuePut x e w) = hub ++ says_object wanted.Queue x ++ expression_says e
command_says (command.QueueDone x) = hub ++ says_object wanted.JoinQueue x
command_says (command.GroupJoin x t) = hub ++ says_object wanted.GroupOrPool x
command_says (command.GroupKill x f now) = hub ++ says_object wanted.GroupOrPool x ++ perhaps_says f
command_says (command.SetParent e f) = expression_says e ++ expression_says f
command_says (command.ChannelPut x e) = hub ++ says_object wanted.Channel x ++ expression_says e
command_says (command.QueueShut x immediate) = hub ++ says_object wanted.Queue x

-- the function of a link and of `map` takes one argument
abbrev pub giving_says : Giving → List Says
giving_says (giving.Spawn f es) = hub ++ call f es
giving_says (giving.SpawnLater t f es) = hub ++ call f es
giving_says (giving.New f es) = hub ++ call f es
giving_says (giving.Get e w) = hub ++ expression_says e
giving_says (giving.JoinAll e n t) = hub ++ expression_says e
giving_says (giving.Link kind e f) = hub ++ expression_says e ++ says.Calls 1 f ∷ []
giving_says (giving.LinkMark e n) = hub ++ expression_says e
giving_says (giving.LinkSet e x) = hub ++ expression_says e ++ says_object wanted.Event x
giving_says (giving.WaitEvent x t) = hub ++ says_object wanted.Event x
giving_says (giving.ResultGet x w) = hub ++ says_object wanted.Result x
giving_says (giving.ResultWait x t) = hub ++ says_object wanted.Result x
giving_says (giving.Acquire x w) = hub ++ says_object wanted.SemaphoreOrLock x
giving_says (giving.QueueGet x w) = hub ++ says_object wanted.Queue x
giving_says (giving.QueuePeek x w) = hub ++ says_object wanted.Queue x
giving_says (giving.QueueJoin x t) = hub ++ says_object wanted.JoinQueue x
giving_says (giving.GroupSpawn x f es) = hub ++ says_object wanted.GroupOrPool x ++ call f es
giving_says (giving.Map x f e) = hub ++ says_object wanted.GroupOrPool x ++ says.Calls 1 f ∷ expression_says e
giving_says (giving.NativeSpawn x job e t) = hub ++ says_object wanted.NativePool x ++ expression_says e
giving_says (giving.Raw f e) = says.Runs f ∷ perhaps_says e
giving_says (giving.Switch e f) = expression_says e ++ expression_says f
giving_says (giving.Throw e f) = expression_says e ++ perhaps_says f
giving_says (giving.ChannelGet x) = hub ++ says_object wanted.Channel x

-- the name before `<-` or after the class of an except
abbrev pub target_says : Option Name → List Says
target_says None = []
target_says (Some x) = says.Gives x ∷ []

-- what a part of a body says, where so many timeout blocks more may be opened
abbrev pub Part : Type 0
Part = ℕ → List Mention

-- what the line of this number says
abbrev pub on : ℕ → List Says → List Mention
on line ss = map (λ s. record { line = line; says = s }) ss

-- one part after another
abbrev pub each_part : List Part → Part
each_part parts left = flat_map (λ part. part left) parts

-- a block that may be left out
abbrev pub perhaps_part : Option (List Part) → Part
perhaps_part None left = []
perhaps_part (Some parts) left = each_part parts left

-- a timeout block asks the hub
abbrev pub timeout_says : ℕ → List Says
timeout_says zero = says.AsksHub ∷ says.NestsTooDeep ∷ []
timeout_says (suc left) = says.AsksHub ∷ []

-- a statement on the line of this number
abbrev pub action_says : Action-F (ℕ → Part) Part Part → ℕ → Part
action_says (Action-F.Command c) line left = on line (command_says c)
action_says (Action-F.Giving target g) line left = on line (target_says target ++ giving_says g)
action_says (Action-F.If e then_part else_part) line left = on line (expression_says e) ++ each_part then_part left ++ perhaps_part else_part left
action_says (Action-F.While e body) line left = on line (expression_says e) ++ each_part body left
action_says (Action-F.Try body excepts finally) line left = each_part body left ++ each_part excepts left ++ perhaps_part finally left
action_says (Action-F.Timeout after silent body) line left = on line (timeout_says left) ++ each_part body (left - 1)

abbrev pub except_says : Except-F (ℕ → Part) Part Part → Part
except_says x left = on x.line (target_says x.name) ++ each_part x.body left

abbrev pub statement_says : Statement-F (ℕ → Part) Part Part → Part
statement_says x left = x.action x.line left

-- a statement with all that is inside it
unfoldable pub statement_mentions : Statement → Part
statement_mentions = laid-Statement (statement_family (ℕ → Part) Part Part) (statement_steps (ℕ → Part) Part Part action_says except_says statement_says)

-- the statements of a block
abbrev pub block_mentions : ℕ → List Statement → List Mention
block_mentions left ss = flat_map (λ s. statement_mentions s left) ss

-- what the lines of a function say: its parameters are given values, and then its body
abbrev pub mentions : Function → List Mention
mentions f = on f.line (map (λ x. says.Gives x) f.parameters) ++ block_mentions MOST_TIMEOUTS f.body
