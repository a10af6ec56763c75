-- The tokens of one line.
use Rattle.std.specs.Prelude.{ℕ, Bool, true, false, List, [], ◌∷◌, Option, Some, None}
use Rattle.scenario_tree.specs.declared.tree.Expression.{Expression}
use Rattle.gv_values.specs.declared.fault.Class.{Class}
use Rattle.gv_values.specs.declared.fault.Class.TheVariants as class
use Rattle.scenario_tree.specs.declared.tree.Command.{Command}
use Rattle.scenario_tree.specs.declared.tree.Command.TheVariants as command
use Rattle.scenario_tree.specs.declared.tree.Giving.{Giving}
use Rattle.scenario_tree.specs.declared.tree.Giving.TheVariants as giving
use Rattle.scenario_tree.specs.declared.tree.LinkEnd.{LinkEnd}
use Rattle.scenario_tree.specs.declared.tree.LinkEnd.TheVariants as link
use Rattle.gv_values.specs.declared.job.JobKind.{JobKind}
use Rattle.gv_values.specs.declared.job.JobKind.TheVariants as job
use Rattle.scenario_tree.specs.declared.tree.Wait.{Wait}
use Rattle.scenario_tree.specs.declared.tree.Wait.TheVariants as wait
use Rattle.scenario_tree.specs.declared.tree.Object.{Object}
use Rattle.scenario_tree.specs.declared.tree.Object.TheVariants as object
use Rattle.scenario_tree.specs.declared.tree.QueueKind.{QueueKind}
use Rattle.scenario_tree.specs.declared.tree.QueueKind.TheVariants as queue
use Rattle.gv_values.specs.declared.name.Name.{Name}
use Rattle.scenario_grammar.specs.declared.phrase.Phrase.{Phrase}
use Rattle.scenario_grammar.specs.declared.phrase.Phrase.TheVariants as phrase
use Rattle.scenario_grammar.specs.declared.keyword.Keyword.{Keyword}
use Rattle.scenario_grammar.specs.declared.keyword.Keyword.TheVariants as k
use Rattle.scenario_grammar.specs.declared.token.Token.{Token}
use Rattle.scenario_grammar.specs.Token.{Written, ◌⊕◌, ◌▹◌, each, perhaps, fixed, name, number}
use Rattle.scenario_grammar.specs.Expressions.{expression}
use Rattle.gv_values.specs.declared.limits.TheConstants.{MOST_ELEMENTS}
use Rattle.scenario_grammar.specs.declared.limits.TheConstants.{MOST_MARK, MOST_MS, MOST_POOL_PLACES, MOST_QUEUE_PLACES, MOST_SLOTS, MOST_UNITS}

-- MS, a time in milliseconds
abbrev pub ms : ℕ → Written Token
ms = number 0 MOST_MS

-- `within MS`
abbrev pub within : ℕ → Written Token
within n = k.Within ▹ ms n

-- TIMED, nothing or `within MS`
abbrev pub timed_tokens : Option ℕ → Written Token
timed_tokens = perhaps within

-- WAIT, nothing, `within MS` or `now`
abbrev pub wait_tokens : Wait → Written Token
wait_tokens wait.Block = Some []
wait_tokens (wait.Within n) = within n
wait_tokens wait.Now = fixed k.Now

-- a word and an expression, which may be left out together
abbrev pub marked : Keyword → Option Expression → Written Token
marked w = perhaps (λ e. w ▹ expression e)

-- nothing, or `with` and a fault
abbrev pub with_fault : Option Expression → Written Token
with_fault = marked k.With

-- a word that may be left out
abbrev pub flag : Keyword → Bool → Written Token
flag w false = Some []
flag w true = fixed w

-- statements that give no value
abbrev pub command_tokens : Command → Written Token
command_tokens (command.Print e) = k.Print ▹ expression e
command_tokens (command.Let n e) = k.Let ▹ name n ⊕ expression e
command_tokens (command.Return e) = k.Return ▹ expression e
command_tokens (command.Raise e) = k.Raise ▹ expression e
command_tokens (command.Start e) = k.Start ▹ expression e
command_tokens (command.Sleep n) = k.Sleep ▹ ms n
command_tokens (command.Join e t) = k.Join ▹ expression e ⊕ timed_tokens t
command_tokens (command.Kill e f w) = k.Kill ▹ expression e ⊕ with_fault f ⊕ wait_tokens w
command_tokens (command.KillAll e f w) = k.KillAll ▹ expression e ⊕ with_fault f ⊕ wait_tokens w
command_tokens (command.Unlink e) = k.Unlink ▹ expression e
command_tokens (command.Set n) = k.Set ▹ name n
command_tokens (command.Clear n) = k.Clear ▹ name n
command_tokens (command.ResultSet n e) = k.ResultSet ▹ name n ⊕ expression e
command_tokens (command.ResultFail n e) = k.ResultFail ▹ name n ⊕ expression e
command_tokens (command.Release n) = k.Release ▹ name n
command_tokens (command.QueuePut n e w) = k.QueuePut ▹ name n ⊕ expression e ⊕ wait_tokens w
command_tokens (command.QueueDone n) = k.QueueDone ▹ name n
command_tokens (command.GroupJoin n t) = k.GroupJoin ▹ name n ⊕ timed_tokens t
command_tokens (command.GroupKill n f now) = k.GroupKill ▹ name n ⊕ with_fault f ⊕ flag k.Now now
command_tokens (command.SetParent e f) = k.SetParent ▹ expression e ⊕ expression f
command_tokens (command.ChannelPut n e) = k.ChannelPut ▹ name n ⊕ expression e
command_tokens (command.QueueShut n immediate) = k.QueueShut ▹ name n ⊕ flag k.Immediate immediate

-- which ends a link is for
abbrev pub link_keyword : LinkEnd → Keyword
link_keyword link.Any = k.Link
link_keyword link.Value = k.LinkValue
link_keyword link.Fault = k.LinkFault

-- what a native job computes
abbrev pub job_keyword : JobKind → Keyword
job_keyword job.Sum = k.Sum
job_keyword job.Collatz = k.Collatz
job_keyword job.Fail = k.Fail
job_keyword job.Echo = k.Echo

-- nothing, or `count N`
abbrev pub count_tokens : Option ℕ → Written Token
count_tokens = perhaps (λ n. k.Count ▹ number 0 MOST_ELEMENTS n)

-- nothing, or `takes MS`
abbrev pub takes_tokens : Option ℕ → Written Token
takes_tokens = perhaps (λ n. k.Takes ▹ ms n)

-- statements that give a value
abbrev pub giving_tokens : Giving → Written Token
giving_tokens (giving.Spawn n es) = k.Spawn ▹ name n ⊕ each expression es
giving_tokens (giving.SpawnLater t n es) = k.SpawnLater ▹ ms t ⊕ name n ⊕ each expression es
giving_tokens (giving.New n es) = k.New ▹ name n ⊕ each expression es
giving_tokens (giving.Get e w) = k.Get ▹ expression e ⊕ wait_tokens w
giving_tokens (giving.JoinAll e count t) = k.JoinAll ▹ expression e ⊕ count_tokens count ⊕ timed_tokens t
giving_tokens (giving.Link kind e n) = (link_keyword kind) ▹ expression e ⊕ name n
giving_tokens (giving.LinkMark e x) = k.RawLink ▹ expression e ⊕ fixed k.Mark ⊕ number 0 MOST_MARK x
giving_tokens (giving.LinkSet e n) = k.RawLink ▹ expression e ⊕ fixed k.Set ⊕ name n
giving_tokens (giving.WaitEvent n t) = k.Wait ▹ name n ⊕ timed_tokens t
giving_tokens (giving.ResultGet n w) = k.ResultGet ▹ name n ⊕ wait_tokens w
giving_tokens (giving.ResultWait n t) = k.ResultWait ▹ name n ⊕ timed_tokens t
giving_tokens (giving.Acquire n w) = k.Acquire ▹ name n ⊕ wait_tokens w
giving_tokens (giving.QueueGet n w) = k.QueueGet ▹ name n ⊕ wait_tokens w
giving_tokens (giving.QueuePeek n w) = k.QueuePeek ▹ name n ⊕ wait_tokens w
giving_tokens (giving.QueueJoin n t) = k.QueueJoin ▹ name n ⊕ timed_tokens t
giving_tokens (giving.GroupSpawn g n es) = k.GroupSpawn ▹ name g ⊕ name n ⊕ each expression es
giving_tokens (giving.Map g n e) = k.Map ▹ name g ⊕ name n ⊕ expression e
giving_tokens (giving.NativeSpawn p kind e t) = k.NativeSpawn ▹ name p ⊕ fixed (job_keyword kind) ⊕ expression e ⊕ takes_tokens t
giving_tokens (giving.Raw n e) = k.Raw ▹ name n ⊕ marked k.Under e
giving_tokens (giving.Switch e f) = k.Switch ▹ expression e ⊕ expression f
giving_tokens (giving.Throw e f) = k.Throw ▹ expression e ⊕ with_fault f
giving_tokens (giving.ChannelGet n) = k.ChannelGet ▹ name n

-- `NAME <-`
abbrev pub target_tokens : Name → Written Token
target_tokens n = name n ⊕ fixed k.Arrow

-- what an except catches
abbrev pub class_keyword : Class → Keyword
class_keyword class.Any = k.Any
class_keyword class.Exception = k.AnException
class_keyword class.GreenletExit = k.GreenletExit
class_keyword class.Timeout = k.ATimeout
class_keyword class.LoopExit = k.LoopExit
class_keyword class.Empty = k.Empty
class_keyword class.Full = k.Full
class_keyword class.ShutDown = k.ShutDown
class_keyword class.ValueError = k.ValueError
class_keyword class.RuntimeError = k.RuntimeError
class_keyword class.TypeError = k.TypeError
class_keyword class.OverflowError = k.OverflowError
class_keyword class.ZeroDivisionError = k.ZeroDivisionError
class_keyword class.InvalidSwitch = k.InvalidSwitch
class_keyword class.Error = k.Error

-- a timeout block's head
abbrev pub timeout_tokens : Option ℕ → Bool → Written Token
timeout_tokens None silent = k.Timeout ▹ fixed k.Nothing ⊕ flag k.Silent silent
timeout_tokens (Some n) silent = k.Timeout ▹ ms n ⊕ flag k.Silent silent

-- the order of a queue
abbrev pub queue_keyword : QueueKind → Keyword
queue_keyword queue.Fifo = k.Fifo
queue_keyword queue.Lifo = k.Lifo
queue_keyword queue.Priority = k.Priority
queue_keyword queue.Join = k.Join

-- the size of a queue, or `none`
abbrev pub size_tokens : Option ℕ → Written Token
size_tokens None = fixed k.Nothing
size_tokens (Some n) = number 1 MOST_QUEUE_PLACES n

-- declarations
abbrev pub object_tokens : Object → Name → Written Token
object_tokens object.Event n = k.Event ▹ name n
object_tokens object.Result n = k.Result ▹ name n
object_tokens (object.Semaphore x) n = k.Sem ▹ name n ⊕ number 0 MOST_UNITS x
object_tokens (object.BoundedSemaphore x) n = k.BoundedSem ▹ name n ⊕ number 0 MOST_UNITS x
object_tokens object.Lock n = k.Lock ▹ name n
object_tokens (object.Queue kind size) n = k.Queue ▹ name n ⊕ fixed (queue_keyword kind) ⊕ size_tokens size
object_tokens object.Group n = k.Group ▹ name n
object_tokens (object.Pool x) n = k.Pool ▹ name n ⊕ number 1 MOST_POOL_PLACES x
object_tokens (object.Native x) n = k.Native ▹ name n ⊕ number 1 MOST_SLOTS x
object_tokens object.Channel n = k.Channel ▹ name n

-- `rawdef` has one parameter
abbrev pub head_tokens : Bool → Name → List Name → Written Token
head_tokens false n parameters = k.Function ▹ name n ⊕ each name parameters
head_tokens true n (parameter ∷ []) = k.RawFunction ▹ name n ⊕ name parameter
head_tokens true n _ = None

-- the tokens of a line
unfoldable pub phrase_tokens : Phrase → Written Token
phrase_tokens (phrase.Profile n) = k.Profile ▹ number 2 3 n
phrase_tokens (phrase.Declaration n o) = object_tokens o n
phrase_tokens (phrase.Function is_raw n parameters) = head_tokens is_raw n parameters
phrase_tokens (phrase.Command c) = command_tokens c
phrase_tokens (phrase.Giving target g) = perhaps target_tokens target ⊕ giving_tokens g
phrase_tokens (phrase.If e) = k.If ▹ expression e
phrase_tokens phrase.Else = fixed k.Else
phrase_tokens (phrase.While e) = k.While ▹ expression e
phrase_tokens phrase.Try = fixed k.Try
phrase_tokens (phrase.Except c n) = k.Except ▹ fixed (class_keyword c) ⊕ perhaps name n
phrase_tokens phrase.Finally = fixed k.Finally
phrase_tokens (phrase.Timeout after silent) = timeout_tokens after silent
phrase_tokens phrase.End = fixed k.End
