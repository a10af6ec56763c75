-- Reading the tokens of a line from the left: what they say, or the first reason why they say nothing.
use Rattle.std.specs.Prelude.{ℕ, zero, suc, ℤ, pos, negsuc, Bool, true, false, ◌&&◌, nat_le, if◌then◌else◌, List, [], ◌∷◌, length, Option, Some, None, Result, Ok, Err}
use Rattle.gv_values.specs.declared.arith.Arith.TheVariants as arith
use Rattle.scenario_tree.specs.declared.tree.Binary.TheVariants as binary
use Rattle.scenario_tree.specs.declared.tree.Unary.TheVariants as unary
use Rattle.scenario_tree.specs.declared.tree.Query.TheVariants as query
use Rattle.gv_values.specs.declared.fault.FaultKind.TheVariants as fault
use Rattle.scenario_tree.specs.declared.tree.Expression.{Expression}
use Rattle.scenario_tree.specs.declared.tree.Expression.TheVariants as e
use Rattle.gv_values.specs.declared.fault.Class.{Class}
use Rattle.gv_values.specs.declared.fault.Class.TheVariants as class
use Rattle.scenario_tree.specs.declared.tree.Command.TheVariants as command
use Rattle.scenario_tree.specs.declared.tree.Giving.{Giving}
use Rattle.scenario_tree.specs.declared.tree.Giving.TheVariants as giving
use Rattle.scenario_tree.specs.declared.tree.LinkEnd.TheVariants as link
use Rattle.gv_values.specs.declared.job.JobKind.{JobKind}
use Rattle.gv_values.specs.declared.job.JobKind.TheVariants as job
use Rattle.scenario_tree.specs.declared.tree.Wait.{Wait}
use Rattle.scenario_tree.specs.declared.tree.Wait.TheVariants as wait
use Rattle.scenario_tree.specs.declared.tree.Object.TheVariants as object
use Rattle.scenario_tree.specs.declared.tree.QueueKind.{QueueKind}
use Rattle.scenario_tree.specs.declared.tree.QueueKind.TheVariants as queue
use Rattle.gv_values.specs.declared.name.Name.{Name}
use Rattle.scenario_grammar.specs.declared.keyword.Keyword.{Keyword}
use Rattle.scenario_grammar.specs.declared.keyword.Keyword.TheVariants as k
use Rattle.scenario_grammar.specs.declared.token.Token.{Token}
use Rattle.scenario_grammar.specs.declared.token.Token.TheVariants as token
use Rattle.scenario_grammar.specs.declared.head.Head.{Head}
use Rattle.scenario_grammar.specs.declared.head.Head.TheVariants as head
use Rattle.scenario_grammar.specs.declared.phrase.Phrase.{Phrase}
use Rattle.scenario_grammar.specs.declared.phrase.Phrase.TheVariants as phrase
use Rattle.scenario_grammar.specs.declared.limits.TheConstants.{MOST_MARK, MOST_MS, MOST_NESTED, MOST_POOL_PLACES, MOST_QUEUE_PLACES, MOST_SLOTS, MOST_UNITS}
use Rattle.scenario_grammar.specs.declared.reason.TextReason.{TextReason}
use Rattle.scenario_grammar.specs.declared.reason.TextReason.TheVariants as reason
use Rattle.gv_values.specs.declared.limits.TheConstants.{MOST_ELEMENTS}

-- a part of a line, and the tokens after it
abbrev pub Reading : Type 0 → Type 0
Reading A = Result (A × List Token) TextReason

-- how a part is read from the tokens that are left
abbrev pub Reader : Type 0 → Type 0
Reader A = List Token → Reading A

infixl 10 ◌>>=◌
abbrev pub ◌>>=◌ : {A B : Type 0} → Result A TextReason → (A → Result B TextReason) → Result B TextReason
(Ok x) >>= f = f x
(Err r) >>= f = Err r

-- nothing is read
abbrev pub pure : {A : Type 0} → A → Reader A
pure x ts = Ok (x, ts)

infixl 30 ◌<$>◌
abbrev pub ◌<$>◌ : {A B : Type 0} → (A → B) → Reader A → Reader B
(f <$> reader) ts = reader ts >>= λ x. Ok (f x.0, x.1)

-- one part, and then the next
infixl 30 ◌<*>◌
abbrev pub ◌<*>◌ : {A B : Type 0} → Reader (A → B) → Reader A → Reader B
(before <*> reader) ts = before ts >>= λ f. reader f.1 >>= λ x. Ok (f.0 x.0, x.1)

-- a NAME
unfoldable pub name_at : Reader Name
name_at [] = Err reason.TooShort
name_at (token.Name n ∷ ts) = Ok (n, ts)
name_at (t ∷ ts) = Err reason.NotAName

-- an integer as a number of this range
abbrev pub in_range_of : ℕ → ℕ → ℤ → Reader ℕ
in_range_of least greatest (pos n) ts = if nat_le least n && nat_le n greatest then Ok (n, ts) else Err reason.OutOfRange
in_range_of least greatest (negsuc n) ts = Err reason.OutOfRange

-- a number of this range
unfoldable pub number_at : ℕ → ℕ → Reader ℕ
number_at least greatest [] = Err reason.TooShort
number_at least greatest (token.Number z ∷ ts) = in_range_of least greatest z ts
number_at least greatest (token.Oversized ∷ ts) = Err reason.OutOfRange
number_at least greatest (t ∷ ts) = Err reason.MisspelledNumber

-- an integer of 64 bits
unfoldable pub integer_at : Reader ℤ
integer_at [] = Err reason.TooShort
integer_at (token.Number z ∷ ts) = Ok (z, ts)
integer_at (token.Oversized ∷ ts) = Err reason.OutOfRange
integer_at (t ∷ ts) = Err reason.MisspelledNumber

-- as many parts as the number says
abbrev pub count_at : {A : Type 0} → Reader A → ℕ → Reader (List A)
count_at part zero = pure []
count_at part (suc n) = (λ x xs. x ∷ xs) <$> part <*> count_at part n

-- parts up to the line's end; each takes a token
abbrev pub to_the_end : {A : Type 0} → Reader A → ℕ → Reader (List A)
to_the_end part n [] = Ok ([], [])
to_the_end part zero (t ∷ ts) = Ok ([], t ∷ ts)
to_the_end part (suc n) (t ∷ ts) = ((λ x xs. x ∷ xs) <$> part <*> to_the_end part n) (t ∷ ts)

-- parts up to the line's end
abbrev pub all_at : {A : Type 0} → Reader A → Reader (List A)
all_at part ts = to_the_end part (length ts) ts

-- N and so many operands
abbrev pub list_at : Reader Expression → Reader Expression
list_at operand ts = number_at 0 MOST_ELEMENTS ts >>= λ n. (e.List <$> count_at operand n.0) n.1

-- what a fixed word begins in the place of an expression
abbrev pub head_of : Keyword → Head
head_of k.Nothing = head.Nothing
head_of k.True = head.Bool true
head_of k.False = head.Bool false
head_of k.Current = head.Current
head_of k.GreenletExit = head.Fault fault.GreenletExit
head_of k.Empty = head.Fault fault.Empty
head_of k.Full = head.Fault fault.Full
head_of k.ValueError = head.Fault fault.ValueError
head_of k.RuntimeError = head.Fault fault.RuntimeError
head_of k.TypeError = head.Fault fault.TypeError
head_of k.OverflowError = head.Fault fault.OverflowError
head_of k.ZeroDivisionError = head.Fault fault.ZeroDivisionError
head_of k.Error = head.NumberedFault
head_of k.Plus = head.Binary (binary.Arithmetic arith.Add)
head_of k.Minus = head.Binary (binary.Arithmetic arith.Sub)
head_of k.Times = head.Binary (binary.Arithmetic arith.Mul)
head_of k.Slash = head.Binary (binary.Arithmetic arith.Div)
head_of k.Percent = head.Binary (binary.Arithmetic arith.Rem)
head_of k.Equal = head.Binary binary.Equal
head_of k.NotEqual = head.Binary binary.NotEqual
head_of k.Less = head.Binary binary.Less
head_of k.AtMost = head.Binary binary.AtMost
head_of k.Push = head.Binary binary.Push
head_of k.At = head.Binary binary.At
head_of k.And = head.And
head_of k.Or = head.Or
head_of k.Not = head.Unary unary.Not
head_of k.Length = head.Unary unary.Length
head_of k.Ready = head.Unary unary.Ready
head_of k.Successful = head.Unary unary.Successful
head_of k.Value = head.Unary unary.Value
head_of k.ExceptionOf = head.Unary unary.Exception
head_of k.List = head.List
head_of k.IsSet = head.Query query.IsSet
head_of k.Counter = head.Query query.Counter
head_of k.QueueSize = head.Query query.QueueSize
head_of k.Unfinished = head.Query query.Unfinished
head_of k.Members = head.Query query.Members
head_of _ = head.Other

-- the rest of an expression behind its fixed word
abbrev pub headed_at : Reader Expression → Head → Reader Expression
headed_at operand head.Nothing = pure e.Nothing
headed_at operand (head.Bool b) = pure (e.Bool b)
headed_at operand head.Current = pure e.Current
headed_at operand (head.Fault kind) = pure (e.Fault kind)
headed_at operand head.NumberedFault = (λ n. e.Fault (fault.Error n)) <$> integer_at
headed_at operand (head.Unary op) = e.Unary op <$> operand
headed_at operand (head.Binary op) = e.Binary op <$> operand <*> operand
headed_at operand head.And = e.And <$> operand <*> operand
headed_at operand head.Or = e.Or <$> operand <*> operand
headed_at operand head.List = list_at operand
headed_at operand (head.Query asked) = (λ n. e.Query asked n) <$> name_at
headed_at operand head.Other = λ ts. Err reason.UnknownWord

-- an expression by its first token
abbrev pub term_at : Reader Expression → Token → Reader Expression
term_at operand (token.Fixed word) = headed_at operand (head_of word)
term_at operand (token.Name n) = pure (e.Local n)
term_at operand (token.Number z) = pure (e.Int z)
term_at operand token.Oversized = λ ts. Err reason.OutOfRange
term_at operand token.Misspelled = λ ts. Err reason.MisspelledNumber
term_at operand token.Unknown = λ ts. Err reason.UnknownWord

-- an expression of at most so many levels
unfoldable pub nested_at : ℕ → Reader Expression
nested_at zero [] = Err reason.TooShort
nested_at zero (t ∷ ts) = Err reason.NestedTooDeep
nested_at (suc depth) [] = Err reason.TooShort
nested_at (suc depth) (t ∷ ts) = term_at (nested_at depth) t ts

-- an expression that is no operand of another
abbrev pub expression_at : Reader Expression
expression_at = nested_at MOST_NESTED

-- MS, a time in milliseconds
abbrev pub ms_at : Reader ℕ
ms_at = number_at 0 MOST_MS

-- `within` and a time, or nothing
abbrev pub timed_at : Reader (Option ℕ)
timed_at (token.Fixed k.Within ∷ ts) = (Some <$> ms_at) ts
timed_at ts = Ok (None, ts)

-- nothing, `within MS` or `now`
abbrev pub wait_at : Reader Wait
wait_at (token.Fixed k.Within ∷ ts) = ((λ a. wait.Within a) <$> ms_at) ts
wait_at (token.Fixed k.Now ∷ ts) = Ok (wait.Now, ts)
wait_at ts = Ok (wait.Block, ts)

-- nothing, or `with` and an expression
abbrev pub with_at : Reader (Option Expression)
with_at (token.Fixed k.With ∷ ts) = (Some <$> expression_at) ts
with_at ts = Ok (None, ts)

-- nothing, or `under` and an expression
abbrev pub under_at : Reader (Option Expression)
under_at (token.Fixed k.Under ∷ ts) = (Some <$> expression_at) ts
under_at ts = Ok (None, ts)

-- nothing, or `count N`
abbrev pub count_of_at : Reader (Option ℕ)
count_of_at (token.Fixed k.Count ∷ ts) = (Some <$> number_at 0 MOST_ELEMENTS) ts
count_of_at ts = Ok (None, ts)

-- nothing, or `takes MS`
abbrev pub takes_at : Reader (Option ℕ)
takes_at (token.Fixed k.Takes ∷ ts) = (Some <$> ms_at) ts
takes_at ts = Ok (None, ts)

-- whether `now` stands there
abbrev pub now_at : Reader Bool
now_at (token.Fixed k.Now ∷ ts) = Ok (true, ts)
now_at ts = Ok (false, ts)

-- whether `silent` stands there
abbrev pub silent_at : Reader Bool
silent_at (token.Fixed k.Silent ∷ ts) = Ok (true, ts)
silent_at ts = Ok (false, ts)

-- whether `immediate` stands there
abbrev pub immediate_at : Reader Bool
immediate_at (token.Fixed k.Immediate ∷ ts) = Ok (true, ts)
immediate_at ts = Ok (false, ts)

-- a time or `none`
abbrev pub after_at : Reader (Option ℕ)
after_at (token.Fixed k.Nothing ∷ ts) = Ok (None, ts)
after_at ts = (Some <$> ms_at) ts

-- one of some fixed words, by what it stands for
abbrev pub word_at : {A : Type 0} → (Keyword → Option A) → Reader A
word_at meaning [] = Err reason.TooShort
word_at meaning (token.Fixed word ∷ ts) = elim (meaning word) [ Some x ↦ Ok (x, ts) | None ↦ Err reason.UnknownWord ]
word_at meaning (t ∷ ts) = Err reason.UnknownWord

-- the words of jobs
abbrev pub job_kind_of : Keyword → Option JobKind
job_kind_of k.Sum = Some job.Sum
job_kind_of k.Collatz = Some job.Collatz
job_kind_of k.Fail = Some job.Fail
job_kind_of k.Echo = Some job.Echo
job_kind_of _ = None

-- the words of queues
abbrev pub queue_of : Keyword → Option QueueKind
queue_of k.Fifo = Some queue.Fifo
queue_of k.Lifo = Some queue.Lifo
queue_of k.Priority = Some queue.Priority
queue_of k.Join = Some queue.Join
queue_of _ = None

-- the words of what an except catches
abbrev pub fault_class_of : Keyword → Option Class
fault_class_of k.Any = Some class.Any
fault_class_of k.AnException = Some class.Exception
fault_class_of k.GreenletExit = Some class.GreenletExit
fault_class_of k.ATimeout = Some class.Timeout
fault_class_of k.LoopExit = Some class.LoopExit
fault_class_of k.Empty = Some class.Empty
fault_class_of k.Full = Some class.Full
fault_class_of k.ShutDown = Some class.ShutDown
fault_class_of k.ValueError = Some class.ValueError
fault_class_of k.RuntimeError = Some class.RuntimeError
fault_class_of k.TypeError = Some class.TypeError
fault_class_of k.OverflowError = Some class.OverflowError
fault_class_of k.ZeroDivisionError = Some class.ZeroDivisionError
fault_class_of k.InvalidSwitch = Some class.InvalidSwitch
fault_class_of k.Error = Some class.Error
fault_class_of _ = None

-- CLASS
abbrev pub class_at : Reader Class
class_at = word_at fault_class_of

-- a name, or nothing at the line's end
abbrev pub binding_at : Reader (Option Name)
binding_at [] = Ok (None, [])
binding_at (t ∷ ts) = (Some <$> name_at) (t ∷ ts)

-- the size of a queue, or `none`
abbrev pub size_at : Reader (Option ℕ)
size_at (token.Fixed k.Nothing ∷ ts) = Ok (None, ts)
size_at ts = (Some <$> number_at 1 MOST_QUEUE_PLACES) ts

-- `mark` and a number, or `set` and a name
abbrev pub raw_link_at : Expression → Reader Giving
raw_link_at x [] = Err reason.TooShort
raw_link_at x (token.Fixed k.Mark ∷ ts) = ((λ a. giving.LinkMark x a) <$> number_at 0 MOST_MARK) ts
raw_link_at x (token.Fixed k.Set ∷ ts) = ((λ a. giving.LinkSet x a) <$> name_at) ts
raw_link_at x (t ∷ ts) = Err reason.UnknownWord

-- the rest of a statement that gives a value, by its word
abbrev pub giving_by : Keyword → Reader Giving
giving_by k.Spawn = (λ a b. giving.Spawn a b) <$> name_at <*> all_at expression_at
giving_by k.SpawnLater = (λ a b c. giving.SpawnLater a b c) <$> ms_at <*> name_at <*> all_at expression_at
giving_by k.New = (λ a b. giving.New a b) <$> name_at <*> all_at expression_at
giving_by k.Get = (λ a b. giving.Get a b) <$> expression_at <*> wait_at
giving_by k.JoinAll = (λ a b c. giving.JoinAll a b c) <$> expression_at <*> count_of_at <*> timed_at
giving_by k.Link = (λ a b. giving.Link link.Any a b) <$> expression_at <*> name_at
giving_by k.LinkValue = (λ a b. giving.Link link.Value a b) <$> expression_at <*> name_at
giving_by k.LinkFault = (λ a b. giving.Link link.Fault a b) <$> expression_at <*> name_at
giving_by k.RawLink = λ ts. expression_at ts >>= λ x. raw_link_at x.0 x.1
giving_by k.Wait = (λ a b. giving.WaitEvent a b) <$> name_at <*> timed_at
giving_by k.ResultGet = (λ a b. giving.ResultGet a b) <$> name_at <*> wait_at
giving_by k.ResultWait = (λ a b. giving.ResultWait a b) <$> name_at <*> timed_at
giving_by k.Acquire = (λ a b. giving.Acquire a b) <$> name_at <*> wait_at
giving_by k.QueueGet = (λ a b. giving.QueueGet a b) <$> name_at <*> wait_at
giving_by k.QueuePeek = (λ a b. giving.QueuePeek a b) <$> name_at <*> wait_at
giving_by k.QueueJoin = (λ a b. giving.QueueJoin a b) <$> name_at <*> timed_at
giving_by k.GroupSpawn = (λ a b c. giving.GroupSpawn a b c) <$> name_at <*> name_at <*> all_at expression_at
giving_by k.Map = (λ a b c. giving.Map a b c) <$> name_at <*> name_at <*> expression_at
giving_by k.NativeSpawn = (λ a b c d. giving.NativeSpawn a b c d) <$> name_at <*> word_at job_kind_of <*> expression_at <*> takes_at
giving_by k.Raw = (λ a b. giving.Raw a b) <$> name_at <*> under_at
giving_by k.Switch = (λ a b. giving.Switch a b) <$> expression_at <*> expression_at
giving_by k.Throw = (λ a b. giving.Throw a b) <$> expression_at <*> with_at
giving_by k.ChannelGet = (λ a. giving.ChannelGet a) <$> name_at
giving_by _ = λ ts. Err reason.UnknownWord

-- the words of the statements that give a value
abbrev pub gives : Keyword → Bool
gives k.Spawn = true
gives k.SpawnLater = true
gives k.New = true
gives k.Get = true
gives k.JoinAll = true
gives k.Link = true
gives k.LinkValue = true
gives k.LinkFault = true
gives k.RawLink = true
gives k.Wait = true
gives k.ResultGet = true
gives k.ResultWait = true
gives k.Acquire = true
gives k.QueueGet = true
gives k.QueuePeek = true
gives k.QueueJoin = true
gives k.GroupSpawn = true
gives k.Map = true
gives k.NativeSpawn = true
gives k.Raw = true
gives k.Switch = true
gives k.Throw = true
gives k.ChannelGet = true
gives _ = false

-- a statement that gives a value
abbrev pub giving_at : Reader Giving
giving_at [] = Err reason.TooShort
giving_at (token.Fixed word ∷ ts) = giving_by word ts
giving_at (t ∷ ts) = Err reason.UnknownWord

-- the rest of a line, by its first word
abbrev pub phrase_by : Keyword → Reader Phrase
phrase_by k.Profile = (λ n. phrase.Profile n) <$> number_at 2 3
phrase_by k.Event = (λ n. phrase.Declaration n object.Event) <$> name_at
phrase_by k.Result = (λ n. phrase.Declaration n object.Result) <$> name_at
phrase_by k.Sem = (λ n x. phrase.Declaration n (object.Semaphore x)) <$> name_at <*> number_at 0 MOST_UNITS
phrase_by k.BoundedSem = (λ n x. phrase.Declaration n (object.BoundedSemaphore x)) <$> name_at <*> number_at 0 MOST_UNITS
phrase_by k.Lock = (λ n. phrase.Declaration n object.Lock) <$> name_at
phrase_by k.Queue = (λ n kind size. phrase.Declaration n (object.Queue kind size)) <$> name_at <*> word_at queue_of <*> size_at
phrase_by k.Group = (λ n. phrase.Declaration n object.Group) <$> name_at
phrase_by k.Pool = (λ n x. phrase.Declaration n (object.Pool x)) <$> name_at <*> number_at 1 MOST_POOL_PLACES
phrase_by k.Native = (λ n x. phrase.Declaration n (object.Native x)) <$> name_at <*> number_at 1 MOST_SLOTS
phrase_by k.Channel = (λ n. phrase.Declaration n object.Channel) <$> name_at
phrase_by k.Function = (λ a b. phrase.Function false a b) <$> name_at <*> all_at name_at
phrase_by k.RawFunction = (λ n p. phrase.Function true n (p ∷ [])) <$> name_at <*> name_at
phrase_by k.Print = (λ x. phrase.Command (command.Print x)) <$> expression_at
phrase_by k.Let = (λ n x. phrase.Command (command.Let n x)) <$> name_at <*> expression_at
phrase_by k.Return = (λ x. phrase.Command (command.Return x)) <$> expression_at
phrase_by k.Raise = (λ x. phrase.Command (command.Raise x)) <$> expression_at
phrase_by k.Start = (λ x. phrase.Command (command.Start x)) <$> expression_at
phrase_by k.Sleep = (λ n. phrase.Command (command.Sleep n)) <$> ms_at
phrase_by k.Join = (λ x t. phrase.Command (command.Join x t)) <$> expression_at <*> timed_at
phrase_by k.Kill = (λ x f w. phrase.Command (command.Kill x f w)) <$> expression_at <*> with_at <*> wait_at
phrase_by k.KillAll = (λ x f w. phrase.Command (command.KillAll x f w)) <$> expression_at <*> with_at <*> wait_at
phrase_by k.Unlink = (λ x. phrase.Command (command.Unlink x)) <$> expression_at
phrase_by k.Set = (λ n. phrase.Command (command.Set n)) <$> name_at
phrase_by k.Clear = (λ n. phrase.Command (command.Clear n)) <$> name_at
phrase_by k.ResultSet = (λ n x. phrase.Command (command.ResultSet n x)) <$> name_at <*> expression_at
phrase_by k.ResultFail = (λ n x. phrase.Command (command.ResultFail n x)) <$> name_at <*> expression_at
phrase_by k.Release = (λ n. phrase.Command (command.Release n)) <$> name_at
phrase_by k.QueuePut = (λ n x w. phrase.Command (command.QueuePut n x w)) <$> name_at <*> expression_at <*> wait_at
phrase_by k.QueueDone = (λ n. phrase.Command (command.QueueDone n)) <$> name_at
phrase_by k.GroupJoin = (λ n t. phrase.Command (command.GroupJoin n t)) <$> name_at <*> timed_at
phrase_by k.GroupKill = (λ n f now. phrase.Command (command.GroupKill n f now)) <$> name_at <*> with_at <*> now_at
phrase_by k.SetParent = (λ x y. phrase.Command (command.SetParent x y)) <$> expression_at <*> expression_at
phrase_by k.ChannelPut = (λ n x. phrase.Command (command.ChannelPut n x)) <$> name_at <*> expression_at
phrase_by k.QueueShut = (λ n immediate. phrase.Command (command.QueueShut n immediate)) <$> name_at <*> immediate_at
phrase_by k.If = (λ a. phrase.If a) <$> expression_at
phrase_by k.Else = pure phrase.Else
phrase_by k.While = (λ a. phrase.While a) <$> expression_at
phrase_by k.Try = pure phrase.Try
phrase_by k.Except = (λ a b. phrase.Except a b) <$> class_at <*> binding_at
phrase_by k.Finally = pure phrase.Finally
phrase_by k.Timeout = (λ a b. phrase.Timeout a b) <$> after_at <*> silent_at
phrase_by k.End = pure phrase.End
phrase_by word = phrase.Giving None <$> giving_by word

-- a line whose second word is `<-`
abbrev pub is_given : List Token → Bool
is_given (t ∷ token.Fixed k.Arrow ∷ ts) = true
is_given _ = false

-- `<-`, which is known to stand there
abbrev pub arrow_at : Reader (Unit {0})
arrow_at [] = Err reason.TooShort
arrow_at (t ∷ ts) = Ok (tt, ts)

-- `NAME <-` and a statement that gives a value
abbrev pub given_at : Reader Phrase
given_at = (λ n arrow g. phrase.Giving (Some n) g) <$> name_at <*> arrow_at <*> giving_at

-- a line without `<-`
abbrev pub unmarked_at : Reader Phrase
unmarked_at [] = Err reason.TooShort
unmarked_at (token.Fixed word ∷ ts) = phrase_by word ts
unmarked_at (t ∷ ts) = Err reason.UnknownWord

-- a line has no word left
abbrev pub whole : {A : Type 0} → Reading A → Result A TextReason
whole (Ok (x, [])) = Ok x
whole (Ok (x, t ∷ ts)) = Err reason.TooLong
whole (Err r) = Err r

-- what a line says
unfoldable pub phrase_of : List Token → Result Phrase TextReason
phrase_of ts = whole (if is_given ts then given_at ts else unmarked_at ts)
