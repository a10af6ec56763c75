-- The fixed words.
use Rattle.std.specs.Prelude.{ℕ, Bool, List, [], ◌∷◌, Option, codes, nat_eq}
use Rattle.std.specs.List.{find}
use Rattle.std.specs.Cmp.Lexicographic.{pointwise}
use Rattle.scenario_grammar.specs.declared.keyword.Keyword.{Keyword}
use Rattle.scenario_grammar.specs.declared.keyword.Keyword.TheVariants as k

-- how a fixed word is spelled
abbrev pub spelling : Keyword → List ℕ
spelling k.Event = codes "event"
spelling k.Result = codes "result"
spelling k.Sem = codes "sem"
spelling k.BoundedSem = codes "bsem"
spelling k.Lock = codes "rlock"
spelling k.Queue = codes "queue"
spelling k.Fifo = codes "fifo"
spelling k.Lifo = codes "lifo"
spelling k.Priority = codes "prio"
spelling k.Join = codes "join"
spelling k.Nothing = codes "none"
spelling k.Group = codes "group"
spelling k.Pool = codes "pool"
spelling k.Native = codes "native"
spelling k.Function = codes "def"
spelling k.RawFunction = codes "rawdef"
spelling k.End = codes "end"
spelling k.True = codes "true"
spelling k.False = codes "false"
spelling k.Current = codes "self"
spelling k.Not = codes "not"
spelling k.And = codes "and"
spelling k.Or = codes "or"
spelling k.List = codes "list"
spelling k.Push = codes "push"
spelling k.At = codes "at"
spelling k.Length = codes "len"
spelling k.Ready = codes "ready"
spelling k.Successful = codes "successful"
spelling k.Value = codes "value"
spelling k.ExceptionOf = codes "exception"
spelling k.IsSet = codes "isset"
spelling k.Counter = codes "counter"
spelling k.QueueSize = codes "qsize"
spelling k.Unfinished = codes "unfinished"
spelling k.Members = codes "members"
spelling k.Within = codes "within"
spelling k.Now = codes "now"
spelling k.Print = codes "print"
spelling k.Let = codes "let"
spelling k.Return = codes "return"
spelling k.Raise = codes "raise"
spelling k.If = codes "if"
spelling k.Else = codes "else"
spelling k.While = codes "while"
spelling k.Try = codes "try"
spelling k.Except = codes "except"
spelling k.Finally = codes "finally"
spelling k.Timeout = codes "timeout"
spelling k.Silent = codes "silent"
spelling k.Spawn = codes "spawn"
spelling k.SpawnLater = codes "spawnlater"
spelling k.New = codes "new"
spelling k.Start = codes "start"
spelling k.Sleep = codes "sleep"
spelling k.Get = codes "get"
spelling k.Kill = codes "kill"
spelling k.With = codes "with"
spelling k.JoinAll = codes "joinall"
spelling k.Count = codes "count"
spelling k.KillAll = codes "killall"
spelling k.Link = codes "link"
spelling k.LinkValue = codes "linkvalue"
spelling k.LinkFault = codes "linkfault"
spelling k.RawLink = codes "rawlink"
spelling k.Mark = codes "mark"
spelling k.Set = codes "set"
spelling k.Unlink = codes "unlink"
spelling k.Clear = codes "clear"
spelling k.Wait = codes "wait"
spelling k.ResultSet = codes "rset"
spelling k.ResultFail = codes "rfail"
spelling k.ResultGet = codes "rget"
spelling k.ResultWait = codes "rwait"
spelling k.Acquire = codes "acquire"
spelling k.Release = codes "release"
spelling k.QueuePut = codes "qput"
spelling k.QueueGet = codes "qget"
spelling k.QueuePeek = codes "qpeek"
spelling k.QueueDone = codes "qdone"
spelling k.QueueJoin = codes "qjoin"
spelling k.GroupSpawn = codes "gspawn"
spelling k.GroupJoin = codes "gjoin"
spelling k.GroupKill = codes "gkill"
spelling k.Map = codes "map"
spelling k.NativeSpawn = codes "nspawn"
spelling k.Sum = codes "sum"
spelling k.Collatz = codes "collatz"
spelling k.Fail = codes "fail"
spelling k.Echo = codes "echo"
spelling k.Takes = codes "takes"
spelling k.Raw = codes "raw"
spelling k.Under = codes "under"
spelling k.Switch = codes "switch"
spelling k.Throw = codes "throw"
spelling k.SetParent = codes "setparent"
spelling k.Any = codes "any"
spelling k.Profile = codes "profile"
spelling k.Channel = codes "channel"
spelling k.ChannelPut = codes "cput"
spelling k.ChannelGet = codes "cget"
spelling k.QueueShut = codes "qshut"
spelling k.Immediate = codes "immediate"
spelling k.Plus = codes "+"
spelling k.Minus = codes "-"
spelling k.Times = codes "*"
spelling k.Slash = codes "/"
spelling k.Percent = codes "%"
spelling k.Equal = codes "=="
spelling k.NotEqual = codes "!="
spelling k.Less = codes "<"
spelling k.AtMost = codes "<="
spelling k.Arrow = codes "<-"
spelling k.AnException = codes "Exception"
spelling k.GreenletExit = codes "GreenletExit"
spelling k.ATimeout = codes "Timeout"
spelling k.LoopExit = codes "LoopExit"
spelling k.Empty = codes "Empty"
spelling k.Full = codes "Full"
spelling k.ShutDown = codes "ShutDown"
spelling k.ValueError = codes "ValueError"
spelling k.RuntimeError = codes "RuntimeError"
spelling k.TypeError = codes "TypeError"
spelling k.OverflowError = codes "OverflowError"
spelling k.ZeroDivisionError = codes "ZeroDivisionError"
spelling k.InvalidSwitch = codes "InvalidSwitch"
spelling k.Error = codes "Error"

-- whether w spells the fixed word k
abbrev pub is_spelled : List ℕ → Keyword → Bool
is_spelled w k = pointwise nat_eq (spelling k) w

-- all fixed words, of every profile
unfoldable pub keywords : List Keyword
keywords =
    k.Event ∷ k.Result ∷ k.Sem ∷ k.BoundedSem ∷ k.Lock ∷ k.Queue ∷ k.Fifo ∷ k.Lifo ∷ k.Priority ∷ k.Join
    ∷ k.Nothing ∷ k.Group ∷ k.Pool ∷ k.Native ∷ k.Function ∷ k.RawFunction ∷ k.End ∷ k.True ∷ k.False
    ∷ k.Current ∷ k.Not ∷ k.And ∷ k.Or ∷ k.List ∷ k.Push ∷ k.At ∷ k.Length ∷ k.Ready ∷ k.Successful ∷ k.Value
    ∷ k.ExceptionOf ∷ k.IsSet ∷ k.Counter ∷ k.QueueSize ∷ k.Unfinished ∷ k.Members ∷ k.Within ∷ k.Now
    ∷ k.Print ∷ k.Let ∷ k.Return ∷ k.Raise ∷ k.If ∷ k.Else ∷ k.While ∷ k.Try ∷ k.Except ∷ k.Finally
    ∷ k.Timeout ∷ k.Silent ∷ k.Spawn ∷ k.SpawnLater ∷ k.New ∷ k.Start ∷ k.Sleep ∷ k.Get ∷ k.Kill ∷ k.With
    ∷ k.JoinAll ∷ k.Count ∷ k.KillAll ∷ k.Link ∷ k.LinkValue ∷ k.LinkFault ∷ k.RawLink ∷ k.Mark ∷ k.Set
    ∷ k.Unlink ∷ k.Clear ∷ k.Wait ∷ k.ResultSet ∷ k.ResultFail ∷ k.ResultGet ∷ k.ResultWait ∷ k.Acquire
    ∷ k.Release ∷ k.QueuePut ∷ k.QueueGet ∷ k.QueuePeek ∷ k.QueueDone ∷ k.QueueJoin ∷ k.GroupSpawn
    ∷ k.GroupJoin ∷ k.GroupKill ∷ k.Map ∷ k.NativeSpawn ∷ k.Sum ∷ k.Collatz ∷ k.Fail ∷ k.Echo ∷ k.Takes
    ∷ k.Raw ∷ k.Under ∷ k.Switch ∷ k.Throw ∷ k.SetParent ∷ k.Any ∷ k.Profile ∷ k.Channel ∷ k.ChannelPut
    ∷ k.ChannelGet ∷ k.QueueShut ∷ k.Immediate ∷ k.Plus ∷ k.Minus ∷ k.Times ∷ k.Slash ∷ k.Percent ∷ k.Equal
    ∷ k.NotEqual ∷ k.Less ∷ k.AtMost ∷ k.Arrow ∷ k.AnException ∷ k.GreenletExit ∷ k.ATimeout ∷ k.LoopExit
    ∷ k.Empty ∷ k.Full ∷ k.ShutDown ∷ k.ValueError ∷ k.RuntimeError ∷ k.TypeError ∷ k.OverflowError
    ∷ k.ZeroDivisionError ∷ k.InvalidSwitch ∷ k.Error ∷ []

-- the fixed word that this is
unfoldable pub keyword_of : List ℕ → Option Keyword
keyword_of w = find (is_spelled w) keywords

-- the profile that brought the word; `profile` itself is a fixed word of each
abbrev pub profile_of : Keyword → ℕ
profile_of k.Channel = 2
profile_of k.ChannelPut = 2
profile_of k.ChannelGet = 2
profile_of k.QueueShut = 2
profile_of k.Immediate = 2
profile_of _ = 1
