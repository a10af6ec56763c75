-- What a park line says is waited for.
use Rattle.std.specs.Prelude.{ℕ, Option, Some, None}
use Rattle.gv_values.specs.declared.value.Whom.{Whom}
use Rattle.trace_text.specs.declared.line.Awaited.{Awaited}
use Rattle.machine.specs.declared.items.Waiting.{Waiting}
use Rattle.machine.specs.Objects.{name_of_object}
use Rattle.machine.specs.State.{State}

-- the object at which the wait is, whose name stands in its line
abbrev pub object_of : Waiting → Option ℕ
object_of (Waiting.Event o sets) = Some o
object_of (Waiting.ResultGet o) = Some o
object_of (Waiting.ResultWait o) = Some o
object_of (Waiting.Acquire o) = Some o
object_of (Waiting.Lock o) = Some o
object_of (Waiting.Put o v) = Some o
object_of (Waiting.Take o) = Some o
object_of (Waiting.Peek o) = Some o
object_of (Waiting.Tasks o) = Some o
object_of (Waiting.Place o f args) = Some o
object_of (Waiting.MapPlace o f xs made) = Some o
object_of (Waiting.MapEnd o made) = Some o
object_of (Waiting.Members o) = Some o
object_of (Waiting.Slot o job takes) = Some o
object_of (Waiting.Offered o) = Some o
object_of (Waiting.TakeOffer o) = Some o
object_of w = None

-- What its line says. A wait for the ends of killed greenlets doesn't tell what was killed: this is for those of a list,
-- and where it was one greenlet, or the members of a group or pool, the line says so instead.
abbrev pub awaited_of : Waiting → State → Awaited
awaited_of (Waiting.Sleep until) s = Awaited.Sleep
awaited_of (Waiting.Join g) s = Awaited.Join (Whom.Greenlet g)
awaited_of (Waiting.Get whom) s = Awaited.Get whom
awaited_of (Waiting.Kill gs) s = Awaited.KillAll
awaited_of (Waiting.JoinAll gs need) s = Awaited.JoinAll
awaited_of (Waiting.Event o sets) s = Awaited.Wait (name_of_object o s)
awaited_of (Waiting.ResultGet o) s = Awaited.ResultGet (name_of_object o s)
awaited_of (Waiting.ResultWait o) s = Awaited.ResultWait (name_of_object o s)
awaited_of (Waiting.Acquire o) s = Awaited.Acquire (name_of_object o s)
awaited_of (Waiting.Lock o) s = Awaited.Acquire (name_of_object o s)
awaited_of (Waiting.Put o v) s = Awaited.QueuePut (name_of_object o s)
awaited_of (Waiting.Take o) s = Awaited.QueueGet (name_of_object o s)
awaited_of (Waiting.Peek o) s = Awaited.QueuePeek (name_of_object o s)
awaited_of (Waiting.Tasks o) s = Awaited.QueueJoin (name_of_object o s)
awaited_of (Waiting.Place o f args) s = Awaited.GroupSpawn (name_of_object o s)
awaited_of (Waiting.MapPlace o f xs made) s = Awaited.Map (name_of_object o s)
awaited_of (Waiting.MapEnd o made) s = Awaited.Map (name_of_object o s)
awaited_of (Waiting.Members o) s = Awaited.GroupJoin (name_of_object o s)
awaited_of (Waiting.Slot o job takes) s = Awaited.NativeSpawn (name_of_object o s)
awaited_of (Waiting.Offered o) s = Awaited.ChannelPut (name_of_object o s)
awaited_of (Waiting.TakeOffer o) s = Awaited.ChannelGet (name_of_object o s)
