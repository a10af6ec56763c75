-- What the statements of one line with numbers stand for, where these are the names.
use Rattle.std.specs.Prelude.{⊤, List, map, option_map}
use Rattle.gv_values.specs.declared.name.Name.{Name}
use Rattle.scenario_tree.specs.declared.tree.Command.{Command}
use Rattle.scenario_tree.specs.declared.tree.Giving.{Giving}
use Rattle.body_names.specs.declared.command.FlatCommand.{FlatCommand as Flat}
use Rattle.body_names.specs.declared.giving.FlatGiving.{FlatGiving as Grant}
use Rattle.body_names.specs.Expressions.{expression_of}
use Rattle.body_names.specs.Naming.{name_of}

-- one that gives no value
abbrev pub command_of : List Name → Flat → Command
command_of names (Flat.Print e) = Command.Print (expression_of names e)
command_of names (Flat.Let slot e) = Command.Let (name_of names slot.number) (expression_of names e)
command_of names (Flat.Return e) = Command.Return (expression_of names e)
command_of names (Flat.Raise e) = Command.Raise (expression_of names e)
command_of names (Flat.Start e) = Command.Start (expression_of names e)
command_of names (Flat.Sleep ms) = Command.Sleep ms
command_of names (Flat.Join e t) = Command.Join (expression_of names e) t
command_of names (Flat.Kill e f w) = Command.Kill (expression_of names e) (option_map (expression_of names) f) w
command_of names (Flat.KillAll e f w) = Command.KillAll (expression_of names e) (option_map (expression_of names) f) w
command_of names (Flat.Unlink e) = Command.Unlink (expression_of names e)
command_of names (Flat.Set n) = Command.Set (name_of names n)
command_of names (Flat.Clear n) = Command.Clear (name_of names n)
command_of names (Flat.ResultSet n e) = Command.ResultSet (name_of names n) (expression_of names e)
command_of names (Flat.ResultFail n e) = Command.ResultFail (name_of names n) (expression_of names e)
command_of names (Flat.Release n) = Command.Release (name_of names n)
command_of names (Flat.QueuePut n e w) = Command.QueuePut (name_of names n) (expression_of names e) w
command_of names (Flat.QueueDone n) = Command.QueueDone (name_of names n)
command_of names (Flat.GroupJoin n t) = Command.GroupJoin (name_of names n) t
command_of names (Flat.GroupKill n f now) = Command.GroupKill (name_of names n) (option_map (expression_of names) f) now
command_of names (Flat.SetParent e d) = Command.SetParent (expression_of names e) (expression_of names d)
command_of names (Flat.ChannelPut n e) = Command.ChannelPut (name_of names n) (expression_of names e)
command_of names (Flat.QueueShut n immediate) = Command.QueueShut (name_of names n) immediate

-- one that gives a value
abbrev pub giving_of : List Name → Grant → Giving
giving_of names (Grant.Spawn f es) = Giving.Spawn (name_of names f) (map (expression_of names) es)
giving_of names (Grant.SpawnLater ms f es) = Giving.SpawnLater ms (name_of names f) (map (expression_of names) es)
giving_of names (Grant.New f es) = Giving.New (name_of names f) (map (expression_of names) es)
giving_of names (Grant.Get e w) = Giving.Get (expression_of names e) w
giving_of names (Grant.JoinAll e count t) = Giving.JoinAll (expression_of names e) count t
giving_of names (Grant.Link kind e f) = Giving.Link kind (expression_of names e) (name_of names f)
giving_of names (Grant.LinkMark e mark) = Giving.LinkMark (expression_of names e) mark
giving_of names (Grant.LinkSet e n) = Giving.LinkSet (expression_of names e) (name_of names n)
giving_of names (Grant.WaitEvent n t) = Giving.WaitEvent (name_of names n) t
giving_of names (Grant.ResultGet n w) = Giving.ResultGet (name_of names n) w
giving_of names (Grant.ResultWait n t) = Giving.ResultWait (name_of names n) t
giving_of names (Grant.Acquire n w) = Giving.Acquire (name_of names n) w
giving_of names (Grant.QueueGet n w) = Giving.QueueGet (name_of names n) w
giving_of names (Grant.QueuePeek n w) = Giving.QueuePeek (name_of names n) w
giving_of names (Grant.QueueJoin n t) = Giving.QueueJoin (name_of names n) t
giving_of names (Grant.GroupSpawn n f es) = Giving.GroupSpawn (name_of names n) (name_of names f) (map (expression_of names) es)
giving_of names (Grant.Map n f e) = Giving.Map (name_of names n) (name_of names f) (expression_of names e)
giving_of names (Grant.NativeSpawn n job e takes) = Giving.NativeSpawn (name_of names n) job (expression_of names e) takes
giving_of names (Grant.Raw f e) = Giving.Raw (name_of names f) (option_map (expression_of names) e)
giving_of names (Grant.Switch e d) = Giving.Switch (expression_of names e) (expression_of names d)
giving_of names (Grant.Throw e f) = Giving.Throw (expression_of names e) (option_map (expression_of names) f)
giving_of names (Grant.ChannelGet n) = Giving.ChannelGet (name_of names n)

-- ---- statements by what they do

-- one that does something to greenlets
abbrev pub ChangesGreenlet : Command → Type 0
ChangesGreenlet (Command.Start e) = ⊤
ChangesGreenlet (Command.Join e t) = ⊤
ChangesGreenlet (Command.Kill e f w) = ⊤
ChangesGreenlet (Command.KillAll e f w) = ⊤
ChangesGreenlet (Command.Unlink e) = ⊤
ChangesGreenlet (Command.SetParent e d) = ⊤
ChangesGreenlet c = ⊥

-- one that does something to an object, and gives it no value
abbrev pub ChangesObject : Command → Type 0
ChangesObject (Command.Set n) = ⊤
ChangesObject (Command.Clear n) = ⊤
ChangesObject (Command.Release n) = ⊤
ChangesObject (Command.QueueDone n) = ⊤
ChangesObject (Command.QueueShut n immediate) = ⊤
ChangesObject (Command.GroupJoin n t) = ⊤
ChangesObject (Command.GroupKill n f now) = ⊤
ChangesObject c = ⊥

-- one that makes greenlets or a job
abbrev pub Makes : Giving → Type 0
Makes (Giving.Spawn f es) = ⊤
Makes (Giving.SpawnLater ms f es) = ⊤
Makes (Giving.New f es) = ⊤
Makes (Giving.GroupSpawn n f es) = ⊤
Makes (Giving.Map n f e) = ⊤
Makes (Giving.NativeSpawn n job e takes) = ⊤
Makes (Giving.Raw f e) = ⊤
Makes g = ⊥

-- one that asks an object for what it gives
abbrev pub AsksObject : Giving → Type 0
AsksObject (Giving.WaitEvent n t) = ⊤
AsksObject (Giving.ResultGet n w) = ⊤
AsksObject (Giving.ResultWait n t) = ⊤
AsksObject (Giving.Acquire n w) = ⊤
AsksObject (Giving.QueueGet n w) = ⊤
AsksObject (Giving.QueuePeek n w) = ⊤
AsksObject (Giving.QueueJoin n t) = ⊤
AsksObject (Giving.ChannelGet n) = ⊤
AsksObject g = ⊥
