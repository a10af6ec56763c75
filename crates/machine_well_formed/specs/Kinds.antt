-- What of an object never changes: its kind, with the bound, size or slots that it was declared with. This project's
-- own.
use Rattle.std.specs.Prelude.{ℕ, List, map, Option, Some, None}
use Rattle.scenario_tree.specs.declared.tree.Declaration.{Declaration}
use Rattle.scenario_tree.specs.declared.tree.Object.{Object as Declared}
use Rattle.scenario_tree.specs.declared.tree.QueueKind.{QueueKind}
use Rattle.scenario_tree.specs.declared.tree.Scenario.{Scenario}
use Rattle.machine.specs.declared.state.Object.{Object}

pub data Kind : Type 0 where
  Event Result Lock Channel : Kind
  -- its bound
  Semaphore : Option ℕ → Kind
  -- its size
  Queue : QueueKind → Option ℕ → Kind
  Crew : Option ℕ → Kind
  -- its slots
  Native : ℕ → Kind

-- the kind of an object
abbrev pub kind_of : Object → Kind
kind_of (Object.Event flag sets) = Kind.Event
kind_of (Object.Result outcome) = Kind.Result
kind_of (Object.Semaphore counter bound) = Kind.Semaphore bound
kind_of (Object.Lock owner depth) = Kind.Lock
kind_of (Object.Queue kind size items unfinished shut) = Kind.Queue kind size
kind_of (Object.Crew size members) = Kind.Crew size
kind_of (Object.Native slots outstanding) = Kind.Native slots
kind_of (Object.Channel offers) = Kind.Channel

-- the kind that is declared
abbrev pub kind_declared : Declared → Kind
kind_declared Declared.Event = Kind.Event
kind_declared Declared.Result = Kind.Result
kind_declared (Declared.Semaphore n) = Kind.Semaphore None
kind_declared (Declared.BoundedSemaphore n) = Kind.Semaphore (Some n)
kind_declared Declared.Lock = Kind.Lock
kind_declared (Declared.Queue kind size) = Kind.Queue kind size
kind_declared Declared.Group = Kind.Crew None
kind_declared (Declared.Pool n) = Kind.Crew (Some n)
kind_declared (Declared.Native n) = Kind.Native n
kind_declared Declared.Channel = Kind.Channel

-- the kinds that a scenario declares, in order
abbrev pub declared_kinds : Scenario → List Kind
declared_kinds c = map (λ (d : Declaration). kind_declared d.object) c.objects

-- the kinds of these objects
abbrev pub kinds : List Object → List Kind
kinds objects = map kind_of objects
