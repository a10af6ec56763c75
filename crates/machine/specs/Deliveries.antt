-- The delivery of an item: it goes, with its twin where it is a Wake or Late, and its column of the table applies. This
-- project's own, after gevent API reference, `gevent.Greenlet` (`start`, `kill`, `link`) and `gevent.Timeout`.
use Rattle.std.specs.Prelude.{ℕ, ◌==◌, true, false, List, [], ◌∷◌, length, map, Option, Some, None, if◌then◌else◌}
use Rattle.gv_values.specs.declared.fault.FaultKind.{FaultKind}
use Rattle.gv_values.specs.declared.value.Value.{Value}
use Rattle.gv_values.specs.declared.value.Outcome.{Outcome}
use Rattle.machine.specs.declared.items.Item.{Item}
use Rattle.machine.specs.declared.items.Delivery.{Delivery}
use Rattle.machine.specs.declared.items.Waiting.{Waiting}
use Rattle.gv_values.specs.declared.link.LinkKind.{LinkKind}
use Rattle.machine.specs.declared.state.Phase.{Phase}
use Rattle.trace_text.specs.declared.line.StopCause.{StopCause}
use Rattle.trace_text.specs.declared.line.Line.{Line}
use Rattle.trace_text.specs.declared.line.LinkCall.{LinkCall}
use Rattle.trace_text.specs.declared.line.Resumed.{Resumed}
use Rattle.machine.specs.State.{State, say}
use Rattle.machine.specs.Settle.{settle}
use Rattle.machine.specs.Landing.{Next, starts, lands, answered}
use Rattle.machine.specs.Items.{drop_items, is_wait_of}
use Rattle.machine.specs.Greenlets.{greenlet, add_greenlet, has_greenlet_left}
use Rattle.machine.specs.Waits.{completes, late_outcome}
use Rattle.machine.specs.Objects.{with_object, object_at, name_of_object, without_offer}
use Rattle.machine.specs.Request.{follows}
use Rattle.machine.specs.Objects.{with_flag}

-- what the greenlet waits for
abbrev pub waiting_of : ℕ → List Item → Option Waiting
waiting_of g [] = None
waiting_of g (i ∷ items) = pick i.delivery (waiting_of g items)
  where
    pick : Delivery → Option Waiting → Option Waiting
    pick (Delivery.Wake h w) rest = if g == h then Some w else rest
    pick d rest = rest

-- the state without the Wake and Late of the greenlet
abbrev pub without_wait : ℕ → State → State
without_wait g s = drop_items (is_wait_of g) s

-- the items without this one
abbrev pub without : ℕ → List Item → List Item
without since [] = []
without since (i ∷ items) = if i.since == since then items else (i ∷ without since items)

-- the state without this item
abbrev pub without_item : Item → State → State
without_item i s = record s { items = without i.since s.items }

-- the arguments of a greenlet that was not started
abbrev pub arguments : Phase → List Value
arguments (Phase.New args) = args
arguments phase = []

-- the since of the Wake of the greenlet
abbrev pub since_of_wake : ℕ → List Item → Option ℕ
since_of_wake g [] = None
since_of_wake g (i ∷ items) = pick i.delivery i.since (since_of_wake g items)
  where
    pick : Delivery → ℕ → Option ℕ → Option ℕ
    pick (Delivery.Wake h w) since rest = if g == h then Some since else rest
    pick d since rest = rest

-- the state without the offer that was made by the Wake with this since, where it is still there
abbrev pub without_offer_by : Option ℕ → State → State
without_offer_by None s = s
without_offer_by (Some since) s = record s { objects = map (without_offer since) s.objects }

-- a kill, a timeout or LoopExit arrives at the statement of the greenlet; what it offers goes with its Wake
unfoldable pub interrupts : ℕ → FaultKind → State → Next
interrupts g f s = answered g (Outcome.Fault f) (settle (say (Line.Throw g f) (without_wait g (without_offer_by (since_of_wake g s.items) s))))

-- the time of the wait is over: its Wake and Late go, and it gives what its column says
abbrev pub late : ℕ → ℕ → Option Waiting → State → Next
late g n None s = Next.Resting s
late g n (Some w) s = let t = settle (without_wait g (say (Line.Resume g Resumed.Late) s)) in answered g (late_outcome w n t) t

-- the link's function runs as a new greenlet, at once
abbrev pub calls : ℕ → ℕ → ℕ → State → Next
calls k g f s =
    if has_greenlet_left s then
    (let m = length s.greenlets in
    starts lands m (Value.Greenlet g ∷ []) (add_greenlet false 0 f (Value.Greenlet g ∷ []) (say (Line.Link k g (LinkCall.Greenlet m)) s)))
    else Next.Over StopCause.NoGreenlets s

-- a link is called: its mark is written, its event is set, or its function runs
abbrev pub called : ℕ → ℕ → LinkKind → ℕ → State → Next
called k g (LinkKind.Mark x) f s = Next.Resting (settle (say (Line.Link k g (LinkCall.Mark x)) s))
called k g (LinkKind.Set o) f s = Next.Resting (settle (with_object o (with_flag true (object_at o s)) (say (Line.Link k g (LinkCall.Set (name_of_object o s))) s)))
called k g kind f s = calls k g f s

-- what the delivery of each kind of item does, which has this since
abbrev pub delivers : ℕ → Delivery → State → Next
delivers since (Delivery.Start g deadline) s = starts lands g (arguments (greenlet g s).phase) s
delivers since (Delivery.Wake g w) s = follows g (completes g since w (without_wait g (say (Line.Resume g Resumed.Wake) s)))
delivers since (Delivery.Late g deadline n) s = late g n (waiting_of g s.items) s
delivers since (Delivery.Timeout g n deadline) s = interrupts g (FaultKind.Timeout n) s
delivers since (Delivery.Kill g f) s = interrupts g f s
delivers since (Delivery.Link k g kind f) s = called k g kind f s

-- the item goes and is delivered
unfoldable pub deliver : Item → State → Next
deliver i s = delivers i.since i.delivery (without_item i s)
