-- Waiting: what a completion gives and takes, what a Late gives, and how a greenlet parks. Results are those of gevent
-- API reference for the method of the same meaning; lines and numbers are this project's own.
use Rattle.std.specs.Prelude.{ℕ, ◌+◌, Bool, true, false, List, [], ◌∷◌, length, Option, Some, None, if◌then◌else◌, unwrap_or, ◌++◌, map, filter, reverse}
use Rattle.gv_values.specs.declared.fault.FaultKind.{FaultKind}
use Rattle.scenario_tree.specs.declared.tree.Wait.{Wait}
use Rattle.gv_values.specs.declared.value.Value.{Value}
use Rattle.gv_values.specs.declared.scalar.Scalar.{Scalar}
use Rattle.gv_values.specs.declared.value.Outcome.{Outcome}
use Rattle.machine.specs.declared.items.Delivery.{Delivery}
use Rattle.machine.specs.declared.items.Waiting.{Waiting}
use Rattle.gv_values.specs.declared.value.Whom.{Whom}
use Rattle.gv_values.specs.declared.job.Job.{Job}
use Rattle.machine.specs.declared.state.Object.{Object}
use Rattle.trace_text.specs.declared.line.StopCause.{StopCause}
use Rattle.trace_text.specs.declared.line.Line.{Line}
use Rattle.trace_text.specs.declared.line.Awaited.{Awaited}
use Rattle.machine.specs.State.{State, say}
use Rattle.machine.specs.Holds.{outcome_of, is_done, newcomer_completes, earlier, is_take}
use Rattle.machine.specs.Items.{add_item}
use Rattle.machine.specs.Greenlets.{add_greenlet, has_greenlet_left}
use Rattle.machine.specs.Objects.{with_object, object_at, name_of_object, with_unit_taken, with_owner, with_item, with_item_taken, item_of, with_member, with_slot_taken, is_shut, is_left, with_offer, with_offer_taken, offer_of}
use Rattle.gv_values.specs.Value.{value_of_scalar}
use Rattle.machine.specs.Expressions.{scalars, truth}

-- what comes of a request
pub data Performed : Type 0 where
  -- it is answered
  Answers : Outcome → State → Performed
  -- its greenlet parked
  Parks : State → Performed
  -- the input lands at another greenlet
  Lands : ℕ → Outcome → State → Performed
  -- the run stops
  Stops : StopCause → State → Performed

-- answered with none
abbrev pub nothing : Outcome
nothing = Outcome.Value Value.Nothing

-- answered with a fault
abbrev pub raises : FaultKind → State → Performed
raises f s = Performed.Answers (Outcome.Fault f) s

-- what was put into the result
abbrev pub result_of : Object → Outcome
result_of (Object.Result (Some o)) = o
result_of object = nothing

-- the value, and none for a fault
abbrev pub value_or_none : Outcome → Outcome
value_or_none (Outcome.Value v) = Outcome.Value v
value_or_none (Outcome.Fault f) = nothing

-- the Done ones, in order
abbrev pub done_ones : State → List ℕ → Outcome
done_ones s gs = Outcome.Value (Value.List (map Scalar.Greenlet (filter (is_done s) gs)))

-- what a map gives: the first fault in order, TypeError where a value is a list, else the list of the values
abbrev pub gathered : List Outcome → List Value → Outcome
gathered [] vs = elim (scalars (reverse vs)) [ Some xs ↦ Outcome.Value (Value.List xs) | None ↦ Outcome.Fault FaultKind.TypeError ]
gathered (Outcome.Fault f ∷ os) vs = Outcome.Fault f
gathered (Outcome.Value v ∷ os) vs = gathered os (v ∷ vs)

-- what the greenlet ended with
abbrev pub outcome_of_greenlet : State → ℕ → Outcome
outcome_of_greenlet s g = unwrap_or (outcome_of s (Whom.Greenlet g)) nothing

-- a `get` or `rget` draws the number of the Timeout that it raises
abbrev pub draws : Waiting → Bool
draws (Waiting.Get whom) = true
draws (Waiting.ResultGet o) = true
draws w = false

-- what the wait gives where its time is over; n is the number of its Timeout
abbrev pub late_outcome : Waiting → ℕ → State → Outcome
late_outcome (Waiting.Get whom) n s = Outcome.Fault (FaultKind.Timeout n)
late_outcome (Waiting.ResultGet o) n s = Outcome.Fault (FaultKind.Timeout n)
late_outcome (Waiting.JoinAll gs need) n s = done_ones s gs
late_outcome (Waiting.Event o sets) n s = truth false
late_outcome (Waiting.Acquire o) n s = truth false
late_outcome (Waiting.Lock o) n s = truth false
late_outcome (Waiting.Tasks o) n s = truth false
late_outcome (Waiting.Put o v) n s = Outcome.Fault FaultKind.Full
late_outcome (Waiting.Take o) n s = Outcome.Fault FaultKind.Empty
late_outcome (Waiting.Peek o) n s = Outcome.Fault FaultKind.Empty
late_outcome w n s = nothing

-- the state after the drawing of a timeout number, where the wait draws one
abbrev pub drawn : Waiting → State → State
drawn w s = if draws w then record s { timeouts = s.timeouts + 1 } else s

-- the deadline of a sleep stands in its park line too
abbrev pub until_of : Waiting → Option ℕ → Option ℕ
until_of (Waiting.Sleep until) deadline = Some until
until_of w deadline = deadline

-- the greenlet parks: the park line, its Wake, and right after it its Late where the wait has a deadline
abbrev pub parked : ℕ → Awaited → Waiting → Option ℕ → State → State
parked g word w None s = add_item (Delivery.Wake g w) (say (Line.Park g word (until_of w None)) s)
parked g word w (Some deadline) s =
    let t = drawn w (add_item (Delivery.Wake g w) (say (Line.Park g word (Some deadline)) s)) in
    add_item (Delivery.Late g deadline (if draws w then t.timeouts else 0)) t

-- the wait isn't begun, or parks
abbrev pub waits : ℕ → Awaited → Waiting → Wait → State → Performed
waits g word w Wait.Block s = Performed.Parks (parked g word w None s)
waits g word w (Wait.Within ms) s = Performed.Parks (parked g word w (Some (s.moment + ms)) s)
waits g word w Wait.Now s = let t = drawn w s in Performed.Answers (late_outcome w t.timeouts t) t

-- the greenlet parks with an offer, which has the since of its Wake
abbrev pub offered : ℕ → ℕ → Value → State → State
offered g o v s = with_object o (with_offer v s.next_since (object_at o s)) (parked g (Awaited.ChannelPut (name_of_object o s)) (Waiting.Offered o) None s)

-- a member of the group or pool, with its start item
abbrev pub add_member : ℕ → ℕ → List Value → State → State
add_member o f args s =
    let g = length s.greenlets in
    let t = add_item (Delivery.Start g None) (add_greenlet false 0 f args s) in
    with_object o (with_member g (object_at o t)) t

-- the map ends where all its members are Done
abbrev pub map_ends : ℕ → ℕ → List ℕ → State → Performed
map_ends g o made s =
    if newcomer_completes s g (Waiting.MapEnd o made) then Performed.Answers (gathered (map (outcome_of_greenlet s) made) []) s
    else Performed.Parks (parked g (Awaited.Map (name_of_object o s)) (Waiting.MapEnd o made) None s)

-- a map goes on with these elements: a member for each, where there is a place for it
abbrev pub maps : List Scalar → ℕ → ℕ → ℕ → List ℕ → State → Performed
maps [] g o f made s = map_ends g o made s
maps (x ∷ xs) g o f made s =
    elim (newcomer_completes s g (Waiting.MapPlace o f (x ∷ xs) made)) [
      | false ↦ Performed.Parks (parked g (Awaited.Map (name_of_object o s)) (Waiting.MapPlace o f (x ∷ xs) made) None s)
      | true ↦ elim (has_greenlet_left s) [
        | false ↦ Performed.Stops StopCause.NoGreenlets s
        | true ↦ maps xs g o f (made ++ length s.greenlets ∷ []) (add_member o f (value_of_scalar x ∷ []) s)
      ]
    ]

-- the first element has its place
abbrev pub map_goes_on : List Scalar → ℕ → ℕ → ℕ → List ℕ → State → Performed
map_goes_on [] g o f made s = map_ends g o made s
map_goes_on (x ∷ xs) g o f made s =
    if has_greenlet_left s then maps xs g o f (made ++ length s.greenlets ∷ []) (add_member o f (value_of_scalar x ∷ []) s)
    else Performed.Stops StopCause.NoGreenlets s

-- a member starts, and its handle is the answer
abbrev pub made_member : ℕ → ℕ → List Value → State → Performed
made_member o f args s =
    if has_greenlet_left s then Performed.Answers (Outcome.Value (Value.Greenlet (length s.greenlets))) (add_member o f args s)
    else Performed.Stops StopCause.NoGreenlets s

-- the job is posted: its line, its slot, and what is given to native threads
abbrev pub posted : ℕ → ℕ → Job → ℕ → State → State
posted g o job takes s =
    with_object o (with_slot_taken (object_at o s))
    (say (Line.Job (length s.jobs + 1) g job)
    (record s { jobs = s.jobs ++ record { job = job; pool = o; outcome = None } ∷ []; posts = s.posts ++ record { number = length s.jobs + 1; job = job; takes = takes } ∷ [] }))

-- what is put goes in; on a shut queue it is dropped
abbrev pub puts_item : ℕ → Value → Object → State → Performed
puts_item o v object s = if is_shut object then raises FaultKind.ShutDown s else Performed.Answers nothing (with_object o (with_item v object) s)

-- the item is taken, where so many earlier getters leave one; a queue that leaves none is shut
abbrev pub takes_item : ℕ → ℕ → Object → State → Performed
takes_item o before object s =
    if is_left before object then Performed.Answers (Outcome.Value (item_of object)) (with_object o (with_item_taken object) s)
    else raises FaultKind.ShutDown s

-- a peek gives the item and leaves it in place; a queue that leaves none for it is shut
abbrev pub peeks_item : ℕ → Object → State → Performed
peeks_item before object s = if is_left before object then Performed.Answers (Outcome.Value (item_of object)) s else raises FaultKind.ShutDown s

-- the condition of the wait holds, and it completes: the unit, item, offer, place or slot is taken here, never before
abbrev pub completes : ℕ → ℕ → Waiting → State → Performed
completes g since (Waiting.Sleep until) s = Performed.Answers nothing s
completes g since (Waiting.Join h) s = Performed.Answers nothing s
completes g since (Waiting.Get whom) s = Performed.Answers (unwrap_or (outcome_of s whom) nothing) s
completes g since (Waiting.Kill gs) s = Performed.Answers nothing s
completes g since (Waiting.JoinAll gs need) s = Performed.Answers (done_ones s gs) s
completes g since (Waiting.Event o sets) s = Performed.Answers (truth true) s
completes g since (Waiting.ResultGet o) s = Performed.Answers (result_of (object_at o s)) s
completes g since (Waiting.ResultWait o) s = Performed.Answers (value_or_none (result_of (object_at o s))) s
completes g since (Waiting.Acquire o) s = Performed.Answers (truth true) (with_object o (with_unit_taken (object_at o s)) s)
completes g since (Waiting.Lock o) s = Performed.Answers (truth true) (with_object o (with_owner g (object_at o s)) s)
completes g since (Waiting.Put o v) s = puts_item o v (object_at o s) s
completes g since (Waiting.Take o) s = takes_item o (earlier (is_take o) since s.items) (object_at o s) s
completes g since (Waiting.Peek o) s = peeks_item (earlier (is_take o) since s.items) (object_at o s) s
completes g since (Waiting.Tasks o) s = Performed.Answers (truth true) s
completes g since (Waiting.Place o f args) s = made_member o f args s
completes g since (Waiting.MapPlace o f xs made) s = map_goes_on xs g o f made s
completes g since (Waiting.MapEnd o made) s = Performed.Answers (gathered (map (outcome_of_greenlet s) made) []) s
completes g since (Waiting.Members o) s = Performed.Answers nothing s
completes g since (Waiting.Slot o job takes) s = Performed.Answers (Outcome.Value (Value.Job (length s.jobs + 1))) (posted g o job takes s)
completes g since (Waiting.Offered o) s = Performed.Answers nothing s
completes g since (Waiting.TakeOffer o) s = Performed.Answers (Outcome.Value (offer_of (object_at o s))) (with_object o (with_offer_taken (object_at o s)) s)

-- a newcomer completes at once, as the last of all waiters, or waits
abbrev pub comes : ℕ → Awaited → Waiting → Wait → State → Performed
comes g word w how s = if newcomer_completes s g w then completes g s.next_since w s else waits g word w how s
