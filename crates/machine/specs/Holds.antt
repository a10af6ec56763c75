-- Which item holds: the tables of waits and of items, read as a function of the state. Earlier waiters are counted
-- afresh from the flat list. The conditions are those of gevent API reference, `gevent.Greenlet`, `gevent.event`,
-- `gevent.lock`, `gevent.queue`, `gevent.pool` and `gevent.threadpool`; that waiters are served in order of parking,
-- and no newcomer before them, is this project's own.
use Rattle.std.specs.Prelude.{ℕ, zero, suc, ◌-◌, ◌==◌, Bool, true, false, ◌&&◌, ◌||◌, not, List, [], ◌∷◌, length, Option, Some, None, is_some, is_none, if◌then◌else◌, slice_get, nat_lt, nat_le, count_by}
use Rattle.std.specs.List.{list_all, list_any}
use Rattle.gv_values.specs.declared.value.Value.{Value}
use Rattle.gv_values.specs.declared.value.Outcome.{Outcome}
use Rattle.machine.specs.declared.items.Item.{Item}
use Rattle.machine.specs.declared.items.Delivery.{Delivery}
use Rattle.machine.specs.declared.items.Waiting.{Waiting}
use Rattle.gv_values.specs.declared.link.LinkKind.{LinkKind}
use Rattle.gv_values.specs.Ends.{link_fits}
use Rattle.gv_values.specs.declared.value.Whom.{Whom}
use Rattle.gv_values.specs.declared.job.JobOutcome.{JobOutcome}
use Rattle.machine.specs.declared.state.JobState.{JobState}
use Rattle.machine.specs.declared.state.Object.{Object}
use Rattle.machine.specs.declared.state.Offer.{Offer}
use Rattle.machine.specs.declared.state.Phase.{Phase}
use Rattle.machine.specs.State.{State}

-- ---- reading the state

-- a greenlet that is Done has an outcome
abbrev pub outcome_of_phase : Phase → Option Outcome
outcome_of_phase (Phase.Done o) = Some o
outcome_of_phase _ = None

-- what a job came to, as an outcome
abbrev pub outcome_of_job : JobOutcome → Outcome
outcome_of_job (JobOutcome.Int z) = Outcome.Value (Value.Int z)
outcome_of_job (JobOutcome.Fault f) = Outcome.Fault f

-- the job of this number; jobs are counted from 1, and there is none of number 0
abbrev pub job_at : ℕ → List JobState → Option JobState
job_at j [] = None
job_at zero (job ∷ jobs) = None
job_at (suc n) (job ∷ jobs) = slice_get (job ∷ jobs) n

-- of a job that has arrived, its outcome
abbrev pub arrived : Option JobOutcome → Option Outcome
arrived None = None
arrived (Some o) = Some (outcome_of_job o)

-- what the greenlet or job ended with, if it did
abbrev pub outcome_of : State → Whom → Option Outcome
outcome_of s (Whom.Greenlet g) = elim (slice_get s.greenlets g) [ None ↦ None | Some x ↦ outcome_of_phase x.phase ]
outcome_of s (Whom.Job j) = elim (job_at j s.jobs) [ None ↦ None | Some x ↦ arrived x.outcome ]

-- the greenlet is Done
abbrev pub is_done : State → ℕ → Bool
is_done s g = is_some (outcome_of s (Whom.Greenlet g))

-- how many of these greenlets are Done
abbrev pub done_among : State → List ℕ → ℕ
done_among s gs = count_by (is_done s) gs

-- all of these greenlets are Done
abbrev pub all_done : State → List ℕ → Bool
all_done s gs = list_all (is_done s) gs

-- ---- earlier waiters

-- the item is a Wake whose wait passes the test
abbrev pub wakes : (Waiting → Bool) → Delivery → Bool
wakes test (Delivery.Wake g w) = test w
wakes test _ = false

-- the number of waiters of this kind with a lower since
abbrev pub earlier : (Waiting → Bool) → ℕ → List Item → ℕ
earlier test since items = count_by (λ i. nat_lt i.since since && wakes test i.delivery) items

-- it waits for a unit of this semaphore
abbrev pub is_acquire : ℕ → Waiting → Bool
is_acquire o (Waiting.Acquire p) = o == p
is_acquire o _ = false

-- it waits for this lock
abbrev pub is_lock : ℕ → Waiting → Bool
is_lock o (Waiting.Lock p) = o == p
is_lock o _ = false

-- it waits to put into this queue
abbrev pub is_put : ℕ → Waiting → Bool
is_put o (Waiting.Put p v) = o == p
is_put o _ = false

-- it waits to take from this queue; who only peeks is not counted
abbrev pub is_take : ℕ → Waiting → Bool
is_take o (Waiting.Take p) = o == p
is_take o _ = false

-- a gspawn and a map wait for a place alike
abbrev pub is_place : ℕ → Waiting → Bool
is_place o (Waiting.Place p f vs) = o == p
is_place o (Waiting.MapPlace p f xs made) = o == p
is_place o _ = false

-- it waits for a slot of this native pool
abbrev pub is_slot : ℕ → Waiting → Bool
is_slot o (Waiting.Slot p job takes) = o == p
is_slot o _ = false

-- it waits to take an offer of this channel
abbrev pub is_take_offer : ℕ → Waiting → Bool
is_take_offer o (Waiting.TakeOffer p) = o == p
is_take_offer o _ = false

-- ---- the table of waits, object by object; `before` is the number of earlier waiters

-- so many earlier waiters are fewer than the free places; without a size there is always one
abbrev pub below_room : ℕ → Option ℕ → ℕ → Bool
below_room before None held = true
below_room before (Some size) held = nat_lt before (size - held)

-- the event was set since then
unfoldable pub has_set_since : ℕ → Option Object → Bool
has_set_since sets (Some (Object.Event flag n)) = nat_lt sets n
has_set_since sets _ = false

-- something was put into the result
unfoldable pub has_result : Option Object → Bool
has_result (Some (Object.Result o)) = is_some o
has_result _ = false

-- the earlier waiters are fewer than the units
unfoldable pub has_unit : ℕ → Option Object → Bool
has_unit before (Some (Object.Semaphore counter bound)) = nat_lt before counter
has_unit before _ = false

-- the lock has no owner and no earlier waiter
unfoldable pub is_free : ℕ → Option Object → Bool
is_free before (Some (Object.Lock owner depth)) = is_none owner && before == 0
is_free before _ = false

-- the queue is shut, or the earlier putters are fewer than the free places
unfoldable pub has_room : ℕ → Option Object → Bool
has_room before (Some (Object.Queue kind size items unfinished shut)) = shut || below_room before size (length items)
has_room before _ = false

-- the queue is shut, or the earlier getters are fewer than the items
unfoldable pub has_item : ℕ → Option Object → Bool
has_item before (Some (Object.Queue kind size items unfinished shut)) = shut || nat_lt before (length items)
has_item before _ = false

-- no task of the queue is unfinished
unfoldable pub all_finished : Option Object → Bool
all_finished (Some (Object.Queue kind size items unfinished shut)) = unfinished == 0
all_finished _ = false

-- the earlier waiters are fewer than the free places
unfoldable pub has_place : ℕ → Option Object → Bool
has_place before (Some (Object.Crew size members)) = below_room before size (length members)
has_place before _ = false

-- the group or pool has no member
unfoldable pub is_deserted : Option Object → Bool
is_deserted (Some (Object.Crew size members)) = length members == 0
is_deserted _ = false

-- the earlier waiters are fewer than the free slots
unfoldable pub has_slot : ℕ → Option Object → Bool
has_slot before (Some (Object.Native slots outstanding)) = nat_lt before (slots - outstanding)
has_slot before _ = false

-- it is the offer of the Wake with this since
abbrev pub is_offer_of : ℕ → Offer → Bool
is_offer_of since offer = offer.since == since

-- no offer of the channel is that of the Wake with this since
unfoldable pub is_taken : ℕ → Option Object → Bool
is_taken since (Some (Object.Channel offers)) = not (list_any (is_offer_of since) offers)
is_taken since _ = false

-- the earlier getters are fewer than the offers
unfoldable pub has_offer : ℕ → Option Object → Bool
has_offer before (Some (Object.Channel offers)) = nat_lt before (length offers)
has_offer before _ = false

-- the wait's condition, for a waiter with this since
abbrev pub wait_holds : State → ℕ → Waiting → Bool
wait_holds s since (Waiting.Sleep until) = nat_le until s.moment
wait_holds s since (Waiting.Join g) = is_done s g
wait_holds s since (Waiting.Get whom) = is_some (outcome_of s whom)
wait_holds s since (Waiting.Kill gs) = all_done s gs
wait_holds s since (Waiting.JoinAll gs need) = nat_le need (done_among s gs)
wait_holds s since (Waiting.Event o sets) = has_set_since sets (slice_get s.objects o)
wait_holds s since (Waiting.ResultGet o) = has_result (slice_get s.objects o)
wait_holds s since (Waiting.ResultWait o) = has_result (slice_get s.objects o)
wait_holds s since (Waiting.Acquire o) = has_unit (earlier (is_acquire o) since s.items) (slice_get s.objects o)
wait_holds s since (Waiting.Lock o) = is_free (earlier (is_lock o) since s.items) (slice_get s.objects o)
wait_holds s since (Waiting.Put o v) = has_room (earlier (is_put o) since s.items) (slice_get s.objects o)
wait_holds s since (Waiting.Take o) = has_item (earlier (is_take o) since s.items) (slice_get s.objects o)
wait_holds s since (Waiting.Peek o) = has_item (earlier (is_take o) since s.items) (slice_get s.objects o)
wait_holds s since (Waiting.Tasks o) = all_finished (slice_get s.objects o)
wait_holds s since (Waiting.Place o f vs) = has_place (earlier (is_place o) since s.items) (slice_get s.objects o)
wait_holds s since (Waiting.MapPlace o f xs made) = has_place (earlier (is_place o) since s.items) (slice_get s.objects o)
wait_holds s since (Waiting.MapEnd o made) = all_done s made
wait_holds s since (Waiting.Members o) = is_deserted (slice_get s.objects o)
wait_holds s since (Waiting.Slot o job takes) = has_slot (earlier (is_slot o) since s.items) (slice_get s.objects o)
wait_holds s since (Waiting.Offered o) = is_taken since (slice_get s.objects o)
wait_holds s since (Waiting.TakeOffer o) = has_offer (earlier (is_take_offer o) since s.items) (slice_get s.objects o)

-- ---- the table of items

-- a link holds where its greenlet is Done and the kind fits
abbrev pub link_holds : LinkKind → Option Outcome → Bool
link_holds kind None = false
link_holds kind (Some o) = link_fits kind o

-- the table of items: the condition of an item with this since
abbrev pub delivery_holds : State → ℕ → Delivery → Bool
delivery_holds s since (Delivery.Start g None) = true
delivery_holds s since (Delivery.Start g (Some deadline)) = nat_le deadline s.moment
delivery_holds s since (Delivery.Wake g w) = wait_holds s since w
delivery_holds s since (Delivery.Late g deadline n) = nat_le deadline s.moment
delivery_holds s since (Delivery.Timeout g n deadline) = nat_le deadline s.moment
delivery_holds s since (Delivery.Kill g f) = true
delivery_holds s since (Delivery.Link k g kind f) = link_holds kind (outcome_of s (Whom.Greenlet g))

-- the item holds in the state
abbrev pub holds : State → Item → Bool
holds s i = delivery_holds s i.since i.delivery

-- ---- a newcomer completes at once where it would hold as the last item, with four exceptions

-- the event is set
abbrev pub is_flagged : Option Object → Bool
is_flagged (Some (Object.Event flag n)) = flag
is_flagged _ = false

-- the greenlet owns the lock
abbrev pub is_owner : ℕ → Option Object → Bool
is_owner g (Some (Object.Lock (Some h) depth)) = g == h
is_owner g _ = false

-- the wait is not begun: it completes at once
abbrev pub newcomer_completes : State → ℕ → Waiting → Bool
newcomer_completes s g (Waiting.Sleep until) = false
newcomer_completes s g (Waiting.Offered o) = false
newcomer_completes s g (Waiting.Event o sets) = is_flagged (slice_get s.objects o)
newcomer_completes s g (Waiting.Lock o) = if is_owner g (slice_get s.objects o) then true else wait_holds s s.next_since (Waiting.Lock o)
newcomer_completes s g w = wait_holds s s.next_since w
