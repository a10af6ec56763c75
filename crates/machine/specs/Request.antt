-- What the hub does at a request: the effect of each statement that asks it. gevent API reference for the method of the
-- same meaning, greenlet documentation for raw greenlets; limits and lines are this project's own.
use Rattle.std.specs.Prelude.{ℕ, suc, ◌+◌, ◌-◌, ◌==◌, Bool, true, false, not, ◌&&◌, List, [], ◌∷◌, length, Option, Some, None, if◌then◌else◌, slice_set, nat_lt, count_by, unwrap_or, min, ℤ, pos}
use Rattle.gv_values.specs.declared.fault.FaultKind.{FaultKind}
use Rattle.gv_values.specs.declared.job.JobKind.{JobKind}
use Rattle.scenario_tree.specs.declared.tree.Wait.{Wait}
use Rattle.gv_values.specs.declared.value.Value.{Value}
use Rattle.gv_values.specs.declared.scalar.Scalar.{Scalar}
use Rattle.gv_values.specs.declared.value.Outcome.{Outcome}
use Rattle.machine.specs.declared.items.Delivery.{Delivery}
use Rattle.machine.specs.declared.items.Waiting.{Waiting}
use Rattle.gv_values.specs.declared.link.LinkKind.{LinkKind}
use Rattle.gv_values.specs.declared.value.Whom.{Whom}
use Rattle.gv_values.specs.declared.job.Job.{Job}
use Rattle.machine.specs.declared.state.Object.{Object}
use Rattle.machine.specs.declared.state.Phase.{Phase}
use Rattle.trace_text.specs.declared.line.StopCause.{StopCause}
use Rattle.trace_text.specs.declared.line.Line.{Line}
use Rattle.trace_text.specs.declared.line.Awaited.{Awaited}
use Rattle.machine.specs.State.{State, say}
use Rattle.machine.specs.Holds.{outcome_of}
use Rattle.gv_values.specs.Job.{job_of}
use Rattle.gv_values.specs.Ends.{link_fits, kept}
use Rattle.machine.specs.Settle.{settle}
use Rattle.machine.specs.declared.request.Request.{Request}
use Rattle.machine.specs.Landing.{Next, answered, lands}
use Rattle.machine.specs.Items.{add_item, drop_items, is_start_of}
use Rattle.machine.specs.Greenlets.{greenlet, add_greenlet, has_greenlet_left}
use Rattle.machine.specs.Ends.{ended}
use Rattle.machine.specs.Hosts.{host_of, is_above}
use Rattle.machine.specs.Waits.{Performed, nothing, raises, comes, maps, offered}
use Rattle.machine.specs.Objects.{with_object, object_at, name_of_object, with_flag, sets_of, at_bound, after_release, takes_value, with_shut, members_of}
use Rattle.machine.specs.declared.limits.TheConstants.{MOST_KILLS, MOST_LINKS}

-- ---- kinds of operands

-- the operand is a greenlet that is not raw
abbrev pub plain_greenlet : State → Value → Option ℕ
plain_greenlet s (Value.Greenlet g) = if (greenlet g s).raw then None else Some g
plain_greenlet s v = None

-- each is a greenlet that is not raw
abbrev pub plain_greenlets : State → List Scalar → Option (List ℕ)
plain_greenlets s [] = Some []
plain_greenlets s (Scalar.Greenlet g ∷ xs) = elim (plain_greenlets s xs) [ None ↦ None | Some gs ↦ if (greenlet g s).raw then None else Some (g ∷ gs) ]
plain_greenlets s (x ∷ xs) = None

-- the operand is a list of greenlets that are not raw
abbrev pub plain_greenlet_list : State → Value → Option (List ℕ)
plain_greenlet_list s (Value.List xs) = plain_greenlets s xs
plain_greenlet_list s v = None

-- the fault that stands after `with`, and GreenletExit without one
abbrev pub fault_operand : Option Value → Option FaultKind
fault_operand None = Some FaultKind.GreenletExit
fault_operand (Some (Value.Fault f)) = Some f
fault_operand (Some v) = None

-- goes on with the operand, or raises TypeError
abbrev pub typed : {A : Type 0} → Option A → State → (A → Performed) → Performed
typed None s go = raises FaultKind.TypeError s
typed (Some x) s go = go x

-- answered with none
abbrev pub done : State → Performed
done s = Performed.Answers nothing s

-- ---- greenlets

-- answered with the handle of the greenlet
abbrev pub greenlet_value : ℕ → Outcome
greenlet_value g = Outcome.Value (Value.Greenlet g)

-- a new greenlet, and what more is done with it; where none is left the run stops
abbrev pub makes : Bool → ℕ → ℕ → List Value → (ℕ → State → State) → State → Performed
makes raw parent f args more s =
    if has_greenlet_left s then Performed.Answers (greenlet_value (length s.greenlets)) (more (length s.greenlets) (add_greenlet raw parent f args s))
    else Performed.Stops StopCause.NoGreenlets s

-- the greenlet has a start item
abbrev pub starts_at : Option ℕ → ℕ → State → State
starts_at deadline g s = add_item (Delivery.Start g deadline) s

-- it has a start item
abbrev pub has_start : ℕ → State → Bool
has_start g s = nat_lt 0 (count_by (λ i. is_start_of g i.delivery) s.items)

-- it was not started
abbrev pub is_new : Phase → Bool
is_new (Phase.New args) = true
is_new phase = false

-- a start item where the greenlet is New and has none
abbrev pub start_of : ℕ → State → State
start_of g s = if is_new (greenlet g s).phase && not (has_start g s) then starts_at None g s else s

-- ---- kills

-- kills are sent, or one is past the limit
pub data Sending : Type 0 where
  Sent : State → Sending
  TooMany : State → Sending

-- it is a kill
abbrev pub is_kill : Delivery → Bool
is_kill (Delivery.Kill g f) = true
is_kill d = false

-- the kills that are not delivered yet
abbrev pub kills_standing : State → ℕ
kills_standing s = count_by (λ i. is_kill i.delivery) s.items

-- a kill is sent to one greenlet: one that is Done gets none; one that is New ends at once; another gets an item
abbrev pub sends : FaultKind → ℕ → State → Sending
sends f g s = elim (greenlet g s).phase [
  | Phase.Done o ↦ Sending.Sent s
  | Phase.New args ↦ Sending.Sent (ended g (kept (Outcome.Fault f)) (say (Line.Throw g f) s))
  | Phase.Live frame ↦ if nat_lt (kills_standing s) MOST_KILLS then Sending.Sent (add_item (Delivery.Kill g f) s) else Sending.TooMany s
]

-- to each in order, as far as the limit allows
abbrev pub sends_all : FaultKind → List ℕ → State → Sending
sends_all f [] s = Sending.Sent s
sends_all f (g ∷ gs) s = elim (sends f g s) [ Sending.Sent t ↦ sends_all f gs t | Sending.TooMany t ↦ Sending.TooMany t ]

-- the kills are sent, and then their ends are waited for
abbrev pub kills : ℕ → Awaited → FaultKind → List ℕ → Wait → State → Performed
kills g word f gs how s = elim (sends_all f gs s) [
  | Sending.TooMany t ↦ Performed.Stops StopCause.NoKills t
  | Sending.Sent t ↦ comes g word (Waiting.Kill gs) how t
]

-- ---- links

-- a link of this kind stands at a greenlet that is not Done, or is Done so
abbrev pub link_stands : LinkKind → Option Outcome → Bool
link_stands kind None = true
link_stands kind (Some o) = link_fits kind o

-- the link of the next number stands, or is dropped where its greenlet is Done otherwise
abbrev pub links : ℕ → LinkKind → ℕ → State → Performed
links g kind f s =
    if nat_lt s.links MOST_LINKS then
    (let t = record s { links = s.links + 1 } in
    Performed.Answers (Outcome.Value (Value.Int (pos t.links)))
    (if link_stands kind (outcome_of s (Whom.Greenlet g)) then add_item (Delivery.Link t.links g kind f) t else t))
    else Performed.Stops StopCause.NoLinks s

-- it is the link of this number
abbrev pub is_link : ℤ → Delivery → Bool
is_link (pos n) (Delivery.Link k g kind f) = n == k
is_link n d = false

-- ---- objects

-- the result has this outcome, in place of what stood
abbrev pub put_result : ℕ → Outcome → State → Performed
put_result o outcome s = done (with_object o (Object.Result (Some outcome)) s)

-- `release`: ValueError for a bounded semaphore at its bound, RuntimeError for a lock of another or of nobody
abbrev pub releases : ℕ → ℕ → Object → State → Performed
releases g o (Object.Semaphore counter bound) s =
    if at_bound counter bound then raises FaultKind.ValueError s else done (with_object o (Object.Semaphore (counter + 1) bound) s)
releases g o (Object.Lock (Some h) depth) s =
    if g == h then done (with_object o (Object.Lock (after_release g (depth - 1)) (depth - 1)) s) else raises FaultKind.RuntimeError s
releases g o (Object.Lock None depth) s = raises FaultKind.RuntimeError s
releases g o object s = done s

-- the object is the lock, and else a semaphore
abbrev pub acquires : ℕ → Object → Waiting
acquires o (Object.Lock owner depth) = Waiting.Lock o
acquires o object = Waiting.Acquire o

-- `qdone`: one unfinished task less, ValueError where there is none
abbrev pub finishes : ℕ → Object → State → Performed
finishes o (Object.Queue kind size items (suc n) shut) s = done (with_object o (Object.Queue kind size items n shut) s)
finishes o object s = raises FaultKind.ValueError s

-- the operand is an integer
abbrev pub int_operand : Value → Option ℤ
int_operand (Value.Int z) = Some z
int_operand v = None

-- the operand is a list
abbrev pub list_operand : Value → Option (List Scalar)
list_operand (Value.List xs) = Some xs
list_operand v = None

-- the operand is a job, or a greenlet that is not raw
abbrev pub whom_operand : State → Value → Option Whom
whom_operand s (Value.Job j) = Some (Whom.Job j)
whom_operand s (Value.Greenlet g) = if (greenlet g s).raw then None else Some (Whom.Greenlet g)
whom_operand s v = None

-- ---- raw greenlets

-- the operand is a greenlet
abbrev pub any_greenlet : Value → Option ℕ
any_greenlet (Value.Greenlet g) = Some g
any_greenlet v = None

-- the greenlet has the current host, or InvalidSwitch
abbrev pub on_host : ℕ → ℕ → State → Performed → Performed
on_host g h s go = if host_of s g == host_of s h then go else raises FaultKind.InvalidSwitch s

-- `setparent`: both have the current host, and the chain of parents stays open
abbrev pub sets_parent : ℕ → ℕ → ℕ → State → Performed
sets_parent g child parent s =
    on_host g child s (on_host g parent s
    (if is_above (length s.greenlets) s.greenlets child parent then raises FaultKind.ValueError s
    else done (record s { greenlets = slice_set s.greenlets child (record (greenlet child s) { parent = parent }) })))

-- the operand is a raw greenlet
abbrev pub raw_greenlet : State → Value → Option ℕ
raw_greenlet s (Value.Greenlet g) = if (greenlet g s).raw then Some g else None
raw_greenlet s v = None

-- ---- the rows

-- the table of statements, one row for each that asks the hub
unfoldable pub performs : Request → ℕ → State → Performed
performs (Request.Print v) g s = done (say (Line.Print g v) s)
performs (Request.Spawn f args) g s = makes false 0 f args (starts_at None) s
performs (Request.SpawnLater ms f args) g s = makes false 0 f args (starts_at (Some (s.moment + ms))) s
performs (Request.New f args) g s = makes false 0 f args (λ h t. t) s
performs (Request.Start v) g s = typed (plain_greenlet s v) s (λ h. done (start_of h s))
performs (Request.Sleep ms) g s = comes g Awaited.Sleep (Waiting.Sleep (s.moment + ms)) Wait.Block s
performs (Request.Join v how) g s = typed (plain_greenlet s v) s (λ h. comes g (Awaited.Join (Whom.Greenlet h)) (Waiting.Join h) how s)
performs (Request.Get v how) g s = typed (whom_operand s v) s (λ whom. comes g (Awaited.Get whom) (Waiting.Get whom) how s)
performs (Request.Kill v f how) g s =
    typed (plain_greenlet s v) s (λ h. typed (fault_operand f) s (λ fault. kills g (Awaited.Kill (Whom.Greenlet h)) fault (h ∷ []) how s))
performs (Request.KillAll v f how) g s =
    typed (plain_greenlet_list s v) s (λ hs. typed (fault_operand f) s (λ fault. kills g Awaited.KillAll fault hs how s))
performs (Request.JoinAll v n how) g s =
    typed (plain_greenlet_list s v) s (λ hs. comes g Awaited.JoinAll (Waiting.JoinAll hs (min (unwrap_or n (length hs)) (length hs))) how s)
performs (Request.Link v kind f) g s = typed (plain_greenlet s v) s (λ h. links h kind f s)
performs (Request.Unlink v) g s = typed (int_operand v) s (λ n. done (drop_items (is_link n) s))
performs (Request.Set o) g s = done (with_object o (with_flag true (object_at o s)) s)
performs (Request.Clear o) g s = done (with_object o (with_flag false (object_at o s)) s)
performs (Request.WaitEvent o how) g s = comes g (Awaited.Wait (name_of_object o s)) (Waiting.Event o (sets_of (object_at o s))) how s
performs (Request.ResultSet o v) g s = put_result o (Outcome.Value v) s
performs (Request.ResultFail o v) g s = typed (fault_operand (Some v)) s (λ f. put_result o (Outcome.Fault f) s)
performs (Request.ResultGet o how) g s = comes g (Awaited.ResultGet (name_of_object o s)) (Waiting.ResultGet o) how s
performs (Request.ResultWait o how) g s = comes g (Awaited.ResultWait (name_of_object o s)) (Waiting.ResultWait o) how s
performs (Request.Acquire o how) g s = comes g (Awaited.Acquire (name_of_object o s)) (acquires o (object_at o s)) how s
performs (Request.Release o) g s = releases g o (object_at o s) s
performs (Request.QueuePut o v how) g s =
    if takes_value (object_at o s) v then comes g (Awaited.QueuePut (name_of_object o s)) (Waiting.Put o v) how s else raises FaultKind.TypeError s
performs (Request.QueueGet o how) g s = comes g (Awaited.QueueGet (name_of_object o s)) (Waiting.Take o) how s
performs (Request.QueuePeek o how) g s = comes g (Awaited.QueuePeek (name_of_object o s)) (Waiting.Peek o) how s
performs (Request.QueueDone o) g s = finishes o (object_at o s) s
performs (Request.QueueJoin o how) g s = comes g (Awaited.QueueJoin (name_of_object o s)) (Waiting.Tasks o) how s
performs (Request.GroupSpawn o f args) g s = comes g (Awaited.GroupSpawn (name_of_object o s)) (Waiting.Place o f args) Wait.Block s
performs (Request.GroupJoin o how) g s = comes g (Awaited.GroupJoin (name_of_object o s)) (Waiting.Members o) how s
performs (Request.GroupKill o f how) g s = typed (fault_operand f) s (λ fault. kills g (Awaited.GroupKill (name_of_object o s)) fault (members_of (object_at o s)) how s)
performs (Request.Map o f v) g s = typed (list_operand v) s (λ xs. maps xs g o f [] s)
performs (Request.NativeSpawn o kind v ms) g s =
    typed (int_operand v) s (λ z. comes g (Awaited.NativeSpawn (name_of_object o s)) (Waiting.Slot o (job_of kind z) ms) Wait.Block s)
performs (Request.Raw f None) g s = makes true g f [] (λ h t. t) s
performs (Request.Raw f (Some v)) g s = typed (any_greenlet v) s (λ h. on_host g h s (makes true h f [] (λ k t. t) s))
performs (Request.Switch v w) g s = typed (any_greenlet v) s (λ h. on_host g h s (Performed.Lands h (Outcome.Value w) s))
performs (Request.Throw v f) g s =
    typed (any_greenlet v) s (λ h. typed (fault_operand f) s (λ fault. on_host g h s (Performed.Lands h (Outcome.Fault fault) s)))
performs (Request.SetParent v w) g s =
    typed (raw_greenlet s v) s (λ child. typed (any_greenlet w) s (λ parent. sets_parent g child parent s))
performs (Request.ChannelPut o v) g s = Performed.Parks (offered g o v s)
performs (Request.ChannelGet o) g s = comes g (Awaited.ChannelGet (name_of_object o s)) (Waiting.TakeOffer o) Wait.Block s
performs (Request.QueueShut o immediate) g s = done (with_object o (with_shut immediate (object_at o s)) s)

-- the hub goes on after a request of the greenlet, with the settling
abbrev pub follows : ℕ → Performed → Next
follows g (Performed.Answers o s) = answered g o (settle s)
follows g (Performed.Parks s) = Next.Resting (settle s)
follows g (Performed.Lands h o s) = lands h o (settle s)
follows g (Performed.Stops end s) = Next.Over end s
