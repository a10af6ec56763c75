-- What each step of the machine keeps: what is so of a state stays so where the coming and going of items, settlings
-- and posted jobs keep it.
use Rattle.std.proofs.Common.{◌≡◌, refl, ℕ, zero, suc, ◌+◌, ◌-◌, Bool, true, false, List, [], ◌∷◌, ◌++◌, length, map}
use Rattle.std.specs.Prelude.{not, ◌==◌, ◌&&◌, slice_set, Option, Some, None, nat_lt, if◌then◌else◌, min, unwrap_or, pos}
use Rattle.gv_values.specs.declared.value.Value.{Value}
use Rattle.gv_values.specs.declared.value.Outcome.{Outcome}
use Rattle.gv_values.specs.declared.value.Whom.{Whom}
use Rattle.gv_values.specs.declared.scalar.Scalar.{Scalar}
use Rattle.gv_values.specs.declared.fault.FaultKind.{FaultKind}
use Rattle.gv_values.specs.Value.{value_of_scalar}
use Rattle.scenario_tree.specs.declared.tree.Scenario.{Scenario}
use Rattle.scenario_tree.specs.declared.tree.Wait.{Wait}
use Rattle.trace_text.specs.declared.line.Line.{Line}
use Rattle.trace_text.specs.declared.line.LinkCall.{LinkCall}
use Rattle.trace_text.specs.declared.line.Resumed.{Resumed}
use Rattle.trace_text.specs.declared.line.Awaited.{Awaited}
use Rattle.trace_text.specs.declared.line.StopCause.{StopCause}
use Rattle.machine.specs.declared.items.Delivery.{Delivery}
use Rattle.machine.specs.declared.items.Item.{Item}
use Rattle.gv_values.specs.declared.link.LinkKind.{LinkKind}
use Rattle.machine.specs.declared.items.Waiting.{Waiting}
use Rattle.machine.specs.declared.state.Local.{Local}
use Rattle.machine.specs.declared.state.JobState.{JobState}
use Rattle.machine.specs.declared.state.Object.{Object}
use Rattle.machine.specs.declared.state.Post.{Post}
use Rattle.gv_values.specs.declared.job.Job.{Job}
use Rattle.machine.specs.declared.state.Phase.{Phase}
use Rattle.machine.specs.State.{State, say}
use Rattle.machine.specs.Holds.{newcomer_completes, outcome_of, earlier, is_take}
use Rattle.gv_values.specs.Ends.{kept}
use Rattle.machine.specs.Settle.{settle}
use Rattle.machine.specs.Unwinding.{Unwound}
use Rattle.machine.specs.BodyMoves.{Did, body_move}
use Rattle.machine.specs.declared.request.Request.{Request}
use Rattle.machine.specs.Landing.{Next, Landing, after_end, goes_on, starts, resumes, land, lands, answered}
use Rattle.machine.specs.Items.{add_item, drop_items, goes_at_end, is_timeout_of, is_wait_of}
use Rattle.machine.specs.Greenlets.{with_phase, add_greenlet, has_greenlet_left, greenlet, function_of, frame_of}
use Rattle.machine.specs.Ends.{ended, stop_of, outcome_of_leaving}
use Rattle.machine.specs.Hosts.{host_of, is_above}
use Rattle.machine.specs.Waits.{Performed, raises, parked, drawn, draws, waits, add_member, map_ends, maps, map_goes_on, made_member, gathered, outcome_of_greenlet, posted, completes, comes, nothing, puts_item, takes_item, peeks_item, offered}
use Rattle.machine.specs.Objects.{with_object, object_at, name_of_object, is_shut, is_left, item_of, with_item, with_item_taken, at_bound, after_release, takes_value, members_of, sets_of}
use Rattle.machine.specs.Request.{typed, done, makes, starts_at, greenlet_value, start_of, is_new, has_start, Sending, sends, sends_all, kills, kills_standing, link_stands, links, is_link, put_result, releases, acquires, finishes, int_operand, list_operand, whom_operand, any_greenlet, on_host, sets_parent, raw_greenlet, plain_greenlet, plain_greenlet_list, fault_operand, performs, follows}
use Rattle.gv_values.specs.Job.{job_of}
use Rattle.machine.specs.Moves.{timeout_item, does, move, look}
use Rattle.machine.specs.Deliveries.{waiting_of, without_wait, interrupts, late, calls, called, deliver, delivers, since_of_wake, without_item, without_offer_by}
use Rattle.machine.specs.declared.limits.TheConstants.{MOST_KILLS, MOST_LINKS}

-- what no step changes but a line, an item that comes or goes, a settling or a job
pub record Core : Type 0 where
  pub scenario : Scenario
  pub items : List Item
  pub next_ready : ℕ
  pub next_since : ℕ
  pub moment : ℕ
  pub jobs : List JobState
  pub posts : List Post
  pub lines : List Line

abbrev pub core : State → Core
core s = record { scenario = s.scenario; items = s.items; next_ready = s.next_ready; next_since = s.next_since; moment = s.moment; jobs = s.jobs; posts = s.posts; lines = s.lines }

-- a line that a move or a delivery says; job lines come with their posts, and the others between the turns
abbrev pub is_step : Line → Bool
is_step (Line.Job j g job) = false
is_step (Line.Turn n a) = false
is_step (Line.Block x) = false
is_step (Line.Stop cause turns moves) = false
is_step line = true

-- what a law needs to stay so at every step
pub record Keeps (P : State → Type 0) : Type 0 where
  pub says : (line : Line) (s : State) → is_step line ≡ true → P s → P (say line s)
  pub adds : (d : Delivery) (s : State) → P s → P (add_item d s)
  pub drops : (test : Delivery → Bool) (s : State) → P s → P (drop_items test s)
  pub settles : (s : State) → P s → P (settle s)
  pub posts : (g o : ℕ) (job : Job) (takes : ℕ) (s : State) → P s → P (posted g o job takes s)
  pub alike : (s t : State) → core t ≡ core s → P s → P t

-- whichever way the test goes
either : {A : Type 0} (P : A → Type 0) (b : Bool) {x y : A} → P x → P y → P (if b then x else y)
either P true u v = u
either P false u v = v

-- it is so where the hub stands
unfoldable pub Stands : (State → Type 0) → Next → Type 0
Stands P (Next.Going g s) = P s
Stands P (Next.Resting s) = P s
Stands P (Next.Over cause s) = P s

-- it is so after a request
unfoldable pub Comes : (State → Type 0) → Performed → Type 0
Comes P (Performed.Answers o s) = P s
Comes P (Performed.Parks s) = P s
Comes P (Performed.Lands k o s) = P s
Comes P (Performed.Stops cause s) = P s

-- ---- ends and landings

ended-keeps : (P : State → Type 0) (keeps : Keeps P) (g : ℕ) (o : Outcome) (s : State) → P s → P (ended g o s)
ended-keeps P keeps g o s u =
    let a = with_phase g (Phase.Done o) (say (Line.End g o) s) in
    let d = drop_items (goes_at_end g o) a in
    keeps.settles _ (keeps.alike d _ refl (keeps.drops (goes_at_end g o) a (keeps.alike (say (Line.End g o) s) a refl (keeps.says (Line.End g o) s refl u))))

-- a landing keeps it
unfoldable pub Lets : (State → Type 0) → Landing → Type 0
Lets P up = (g : ℕ) (o : Outcome) (s : State) → P s → Stands P (up g o s)

after_end-keeps : (P : State → Type 0) (keeps : Keeps P) (up : Landing) (g : ℕ) (o : Outcome) (s : State) → Lets P up → P s → Stands P (after_end up g o s)
unfolding Stands Lets
after_end-keeps P keeps up g o s l u = by (greenlet g s).raw (g == 0)
  where
    by : (raw main : Bool) → Stands P (if raw then up (greenlet g s).parent (kept o) (ended g (kept o) s)
        else (if main then Next.Over (stop_of (kept o)) (ended g (kept o) s) else Next.Resting (ended g (kept o) s)))
    by true main = l (greenlet g s).parent (kept o) (ended g (kept o) s) (ended-keeps P keeps g (kept o) s u)
    by false true = ended-keeps P keeps g (kept o) s u
    by false false = ended-keeps P keeps g (kept o) s u

goes_on-keeps : (P : State → Type 0) (keeps : Keeps P) (up : Landing) (g : ℕ) (x : Unwound) (s : State) → Lets P up → P s → Stands P (goes_on up g x s)
unfolding Stands
goes_on-keeps P keeps up g (Unwound.Runs left locals todo) s l u =
    keeps.alike (drop_items (is_timeout_of g left) s) _ refl (keeps.drops (is_timeout_of g left) s u)
goes_on-keeps P keeps up g (Unwound.Out left how) s l u =
    after_end-keeps P keeps up g (outcome_of_leaving how) (drop_items (is_timeout_of g left) s) l (keeps.drops (is_timeout_of g left) s u)

pub starts-keeps : (P : State → Type 0) (keeps : Keeps P) (up : Landing) (g : ℕ) (args : List Value) (s : State) → Lets P up → P s → Stands P (starts up g args s)
starts-keeps P keeps up g args s l u =
    goes_on-keeps P keeps up g _ (say (Line.Start g (function_of (greenlet g s).function s).name) s) l (keeps.says _ s refl u)

land-keeps : (P : State → Type 0) (keeps : Keeps P) (f : ℕ) → Lets P (land f)
unfolding Stands Lets
land-keeps P keeps zero g o s u = u
land-keeps P keeps (suc f) g o s u = by (greenlet g s).phase o (land-keeps P keeps f)
  where
    by : (p : Phase) (o : Outcome) → Lets P (land f) → Stands P (elim p [
      | Phase.Done out ↦ land f (greenlet g s).parent (kept o) s
      | Phase.Live frame ↦ resumes (land f) g frame o (say (Line.Into g o) s)
      | Phase.New args ↦ elim o [
        | Outcome.Value v ↦ starts (land f) g (v ∷ []) s
        | Outcome.Fault k ↦ after_end (land f) g (Outcome.Fault k) s
      ]
    ])
    by (Phase.Done out) o l = l (greenlet g s).parent (kept o) s u
    by (Phase.Live frame) o l = goes_on-keeps P keeps (land f) g _ (say (Line.Into g o) s) l (keeps.says _ s refl u)
    by (Phase.New args) (Outcome.Value v) l = starts-keeps P keeps (land f) g (v ∷ []) s l u
    by (Phase.New args) (Outcome.Fault k) l = after_end-keeps P keeps (land f) g (Outcome.Fault k) s l u

pub lands-keeps : (P : State → Type 0) (keeps : Keeps P) → Lets P lands
unfolding Lets
lands-keeps P keeps g o s u = land-keeps P keeps (length s.greenlets) g o s u

answered-keeps : (P : State → Type 0) (keeps : Keeps P) (g : ℕ) (o : Outcome) (s : State) → P s → Stands P (answered g o s)
answered-keeps P keeps g o s u = goes_on-keeps P keeps lands g _ s (lands-keeps P keeps) u

-- ---- waits

drawn-keeps : (P : State → Type 0) (keeps : Keeps P) (w : Waiting) (s : State) → P s → P (drawn w s)
drawn-keeps P keeps w s u = either P (draws w) (keeps.alike s _ refl u) u

parked-keeps : (P : State → Type 0) (keeps : Keeps P) (g : ℕ) (word : Awaited) (w : Waiting) (deadline : Option ℕ) (s : State) → P s → P (parked g word w deadline s)
parked-keeps P keeps g word w None s u = keeps.adds (Delivery.Wake g w) _ (keeps.says _ s refl u)
parked-keeps P keeps g word w (Some deadline) s u = keeps.adds _ _ (drawn-keeps P keeps w _ (keeps.adds (Delivery.Wake g w) _ (keeps.says _ s refl u)))

waits-keeps : (P : State → Type 0) (keeps : Keeps P) (g : ℕ) (word : Awaited) (w : Waiting) (how : Wait) (s : State) → P s → Comes P (waits g word w how s)
unfolding Comes
waits-keeps P keeps g word w Wait.Block s u = parked-keeps P keeps g word w None s u
waits-keeps P keeps g word w (Wait.Within ms) s u = parked-keeps P keeps g word w (Some (s.moment + ms)) s u
waits-keeps P keeps g word w Wait.Now s u = drawn-keeps P keeps w s u

member-keeps : (P : State → Type 0) (keeps : Keeps P) (o f : ℕ) (args : List Value) (s : State) → P s → P (add_member o f args s)
member-keeps P keeps o f args s u =
    let t = add_item (Delivery.Start (length s.greenlets) None) (add_greenlet false 0 f args s) in
    keeps.alike t _ refl (keeps.adds _ (add_greenlet false 0 f args s) (keeps.alike s _ refl u))

map_ends-keeps : (P : State → Type 0) (keeps : Keeps P) (g o : ℕ) (made : List ℕ) (s : State) → P s → Comes P (map_ends g o made s)
unfolding Comes
map_ends-keeps P keeps g o made s u = either (Comes P) (newcomer_completes s g (Waiting.MapEnd o made)) u (parked-keeps P keeps g _ _ None s u)

maps-keeps : (P : State → Type 0) (keeps : Keeps P) (xs : List Scalar) (g o f : ℕ) (made : List ℕ) (s : State) → P s → Comes P (maps xs g o f made s)
unfolding Comes
maps-keeps P keeps [] g o f made s u = map_ends-keeps P keeps g o made s u
maps-keeps P keeps (x ∷ xs) g o f made s u =
    by (newcomer_completes s g (Waiting.MapPlace o f (x ∷ xs) made)) (has_greenlet_left s)
    (maps-keeps P keeps xs g o f (made ++ length s.greenlets ∷ []) (add_member o f (value_of_scalar x ∷ []) s) (member-keeps P keeps o f _ s u))
  where
    by : (b c : Bool) → Comes P (maps xs g o f (made ++ length s.greenlets ∷ []) (add_member o f (value_of_scalar x ∷ []) s)) →
        Comes P (elim b [
          | false ↦ Performed.Parks (parked g (Awaited.Map (name_of_object o s)) (Waiting.MapPlace o f (x ∷ xs) made) None s)
          | true ↦ elim c [
            | false ↦ Performed.Stops StopCause.NoGreenlets s
            | true ↦ maps xs g o f (made ++ length s.greenlets ∷ []) (add_member o f (value_of_scalar x ∷ []) s)
          ]
        ])
    by false c rest = parked-keeps P keeps g _ _ None s u
    by true false rest = u
    by true true rest = rest

map_goes_on-keeps : (P : State → Type 0) (keeps : Keeps P) (xs : List Scalar) (g o f : ℕ) (made : List ℕ) (s : State) → P s → Comes P (map_goes_on xs g o f made s)
unfolding Comes
map_goes_on-keeps P keeps [] g o f made s u = map_ends-keeps P keeps g o made s u
map_goes_on-keeps P keeps (x ∷ xs) g o f made s u = either (Comes P) (has_greenlet_left s) (maps-keeps P keeps xs g o f _ (add_member o f (value_of_scalar x ∷ []) s) (member-keeps P keeps o f _ s u)) u

made_member-keeps : (P : State → Type 0) (keeps : Keeps P) (o f : ℕ) (args : List Value) (s : State) → P s → Comes P (made_member o f args s)
unfolding Comes
made_member-keeps P keeps o f args s u = either (Comes P) (has_greenlet_left s) (member-keeps P keeps o f args s u) u

puts-keeps : (P : State → Type 0) (keeps : Keeps P) (o : ℕ) (v : Value) (x : Object) (s : State) → P s → Comes P (puts_item o v x s)
unfolding Comes
puts-keeps P keeps o v x s u = either (Comes P) (is_shut x) u (keeps.alike s _ refl u)

takes-keeps : (P : State → Type 0) (keeps : Keeps P) (o before : ℕ) (x : Object) (s : State) → P s → Comes P (takes_item o before x s)
unfolding Comes
takes-keeps P keeps o before x s u = either (Comes P) (is_left before x) (keeps.alike s _ refl u) u

peeks-keeps : (P : State → Type 0) (keeps : Keeps P) (o before : ℕ) (x : Object) (s : State) → P s → Comes P (peeks_item before x s)
unfolding Comes
peeks-keeps P keeps o before x s u = either (Comes P) (is_left before x) u u

offered-keeps : (P : State → Type 0) (keeps : Keeps P) (g o : ℕ) (v : Value) (s : State) → P s → P (offered g o v s)
offered-keeps P keeps g o v s u =
    let t = parked g (Awaited.ChannelPut (name_of_object o s)) (Waiting.Offered o) None s in
    keeps.alike t _ refl (parked-keeps P keeps g (Awaited.ChannelPut (name_of_object o s)) (Waiting.Offered o) None s u)

pub completes-keeps : (P : State → Type 0) (keeps : Keeps P) (g since : ℕ) (w : Waiting) (s : State) → P s → Comes P (completes g since w s)
unfolding Comes
completes-keeps P keeps g since (Waiting.Acquire o) s u = keeps.alike s _ refl u
completes-keeps P keeps g since (Waiting.Lock o) s u = keeps.alike s _ refl u
completes-keeps P keeps g since (Waiting.Put o v) s u = puts-keeps P keeps o v (object_at o s) s u
completes-keeps P keeps g since (Waiting.Take o) s u = takes-keeps P keeps o (earlier (is_take o) since s.items) (object_at o s) s u
completes-keeps P keeps g since (Waiting.Place o f args) s u = made_member-keeps P keeps o f args s u
completes-keeps P keeps g since (Waiting.MapPlace o f xs made) s u = map_goes_on-keeps P keeps xs g o f made s u
completes-keeps P keeps g since (Waiting.Slot o job takes) s u = keeps.posts g o job takes s u
completes-keeps P keeps g since (Waiting.Peek o) s u = peeks-keeps P keeps o (earlier (is_take o) since s.items) (object_at o s) s u
completes-keeps P keeps g since (Waiting.TakeOffer o) s u = keeps.alike s _ refl u
completes-keeps P keeps g since w s u = u

comes-keeps : (P : State → Type 0) (keeps : Keeps P) (g : ℕ) (word : Awaited) (w : Waiting) (how : Wait) (s : State) → P s → Comes P (comes g word w how s)
comes-keeps P keeps g word w how s u = either (Comes P) (newcomer_completes s g w) (completes-keeps P keeps g s.next_since w s u) (waits-keeps P keeps g word w how s u)

-- ---- requests

typed-keeps : {A : Type 0} (P : State → Type 0) (keeps : Keeps P) (x : Option A) (s : State) (go : A → Performed) → P s → ((y : A) → Comes P (go y)) → Comes P (typed x s go)
unfolding Comes
typed-keeps P keeps None s go u f = u
typed-keeps P keeps (Some y) s go u f = f y

on_host-keeps : (P : State → Type 0) (keeps : Keeps P) (g k : ℕ) (s : State) (go : Performed) → P s → Comes P go → Comes P (on_host g k s go)
unfolding Comes
on_host-keeps P keeps g k s go u f = either (Comes P) (host_of s g == host_of s k) f u

makes-keeps : (P : State → Type 0) (keeps : Keeps P) (raw : Bool) (parent f : ℕ) (args : List Value) (more : ℕ → State → State) (s : State) → P s →
    ((k : ℕ) (t : State) → P t → P (more k t)) → Comes P (makes raw parent f args more s)
unfolding Comes
makes-keeps P keeps raw parent f args more s u m = either (Comes P) (has_greenlet_left s) (m (length s.greenlets) (add_greenlet raw parent f args s) (keeps.alike s _ refl u)) u

start_of-keeps : (P : State → Type 0) (keeps : Keeps P) (k : ℕ) (s : State) → P s → P (start_of k s)
start_of-keeps P keeps k s u = either P (is_new (greenlet k s).phase && not (has_start k s)) (keeps.adds _ s u) u

-- it is so after kills
Sends : (State → Type 0) → Sending → Type 0
Sends P (Sending.Sent s) = P s
Sends P (Sending.TooMany s) = P s

sends-keeps : (P : State → Type 0) (keeps : Keeps P) (f : FaultKind) (g : ℕ) (s : State) → P s → Sends P (sends f g s)
unfolding Sends
sends-keeps P keeps f g s u = by (greenlet g s).phase (nat_lt (kills_standing s) MOST_KILLS)
  where
    by : (p : Phase) (b : Bool) → Sends P (elim p [
      | Phase.Done o ↦ Sending.Sent s
      | Phase.New args ↦ Sending.Sent (ended g (kept (Outcome.Fault f)) (say (Line.Throw g f) s))
      | Phase.Live frame ↦ if b then Sending.Sent (add_item (Delivery.Kill g f) s) else Sending.TooMany s
    ])
    by (Phase.Done o) b = u
    by (Phase.New args) b = ended-keeps P keeps g (kept (Outcome.Fault f)) _ (keeps.says _ s refl u)
    by (Phase.Live frame) true = keeps.adds _ s u
    by (Phase.Live frame) false = u

sends_all-keeps : (P : State → Type 0) (keeps : Keeps P) (f : FaultKind) (gs : List ℕ) (s : State) → P s → Sends P (sends_all f gs s)
unfolding Sends
sends_all-keeps P keeps f [] s u = u
sends_all-keeps P keeps f (g ∷ gs) s u = by (sends f g s) (sends-keeps P keeps f g s u) (sends_all-keeps P keeps f gs)
  where
    by : (x : Sending) → Sends P x → ((t : State) → P t → Sends P (sends_all f gs t)) →
        Sends P (elim x [ Sending.Sent t ↦ sends_all f gs t | Sending.TooMany t ↦ Sending.TooMany t ])
    by (Sending.Sent t) v rest = rest t v
    by (Sending.TooMany t) v rest = v

kills-keeps : (P : State → Type 0) (keeps : Keeps P) (g : ℕ) (word : Awaited) (f : FaultKind) (gs : List ℕ) (how : Wait) (s : State) → P s → Comes P (kills g word f gs how s)
unfolding Comes Sends
kills-keeps P keeps g word f gs how s u = by (sends_all f gs s) (sends_all-keeps P keeps f gs s u)
  where
    by : (x : Sending) → Sends P x → Comes P (elim x [ Sending.TooMany t ↦ Performed.Stops StopCause.NoKills t | Sending.Sent t ↦ comes g word (Waiting.Kill gs) how t ])
    by (Sending.TooMany t) v = v
    by (Sending.Sent t) v = comes-keeps P keeps g word (Waiting.Kill gs) how t v

links-keeps : (P : State → Type 0) (keeps : Keeps P) (k : ℕ) (kind : LinkKind) (f : ℕ) (s : State) → P s → Comes P (links k kind f s)
unfolding Comes
links-keeps P keeps k kind f s u = by (nat_lt s.links MOST_LINKS) (link_stands kind (outcome_of s (Whom.Greenlet k)))
  where
    t : State
    t = record s { links = s.links + 1 }

    v : P t
    v = keeps.alike s t refl u

    by : (b c : Bool) → Comes P (if b then Performed.Answers (Outcome.Value (Value.Int (pos t.links))) (if c then add_item (Delivery.Link t.links k kind f) t else t) else Performed.Stops StopCause.NoLinks s)
    by true true = keeps.adds _ t v
    by true false = v
    by false c = u

releases-keeps : (P : State → Type 0) (keeps : Keeps P) (g o : ℕ) (x : Object) (s : State) → P s → Comes P (releases g o x s)
unfolding Comes
releases-keeps P keeps g o (Object.Semaphore counter bound) s u = either (Comes P) (at_bound counter bound) u (keeps.alike s _ refl u)
releases-keeps P keeps g o (Object.Lock (Some j) depth) s u = either (Comes P) (g == j) (keeps.alike s _ refl u) u
releases-keeps P keeps g o (Object.Lock None depth) s u = u
releases-keeps P keeps g o (Object.Event flag sets) s u = u
releases-keeps P keeps g o (Object.Result x) s u = u
releases-keeps P keeps g o (Object.Queue kind size items unfinished shut) s u = u
releases-keeps P keeps g o (Object.Crew size members) s u = u
releases-keeps P keeps g o (Object.Native slots outstanding) s u = u
releases-keeps P keeps g o (Object.Channel offers) s u = u

finishes-keeps : (P : State → Type 0) (keeps : Keeps P) (o : ℕ) (x : Object) (s : State) → P s → Comes P (finishes o x s)
unfolding Comes
finishes-keeps P keeps o (Object.Queue kind size items (suc k) shut) s u = keeps.alike s _ refl u
finishes-keeps P keeps o (Object.Queue kind size items zero shut) s u = u
finishes-keeps P keeps o (Object.Event flag sets) s u = u
finishes-keeps P keeps o (Object.Result x) s u = u
finishes-keeps P keeps o (Object.Semaphore counter bound) s u = u
finishes-keeps P keeps o (Object.Lock owner depth) s u = u
finishes-keeps P keeps o (Object.Crew size members) s u = u
finishes-keeps P keeps o (Object.Native slots outstanding) s u = u
finishes-keeps P keeps o (Object.Channel offers) s u = u

sets_parent-keeps : (P : State → Type 0) (keeps : Keeps P) (g child parent : ℕ) (s : State) → P s → Comes P (sets_parent g child parent s)
unfolding Comes
sets_parent-keeps P keeps g child parent s u =
    on_host-keeps P keeps g child s _ u (on_host-keeps P keeps g parent s _ u (by (is_above (length s.greenlets) s.greenlets child parent)))
  where
    by : (b : Bool) → Comes P (if b then raises FaultKind.ValueError s else done (record s { greenlets = slice_set s.greenlets child (record (greenlet child s) { parent = parent }) }))
    by true = u
    by false = keeps.alike s _ refl u

pub performs-keeps : (P : State → Type 0) (keeps : Keeps P) (r : Request) (g : ℕ) (s : State) → P s → Comes P (performs r g s)
unfolding performs Comes
performs-keeps P keeps (Request.Print v) g s u = keeps.says (Line.Print g v) s refl u
performs-keeps P keeps (Request.Spawn f args) g s u = makes-keeps P keeps false 0 f args (starts_at None) s u (λ k t w. keeps.adds _ t w)
performs-keeps P keeps (Request.SpawnLater ms f args) g s u = makes-keeps P keeps false 0 f args (starts_at (Some (s.moment + ms))) s u (λ k t w. keeps.adds _ t w)
performs-keeps P keeps (Request.New f args) g s u = makes-keeps P keeps false 0 f args (λ h t. t) s u (λ k t w. w)
performs-keeps P keeps (Request.Start v) g s u = typed-keeps P keeps (plain_greenlet s v) s (λ k. done (start_of k s)) u (λ k. start_of-keeps P keeps k s u)
performs-keeps P keeps (Request.Sleep ms) g s u = comes-keeps P keeps g Awaited.Sleep (Waiting.Sleep (s.moment + ms)) Wait.Block s u
performs-keeps P keeps (Request.Join v how) g s u =
    typed-keeps P keeps (plain_greenlet s v) s (λ h. comes g (Awaited.Join (Whom.Greenlet h)) (Waiting.Join h) how s) u (λ h. comes-keeps P keeps g (Awaited.Join (Whom.Greenlet h)) (Waiting.Join h) how s u)
performs-keeps P keeps (Request.Get v how) g s u =
    typed-keeps P keeps (whom_operand s v) s (λ whom. comes g (Awaited.Get whom) (Waiting.Get whom) how s) u (λ h. comes-keeps P keeps g (Awaited.Get h) (Waiting.Get h) how s u)
performs-keeps P keeps (Request.Kill v f how) g s u =
    typed-keeps P keeps (plain_greenlet s v) s (λ h. typed (fault_operand f) s (λ fault. kills g (Awaited.Kill (Whom.Greenlet h)) fault (h ∷ []) how s)) u
    (λ h. typed-keeps P keeps (fault_operand f) s (λ fault. kills g (Awaited.Kill (Whom.Greenlet h)) fault (h ∷ []) how s) u (λ fault. kills-keeps P keeps g (Awaited.Kill (Whom.Greenlet h)) fault (h ∷ []) how s u))
performs-keeps P keeps (Request.KillAll v f how) g s u =
    typed-keeps P keeps (plain_greenlet_list s v) s (λ hs. typed (fault_operand f) s (λ fault. kills g Awaited.KillAll fault hs how s)) u
    (λ hs. typed-keeps P keeps (fault_operand f) s (λ fault. kills g Awaited.KillAll fault hs how s) u (λ fault. kills-keeps P keeps g Awaited.KillAll fault hs how s u))
performs-keeps P keeps (Request.JoinAll v k how) g s u =
    typed-keeps P keeps (plain_greenlet_list s v) s (λ hs. comes g Awaited.JoinAll (Waiting.JoinAll hs (min (unwrap_or k (length hs)) (length hs))) how s) u (λ hs. comes-keeps P keeps g Awaited.JoinAll (Waiting.JoinAll hs (min (unwrap_or k (length hs)) (length hs))) how s u)
performs-keeps P keeps (Request.Link v kind f) g s u = typed-keeps P keeps (plain_greenlet s v) s (λ h. links h kind f s) u (λ h. links-keeps P keeps h kind f s u)
performs-keeps P keeps (Request.Unlink v) g s u = typed-keeps P keeps (int_operand v) s (λ k. done (drop_items (is_link k) s)) u (λ k. keeps.drops (is_link k) s u)
performs-keeps P keeps (Request.Set o) g s u = keeps.alike s _ refl u
performs-keeps P keeps (Request.Clear o) g s u = keeps.alike s _ refl u
performs-keeps P keeps (Request.WaitEvent o how) g s u = comes-keeps P keeps g (Awaited.Wait (name_of_object o s)) (Waiting.Event o (sets_of (object_at o s))) how s u
performs-keeps P keeps (Request.ResultSet o v) g s u = keeps.alike s _ refl u
performs-keeps P keeps (Request.ResultFail o v) g s u = typed-keeps P keeps (fault_operand (Some v)) s (λ f. put_result o (Outcome.Fault f) s) u (λ f. keeps.alike s _ refl u)
performs-keeps P keeps (Request.ResultGet o how) g s u = comes-keeps P keeps g (Awaited.ResultGet (name_of_object o s)) (Waiting.ResultGet o) how s u
performs-keeps P keeps (Request.ResultWait o how) g s u = comes-keeps P keeps g (Awaited.ResultWait (name_of_object o s)) (Waiting.ResultWait o) how s u
performs-keeps P keeps (Request.Acquire o how) g s u = comes-keeps P keeps g (Awaited.Acquire (name_of_object o s)) (acquires o (object_at o s)) how s u
performs-keeps P keeps (Request.Release o) g s u = releases-keeps P keeps g o (object_at o s) s u
performs-keeps P keeps (Request.QueuePut o v how) g s u = either (Comes P) (takes_value (object_at o s) v) (comes-keeps P keeps g (Awaited.QueuePut (name_of_object o s)) (Waiting.Put o v) how s u) u
performs-keeps P keeps (Request.QueueGet o how) g s u = comes-keeps P keeps g (Awaited.QueueGet (name_of_object o s)) (Waiting.Take o) how s u
performs-keeps P keeps (Request.QueuePeek o how) g s u = comes-keeps P keeps g (Awaited.QueuePeek (name_of_object o s)) (Waiting.Peek o) how s u
performs-keeps P keeps (Request.QueueDone o) g s u = finishes-keeps P keeps o (object_at o s) s u
performs-keeps P keeps (Request.QueueJoin o how) g s u = comes-keeps P keeps g (Awaited.QueueJoin (name_of_object o s)) (Waiting.Tasks o) how s u
performs-keeps P keeps (Request.GroupSpawn o f args) g s u = comes-keeps P keeps g (Awaited.GroupSpawn (name_of_object o s)) (Waiting.Place o f args) Wait.Block s u
performs-keeps P keeps (Request.GroupJoin o how) g s u = comes-keeps P keeps g (Awaited.GroupJoin (name_of_object o s)) (Waiting.Members o) how s u
performs-keeps P keeps (Request.GroupKill o f how) g s u =
    typed-keeps P keeps (fault_operand f) s (λ fault. kills g (Awaited.GroupKill (name_of_object o s)) fault (members_of (object_at o s)) how s) u (λ fault. kills-keeps P keeps g (Awaited.GroupKill (name_of_object o s)) fault (members_of (object_at o s)) how s u)
performs-keeps P keeps (Request.Map o f v) g s u = typed-keeps P keeps (list_operand v) s (λ xs. maps xs g o f [] s) u (λ xs. maps-keeps P keeps xs g o f [] s u)
performs-keeps P keeps (Request.NativeSpawn o kind v ms) g s u =
    typed-keeps P keeps (int_operand v) s (λ z. comes g (Awaited.NativeSpawn (name_of_object o s)) (Waiting.Slot o (job_of kind z) ms) Wait.Block s) u (λ z. comes-keeps P keeps g (Awaited.NativeSpawn (name_of_object o s)) (Waiting.Slot o (job_of kind z) ms) Wait.Block s u)
performs-keeps P keeps (Request.Raw f None) g s u = makes-keeps P keeps true g f [] (λ h t. t) s u (λ k t w. w)
performs-keeps P keeps (Request.Raw f (Some v)) g s u =
    typed-keeps P keeps (any_greenlet v) s (λ h. on_host g h s (makes true h f [] (λ k t. t) s)) u
    (λ h. on_host-keeps P keeps g h s (makes true h f [] (λ k t. t) s) u (makes-keeps P keeps true h f [] (λ k t. t) s u (λ k t w. w)))
performs-keeps P keeps (Request.Switch v w) g s u =
    typed-keeps P keeps (any_greenlet v) s (λ h. on_host g h s (Performed.Lands h (Outcome.Value w) s)) u (λ h. on_host-keeps P keeps g h s (Performed.Lands h (Outcome.Value w) s) u u)
performs-keeps P keeps (Request.Throw v f) g s u =
    typed-keeps P keeps (any_greenlet v) s (λ h. typed (fault_operand f) s (λ fault. on_host g h s (Performed.Lands h (Outcome.Fault fault) s))) u
    (λ h. typed-keeps P keeps (fault_operand f) s (λ fault. on_host g h s (Performed.Lands h (Outcome.Fault fault) s)) u
    (λ fault. on_host-keeps P keeps g h s (Performed.Lands h (Outcome.Fault fault) s) u u))
performs-keeps P keeps (Request.SetParent v w) g s u =
    typed-keeps P keeps (raw_greenlet s v) s (λ child. typed (any_greenlet w) s (λ parent. sets_parent g child parent s)) u
    (λ child. typed-keeps P keeps (any_greenlet w) s (λ parent. sets_parent g child parent s) u (λ parent. sets_parent-keeps P keeps g child parent s u))
performs-keeps P keeps (Request.ChannelPut o v) g s u = offered-keeps P keeps g o v s u
performs-keeps P keeps (Request.ChannelGet o) g s u = comes-keeps P keeps g (Awaited.ChannelGet (name_of_object o s)) (Waiting.TakeOffer o) Wait.Block s u
performs-keeps P keeps (Request.QueueShut o immediate) g s u = keeps.alike s _ refl u

-- ---- moves and deliveries

pub follows-keeps : (P : State → Type 0) (keeps : Keeps P) (g : ℕ) (p : Performed) → Comes P p → Stands P (follows g p)
unfolding Comes Stands Lets
follows-keeps P keeps g (Performed.Answers o s) u = answered-keeps P keeps g o (settle s) (keeps.settles s u)
follows-keeps P keeps g (Performed.Parks s) u = keeps.settles s u
follows-keeps P keeps g (Performed.Lands h o s) u = lands-keeps P keeps h o (settle s) (keeps.settles s u)
follows-keeps P keeps g (Performed.Stops cause s) u = u

item-keeps : (P : State → Type 0) (keeps : Keeps P) (g k : ℕ) (ms : Option ℕ) (s : State) → P s → P (timeout_item g k ms s)
item-keeps P keeps g k None s u = u
item-keeps P keeps g k (Some ms) s u = keeps.adds _ s u

does-keeps : (P : State → Type 0) (keeps : Keeps P) (g : ℕ) (locals : List Local) (d : Did) (s : State) → P s → Stands P (does g locals d s)
does-keeps P keeps g locals (Did.GoesOn how own todo) s u = goes_on-keeps P keeps lands g _ (settle s) (lands-keeps P keeps) (keeps.settles s u)
does-keeps P keeps g locals (Did.Enters ms silent body todo) s u =
    let t = record s { timeouts = s.timeouts + 1 } in
    goes_on-keeps P keeps lands g _ (settle (timeout_item g t.timeouts ms t)) (lands-keeps P keeps) (keeps.settles _ (item-keeps P keeps g t.timeouts ms t (keeps.alike s t refl u)))
does-keeps P keeps g locals (Did.Asks request x todo) s u =
    follows-keeps P keeps g _ (performs-keeps P keeps request g _ (keeps.alike s (with_phase g (Phase.Live (record { locals = locals; todo = todo; gives = x })) s) refl u))

pub move-keeps : (P : State → Type 0) (keeps : Keeps P) (g : ℕ) (s : State) → P s → Stands P (move g s)
unfolding move
move-keeps P keeps g s u =
    let frame = frame_of (greenlet g s).phase in
    does-keeps P keeps g frame.locals (body_move frame.todo (record { scenario = s.scenario; look = look g s; locals = frame.locals })) (record s { moves = s.moves + 1 })
    (keeps.alike s _ refl u)

pub interrupts-keeps : (P : State → Type 0) (keeps : Keeps P) (g : ℕ) (f : FaultKind) (s : State) → P s → Stands P (interrupts g f s)
unfolding interrupts
interrupts-keeps P keeps g f s u =
    let r = without_offer_by (since_of_wake g s.items) s in
    let t = say (Line.Throw g f) (without_wait g r) in
    answered-keeps P keeps g (Outcome.Fault f) (settle t)
    (keeps.settles t (keeps.says (Line.Throw g f) (without_wait g r) refl (keeps.drops (is_wait_of g) r (by (since_of_wake g s.items)))))
  where
    by : (since : Option ℕ) → P (without_offer_by since s)
    by None = u
    by (Some since) = keeps.alike s _ refl u

late-keeps : (P : State → Type 0) (keeps : Keeps P) (g k : ℕ) (w : Option Waiting) (s : State) → P s → Stands P (late g k w s)
unfolding Stands
late-keeps P keeps g k None s u = u
late-keeps P keeps g k (Some w) s u =
    let t = say (Line.Resume g Resumed.Late) s in
    answered-keeps P keeps g _ _ (keeps.settles _ (keeps.drops (is_wait_of g) t (keeps.says _ s refl u)))

calls-keeps : (P : State → Type 0) (keeps : Keeps P) (k g f : ℕ) (s : State) → P s → Stands P (calls k g f s)
unfolding Stands
calls-keeps P keeps k g f s u = by (has_greenlet_left s)
  where
    by : (b : Bool) → Stands P (if b then
        starts lands (length s.greenlets) (Value.Greenlet g ∷ []) (add_greenlet false 0 f (Value.Greenlet g ∷ []) (say (Line.Link k g (LinkCall.Greenlet (length s.greenlets))) s))
        else Next.Over StopCause.NoGreenlets s)
    by true =
        let t = add_greenlet false 0 f (Value.Greenlet g ∷ []) (say (Line.Link k g (LinkCall.Greenlet (length s.greenlets))) s) in
        let line = Line.Link k g (LinkCall.Greenlet (length s.greenlets)) in
        starts-keeps P keeps lands (length s.greenlets) (Value.Greenlet g ∷ []) t (lands-keeps P keeps) (keeps.alike (say line s) t refl (keeps.says line s refl u))
    by false = u

called-keeps : (P : State → Type 0) (keeps : Keeps P) (k g : ℕ) (kind : LinkKind) (f : ℕ) (s : State) → P s → Stands P (called k g kind f s)
unfolding Stands
called-keeps P keeps k g (LinkKind.Mark x) f s u = keeps.settles _ (keeps.says _ s refl u)
called-keeps P keeps k g (LinkKind.Set o) f s u =
    let t = say (Line.Link k g (LinkCall.Set (name_of_object o s))) s in keeps.settles _ (keeps.alike t _ refl (keeps.says _ s refl u))
called-keeps P keeps k g LinkKind.Any f s u = calls-keeps P keeps k g f s u
called-keeps P keeps k g LinkKind.Value f s u = calls-keeps P keeps k g f s u
called-keeps P keeps k g LinkKind.Fault f s u = calls-keeps P keeps k g f s u

pub delivers-keeps : (P : State → Type 0) (keeps : Keeps P) (since : ℕ) (d : Delivery) (s : State) → P s → Stands P (delivers since d s)
delivers-keeps P keeps since (Delivery.Start g deadline) s u = starts-keeps P keeps lands g _ s (lands-keeps P keeps) u
delivers-keeps P keeps since (Delivery.Wake g w) s u =
    let t = say (Line.Resume g Resumed.Wake) s in
    follows-keeps P keeps g _ (completes-keeps P keeps g since w _ (keeps.drops (is_wait_of g) t (keeps.says _ s refl u)))
delivers-keeps P keeps since (Delivery.Late g deadline k) s u = late-keeps P keeps g k (waiting_of g s.items) s u
delivers-keeps P keeps since (Delivery.Timeout g k deadline) s u = interrupts-keeps P keeps g (FaultKind.Timeout k) s u
delivers-keeps P keeps since (Delivery.Kill g f) s u = interrupts-keeps P keeps g f s u
delivers-keeps P keeps since (Delivery.Link k g kind f) s u = called-keeps P keeps k g kind f s u

pub deliver-keeps : (P : State → Type 0) (keeps : Keeps P) (i : Item) (s : State) → P (without_item i s) → Stands P (deliver i s)
unfolding deliver
deliver-keeps P keeps i s u = delivers-keeps P keeps i.since i.delivery (without_item i s) u
