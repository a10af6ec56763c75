-- What comes of requests, soundly.
use Rattle.std.proofs.Common.{◌≡◌, refl, ap, ◌∙◌, sym, subst, ℕ, ◌+◌, Bool, true, false, List, [], ◌∷◌, ◌++◌, length, map}
use Rattle.std.proofs.lemmas.Bool.{and_from}
use Rattle.std.specs.Prelude.{not, ◌==◌, slice_get, Option, Some, None, if◌then◌else◌, unwrap_or}
use Rattle.gv_values.specs.declared.value.Value.{Value}
use Rattle.gv_values.specs.declared.value.Outcome.{Outcome}
use Rattle.gv_values.specs.declared.scalar.Scalar.{Scalar}
use Rattle.gv_values.specs.declared.fault.FaultKind.{FaultKind}
use Rattle.gv_values.specs.declared.job.Job.{Job}
use Rattle.scenario_tree.specs.declared.tree.Wait.{Wait}
use Rattle.trace_text.specs.declared.line.Line.{Line}
use Rattle.trace_text.specs.declared.line.Awaited.{Awaited}
use Rattle.trace_text.specs.declared.line.StopCause.{StopCause}
use Rattle.machine.specs.declared.items.Delivery.{Delivery}
use Rattle.machine.specs.declared.items.Waiting.{Waiting}
use Rattle.machine.specs.declared.state.Object.{Object}
use Rattle.machine.specs.State.{State, say}
use Rattle.machine.specs.Holds.{newcomer_completes, earlier, is_take}
use Rattle.machine.specs.Soundness.{phase_of, Claim, claim_of, is_meant, is_unclaimed, is_unstarted, same_claim}
use Rattle.machine.specs.Items.{add_item, is_wait_of}
use Rattle.machine.specs.Greenlets.{add_greenlet, has_greenlet_left, greenlet}
use Rattle.machine.specs.Hosts.{host_of}
use Rattle.machine.specs.Objects.{with_flag, with_shut, members_of, with_object, object_at, no_object, with_unit_taken, with_owner, with_item, with_item_taken, with_member, with_slot_taken, name_of_object, with_offer, with_offer_taken, is_shut, is_left, item_of}
use Rattle.machine.specs.Request.{typed, on_host, plain_greenlet, plain_greenlets, plain_greenlet_list}
use Rattle.gv_values.specs.Value.{value_of_scalar}
use Rattle.machine.specs.declared.state.Greenlet.{Greenlet}
use Rattle.machine.specs.Waits.{Performed, add_member, map_ends, maps, map_goes_on, made_member, posted, completes, comes, waits, parked, drawn, draws, until_of, gathered, outcome_of_greenlet, raises, nothing, offered, puts_item, takes_item, peeks_item}
use Rattle.machine_soundness.specs.Going.{AreNotRaw, is_plain, has_plain_members, IsKept}
use Rattle.machine_soundness.proofs.Lists.{all-imply, all-end, all-get, get-last, equal}
use Rattle.machine_soundness.proofs.Greenlets.{plain-here, plain-raw, none-next, host-plain, plain-more}
use Rattle.machine_soundness.proofs.Singles.{wake_unclaimed}
use Rattle.machine_soundness.proofs.States.{IsHost, Moves, meants, kept-say, kept-timeout, kept-add, kept-object, moves-add, moves-object, moves-made, moves-timeout, host-say}

-- what comes of a request of a greenlet with this host
abbrev pub IsFine : ℕ → ℕ → Performed → Type 0
IsFine g h (Performed.Answers o s) = Moves g h s
IsFine g h (Performed.Parks s) = IsKept s
IsFine g h (Performed.Lands k o s) = record { kept : IsKept s; same : host_of s k ≡ h; host : IsHost h s }
IsFine g h (Performed.Stops cause s) = IsKept s

-- ---- objects

pub object-plain : (o : ℕ) (s : State) → IsKept s → has_plain_members s.greenlets (object_at o s) ≡ true
object-plain o s h = by (slice_get s.objects o) refl
  where
    by : (x : Option Object) → slice_get s.objects o ≡ x → has_plain_members s.greenlets (unwrap_or x no_object) ≡ true
    by None e = refl
    by (Some x) e = all-get (has_plain_members s.greenlets) s.objects o x e h.members

-- a change of the object that makes none a member
pub moves-change : (change : Object → Object) (o g h : ℕ) (s : State) → ((x : Object) → has_plain_members s.greenlets x ≡ true → has_plain_members s.greenlets (change x) ≡ true) →
    Moves g h s → Moves g h (with_object o (change (object_at o s)) s)
moves-change change o g h s f m = moves-object o (change (object_at o s)) g h s (f (object_at o s) (object-plain o s m.kept)) m

-- ---- members

-- the next greenlet has no start yet
pub next-unclaimed : (s : State) → IsKept s → is_unclaimed (Some (Claim.StartOf (length s.greenlets))) s.items ≡ true
next-unclaimed s h = all-imply _ _ s.items (λ i. none i.delivery) (meants s h.sound)
  where
    by : (k : ℕ) (b : Bool) → (length s.greenlets == k) ≡ b → is_unstarted (phase_of k s.greenlets) ≡ true → not b ≡ true
    by k true e m = absurd (cc (m, ap (λ z. is_unstarted (phase_of z s.greenlets)) (sym (equal (length s.greenlets) k e)), ap is_unstarted (none-next s.greenlets)))
    by k false e m = refl

    none : (d : Delivery) → is_meant s d ≡ true → not (same_claim (Some (Claim.StartOf (length s.greenlets))) (claim_of d)) ≡ true
    none (Delivery.Start k deadline) m = by k (length s.greenlets == k) refl m
    none (Delivery.Wake k w) m = refl
    none (Delivery.Late k deadline n) m = refl
    none (Delivery.Timeout k n deadline) m = refl
    none (Delivery.Kill k kind) m = refl
    none (Delivery.Link n k kind x) m = refl

pub next-plain : (parent f : ℕ) (args : List Value) (s : State) → is_plain (add_greenlet false parent f args s).greenlets (length s.greenlets) ≡ true
next-plain parent f args s = plain-here (add_greenlet false parent f args s).greenlets (length s.greenlets) _ (get-last s.greenlets _) refl

pub next-unstarted : (raw : Bool) (parent f : ℕ) (args : List Value) (s : State) → is_unstarted (phase_of (length s.greenlets) (add_greenlet raw parent f args s).greenlets) ≡ true
next-unstarted raw parent f args s = ap (λ x. is_unstarted (elim x [ None ↦ None | Some y ↦ Some y.phase ])) (get-last s.greenlets _)

-- one more greenlet, with its start
pub moves-spawned : (deadline : Option ℕ) (parent f : ℕ) (args : List Value) (g h : ℕ) (s : State) → Moves g h s →
    Moves g h (add_item (Delivery.Start (length s.greenlets) deadline) (add_greenlet false parent f args s))
moves-spawned deadline parent f args g h s m =
    moves-add (Delivery.Start (length s.greenlets) deadline) g h (add_greenlet false parent f args s)
    (next-unclaimed s m.kept) (next-unstarted false parent f args s) (next-plain parent f args s) refl (moves-made false parent f args g h s m)

pub member-plain : (gs : List Greenlet) (k : ℕ) → is_plain gs k ≡ true → (x : Object) → has_plain_members gs x ≡ true → has_plain_members gs (with_member k x) ≡ true
member-plain gs k p (Object.Crew size members) e = all-end (is_plain gs) members k e p
member-plain gs k p x e = e

pub moves-member : (o f : ℕ) (args : List Value) (g h : ℕ) (s : State) → Moves g h s → Moves g h (add_member o f args s)
moves-member o f args g h s m =
    let k = length s.greenlets in
    let t = add_item (Delivery.Start k None) (add_greenlet false 0 f args s) in
    moves-change (with_member k) o g h t (member-plain t.greenlets k (next-plain 0 f args s)) (moves-spawned None 0 f args g h s m)

-- ---- parking

pub own-host : (g h : ℕ) (s : State) → is_plain s.greenlets g ≡ true → Moves g h s → IsHost g s
own-host g h s p m = subst (λ z. IsHost z s) (sym m.same ∙ host-plain (length s.greenlets) s.greenlets g (plain-raw s.greenlets g p)) m.host

pub no_late : (g : ℕ) (d : Delivery) → not (is_wait_of g d) ≡ true → not (same_claim (Some (Claim.LateOf g)) (claim_of d)) ≡ true
no_late g (Delivery.Start k deadline) e = refl
no_late g (Delivery.Wake k w) e = refl
no_late g (Delivery.Late k deadline n) e = e
no_late g (Delivery.Timeout k n deadline) e = refl
no_late g (Delivery.Kill k kind) e = refl
no_late g (Delivery.Link n k kind x) e = refl

pub moves-drawn : (w : Waiting) (g h : ℕ) (s : State) → Moves g h s → Moves g h (drawn w s)
moves-drawn w g h s m = by (draws w)
  where
    by : (b : Bool) → Moves g h (if b then record s { timeouts = s.timeouts + 1 } else s)
    by true = moves-timeout g h s m
    by false = m

pub kept-wake : (g : ℕ) (w : Waiting) (s : State) → IsHost g s → IsKept s → IsKept (add_item (Delivery.Wake g w) s)
kept-wake g w s m k = kept-add (Delivery.Wake g w) s (wake_unclaimed g s.items m.free) m.live m.plain k

pub kept-twin : (g : ℕ) (w : Waiting) (deadline n : ℕ) (s : State) → IsHost g s → IsKept s → IsKept (add_item (Delivery.Late g deadline n) (drawn w (add_item (Delivery.Wake g w) s)))
kept-twin g w deadline n s m k = by (draws w)
  where
    t : State
    t = add_item (Delivery.Wake g w) s

    none : is_unclaimed (Some (Claim.LateOf g)) (add_item (Delivery.Wake g w) s).items ≡ true
    none = all-end _ s.items _ (all-imply _ _ s.items (λ i. no_late g i.delivery) m.free) refl

    by : (b : Bool) → IsKept (add_item (Delivery.Late g deadline n) (if b then record (add_item (Delivery.Wake g w) s) { timeouts = s.timeouts + 1 } else add_item (Delivery.Wake g w) s))
    by true = kept-add (Delivery.Late g deadline n) _ none m.live m.plain (kept-timeout _ (kept-wake g w s m k))
    by false = kept-add (Delivery.Late g deadline n) _ none m.live m.plain (kept-wake g w s m k)

pub kept-parked : (g : ℕ) (word : Awaited) (w : Waiting) (deadline : Option ℕ) (s : State) → IsHost g s → IsKept s → IsKept (parked g word w deadline s)
kept-parked g word w None s m k = kept-wake g w (say (Line.Park g word (until_of w None)) s) (host-say _ g s m) (kept-say _ s k)
kept-parked g word w (Some deadline) s m k = kept-twin g w deadline _ (say (Line.Park g word (Some deadline)) s) (host-say _ g s m) (kept-say _ s k)

waits-fine : (g h : ℕ) (word : Awaited) (w : Waiting) (how : Wait) (s : State) → is_plain s.greenlets g ≡ true → Moves g h s → IsFine g h (waits g word w how s)
waits-fine g h word w Wait.Block s p m = kept-parked g word w None s (own-host g h s p m) m.kept
waits-fine g h word w (Wait.Within ms) s p m = kept-parked g word w (Some (s.moment + ms)) s (own-host g h s p m) m.kept
waits-fine g h word w Wait.Now s p m = moves-drawn w g h s m

-- ---- completions

map_ends-fine : (g h o : ℕ) (made : List ℕ) (s : State) → is_plain s.greenlets g ≡ true → Moves g h s → IsFine g h (map_ends g o made s)
map_ends-fine g h o made s p m = by (newcomer_completes s g (Waiting.MapEnd o made))
  where
    by : (b : Bool) → IsFine g h (if b then Performed.Answers (gathered (map (outcome_of_greenlet s) made) []) s
        else Performed.Parks (parked g (Awaited.Map (name_of_object o s)) (Waiting.MapEnd o made) None s))
    by true = m
    by false = kept-parked g _ _ None s (own-host g h s p m) m.kept

pub maps-fine : (xs : List Scalar) (g h o f : ℕ) (made : List ℕ) (s : State) → is_plain s.greenlets g ≡ true → Moves g h s → IsFine g h (maps xs g o f made s)
maps-fine [] g h o f made s p m = map_ends-fine g h o made s p m
maps-fine (x ∷ xs) g h o f made s p m =
    let args : List Value = value_of_scalar x ∷ [] in
    by (newcomer_completes s g (Waiting.MapPlace o f (x ∷ xs) made)) (has_greenlet_left s)
    (maps-fine xs g h o f (made ++ length s.greenlets ∷ []) (add_member o f args s) (plain-more s.greenlets _ g p) (moves-member o f args g h s m))
  where
    by : (b c : Bool) → IsFine g h (maps xs g o f (made ++ length s.greenlets ∷ []) (add_member o f (value_of_scalar x ∷ []) s)) →
        IsFine g h (elim b [
          | false ↦ Performed.Parks (parked g (Awaited.Map (name_of_object o s)) (Waiting.MapPlace o f (x ∷ xs) made) None s)
          | true ↦ elim c [
            | false ↦ Performed.Stops StopCause.NoGreenlets s
            | true ↦ maps xs g o f (made ++ length s.greenlets ∷ []) (add_member o f (value_of_scalar x ∷ []) s)
          ]
        ])
    by false c rest = kept-parked g _ _ None s (own-host g h s p m) m.kept
    by true false rest = m.kept
    by true true rest = rest

map_goes_on-fine : (xs : List Scalar) (g h o f : ℕ) (made : List ℕ) (s : State) → is_plain s.greenlets g ≡ true → Moves g h s → IsFine g h (map_goes_on xs g o f made s)
map_goes_on-fine [] g h o f made s p m = map_ends-fine g h o made s p m
map_goes_on-fine (x ∷ xs) g h o f made s p m = by (has_greenlet_left s)
  where
    by : (b : Bool) → IsFine g h (if b then maps xs g o f (made ++ length s.greenlets ∷ []) (add_member o f (value_of_scalar x ∷ []) s) else Performed.Stops StopCause.NoGreenlets s)
    by true = maps-fine xs g h o f _ (add_member o f (value_of_scalar x ∷ []) s) (plain-more s.greenlets _ g p) (moves-member o f _ g h s m)
    by false = m.kept

made_member-fine : (g h o f : ℕ) (args : List Value) (s : State) → Moves g h s → IsFine g h (made_member o f args s)
made_member-fine g h o f args s m = by (has_greenlet_left s)
  where
    by : (b : Bool) → IsFine g h (if b then Performed.Answers (Outcome.Value (Value.Greenlet (length s.greenlets))) (add_member o f args s) else Performed.Stops StopCause.NoGreenlets s)
    by true = moves-member o f args g h s m
    by false = m.kept

pub unit-plain : (gs : List Greenlet) (x : Object) → has_plain_members gs x ≡ true → has_plain_members gs (with_unit_taken x) ≡ true
unit-plain gs (Object.Semaphore counter bound) h = refl
unit-plain gs x h = h

pub owner-plain : (gs : List Greenlet) (g : ℕ) (x : Object) → has_plain_members gs x ≡ true → has_plain_members gs (with_owner g x) ≡ true
owner-plain gs g (Object.Lock owner depth) h = refl
owner-plain gs g x h = h

pub item-plain : (gs : List Greenlet) (v : Value) (x : Object) → has_plain_members gs x ≡ true → has_plain_members gs (with_item v x) ≡ true
item-plain gs v (Object.Queue kind size items unfinished shut) h = refl
item-plain gs v x h = h

pub taken-plain : (gs : List Greenlet) (x : Object) → has_plain_members gs x ≡ true → has_plain_members gs (with_item_taken x) ≡ true
taken-plain gs (Object.Queue kind size items unfinished shut) h = refl
taken-plain gs x h = h

offer-plain : (gs : List Greenlet) (v : Value) (since : ℕ) (x : Object) → has_plain_members gs x ≡ true → has_plain_members gs (with_offer v since x) ≡ true
offer-plain gs v since (Object.Channel offers) h = refl
offer-plain gs v since x h = h

pub offer_taken-plain : (gs : List Greenlet) (x : Object) → has_plain_members gs x ≡ true → has_plain_members gs (with_offer_taken x) ≡ true
offer_taken-plain gs (Object.Channel offers) h = refl
offer_taken-plain gs x h = h

pub shut-plain : (gs : List Greenlet) (b : Bool) (x : Object) → has_plain_members gs x ≡ true → has_plain_members gs (with_shut b x) ≡ true
shut-plain gs true (Object.Queue kind size items unfinished shut) h = refl
shut-plain gs false (Object.Queue kind size items unfinished shut) h = refl
shut-plain gs true x h = h
shut-plain gs false x h = h

pub slot-plain : (gs : List Greenlet) (x : Object) → has_plain_members gs x ≡ true → has_plain_members gs (with_slot_taken x) ≡ true
slot-plain gs (Object.Native slots outstanding) h = refl
slot-plain gs x h = h

pub flag-plain : (gs : List Greenlet) (b : Bool) (x : Object) → has_plain_members gs x ≡ true → has_plain_members gs (with_flag b x) ≡ true
flag-plain gs true (Object.Event flag sets) h = refl
flag-plain gs false (Object.Event flag sets) h = refl
flag-plain gs true x h = h
flag-plain gs false x h = h

pub moves-flag : (b : Bool) (o g h : ℕ) (s : State) → Moves g h s → Moves g h (with_object o (with_flag b (object_at o s)) s)
moves-flag b o g h s m = moves-change (with_flag b) o g h s (flag-plain s.greenlets b) m

posted-fine : (g h k o : ℕ) (job : Job) (takes : ℕ) (s : State) → Moves g h s → Moves g h (posted k o job takes s)
posted-fine g h k o job takes s m =
    let t = say (Line.Job (length s.jobs + 1) k job) (record s {
      jobs = s.jobs ++ record { job = job; pool = o; outcome = None } ∷ [];
      posts = s.posts ++ record { number = length s.jobs + 1; job = job; takes = takes } ∷ [];
    }) in
    let k : IsKept t = record { sound = m.kept.sound; owners = m.kept.owners; members = m.kept.members; main = m.kept.main } in
    moves-change with_slot_taken o g h t (slot-plain s.greenlets)
    (record { kept = k; live = m.live; same = m.same; host = record { plain = m.host.plain; live = m.host.live; free = m.host.free } })

puts-fine : (g h o : ℕ) (v : Value) (s : State) → Moves g h s → IsFine g h (puts_item o v (object_at o s) s)
puts-fine g h o v s m = by (is_shut (object_at o s))
  where
    by : (b : Bool) → IsFine g h (if b then raises FaultKind.ShutDown s else Performed.Answers nothing (with_object o (with_item v (object_at o s)) s))
    by true = m
    by false = moves-change (with_item v) o g h s (item-plain s.greenlets v) m

takes-fine : (g h o before : ℕ) (s : State) → Moves g h s → IsFine g h (takes_item o before (object_at o s) s)
takes-fine g h o before s m = by (is_left before (object_at o s))
  where
    by : (b : Bool) → IsFine g h (if b then Performed.Answers (Outcome.Value (item_of (object_at o s))) (with_object o (with_item_taken (object_at o s)) s) else raises FaultKind.ShutDown s)
    by true = moves-change with_item_taken o g h s (taken-plain s.greenlets) m
    by false = m

peeks-fine : (g h o before : ℕ) (s : State) → Moves g h s → IsFine g h (peeks_item before (object_at o s) s)
peeks-fine g h o before s m = by (is_left before (object_at o s))
  where
    by : (b : Bool) → IsFine g h (if b then Performed.Answers (Outcome.Value (item_of (object_at o s))) s else raises FaultKind.ShutDown s)
    by true = m
    by false = m

pub completes-fine : (g h since : ℕ) (w : Waiting) (s : State) → is_plain s.greenlets g ≡ true → Moves g h s → IsFine g h (completes g since w s)
completes-fine g h since (Waiting.Acquire o) s p m = moves-change with_unit_taken o g h s (unit-plain s.greenlets) m
completes-fine g h since (Waiting.Lock o) s p m = moves-change (with_owner g) o g h s (owner-plain s.greenlets g) m
completes-fine g h since (Waiting.Put o v) s p m = puts-fine g h o v s m
completes-fine g h since (Waiting.Take o) s p m = takes-fine g h o (earlier (is_take o) since s.items) s m
completes-fine g h since (Waiting.Peek o) s p m = peeks-fine g h o (earlier (is_take o) since s.items) s m
completes-fine g h since (Waiting.TakeOffer o) s p m = moves-change with_offer_taken o g h s (offer_taken-plain s.greenlets) m
completes-fine g h since (Waiting.Place o f args) s p m = made_member-fine g h o f args s m
completes-fine g h since (Waiting.MapPlace o f xs made) s p m = map_goes_on-fine xs g h o f made s p m
completes-fine g h since (Waiting.Slot o job takes) s p m = posted-fine g h g o job takes s m
completes-fine g h since w s p m = m

pub comes-fine : (g h : ℕ) (word : Awaited) (w : Waiting) (how : Wait) (s : State) → is_plain s.greenlets g ≡ true → Moves g h s → IsFine g h (comes g word w how s)
comes-fine g h word w how s p m = by (newcomer_completes s g w)
  where
    by : (b : Bool) → IsFine g h (if b then completes g s.next_since w s else waits g word w how s)
    by true = completes-fine g h s.next_since w s p m
    by false = waits-fine g h word w how s p m

-- an offer parks
pub offered-fine : (g h o : ℕ) (v : Value) (s : State) → is_plain s.greenlets g ≡ true → Moves g h s → IsKept (offered g o v s)
offered-fine g h o v s p m =
    let t = parked g (Awaited.ChannelPut (name_of_object o s)) (Waiting.Offered o) None s in
    kept-object o (with_offer v s.next_since (object_at o s)) t (offer-plain s.greenlets v s.next_since (object_at o s) (object-plain o s m.kept))
    (kept-parked g _ _ None s (own-host g h s p m) m.kept)

pub moves-shut : (b : Bool) (o g h : ℕ) (s : State) → Moves g h s → Moves g h (with_object o (with_shut b (object_at o s)) s)
moves-shut b o g h s m = moves-change (with_shut b) o g h s (shut-plain s.greenlets b) m

-- ---- kinds of operands

pub typed-fine : {A : Type 0} (g h : ℕ) (x : Option A) (s : State) (go : A → Performed) → Moves g h s → ((y : A) → x ≡ Some y → IsFine g h (go y)) → IsFine g h (typed x s go)
typed-fine g h None s go m f = m
typed-fine g h (Some y) s go m f = f y refl

pub on_host-fine : (g h k : ℕ) (s : State) (go : Performed) → Moves g h s → (host_of s k ≡ h → IsFine g h go) → IsFine g h (on_host g k s go)
on_host-fine g h k s go m f = by (host_of s g == host_of s k) refl
  where
    by : (b : Bool) → (host_of s g == host_of s k) ≡ b → IsFine g h (if b then go else raises FaultKind.InvalidSwitch s)
    by true e = f (sym (equal (host_of s g) (host_of s k) e) ∙ m.same)
    by false e = m

pub plain_greenlet-raw : (s : State) (v : Value) (k : ℕ) → plain_greenlet s v ≡ Some k → (greenlet k s).raw ≡ false
plain_greenlet-raw s (Value.Greenlet j) k e = by (greenlet j s).raw refl e
  where
    by : (b : Bool) → (greenlet j s).raw ≡ b → ◌≡◌ {A = Option ℕ} (if b then None else Some j) (Some k) → (greenlet k s).raw ≡ false
    by true r e = absurd (cc e)
    by false r e = let same : j ≡ k = cc e in subst (λ i. (greenlet i s).raw ≡ false) same r
plain_greenlet-raw s v k e = absurd (cc e)

plain_greenlets-raw : (s : State) (xs : List Scalar) (ks : List ℕ) → plain_greenlets s xs ≡ Some ks → AreNotRaw s.greenlets ks
plain_greenlets-raw s [] ks e = let same : [] ≡ ks = cc e in subst (AreNotRaw s.greenlets) same refl
plain_greenlets-raw s (Scalar.Greenlet g ∷ xs) ks e = by (plain_greenlets s xs) (greenlet g s).raw refl (plain_greenlets-raw s xs) refl e
  where
    by : (o : Option (List ℕ)) (b : Bool) → (greenlet g s).raw ≡ b → ((js : List ℕ) → plain_greenlets s xs ≡ Some js → AreNotRaw s.greenlets js) → plain_greenlets s xs ≡ o →
        ◌≡◌ {A = Option (List ℕ)} (elim o [ None ↦ None | Some gs ↦ if b then None else Some (g ∷ gs) ]) (Some ks) → AreNotRaw s.greenlets ks
    by None b r rest z e = absurd (cc e)
    by (Some gs) true r rest z e = absurd (cc e)
    by (Some gs) false r rest z e =
        let same : g ∷ gs ≡ ks = cc e in
        subst (AreNotRaw s.greenlets) same (and_from (not (greenlet g s).raw) _ (ap not r) (rest gs z))
plain_greenlets-raw s (x ∷ xs) ks e = absurd (cc e)

pub plain_greenlet_list-raw : (s : State) (v : Value) (ks : List ℕ) → plain_greenlet_list s v ≡ Some ks → AreNotRaw s.greenlets ks
plain_greenlet_list-raw s (Value.List xs) ks e = plain_greenlets-raw s xs ks e
plain_greenlet_list-raw s v ks e = absurd (cc e)

pub members-raw : (gs : List Greenlet) (x : Object) → has_plain_members gs x ≡ true → AreNotRaw gs (members_of x)
members-raw gs (Object.Crew size members) h = all-imply (is_plain gs) _ members (λ k p. ap not (plain-raw gs k p)) h
members-raw gs x h = refl
