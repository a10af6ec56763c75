-- Where there is room for small steps there is room for what they count: for a settling, which numbers each item at
-- most, for a timeout's number, for a job's, for the places of items, and for what objects count.
use Rattle.std.proofs.Common.{◌≡◌, ap, sym, ◌∙◌, subst, ℕ, ◌+◌, ◌<◌, ◌≤◌, ◌^◌, Bool, true, false, List, [], ◌∷◌, None, length, length-append, map, slice_get, arith}
use Rattle.std.proofs.lemmas.List.Sums.{count_by-le-length, length-filter}
use Rattle.std.specs.Prelude.{not}
use Rattle.gv_values.specs.declared.fault.FaultKind.{FaultKind}
use Rattle.gv_values.specs.declared.value.Value.{Value}
use Rattle.trace_text.specs.declared.line.Line.{Line}
use Rattle.machine.specs.declared.items.Delivery.{Delivery}
use Rattle.machine.specs.declared.items.Item.{Item}
use Rattle.machine.specs.declared.items.Waiting.{Waiting}
use Rattle.machine.specs.declared.state.Phase.{Phase}
use Rattle.machine.specs.State.{State, say}
use Rattle.machine.specs.Greenlets.{add_greenlet, with_phase}
use Rattle.machine.specs.Items.{add_item, drop_items}
use Rattle.machine.specs.Objects.{object_at, with_member, without_member}
use Rattle.machine.specs.Request.{sends, sends_all}
use Rattle.machine.specs.Waits.{add_member}
use Rattle.machine.specs.Counts.{object_count}
use Rattle.machine_rooms.specs.Rooms.{HasRoom, room_of_move}
use Rattle.machine_rooms.specs.Steps.{Fixed, HasSteps, wait_weight}
use Rattle.machine_rooms.proofs.Requests.{Sends, sends-counts, sends_all-counts}
use Rattle.machine_rooms.proofs.Rooms.{room-ample, room-fewer, room-kept}
use Rattle.machine_rooms.proofs.Tallies.{count-at, count-set, ends-few, member-counted, wait-weight-few}
use Rattle.hub_objects.specs.Counted.{CountsFit, MayCount}
use Rattle.hub_state.specs.Adding.{MayAdd}
use Rattle.hub_requests.specs.Sendings.{sent}

pub room_settles : (n : ℕ) (s : State) → HasRoom n s → s.next_ready + length s.items ≤ 2 ^ 63
room_settles n s r = let far = room-ample n s r in omega (arith, far)

pub room_drawn : (n : ℕ) (s : State) → HasRoom n s → s.timeouts + 1 < 2 ^ 32
room_drawn n s r = let far = room-ample n s r in omega (arith, far)

pub room_posted : (n : ℕ) (s : State) → HasRoom n s → length s.jobs + 1 < 2 ^ 32
room_posted n s r = let far = room-ample n s r in omega (arith, far)

-- and for so many items
pub room_made : (n k : ℕ) (s : State) → k ≤ 2 ^ 30 → HasRoom n s → MayAdd k s
room_made n k s few r = let far = room-ample n s r in (omega (arith, far, few), omega (arith, far, few))

pub room_added : (n : ℕ) (s : State) → HasRoom n s → MayAdd 1 s
room_added n s r = room_made n 1 s (omega arith) r

-- where there is room for more items there is room for fewer
pub fewer_added : (k n : ℕ) (s : State) → k ≤ n → MayAdd n s → MayAdd k s
fewer_added k n s less room = (let a = room.0 in omega (arith, a, less), let b = room.1 in omega (arith, b, less))

-- and after one there is room for one less
pub room_after : (n : ℕ) (d : Delivery) (s : State) → MayAdd (n + 1) s → MayAdd n (add_item d s)
room_after n d s room =
    let long = length-append s.items (record { since = s.next_since; delivery = d; ready = None } ∷ []) in
    (let a = room.0 in omega (arith, a), let b = room.1 in omega (arith, b, long))

-- so it is after a member
pub room_member : (n o f : ℕ) (args : List Value) (s t : State) → t ≡ add_member o f args s → MayAdd (n + 1) s → MayAdd n t
room_member n o f args s t e room = subst (MayAdd n) (sym e) (room_after n (Delivery.Start (length s.greenlets) None) (add_greenlet false 0 f args s) room)

-- a move has room for the completion of each wait
pub room_completed : (w : Waiting) (s : State) → HasRoom room_of_move s → HasRoom (2 + wait_weight w) s
room_completed w s r = let light = wait-weight-few w in room-fewer room_of_move (2 + wait_weight w) s (omega (arith, light)) r

-- so much more may be counted of each object
pub room_counts : (n k : ℕ) (s : State) → k ≤ 2 ^ 32 → HasRoom n s → CountsFit k s.objects
room_counts n k s few r = λ o.
    let h = r.steps in
    let paid = h.paid in
    let made = h.greenlets in
    let same = h.moves in
    let moves = r.few_moves in
    let ended = ends-few s.greenlets in
    let own = h.objects o in
    let far = r.countable o in
    omega (arith, few, paid, made, same, moves, ended, own, far)

pub room_counted : (n : ℕ) (s : State) → HasRoom n s → CountsFit 1 s.objects
room_counted n s r = room_counts n 1 s (omega arith) r

-- a member more is counted once
pub member_counts : (o f : ℕ) (args : List Value) (s t : State) → t ≡ add_member o f args s → object_count (slice_get t.objects o) ≤ object_count (slice_get s.objects o) + 1
member_counts o f args s t e =
    let member = with_member (length s.greenlets) (object_at o s) in
    let here = count-at s.objects o in
    let one = member-counted (length s.greenlets) (object_at o s) in
    subst (λ (x : State). object_count (slice_get x.objects o) ≤ object_count (slice_get s.objects o) + 1) (sym e) (count-set s.objects o o 1 member (omega (arith, here, one)))

pub member_room : (k o f : ℕ) (args : List Value) (s t : State) → t ≡ add_member o f args s → MayCount (k + 1) (slice_get s.objects o) → MayCount k (slice_get t.objects o)
member_room k o f args s t e fits = let one = member_counts o f args s t e in omega (arith, one, fits)

-- no object counts a greenlet or an item
pub counted_still : (d : Delivery) (k o f : ℕ) (args : List Value) (s t u : State) → t ≡ add_greenlet false 0 f args s → u ≡ add_item d t → MayCount k (slice_get s.objects o) → MayCount k (slice_get u.objects o)
counted_still d k o f args s t u e g fits = subst (λ (x : State). MayCount k (slice_get x.objects o)) (sym (g ∙ ap (add_item d) e)) fits

-- neither a line nor an item draws a number
pub drawn_still : (line : Line) (d : Delivery) (s t u : State) → t ≡ say line s → u ≡ add_item d t → s.timeouts + 1 < 2 ^ 32 → u.timeouts + 1 < 2 ^ 32
drawn_still line d s t u e f fits = subst (λ (x : State). x.timeouts + 1 < 2 ^ 32) (sym (f ∙ ap (add_item d) e)) fits

-- after an item there is room for one more
pub made_after : (line : Line) (d : Delivery) (s t u : State) → t ≡ say line s → u ≡ add_item d t → MayAdd 2 s → MayAdd 1 u
made_after line d s t u e f room = subst (MayAdd 1) (sym (f ∙ ap (add_item d) e)) (room_after 1 d (say line s) room)

-- kills keep the room
sent-kept : (x : Fixed) (b : Bool) (t : State) → Sends x (sent b t) → HasSteps x room_of_move t
unfolding Sends
sent-kept x true t h = h
sent-kept x false t h = h

pub room_sent : (f : FaultKind) (k : ℕ) (b : Bool) (s t : State) → sends f k s ≡ sent b t → HasRoom room_of_move s → HasRoom room_of_move t
room_sent f k b s t e r = room-kept room_of_move room_of_move s t (λ x h. sent-kept x b t (subst (Sends x) e (sends-counts x f k s h))) r

pub room_all_sent : (f : FaultKind) (ks : List ℕ) (b : Bool) (s t : State) → sends_all f ks s ≡ sent b t → HasRoom room_of_move s → HasRoom room_of_move t
room_all_sent f ks b s t e r = room-kept room_of_move room_of_move s t (λ x h. sent-kept x b t (subst (Sends x) e (sends_all-counts x f ks s h))) r

-- a line is no item
pub settles_said : (line : Line) (s t : State) → t ≡ say line s → s.next_ready + length s.items ≤ 2 ^ 63 → t.next_ready + length t.items ≤ 2 ^ 63
settles_said line s t e fits = subst (λ (x : State). x.next_ready + length x.items ≤ 2 ^ 63) (sym e) fits

-- no item comes where a greenlet ends
pub settles_at_end : (test : Delivery → Bool) (p : Phase) (g : ℕ) (s t u v : State) → t ≡ drop_items test s → u ≡ with_phase g p t → v ≡ record u { objects = map (without_member g) u.objects } →
    s.next_ready + length s.items ≤ 2 ^ 63 → v.next_ready + length v.items ≤ 2 ^ 63
settles_at_end test p g s t u v e f h fits =
    let goes = λ (i : Item). not (test i.delivery) in
    let fewer = length-filter goes s.items in
    let most = count_by-le-length goes s.items in
    let dropped : (drop_items test s).next_ready + length (drop_items test s).items ≤ 2 ^ 63 = omega (arith, fewer, most, fits) in
    let gone : t.next_ready + length t.items ≤ 2 ^ 63 = subst (λ (x : State). x.next_ready + length x.items ≤ 2 ^ 63) (sym e) dropped in
    let staged : u.next_ready + length u.items ≤ 2 ^ 63 = subst (λ (x : State). x.next_ready + length x.items ≤ 2 ^ 63) (sym f) gone in
    subst (λ (x : State). x.next_ready + length x.items ≤ 2 ^ 63) (sym h) staged
