-- Which greenlet may go on in a sound state. The hub delivers to greenlets that are not raw; one of them is under way
-- by itself, or by the raw greenlet that it switched to, and it waits for nothing meanwhile. This project's own, after
-- the greenlet documentation, parents.
use Rattle.std.specs.Prelude.{◌≡◌, ℕ, Bool, true, false, not, List, Some, None, slice_get, if◌then◌else◌, unwrap_or}
use Rattle.std.specs.List.{list_all}
use Rattle.machine.specs.declared.items.Delivery.{Delivery}
use Rattle.machine.specs.declared.items.Item.{Item}
use Rattle.machine.specs.declared.state.Greenlet.{Greenlet}
use Rattle.machine.specs.declared.state.Object.{Object}
use Rattle.machine.specs.State.{State}
use Rattle.machine.specs.Soundness.{phase_of, is_live, is_sound}
use Rattle.machine.specs.BodyMoves.{Did, body_move}
use Rattle.machine.specs.declared.request.Request.{Request}
use Rattle.machine.specs.Landing.{Next}
use Rattle.machine.specs.Items.{is_wait_of}
use Rattle.machine.specs.Hosts.{host_of}
use Rattle.machine.specs.Greenlets.{greenlet, frame_of, nobody}
use Rattle.machine.specs.Moves.{look}

-- there is such a greenlet, and it is not raw
abbrev pub is_plain : List Greenlet → ℕ → Bool
is_plain gs g = elim (slice_get gs g) [ None ↦ false | Some x ↦ not x.raw ]

-- none of these greenlets is raw
abbrev pub AreNotRaw : List Greenlet → List ℕ → Type 0
AreNotRaw gs ks = list_all (λ k. not (unwrap_or (slice_get gs k) nobody).raw) ks ≡ true

-- the item goes to a greenlet that is not raw; a link is called in a new one
abbrev pub is_for_plain : List Greenlet → Delivery → Bool
is_for_plain gs (Delivery.Start g deadline) = is_plain gs g
is_for_plain gs (Delivery.Wake g w) = is_plain gs g
is_for_plain gs (Delivery.Late g deadline n) = is_plain gs g
is_for_plain gs (Delivery.Timeout g n deadline) = is_plain gs g
is_for_plain gs (Delivery.Kill g f) = is_plain gs g
is_for_plain gs (Delivery.Link k g kind f) = true

-- no member of a group or pool is raw
abbrev pub has_plain_members : List Greenlet → Object → Bool
has_plain_members gs (Object.Crew size members) = list_all (is_plain gs) members
has_plain_members gs object = true

-- the state is sound, and main, members and those to whom items go are not raw
pub record IsKept (s : State) : Type 0 where
  pub sound : is_sound s ≡ true
  pub owners : list_all (λ i. is_for_plain s.greenlets i.delivery) s.items ≡ true
  pub members : list_all (has_plain_members s.greenlets) s.objects ≡ true
  pub main : is_plain s.greenlets 0 ≡ true

-- the greenlet has neither a Wake nor a Late
abbrev pub has_no_wait : ℕ → List Item → Bool
has_no_wait g items = list_all (λ i. not (is_wait_of g i.delivery)) items

-- the greenlet is live, and so is its host, which waits for nothing
pub record IsGoing (g : ℕ) (s : State) : Type 0 where
  pub live : is_live (phase_of g s.greenlets) ≡ true
  pub host : is_plain s.greenlets (host_of s g) ≡ true
  pub host_live : is_live (phase_of (host_of s g) s.greenlets) ≡ true
  pub free : has_no_wait (host_of s g) s.items ≡ true

-- the hub stands soundly
abbrev pub IsSoundAt : Next → Type 0
IsSoundAt (Next.Going g s) = IsKept s × IsGoing g s
IsSoundAt (Next.Resting s) = IsKept s
IsSoundAt (Next.Over cause s) = IsKept s

-- ---- what a move may ask

-- the request may wait, or sends what its greenlet then waits for
abbrev pub may_wait : Request → Bool
may_wait (Request.Sleep ms) = true
may_wait (Request.Join v how) = true
may_wait (Request.Get v how) = true
may_wait (Request.Kill v f how) = true
may_wait (Request.KillAll v f how) = true
may_wait (Request.JoinAll v n how) = true
may_wait (Request.WaitEvent o how) = true
may_wait (Request.ResultGet o how) = true
may_wait (Request.ResultWait o how) = true
may_wait (Request.Acquire o how) = true
may_wait (Request.QueuePut o v how) = true
may_wait (Request.QueueGet o how) = true
may_wait (Request.QueuePeek o how) = true
may_wait (Request.QueueJoin o how) = true
may_wait (Request.GroupSpawn o f args) = true
may_wait (Request.GroupJoin o how) = true
may_wait (Request.GroupKill o f how) = true
may_wait (Request.Map o f v) = true
may_wait (Request.NativeSpawn o kind v ms) = true
may_wait (Request.ChannelPut o v) = true
may_wait (Request.ChannelGet o) = true
may_wait request = false

-- a raw body asks for no wait
abbrev pub is_meant_request : Bool → Request → Bool
is_meant_request plain request = if may_wait request then plain else true

-- a raw body enters no timeout block either
abbrev pub is_meant_did : Bool → Did → Bool
is_meant_did plain (Did.GoesOn how locals todo) = true
is_meant_did plain (Did.Enters ms silent body todo) = plain
is_meant_did plain (Did.Asks request x todo) = is_meant_request plain request

-- what the body of the greenlet does at its next move
abbrev pub next_did : ℕ → State → Did
next_did g s =
    let frame = frame_of (greenlet g s).phase in
    body_move frame.todo (record { scenario = s.scenario; look = look g s; locals = frame.locals })

-- the next move of the greenlet is one that a scenario may have
abbrev pub is_meant_move : ℕ → State → Bool
is_meant_move g s = is_meant_did (is_plain s.greenlets g) (next_did g s)
