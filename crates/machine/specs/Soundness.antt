-- What is so of the items in every state that a run reaches: they stand in order of making, no two say the same, and
-- each speaks of a greenlet, a timeout or a link that there is. This project's own.
use Rattle.std.specs.Prelude.{ℕ, ◌+◌, ◌==◌, Bool, true, false, not, ◌&&◌, List, [], ◌∷◌, Option, Some, None, nat_le, slice_get}
use Rattle.std.specs.List.{list_all}
use Rattle.machine.specs.declared.items.Delivery.{Delivery}
use Rattle.machine.specs.declared.items.Item.{Item}
use Rattle.machine.specs.declared.state.Phase.{Phase}
use Rattle.machine.specs.State.{State}
use Rattle.machine.specs.declared.state.Greenlet.{Greenlet}

-- the sinces ascend, from this one on, and stay below the next
abbrev pub ascend : ℕ → ℕ → List Item → Bool
ascend low next [] = nat_le low next
ascend low next (i ∷ items) = nat_le low i.since && ascend (i.since + 1) next items

-- what one item at most may say: that it is the start, the Wake or the Late of a greenlet, a timeout, or a link
pub data Claim : Type 0 where
  StartOf WakeOf LateOf TimeoutNumbered LinkNumbered : ℕ → Claim

-- what the item says; of kills a greenlet may have several
abbrev pub claim_of : Delivery → Option Claim
claim_of (Delivery.Start g deadline) = Some (StartOf g)
claim_of (Delivery.Wake g w) = Some (WakeOf g)
claim_of (Delivery.Late g deadline n) = Some (LateOf g)
claim_of (Delivery.Timeout g n deadline) = Some (TimeoutNumbered n)
claim_of (Delivery.Kill g f) = None
claim_of (Delivery.Link n g kind f) = Some (LinkNumbered n)

-- both claim one thing
abbrev pub claim_eq : Claim → Claim → Bool
claim_eq (StartOf g) (StartOf h) = g == h
claim_eq (WakeOf g) (WakeOf h) = g == h
claim_eq (LateOf g) (LateOf h) = g == h
claim_eq (TimeoutNumbered n) (TimeoutNumbered m) = n == m
claim_eq (LinkNumbered n) (LinkNumbered m) = n == m
claim_eq a b = false

-- the two say the same
abbrev pub same_claim : Option Claim → Option Claim → Bool
same_claim (Some a) (Some b) = claim_eq a b
same_claim a b = false

-- none of the items says this
abbrev pub is_unclaimed : Option Claim → List Item → Bool
is_unclaimed claim items = list_all (λ i. not (same_claim claim (claim_of i.delivery))) items

-- no two items say the same
abbrev pub are_single : List Item → Bool
are_single [] = true
are_single (i ∷ items) = is_unclaimed (claim_of i.delivery) items && are_single items

-- there is such a greenlet, and it was not started
abbrev pub is_unstarted : Option Phase → Bool
is_unstarted (Some (Phase.New args)) = true
is_unstarted phase = false

-- there is such a greenlet, and it was started and has not ended
abbrev pub is_live : Option Phase → Bool
is_live (Some (Phase.Live frame)) = true
is_live phase = false

-- how far the greenlet has come
abbrev pub phase_of : ℕ → List Greenlet → Option Phase
phase_of g gs = elim (slice_get gs g) [ None ↦ None | Some x ↦ Some x.phase ]

-- a start is of a greenlet that is New, a Wake, Late, Timeout or Kill of one that is live; timeouts and links have
-- numbers that were drawn
abbrev pub is_meant : State → Delivery → Bool
is_meant s (Delivery.Start g deadline) = is_unstarted (phase_of g s.greenlets)
is_meant s (Delivery.Wake g w) = is_live (phase_of g s.greenlets)
is_meant s (Delivery.Late g deadline n) = is_live (phase_of g s.greenlets)
is_meant s (Delivery.Timeout g n deadline) = is_live (phase_of g s.greenlets) && nat_le n s.timeouts
is_meant s (Delivery.Kill g f) = is_live (phase_of g s.greenlets)
is_meant s (Delivery.Link n g kind f) = nat_le n s.links

-- the state is sound
abbrev pub is_sound : State → Bool
is_sound s = ascend 0 s.next_since s.items && are_single s.items && list_all (λ i. is_meant s i.delivery) s.items
