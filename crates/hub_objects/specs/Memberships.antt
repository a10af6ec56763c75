-- Of which groups and pools a greenlet may be a member.
use Rattle.std.specs.Prelude.{◌≡◌, ⊤, ℕ, ◌==◌, ◌≤◌, Bool, true, false, not, if◌then◌else◌, IsTrue, List, [], Option, Some, length, filter, slice_get, slice_index_or}
use Rattle.machine.specs.declared.state.Object.{Object}
use Rattle.machine_settling.specs.Steps.{has_member}
use Rattle.hub_objects.specs.Counted.{AreCounted}
use Rattle.hub_objects.specs.declared.memberships.Membership.{Membership}

-- whoever may be a member so is none of the object of this number
abbrev pub is_outside : ℕ → Membership → Bool
is_outside o Membership.Nowhere = true
is_outside o (Membership.At p) = not (o == p)
is_outside o Membership.Anywhere = false

-- where the greenlet may be a member; nowhere where the table ends before it
abbrev pub membership_in : List Membership → ℕ → Membership
membership_in table g = slice_index_or table g Membership.Nowhere

-- it is a member of no other object
abbrev pub IsMember : ℕ → Membership → List Object → Type 0
IsMember g membership objects = (o : ℕ) → IsTrue (is_outside o membership) → has_member g (slice_get objects o) ≡ false

-- the members of a group or pool
abbrev pub members_of : Option Object → List ℕ
members_of (Some (Object.Crew size members)) = members
members_of object = []

-- how often the greenlet is one of these
abbrev pub times : ℕ → List ℕ → ℕ
times g members = length (filter (λ h. h == g) members)

-- whoever may be a member so is one of the object of this number so often at most
abbrev pub MayStand : ℕ → Membership → ℕ → Type 0
MayStand o Membership.Nowhere n = n ≡ 0
MayStand o (Membership.At p) n = n ≤ (if o == p then 1 else 0)
MayStand o Membership.Anywhere n = ⊤

-- it is a member of no other object, and of one where alone it may be one only once
abbrev pub IsMemberOnce : ℕ → Membership → List Object → Type 0
IsMemberOnce g membership objects = (o : ℕ) → MayStand o membership (times g (members_of (slice_get objects o)))

-- so it is of each greenlet
abbrev pub AreMembers : List Membership → List Object → Type 0
AreMembers table objects = (g : ℕ) → IsMemberOnce g (membership_in table g) objects

-- what is counted of the objects fits a number, and the table says where each member is one
pub record AreKept (table : List Membership) (objects : List Object) : Type 0 where
  pub counted : AreCounted objects
  pub members : AreMembers table objects

-- who may be a member of this one too
abbrev pub joined : ℕ → Membership → Membership
joined o Membership.Nowhere = Membership.At o
joined o membership = Membership.Anywhere

-- each greenlet may be a member just where it might be one
abbrev pub AreSame : List Membership → List Membership → Type 0
AreSame old new = (h : ℕ) → membership_in new h ≡ membership_in old h

-- so may each but the one, if there is one, who may be a member of this object too
abbrev pub AreJoined : Option ℕ → ℕ → List Membership → List Membership → Type 0
AreJoined g o old new = (h : ℕ) → (g ≡ Some h → membership_in new h ≡ joined o (membership_in old h)) × ((g ≡ Some h → ⊥) → membership_in new h ≡ membership_in old h)
