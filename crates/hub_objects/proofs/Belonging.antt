-- Of which groups and pools a greenlet may be a member.
use Rattle.std.proofs.Common.{◌≡◌, refl, sym, ap, subst, ◌∙◌, ℕ, zero, suc, ◌+◌, ◌<◌, ◌≤◌, ◌==◌, ◌||◌, Bool, true, false, cond, not, List, [], ◌∷◌, ◌++◌, ◌⊎◌, inl, inr, length, length-append, slice_get, slice_set, slice_index_or, Option, Some, None, unwrap_or, arith}
use Rattle.std.proofs.lemmas.Bool.{cases_eq, eq-eqb, ne_eqb, true≢false}
use Rattle.std.proofs.lemmas.List.Elements.{filter-append}
use Rattle.std.proofs.lemmas.Option.{slice_get-map}
use Rattle.std.specs.List.{list_any}
use Rattle.std.specs.Prelude.{filter, map, option_map, if◌then◌else◌}
use Rattle.scenario_tree.specs.declared.tree.Declaration.{Declaration}
use Rattle.scenario_tree.specs.declared.tree.Object.{Object as Kind}
use Rattle.machine.specs.declared.state.Object.{Object}
use Rattle.machine.specs.Objects.{no_object, with_item_taken, with_offer_taken, without_member, without_offer}
use Rattle.machine.specs.Run.{object_of}
use Rattle.machine_settling.specs.Steps.{has_member}
use Rattle.hub_objects.specs.Changes.{added, changed, member_of}
use Rattle.hub_objects.specs.Memberships.{AreJoined, AreMembers, IsMember, IsMemberOnce, MayStand, is_outside, joined, members_of, membership_in, times}
use Rattle.hub_objects.specs.declared.additions.Addition.{Addition}
use Rattle.hub_objects.specs.declared.memberships.Membership.{Membership}
use Rattle.hub_objects.specs.declared.objects.Change.{Change}
use Rattle.hub_objects.proofs.Leaving.{kept_all}

-- ---- the table

-- what is set somewhere else is there still
set_other : (table : List Membership) (g h : ℕ) (m : Membership) → (h ≡ g) ⊎ (membership_in (slice_set table g m) h ≡ membership_in table h)
set_other [] g h m = inr refl
set_other (x ∷ table) zero zero m = inl refl
set_other (x ∷ table) zero (suc h) m = inr refl
set_other (x ∷ table) (suc g) zero m = inr refl
set_other (x ∷ table) (suc g) (suc h) m = by (set_other table g h m)
  where
    by : (h ≡ g) ⊎ (membership_in (slice_set table g m) h ≡ membership_in table h) → (suc h ≡ suc g) ⊎ (membership_in (slice_set table g m) h ≡ membership_in table h)
    by (inl s) = inl (ap suc s)
    by (inr f) = inr f

pub set_out : (table : List Membership) (g : ℕ) (m : Membership) → length table ≤ g → table ≡ slice_set table g m
set_out [] g m h = refl
set_out (x ∷ table) zero m h = absurd (omega (arith, h))
set_out (x ∷ table) (suc g) m h = ap (λ ms. x ∷ ms) (set_out table g m (omega (arith, h)))

-- ---- so often one may stand

fewer_may : (o : ℕ) (m : Membership) (n k : ℕ) → k ≤ n → MayStand o m n → MayStand o m k
fewer_may o Membership.Nowhere n k l h = omega (arith, l, h)
fewer_may o (Membership.At p) n k l h = omega (arith, l, h)
fewer_may o Membership.Anywhere n k l h = tt

none_may : (o : ℕ) (m : Membership) → MayStand o m 0
none_may o Membership.Nowhere = refl
none_may o (Membership.At p) = omega arith
none_may o Membership.Anywhere = tt

-- who may be a member of one more may be what it might be
joined_may : (p o : ℕ) (m : Membership) (n : ℕ) → MayStand p m n → MayStand p (joined o m) n
joined_may p o Membership.Nowhere n h = omega (arith, h)
joined_may p o (Membership.At q) n h = tt
joined_may p o Membership.Anywhere n h = tt

-- and stand once more at that one
more_may : (o : ℕ) (m : Membership) (n k : ℕ) → k ≤ suc n → MayStand o m n → MayStand o (joined o m) k
more_may o Membership.Nowhere n k l h = by (o == o) (eq-eqb o o refl)
  where
    by : (b : Bool) → b ≡ true → k ≤ (if b then 1 else 0)
    by true e = omega (arith, l, h)
    by false e = absurd (true≢false (sym e))
more_may o (Membership.At q) n k l h = tt
more_may o Membership.Anywhere n k l h = tt

-- where one is outside one stands never
none_where : (o : ℕ) (m : Membership) (n : ℕ) → is_outside o m ≡ true → MayStand o m n → n ≡ 0
none_where o Membership.Nowhere n e h = h
none_where o (Membership.At p) n e h = by (o == p) e h
  where
    by : (b : Bool) → not b ≡ true → n ≤ (if b then 1 else 0) → n ≡ 0
    by true f l = absurd (true≢false (sym f))
    by false f l = omega (arith, l)
none_where o Membership.Anywhere n e h = absurd (true≢false (sym e))

-- who stands never is no member
none_of : (g : ℕ) (members : List ℕ) → times g members ≡ 0 → list_any (λ k. k == g) members ≡ false
none_of g [] e = refl
none_of g (m ∷ members) e = by (m == g) e (none_of g members)
  where
    by : (b : Bool) → length (cond b (m ∷ filter (λ k. k == g) members) (filter (λ k. k == g) members)) ≡ 0 → (times g members ≡ 0 → list_any (λ k. k == g) members ≡ false) → (b || list_any (λ k. k == g) members) ≡ false
    by true f r = absurd (omega (arith, f))
    by false f r = r f

no_member : (g : ℕ) (x : Option Object) → times g (members_of x) ≡ 0 → has_member g x ≡ false
no_member g None e = refl
no_member g (Some (Object.Crew size members)) e = none_of g members e
no_member g (Some x) e = refl

pub member_there : (g : ℕ) (m : Membership) (table : List Membership) (os : List Object) → m ≡ membership_in table g → AreMembers table os → IsMember g m os
member_there g m table os there are = λ o e. no_member g (slice_get os o) (none_where o (membership_in table g) (times g (members_of (slice_get os o))) (ap (is_outside o) (sym there) ∙ e) (are g o))

-- ---- a change of one object, and an addition to one

-- its members are as before, or none
changed_members : (P : List ℕ → Type 0) (change : Change) (x : Object) → P [] → P (members_of (Some x)) → P (members_of (Some (changed change x)))
changed_members P (Change.Put outcome) x none same = none
changed_members P (Change.Flag true) (Object.Crew size members) none same = same
changed_members P (Change.Flag true) x none same = none
changed_members P (Change.Flag false) (Object.Crew size members) none same = same
changed_members P (Change.Flag false) x none same = none
changed_members P (Change.Item v) (Object.Crew size members) none same = same
changed_members P (Change.Item v) x none same = none
changed_members P Change.Unit (Object.Crew size members) none same = same
changed_members P Change.Unit x none same = none
changed_members P Change.UnitTaken (Object.Crew size members) none same = same
changed_members P Change.UnitTaken x none same = none
changed_members P (Change.Owner k) (Object.Crew size members) none same = same
changed_members P (Change.Owner k) x none same = none
changed_members P (Change.OwnerGone k) (Object.Crew size members) none same = same
changed_members P (Change.OwnerGone k) x none same = none
changed_members P Change.TaskDone (Object.Crew size members) none same = same
changed_members P Change.TaskDone x none same = none
changed_members P (Change.Shut true) (Object.Crew size members) none same = same
changed_members P (Change.Shut true) x none same = none
changed_members P (Change.Shut false) (Object.Crew size members) none same = same
changed_members P (Change.Shut false) x none same = none
changed_members P Change.SlotTaken (Object.Crew size members) none same = same
changed_members P Change.SlotTaken x none same = none
changed_members P Change.SlotFreed (Object.Crew size members) none same = same
changed_members P Change.SlotFreed x none same = none

-- nobody stands more often
fewer_changed : (g : ℕ) (change : Change) (x : Object) → times g (members_of (Some (changed change x))) ≤ times g (members_of (Some x))
fewer_changed g change x = changed_members (λ ms. times g ms ≤ times g (members_of (Some x))) change x (omega arith) (omega arith)

-- an item or an offer that is taken is no member
item_taken_members : (x : Object) → members_of (Some (with_item_taken x)) ≡ members_of (Some x)
item_taken_members (Object.Queue kind size items unfinished shut) = refl
item_taken_members x = refl

offer_taken_members : (x : Object) → members_of (Some (with_offer_taken x)) ≡ members_of (Some x)
offer_taken_members (Object.Channel offers) = refl
offer_taken_members x = refl

-- after an addition its members are as before, or one more whom it makes one
added_members : (P : List ℕ → Type 0) (addition : Addition) (x : Object) → ((k : ℕ) → member_of addition ≡ Some k → P (members_of (Some x) ++ k ∷ [])) → P (members_of (Some x)) → P (members_of (Some (added addition x)))
added_members P (Addition.Member k) (Object.Crew size members) more same = more k refl
added_members P (Addition.Member k) x more same = same
added_members P (Addition.Offer v since) (Object.Channel offers) more same = same
added_members P (Addition.Offer v since) x more same = same

times_more : (g k : ℕ) (members : List ℕ) → times g (members ++ k ∷ []) ≡ times g members + length (cond (k == g) (k ∷ []) [])
times_more g k members = ap length (filter-append (λ h. h == g) members (k ∷ [])) ∙ length-append (filter (λ h. h == g) members) (cond (k == g) (k ∷ []) [])

-- who is not made a member stands no more often
few_after : (g : ℕ) (addition : Addition) (x : Object) → (member_of addition ≡ Some g → ⊥) → times g (members_of (Some (added addition x))) ≤ times g (members_of (Some x))
few_after g addition x n = added_members (λ ms. times g ms ≤ times g (members_of (Some x))) addition x other (omega arith)
  where
    other : (k : ℕ) → member_of addition ≡ Some k → times g (members_of (Some x) ++ k ∷ []) ≤ times g (members_of (Some x))
    other k e =
        let more = times_more g k (members_of (Some x)) in
        let no : length (cond (k == g) (k ∷ []) []) ≡ 0 = ap (λ b. length (cond b (k ∷ []) [])) (ne_eqb k g (λ s. n (e ∙ ap Some s))) in
        omega (arith, more, no)

-- and who is, once more
more_after : (g : ℕ) (addition : Addition) (x : Object) → times g (members_of (Some (added addition x))) ≤ suc (times g (members_of (Some x)))
more_after g addition x = added_members (λ ms. times g ms ≤ suc (times g (members_of (Some x)))) addition x one (omega arith)
  where
    at_most : (k : ℕ) (b : Bool) → length (cond b (k ∷ []) []) ≤ 1
    at_most k true = omega arith
    at_most k false = omega arith

    one : (k : ℕ) → member_of addition ≡ Some k → times g (members_of (Some x) ++ k ∷ []) ≤ suc (times g (members_of (Some x)))
    one k e =
        let more = times_more g k (members_of (Some x)) in
        let most = at_most k (k == g) in
        omega (arith, more, most)

-- of the object that is set, and of each other
object_either : (os : List Object) (o p : ℕ) (x : Object) → (p ≡ o) × (slice_get (slice_set os o x) p ≡ Some x) ⊎ (slice_get (slice_set os o x) p ≡ slice_get os p)
object_either [] o p x = inr refl
object_either (y ∷ os) zero zero x = inl (refl, refl)
object_either (y ∷ os) zero (suc p) x = inr refl
object_either (y ∷ os) (suc o) zero x = inr refl
object_either (y ∷ os) (suc o) (suc p) x = by (object_either os o p x)
  where
    by : (p ≡ o) × (slice_get (slice_set os o x) p ≡ Some x) ⊎ (slice_get (slice_set os o x) p ≡ slice_get os p) →
        (suc p ≡ suc o) × (slice_get (slice_set os o x) p ≡ Some x) ⊎ (slice_get (slice_set os o x) p ≡ slice_get os p)
    by (inl s) = inl (ap suc s.0, s.1)
    by (inr f) = inr f

-- an object that is not declared has no members
members_there : (x : Option Object) → members_of (Some (unwrap_or x no_object)) ≡ members_of x
members_there None = refl
members_there (Some x) = refl

is_made : (k : Option ℕ) (g : ℕ) → (k ≡ Some g) ⊎ (k ≡ Some g → ⊥)
is_made None g = inr (λ e. cc e)
is_made (Some k) g = by (cases_eq k g)
  where
    by : (k ≡ g) ⊎ (k ≡ g → ⊥) → (Some k ≡ Some g) ⊎ (Some k ≡ Some g → ⊥)
    by (inl e) = inl (ap Some e)
    by (inr n) = inr (λ e. n (cc e))

-- who may be a member of one more may still be what it might be
joins_may : (k : Option ℕ) (o : ℕ) (table new : List Membership) → AreJoined k o table new → (g p n : ℕ) → MayStand p (membership_in table g) n → MayStand p (membership_in new g) n
joins_may k o table new joins g p n h = by (is_made k g)
  where
    by : (k ≡ Some g) ⊎ (k ≡ Some g → ⊥) → MayStand p (membership_in new g) n
    by (inl e) = subst (λ m. MayStand p m n) (sym ((joins g).0 e)) (joined_may p o (membership_in table g) n h)
    by (inr f) = subst (λ m. MayStand p m n) (sym ((joins g).1 f)) h

pub members_still : (k : Option ℕ) (o : ℕ) (table new : List Membership) (os : List Object) → AreJoined k o table new → AreMembers table os → AreMembers new os
members_still k o table new os joins are = λ g p. joins_may k o table new joins g p (times g (members_of (slice_get os p))) (are g p)

-- another object is set, at whose place its members may stand so often
members_set : (table new : List Membership) (os : List Object) (o : ℕ) (y : Object) → ((g p n : ℕ) → MayStand p (membership_in table g) n → MayStand p (membership_in new g) n) →
    ((g : ℕ) → MayStand o (membership_in new g) (times g (members_of (Some y)))) → AreMembers table os → AreMembers new (slice_set os o y)
members_set table new os o y still here are = λ g p. by g p (object_either os o p y)
  where
    by : (g p : ℕ) → (p ≡ o) × (slice_get (slice_set os o y) p ≡ Some y) ⊎ (slice_get (slice_set os o y) p ≡ slice_get os p) → MayStand p (membership_in new g) (times g (members_of (slice_get (slice_set os o y) p)))
    by g p (inl s) = subst (λ z. MayStand p (membership_in new g) (times g (members_of z))) (sym s.1) (subst (λ q. MayStand q (membership_in new g) (times g (members_of (Some y)))) (sym s.0) (here g))
    by g p (inr s) = subst (λ z. MayStand p (membership_in new g) (times g (members_of z))) (sym s) (still g p (times g (members_of (slice_get os p))) (are g p))

-- so often its members might stand before
might_stand : (table : List Membership) (os : List Object) (o : ℕ) → AreMembers table os → (g : ℕ) → MayStand o (membership_in table g) (times g (members_of (Some (unwrap_or (slice_get os o) no_object))))
might_stand table os o are g = subst (λ ms. MayStand o (membership_in table g) (times g ms)) (sym (members_there (slice_get os o))) (are g o)

-- nobody stands more often
members_fewer : (table : List Membership) (os : List Object) (o : ℕ) (y : Object) → ((g : ℕ) → times g (members_of (Some y)) ≤ times g (members_of (Some (unwrap_or (slice_get os o) no_object)))) →
    AreMembers table os → AreMembers table (slice_set os o y)
members_fewer table os o y few are =
    members_set table table os o y (λ g p n h. h)
    (λ g. fewer_may o (membership_in table g) (times g (members_of (Some (unwrap_or (slice_get os o) no_object)))) (times g (members_of (Some y))) (few g) (might_stand table os o are g)) are

pub members_changed : (table : List Membership) (change : Change) (os : List Object) (o : ℕ) → AreMembers table os → AreMembers table (slice_set os o (changed change (unwrap_or (slice_get os o) no_object)))
members_changed table change os o are =
    members_fewer table os o (changed change (unwrap_or (slice_get os o) no_object)) (λ g. fewer_changed g change (unwrap_or (slice_get os o) no_object)) are

pub members_item_taken : (table : List Membership) (os : List Object) (o : ℕ) → AreMembers table os → AreMembers table (slice_set os o (with_item_taken (unwrap_or (slice_get os o) no_object)))
members_item_taken table os o are =
    members_fewer table os o (with_item_taken (unwrap_or (slice_get os o) no_object))
    (λ g. let same = ap (times g) (item_taken_members (unwrap_or (slice_get os o) no_object)) in omega (arith, same)) are

pub members_offer_taken : (table : List Membership) (os : List Object) (o : ℕ) → AreMembers table os → AreMembers table (slice_set os o (with_offer_taken (unwrap_or (slice_get os o) no_object)))
members_offer_taken table os o are =
    members_fewer table os o (with_offer_taken (unwrap_or (slice_get os o) no_object))
    (λ g. let same = ap (times g) (offer_taken_members (unwrap_or (slice_get os o) no_object)) in omega (arith, same)) are

-- who is made a member stands once more
pub members_added : (table new : List Membership) (addition : Addition) (os : List Object) (o : ℕ) → AreJoined (member_of addition) o table new → AreMembers table os →
    AreMembers new (slice_set os o (added addition (unwrap_or (slice_get os o) no_object)))
members_added table new addition os o joins are = members_set table new os o y (joins_may (member_of addition) o table new joins) (λ g. here g (is_made (member_of addition) g)) are
  where
    x : Object
    x = unwrap_or (slice_get os o) no_object

    y : Object
    y = added addition x

    here : (g : ℕ) → (member_of addition ≡ Some g) ⊎ (member_of addition ≡ Some g → ⊥) → MayStand o (membership_in new g) (times g (members_of (Some y)))
    here g (inl e) =
        subst (λ m. MayStand o m (times g (members_of (Some y)))) (sym ((joins g).0 e))
        (more_may o (membership_in table g) (times g (members_of (Some x))) (times g (members_of (Some y))) (more_after g addition x) (might_stand table os o are g))
    here g (inr n) =
        joins_may (member_of addition) o table new joins g o (times g (members_of (Some y)))
        (fewer_may o (membership_in table g) (times g (members_of (Some x))) (times g (members_of (Some y))) (few_after g addition x n) (might_stand table os o are g))

-- ---- who leaves

none_leaves : (g : ℕ) (x : Object) → times g (members_of (Some x)) ≡ 0 → without_member g x ≡ x
none_leaves g (Object.Crew size members) e = ap (Object.Crew size) (kept_all g members e)
none_leaves g x e = refl

all_stay : (g : ℕ) (os : List Object) → ((o : ℕ) → times g (members_of (slice_get os o)) ≡ 0) → os ≡ map (without_member g) os
all_stay g [] none = refl
all_stay g (x ∷ os) none = ap (λ y. y ∷ os) (sym (none_leaves g x (none 0))) ∙ ap (λ ys. without_member g x ∷ ys) (all_stay g os (λ o. none (suc o)))

one_leaves : (g p : ℕ) (os : List Object) → ((o : ℕ) → (o ≡ p → ⊥) → times g (members_of (slice_get os o)) ≡ 0) → slice_set os p (without_member g (unwrap_or (slice_get os p) no_object)) ≡ map (without_member g) os
one_leaves g p [] none = refl
one_leaves g zero (x ∷ os) none = ap (λ ys. without_member g x ∷ ys) (all_stay g os (λ o. none (suc o) (λ e. omega (arith, e))))
one_leaves g (suc p) (x ∷ os) none =
    ap (λ y. y ∷ slice_set os p (without_member g (unwrap_or (slice_get os p) no_object))) (sym (none_leaves g x (none 0 (λ e. omega (arith, e)))))
    ∙ ap (λ ys. without_member g x ∷ ys) (one_leaves g p os (λ o n. none (suc o) (λ e. n (omega (arith, e)))))

pub leaves_none : (g : ℕ) (m : Membership) (os : List Object) → m ≡ Membership.Nowhere → IsMemberOnce g m os → os ≡ map (without_member g) os
leaves_none g m os none is = all_stay g os (λ o. none_where o m (times g (members_of (slice_get os o))) (ap (is_outside o) none) (is o))

pub leaves_one : (g p : ℕ) (m : Membership) (os : List Object) → m ≡ Membership.At p → IsMemberOnce g m os → slice_set os p (without_member g (unwrap_or (slice_get os p) no_object)) ≡ map (without_member g) os
leaves_one g p m os at is = one_leaves g p os (λ o n. none_where o m (times g (members_of (slice_get os o))) (ap (is_outside o) at ∙ ap not (ne_eqb o p n)) (is o))

-- who may be a member of one alone stands there once at most
pub once_at : (g p : ℕ) (m : Membership) (os : List Object) → m ≡ Membership.At p → IsMemberOnce g m os → times g (members_of (slice_get os p)) ≤ 1
once_at g p m os at is = by (p == p) (subst (λ k. MayStand p k (times g (members_of (slice_get os p)))) at (is p))
  where
    by : (b : Bool) → times g (members_of (slice_get os p)) ≤ (if b then 1 else 0) → times g (members_of (slice_get os p)) ≤ 1
    by true l = l
    by false l = omega (arith, l)

pub once_there : (g o : ℕ) (os : List Object) (d : Object) → o < length os → times g (members_of (slice_get os o)) ≤ 1 → times g (members_of (Some (slice_index_or os o d))) ≤ 1
once_there g o [] d h once = absurd (omega (arith, h))
once_there g zero (x ∷ os) d h once = once
once_there g (suc o) (x ∷ os) d h once = once_there g o os d (omega (arith, h)) once

-- ---- the members of all

members_left_of : (g : ℕ) (x : Option Object) → members_of (option_map (without_member g) x) ≡ filter (λ m. not (m == g)) (members_of x)
members_left_of g None = refl
members_left_of g (Some (Object.Crew size members)) = refl
members_left_of g (Some x) = refl

-- the others stay no more often than before
few_left : (g h : ℕ) (members : List ℕ) → times h (filter (λ m. not (m == g)) members) ≤ times h members
few_left g h [] = omega arith
few_left g h (m ∷ members) = by (m == h) (not (m == g)) refl (few_left g h members)
  where
    by : (a b : Bool) → (m == h) ≡ a → times h (filter (λ k. not (k == g)) members) ≤ times h members →
        times h (cond b (m ∷ filter (λ k. not (k == g)) members) (filter (λ k. not (k == g)) members)) ≤ length (cond a (m ∷ filter (λ k. k == h) members) (filter (λ k. k == h) members))
    by true true s r = rw s (omega (arith, r))
    by true false s r = omega (arith, r)
    by false true s r = rw s r
    by false false s r = r

-- who leaves is gone
gone : (g : ℕ) (members : List ℕ) → times g (filter (λ m. not (m == g)) members) ≡ 0
gone g [] = refl
gone g (m ∷ members) = by (m == g) refl (gone g members)
  where
    by : (b : Bool) → (m == g) ≡ b → times g (filter (λ k. not (k == g)) members) ≡ 0 → times g (cond (not b) (m ∷ filter (λ k. not (k == g)) members) (filter (λ k. not (k == g)) members)) ≡ 0
    by true s r = r
    by false s r = rw s r

pub members_left : (g : ℕ) (table new : List Membership) (os : List Object) → new ≡ slice_set table g Membership.Nowhere → AreMembers table os → AreMembers new (map (without_member g) os)
members_left g table new os is are = λ h o.
    subst (λ ms. MayStand o (membership_in ms h) (times h (members_of (slice_get (map (without_member g) os) o)))) (sym is)
    (subst (λ ms. MayStand o (membership_in (slice_set table g Membership.Nowhere) h) (times h ms)) (sym (ap members_of (slice_get-map (without_member g) os o) ∙ members_left_of g (slice_get os o)))
    (by h o (set_other table g h Membership.Nowhere)))
  where
    by : (h o : ℕ) → (h ≡ g) ⊎ (membership_in (slice_set table g Membership.Nowhere) h ≡ membership_in table h) →
        MayStand o (membership_in (slice_set table g Membership.Nowhere) h) (times h (filter (λ m. not (m == g)) (members_of (slice_get os o))))
    by h o (inl s) =
        let none : times h (filter (λ m. not (m == g)) (members_of (slice_get os o))) ≡ 0 = subst (λ k. times k (filter (λ m. not (m == g)) (members_of (slice_get os o))) ≡ 0) (sym s) (gone g (members_of (slice_get os o))) in
        subst (MayStand o (membership_in (slice_set table g Membership.Nowhere) h)) (sym none) (none_may o (membership_in (slice_set table g Membership.Nowhere) h))
    by h o (inr s) =
        subst (λ m. MayStand o m (times h (filter (λ m. not (m == g)) (members_of (slice_get os o))))) (sym s)
        (fewer_may o (membership_in table h) (times h (members_of (slice_get os o))) (times h (filter (λ m. not (m == g)) (members_of (slice_get os o)))) (few_left g h (members_of (slice_get os o))) (are h o))

members_withdrawn_of : (since : ℕ) (x : Option Object) → members_of (option_map (without_offer since) x) ≡ members_of x
members_withdrawn_of since None = refl
members_withdrawn_of since (Some (Object.Crew size members)) = refl
members_withdrawn_of since (Some x) = refl

pub members_withdrawn : (since : ℕ) (table : List Membership) (os : List Object) → AreMembers table os → AreMembers table (map (without_offer since) os)
members_withdrawn since table os are = λ g o.
    subst (λ ms. MayStand o (membership_in table g) (times g ms)) (sym (ap members_of (slice_get-map (without_offer since) os o) ∙ members_withdrawn_of since (slice_get os o))) (are g o)

-- before the first move nobody is a member
members_declared_of : (d : Option Declaration) → members_of (option_map (λ (x : Declaration). object_of x.object) d) ≡ []
members_declared_of None = refl
members_declared_of (Some d) = of d.object
  where
    of : (kind : Kind) → members_of (Some (object_of kind)) ≡ []
    of Kind.Group = refl
    of (Kind.Pool n) = refl
    of kind = refl

pub members_declared : (table : List Membership) (ds : List Declaration) → AreMembers table (map (λ d. object_of d.object) ds)
members_declared table ds = λ g o.
    subst (λ ms. MayStand o (membership_in table g) (times g ms)) (sym (ap members_of (slice_get-map (λ (d : Declaration). object_of d.object) ds o) ∙ members_declared_of (slice_get ds o))) (none_may o (membership_in table g))
