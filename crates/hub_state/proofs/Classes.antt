-- What the class of an item says of its condition.
use Rattle.std.proofs.Common.{◌≡◌, refl, sym, ap, subst, ℕ, true, false, length}
use Rattle.std.proofs.lemmas.Bool.{eqb-true}
use Rattle.std.specs.Prelude.{nat_le}
use Rattle.machine.specs.declared.items.Delivery.{Delivery}
use Rattle.machine.specs.declared.items.Item.{Item}
use Rattle.machine.specs.declared.items.Waiting.{Waiting}
use Rattle.machine.specs.Holds.{earlier, holds}
use Rattle.machine.specs.State.{State}
use Rattle.machine_settling.specs.Classes.{Class, class_of, class_of_wait, is_at}
use Rattle.machine_settling.specs.Lasting.{is_off_objects}
use Rattle.machine_settling.specs.Links.{fits_end}
use Rattle.machine_settling.specs.Locality.{HoldsAs}
use Rattle.machine_settling.proofs.Readings.{holds-as}
use Rattle.hub_state.proofs.LineCounts.{none_ahead}
use Rattle.held_items.specs.Waits.{is_for, is_of_ends}
use Rattle.held_items.specs.declared.waits.Target.{Target}
use Rattle.hub_state.specs.Found.{is_always, is_moment}
use Rattle.hub_state.specs.Waiters.{IsBefore}

-- ---- which class it is

pub is_place : (o : ℕ) (c : Class) → is_at o c ≡ true → c ≡ Class.AtObject o
is_place o (Class.AtObject p) e = ap Class.AtObject (sym (eqb-true o p e))
is_place o Class.Always e = absurd (cc e)
is_place o (Class.AtMoment deadline) e = absurd (cc e)
is_place o (Class.OfEnds targets need) e = absurd (cc e)

pub is_free : (c : Class) → is_always c ≡ true → c ≡ Class.Always
is_free Class.Always e = refl
is_free (Class.AtMoment deadline) e = absurd (cc e)
is_free (Class.OfEnds targets need) e = absurd (cc e)
is_free (Class.AtObject o) e = absurd (cc e)

pub is_due : (c : Class) → is_moment c ≡ true → (deadline : ℕ) × (c ≡ Class.AtMoment deadline)
is_due (Class.AtMoment deadline) e = (deadline, refl)
is_due Class.Always e = absurd (cc e)
is_due (Class.OfEnds targets need) e = absurd (cc e)
is_due (Class.AtObject o) e = absurd (cc e)

-- ---- its condition

-- who waits for no ends is no link
fits_off : (s : State) (d : Delivery) → is_of_ends (class_of d) ≡ false → fits_end s d ≡ true
fits_off s (Delivery.Link k g kind f) e = absurd (cc e)
fits_off s (Delivery.Start g deadline) e = refl
fits_off s (Delivery.Wake g w) e = refl
fits_off s (Delivery.Late g deadline n) e = refl
fits_off s (Delivery.Timeout g n deadline) e = refl
fits_off s (Delivery.Kill g f) e = refl

pub due_holds : (s : State) (i : Item) (deadline : ℕ) → class_of i.delivery ≡ Class.AtMoment deadline → holds s i ≡ nat_le deadline s.moment
due_holds s i deadline e = subst (λ c. HoldsAs s i c) e (holds-as s i (fits_off s i.delivery (ap is_of_ends e)))

-- ---- who waits before it

off_objects : (target : Target) (c : Class) → is_for target c ≡ true → is_off_objects c ≡ true
off_objects target (Class.OfEnds targets need) e = refl
off_objects target Class.Always e = refl
off_objects target (Class.AtMoment deadline) e = refl
off_objects target (Class.AtObject o) e = absurd (cc e)

-- before one that waits for ends nobody waits
pub ends_before : (target : Target) (s : State) (since : ℕ) (d : Delivery) → is_for target (class_of d) ≡ true → IsBefore 0 s since d
ends_before target s since (Delivery.Wake g w) e = none_ahead (length s.objects) (λ test. earlier test since s.items) w (off_objects target (class_of_wait w) e)
ends_before target s since d e = tt

-- nobody waits before what is no wait
pub none_before : (s : State) (since : ℕ) (d : Delivery) → ((g : ℕ) (w : Waiting) → d ≡ Delivery.Wake g w → ⊥) → IsBefore 0 s since d
none_before s since (Delivery.Wake g w) f = absurd (f g w refl)
none_before s since d f = tt
