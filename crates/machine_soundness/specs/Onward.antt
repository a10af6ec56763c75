-- A landing comes to an end of its own: it stops at no greenlet for want of steps. This project's own.
use Rattle.std.specs.Prelude.{◌≡◌, ℕ, true}
use Rattle.gv_values.specs.declared.value.Outcome.{Outcome}
use Rattle.machine.specs.State.{State}
use Rattle.machine.specs.Holds.{is_done}
use Rattle.machine.specs.Soundness.{phase_of, is_live}
use Rattle.machine.specs.Landing.{Next, lands}
use Rattle.machine.specs.Hosts.{host_of}
use Rattle.machine_soundness.specs.Going.{is_plain}

-- a greenlet goes on, or the run is over, or the host has ended
abbrev pub GoesOnward : ℕ → Next → Type 0
GoesOnward h (Next.Going g s) = Unit {0}
GoesOnward h (Next.Resting s) = is_done s h ≡ true
GoesOnward h (Next.Over cause s) = Unit {0}

-- what lands at a greenlet whose host is live goes onward
abbrev pub LandsOnward : Type 0
LandsOnward =
    (g h : ℕ) (o : Outcome) (s : State) → host_of s g ≡ h → is_plain s.greenlets h ≡ true → is_live (phase_of h s.greenlets) ≡ true →
    GoesOnward h (lands g o s)
