use Rattle.std.proofs.Common.{◌≡◌, ap, sym, ℕ, true, Some}
use Rattle.machine.specs.declared.items.Delivery.{Delivery}
use Rattle.machine.specs.Soundness.{Claim, claim_of}
use Rattle.machine_soundness.specs.Laws.{is_late_of, is_wake_of}
use Rattle.machine_soundness.proofs.Landings.{going-free}
use Rattle.machine_soundness.proofs.Lists.{equal}
use Rattle.machine_soundness.proofs.Singles.{one-counted}
use Rattle.machine_soundness.proofs.States.{singles}
use Rattle.machine_soundness.proofs.waits_are_single.Goals as goal

wake-says : (g : ℕ) (d : Delivery) → is_wake_of g d ≡ true → claim_of d ≡ Some (Claim.WakeOf g)
wake-says g (Delivery.Wake h w) e = ap (λ k. Some (Claim.WakeOf k)) (sym (equal g h e))
wake-says g d e = absurd (cc e)

late-says : (g : ℕ) (d : Delivery) → is_late_of g d ≡ true → claim_of d ≡ Some (Claim.LateOf g)
late-says g (Delivery.Late h deadline n) e = ap (λ k. Some (Claim.LateOf k)) (sym (equal g h e))
late-says g d e = absurd (cc e)

pub returns-clause-once : goal.returns-clause-once
returns-clause-once c g s h = record {
  wakes = one-counted (is_wake_of g) (Claim.WakeOf g) s.items (wake-says g) (singles s h.sound);
  lates = one-counted (is_late_of g) (Claim.LateOf g) s.items (late-says g) (singles s h.sound);
}

pub returns-clause-under_way : goal.returns-clause-under_way
returns-clause-under_way c = going-free
