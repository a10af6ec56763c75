-- How a net fares: what its listener did, by what failed.
use Rattle.std.proofs.Common.{◌≡◌, ◌≤◌, ℕ, arith, ◌∙◌, subst, Result, Ok, Err}
use Rattle.gv_values.specs.Counts.{HasRisen}
use Rattle.stream_net.specs.Net.{Connection, NetMeaning}
use Rattle.stream_server.specs.Keeping.{Fares}
use Rattle.stream_server.specs.declared.rounds.RoundFault.{RoundFault}

-- nothing failed
pub fares_well : (F : Type 0) (S : Connection → Type 0) (v w : NetMeaning) → w.listens ≡ v.listens → w.faults ≡ v.faults → (F → ⊥) → Fares F S v w
fares_well F S v w listens faults unfailed = record {
  listens = listens;
  never_falls = omega (arith, faults);
  listener = λ f. absurd (unfailed f);
  resting = λ f. absurd (unfailed f);
  unfailed = λ _. faults;
}

-- after a part in which nothing failed
pub fares_then : (F G : Type 0) (S : Connection → Type 0) (u v w : NetMeaning) → v.listens ≡ u.listens → v.faults ≡ u.faults → Fares F S v w → (G → F) → (F → G) → Fares G S u w
fares_then F G S u v w listens faults h to from = record {
  listens = h.listens ∙ listens;
  never_falls = subst (λ (n : ℕ). n ≤ w.faults) faults h.never_falls;
  listener = λ f. subst (λ (n : ℕ). HasRisen n w.faults) faults (h.listener (to f));
  resting = λ f. h.resting (to f);
  unfailed = λ no. h.unfailed (λ f. no (from f)) ∙ faults;
}

pub no_fault : {A : Type 0} (x : A) (f : RoundFault) → ◌≡◌ {A = Result A RoundFault} (Ok x) (Err f) → ⊥
no_fault x f e = cc
