-- What was appended after a list stands behind it.
use Rattle.std.proofs.Common.{◌≡◌, ℕ, List, [], ◌++◌, length, take, refl, ap, sym, ◌∙◌, append_assoc}
use Rattle.std.proofs.lemmas.List.{append-nil}
use Rattle.std.proofs.Math.Seq.{take-append_seam}
use Rattle.gv_values.specs.Fronts.{BeginsWith}

pub BeginsWith-self : (whole front : List ℕ) → whole ≡ front → BeginsWith whole front
BeginsWith-self whole front e = record { rest = []; is = e ∙ sym (append-nil front) }

pub BeginsWith-appended : (whole front more : List ℕ) → whole ≡ front ++ more → BeginsWith whole front
BeginsWith-appended whole front more e = record { rest = more; is = e }

pub BeginsWith-after : (whole middle front more : List ℕ) → middle ≡ front ++ more → BeginsWith whole middle → BeginsWith whole front
BeginsWith-after whole middle front more e b = record { rest = more ++ b.rest; is = b.is ∙ ap (λ z. z ++ b.rest) e ∙ append_assoc front more b.rest }

pub take-BeginsWith : (whole front : List ℕ) → BeginsWith whole front → take (length front) whole ≡ front
take-BeginsWith whole front b = ap (take (length front)) b.is ∙ take-append_seam front b.rest

pub ruleset fronts = (append_assoc, BeginsWith-self, BeginsWith-appended, BeginsWith-after, take-BeginsWith)
