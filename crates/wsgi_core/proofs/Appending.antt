-- Bytes that are appended one after the other.
use Rattle.std.proofs.Common.{◌≡◌, ◌==◌, ℕ, Bool, false, List, [], ◌∷◌, ◌++◌, length, refl, ap, ◌∙◌, append_assoc}
use Rattle.std.specs.Fmt.{digits}
use Rattle.wsgi_core.specs.Answer.{chunk, line}

pub then_appended : (old front middle more new : List ℕ) → middle ≡ old ++ front → new ≡ middle ++ more → new ≡ old ++ (front ++ more)
then_appended old front middle more new e f = f ∙ ap (λ (l : List ℕ). l ++ more) e ∙ append_assoc old front more

-- a piece that isn't empty
pub chunk_of : (piece : List ℕ) (b : Bool) → b ≡ (length piece == 0) → b ≡ false → chunk piece ≡ line (digits 16 false (length piece)) ++ line piece
chunk_of [] b e f = absurd (cc)
chunk_of (x ∷ piece) b e f = refl
