-- Parts written one after another.
use Rattle.std.proofs.Common.{◌≡◌, ℕ, suc, ◌+◌, ◌<◌, arith, List, length, take, get_or, sym, ap, ◌∙◌}
use Rattle.std.proofs.Math.Seq.{take-suc}
use Rattle.scenario_grammar.specs.Token.{Written, ◌⊕◌, each}
use Rattle.scenario_grammar.proofs.Begun.{each_more}

-- the parts up to the next
pub each_next : {A B : Type 0} (f : A → Written B) (i : ℕ) (xs : List A) (x : A) → i < length xs → x ≡ get_or xs i x → each f (take (i + 1) xs) ≡ each f (take i xs) ⊕ f x
each_next f i xs x within at = ap (λ z. each f (take z xs)) (let more : i + 1 ≡ suc i = omega arith in more) ∙ ap (each f) (take-suc xs i x within) ∙ each_more f (take i xs) (get_or xs i x) ∙ ap (λ z. each f (take i xs) ⊕ f z) (sym at)
