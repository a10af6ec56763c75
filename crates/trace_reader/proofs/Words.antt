-- Where a word ends.
use Rattle.std.proofs.Common.{◌≡◌, ℕ, ◌≤◌, true, false, cond, nat_lt, not, length, Some, None, arith, inl, inr}
use Rattle.std.proofs.lemmas.Bool.{cases_lt}
use Rattle.std.proofs.lemmas.Bool.Decides.{nat_tests}
use Rattle.std.proofs.lemmas.List.Sums.{prefix_len-le-length}
use Rattle.std.specs.Prelude.{◌==◌}
use Rattle.std.specs.List.{position}
use Rattle.gv_values.specs.Texts.{Text}
use Rattle.trace_reader.specs.Fronts.{word_length}

pub word_within : (text : Text) → word_length text ≤ length text
word_within text = prefix_len-le-length (λ b. not (b == 32)) text

found_at : (at n len : ℕ) → Some at ≡ cond (nat_lt n len) (Some n) None → at ≡ n
found_at at n len e = elim (cases_lt n len) [
  | inl inside ↦ (let test : nat_lt n len ≡ true = grind (arith, nat_tests) in let found : Some at ≡ Some n = rw test at e in cc)
  | inr outside ↦ (let test : nat_lt n len ≡ false = grind (arith, nat_tests) in let found : Some at ≡ None = rw test at e in cc)
]

found_none : (n len : ℕ) → n ≤ len → None ≡ cond (nat_lt n len) (Some n) None → len ≡ n
found_none n len most e = elim (cases_lt n len) [
  | inl inside ↦ (let test : nat_lt n len ≡ true = grind (arith, nat_tests) in let found : None ≡ Some n = rw test at e in cc)
  | inr outside ↦ omega (arith, most, outside)
]

pub word_to_blank : (text : Text) (at : ℕ) → Some at ≡ position (λ b. b == 32) text → at ≡ word_length text
word_to_blank text at e = found_at at (word_length text) (length text) e

pub word_to_end : (text : Text) → None ≡ position (λ b. b == 32) text → length text ≡ word_length text
word_to_end text e = found_none (word_length text) (length text) (word_within text) e
