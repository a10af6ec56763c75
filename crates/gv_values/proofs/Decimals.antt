-- The decimal text of the definitions is the one that std's formatting writes.
use Rattle.std.proofs.Common.{◌≡◌, ℕ, zero, suc, ◌+◌, ◌/◌, ◌%◌, ◌^◌, ◌<◌, ◌≤◌, nat_lt, true, false, ℤ, pos, negsuc, List, [], ◌∷◌, ◌++◌, length, if◌then◌else◌, is_ok, Result, Ok, Err, OnOk, refl, ap, sym, ◌∙◌, arith}
use Rattle.std.proofs.lemmas.Bool.Decides.{nat_tests}
use Rattle.std.specs.Fmt.{signed_decimal}
use Rattle.std.specs.Fmt.{decimal as printed}
use Rattle.std.proofs.lemmas.Fmt.{decimal_from_appends, length-decimal-le_succ, AppendsLastDigit}
use Rattle.std.specs.Int.Signed.{mag}
use Rattle.gv_values.specs.Texts.{digits_within, decimal, int_text}

last_digit : (k n : ℕ) → n < 10 → digits_within (suc k) n ≡ (48 + n) ∷ []
last_digit k n small = let test : nat_lt n 10 ≡ true = grind (arith, nat_tests) in rw (test, digits_within)

more_digits : (k n : ℕ) → 10 ≤ n → digits_within (suc k) n ≡ digits_within k (n / 10) ++ ((48 + n % 10) ∷ [])
more_digits k n large = let test : nat_lt n 10 ≡ false = grind (arith, nat_tests) in rw (test, digits_within)

pub printed_decimal : (n : ℕ) → n < 2 ^ 64 → printed n ≡ decimal n
printed_decimal n small =
    sym
    (decimal_from_appends digits_within (record { one = last_digit; more = more_digits }) (suc n) n small (omega (arith, length-decimal-le_succ n small)))

pub printed_int : (z : ℤ) → mag z < 2 ^ 63 → signed_decimal z ≡ int_text z
printed_int (pos n) small = printed_decimal n (omega arith)
printed_int (negsuc n) small = ap (λ (t : List ℕ). 45 ∷ t) (printed_decimal (suc n) (omega arith))

-- a text that was appended where no memory was wanting
pub appended_text : {E : Type 0} (r : Result (Unit {0}) E) (old new text wanted : List ℕ) →
    text ≡ wanted → new ≡ (if is_ok r then old ++ text else old) → OnOk r (new ≡ old ++ wanted)
appended_text (Ok u) old new text wanted same e = e ∙ ap (λ t. old ++ t) same
appended_text (Err x) old new text wanted same e = tt
