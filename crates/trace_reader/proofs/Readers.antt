-- What is read of a text that was written.
use Rattle.std.proofs.Common.{◌≡◌, ℕ, zero, suc, ◌+◌, ◌*◌, ◌-◌, ◌/◌, ◌%◌, ◌^◌, ◌<◌, true, false, nat_eq, nat_lt, nat_le, inl, inr, [], ◌∷◌, ◌++◌, length, take, drop, Option, Some, None, ℤ, pos, negsuc, codes, IsTrue, refl, ap, ◌∙◌, arith, append_assoc}
use Rattle.std.specs.Prelude.{◌==◌}
use Rattle.std.proofs.lemmas.Bool.{cases_lt}
use Rattle.std.proofs.lemmas.Bool.Decides.{nat_tests}
use Rattle.std.specs.List.{list_all}
use Rattle.std.proofs.Math.Seq.{take-append_seam, drop-append_seam}
use Rattle.gv_values.specs.Name.{is_digit, is_name_byte, is_name}
use Rattle.gv_values.specs.Texts.{Text, digits_within, decimal, int_text, greenlet_text, job_text}
use Rattle.trace_reader.specs.Ranges.{IntFits}
use Rattle.trace_reader.specs.Fronts.{Front, and_then, after, or_else, strip, number_on, number_front, small_front, greenlet_front, job_front, below_zero, not_below_zero, int_front, word_length, name_front}

-- no digit comes next
abbrev pub Stops : Text → Type 0
Stops [] = Unit {0}
Stops (b ∷ bs) = is_digit b ≡ false

pub and_then-is : {A B : Type 0} (front : Front A) (a : A) (rest : Text) (next : A → Text → Front B) → front ≡ Some (a, rest) → and_then front next ≡ next a rest
unfolding and_then
and_then-is front a rest next e = rw e

pub and_then-none : {A B : Type 0} (front : Front A) (next : A → Text → Front B) → front ≡ None → and_then front next ≡ None
unfolding and_then
and_then-none front next e = rw e

pub after-is : {B : Type 0} (stripped : Option Text) (rest : Text) (next : Text → Front B) → stripped ≡ Some rest → after stripped next ≡ next rest
unfolding after
after-is stripped rest next e = rw e

pub after-none : {B : Type 0} (stripped : Option Text) (next : Text → Front B) → stripped ≡ None → after stripped next ≡ None
unfolding after
after-none stripped next e = rw e

pub or_else-is : {B : Type 0} (stripped : Option Text) (rest : Text) (next : Text → Front B) (other : Front B) → stripped ≡ Some rest → or_else stripped next other ≡ next rest
unfolding or_else
or_else-is stripped rest next other e = rw e

pub or_else-none : {B : Type 0} (stripped : Option Text) (next : Text → Front B) (other : Front B) → stripped ≡ None → or_else stripped next other ≡ other
unfolding or_else
or_else-none stripped next other e = rw e

digit_on : (n d : ℕ) (r : Text) → d < 10 → n * 10 + d < 2 ^ 64 → number_on n ((48 + d) ∷ r) ≡ number_on (n * 10 + d) r
unfolding number_on
digit_on n d r small fits =
    let digit : is_digit (48 + d) ≡ true = grind (arith, nat_tests) in
    let value : 48 + d - 48 ≡ d = omega arith in
    let test : nat_lt (n * 10 + (48 + d - 48)) (2 ^ 64) ≡ true = grind (arith, nat_tests) in
    rw (number_on, digit, test) (ap (λ m. number_on (n * 10 + m) r) value)

stops_here : (n : ℕ) (r : Text) → Stops r → number_on n r ≡ Some (n, r)
unfolding number_on
stops_here n [] s = refl
stops_here n (b ∷ bs) s = rw (number_on, s)

digits_read : (k n : ℕ) (r : Text) → n < k → n < 2 ^ 64 → number_on 0 (digits_within k n ++ r) ≡ number_on n r
digits_read zero n r few fits = grind arith
digits_read (suc k) n r few fits = elim (cases_lt n 10) [
  | inl small ↦
      let test : nat_lt n 10 ≡ true = grind (arith, nat_tests) in
      rw (test, digits_within) (digit_on 0 n r small (omega (arith, fits)) ∙ ap (λ m. number_on m r) (omega arith))
  | inr large ↦
      let test : nat_lt n 10 ≡ false = grind (arith, nat_tests) in
      let less : n / 10 < k = omega arith in
      let whole : n / 10 * 10 + n % 10 ≡ n = omega arith in
      rw (test, digits_within)
      (rw append_assoc
      (digits_read k (n / 10) ((48 + n % 10) ∷ r) less (omega arith)
      ∙ digit_on (n / 10) (n % 10) r (omega arith) (omega (arith, fits)) ∙ ap (λ m. number_on m r) whole))
]

pub number_read : (n : ℕ) (r : Text) → n < 2 ^ 64 → Stops r → number_front (decimal n ++ r) ≡ Some (n, r)
number_read n r fits s = digits_read (suc n) n r (omega arith) fits ∙ stops_here n r s

pub small_read : (n : ℕ) (r : Text) → n < 2 ^ 32 → Stops r → small_front (decimal n ++ r) ≡ Some (n, r)
unfolding small_front
small_read n r fits s =
    let test : nat_lt n (2 ^ 32) ≡ true = grind (arith, nat_tests) in
    and_then-is (number_front (decimal n ++ r)) n r _ (number_read n r (omega (arith, fits)) s) ∙ rw test

pub greenlet_read : (g : ℕ) (r : Text) → g < 2 ^ 32 → Stops r → greenlet_front (greenlet_text g ++ r) ≡ Some (g, r)
unfolding greenlet_front after strip
greenlet_read g r fits s = small_read g r fits s

pub job_read : (j : ℕ) (r : Text) → j < 2 ^ 32 → Stops r → job_front (job_text j ++ r) ≡ Some (j, r)
unfolding job_front after strip
job_read j r fits s = small_read j r fits s

-- a digit comes first
abbrev pub StartsDigit : Text → Type 0
StartsDigit [] = ⊥
StartsDigit (b ∷ bs) = is_digit b ≡ true

digits_start : (k n : ℕ) (r : Text) → n < k → StartsDigit (digits_within k n ++ r)
digits_start zero n r few = grind arith
digits_start (suc k) n r few = elim (cases_lt n 10) [
  | inl small ↦
      let test : nat_lt n 10 ≡ true = grind (arith, nat_tests) in
      let digit : is_digit (48 + n) ≡ true = grind (arith, nat_tests) in
      rw (test, digits_within) digit
  | inr large ↦
      let test : nat_lt n 10 ≡ false = grind (arith, nat_tests) in
      rw (test, digits_within) (rw append_assoc (digits_start k (n / 10) ((48 + n % 10) ∷ r) (omega arith)))
]

pub decimal_start : (n : ℕ) (r : Text) → StartsDigit (decimal n ++ r)
decimal_start n r = digits_start (suc n) n r (omega arith)

pub no_minus : (t : Text) → StartsDigit t → strip (codes "-") t ≡ None
unfolding strip
no_minus [] d = absurd d
no_minus (b ∷ bs) d = let test : nat_eq b 45 ≡ false = grind (arith, nat_tests) in rw test

not_below : (n : ℕ) (r : Text) → nat_lt n (2 ^ 63) ≡ true → not_below_zero n r ≡ Some (pos n, r)
unfolding not_below_zero
not_below n r test = rw test

minus_stripped : (n : ℕ) (r : Text) → strip (codes "-") (int_text (negsuc n) ++ r) ≡ Some (decimal (suc n) ++ r)
unfolding strip
minus_stripped n r = refl

below : (n : ℕ) (r : Text) → n < 2 ^ 63 → below_zero (suc n) r ≡ Some (negsuc n, r)
unfolding below_zero
below n r fits =
    let one : nat_le 1 (suc n) ≡ true = grind (arith, nat_tests) in
    let most : nat_le (suc n) (2 ^ 63) ≡ true = grind (arith, nat_tests) in
    let back : suc n - 1 ≡ n = omega arith in
    rw (one, most, back)

pub int_read : (z : ℤ) (r : Text) → IntFits z → Stops r → int_front (int_text z ++ r) ≡ Some (z, r)
unfolding int_front
int_read (pos n) r fits s =
    let test : nat_lt n (2 ^ 63) ≡ true = grind (arith, nat_tests) in
    or_else-none _ _ _ (no_minus _ (decimal_start n r)) ∙ and_then-is (number_front (decimal n ++ r)) n r _ (number_read n r (omega (arith, fits)) s)
    ∙ not_below n r test
int_read (negsuc n) r fits s =
    or_else-is _ (decimal (suc n) ++ r) _ _ (minus_stripped n r)
    ∙ and_then-is (number_front (decimal (suc n) ++ r)) (suc n) r _ (number_read (suc n) r (omega (arith, fits)) s) ∙ below n r fits

-- a blank comes next, or nothing
abbrev pub Ends : Text → Type 0
Ends [] = Unit {0}
Ends (b ∷ bs) = b ≡ 32

one_more : (m n : ℕ) → m ≡ n → 1 + m ≡ suc n
one_more m n e = omega (arith, e)

name_bytes : (bs r : Text) → list_all is_name_byte bs ≡ true → Ends r → word_length (bs ++ r) ≡ length bs
name_bytes [] [] h e = refl
name_bytes [] (b ∷ bs) h e = let test : b == 32 ≡ true = grind (arith, nat_tests) in rw (test, word_length)
name_bytes (b ∷ bs) r h e =
    let here : is_name_byte b ≡ true = grind (arith, nat_tests) in
    let rest : list_all is_name_byte bs ≡ true = grind (arith, nat_tests) in
    let test : b == 32 ≡ false = grind (arith, nat_tests) in
    rw (test, word_length) (one_more (word_length (bs ++ r)) (length bs) (name_bytes bs r rest e))

pub name_read : (name r : Text) → IsTrue (is_name name) → Ends r → name_front (name ++ r) ≡ Some (name, r)
unfolding name_front
name_read [] r h e = absurd (cc)
name_read (b ∷ bs) r h e =
    let byte : is_name_byte b ≡ true = grind (arith, nat_tests) in
    let rest : list_all is_name_byte bs ≡ true = grind (arith, nat_tests) in
    let all : list_all is_name_byte (b ∷ bs) ≡ true = grind (arith, nat_tests) in
    let long : word_length ((b ∷ bs) ++ r) ≡ length (b ∷ bs) = name_bytes (b ∷ bs) r all e in
    let front : take (word_length ((b ∷ bs) ++ r)) ((b ∷ bs) ++ r) ≡ b ∷ bs = ap (λ n. take n ((b ∷ bs) ++ r)) long ∙ take-append_seam (b ∷ bs) r in
    let back : drop (word_length ((b ∷ bs) ++ r)) ((b ∷ bs) ++ r) ≡ r = ap (λ n. drop n ((b ∷ bs) ++ r)) long ∙ drop-append_seam (b ∷ bs) r in
    rw (front, back, h)
