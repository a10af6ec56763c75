-- What is read of the texts of faults and values.
use Rattle.std.proofs.Common.{◌≡◌, ℕ, zero, suc, ◌<◌, ◌≤◌, Bool, true, false, nat_eq, List, [], ◌∷◌, ◌++◌, length, Some, None, ℤ, pos, negsuc, codes, refl, ap, ◌∙◌, arith, append_assoc}
use Rattle.std.proofs.lemmas.Bool.Decides.{nat_tests}
use Rattle.gv_values.specs.declared.fault.FaultKind.{FaultKind}
use Rattle.gv_values.specs.declared.scalar.Scalar.{Scalar}
use Rattle.gv_values.specs.declared.value.Value.{Value}
use Rattle.gv_values.specs.declared.value.Outcome.{Outcome}
use Rattle.gv_values.specs.Texts.{Text, decimal, int_text, fault_text, scalar_text, scalars_text, value_text, outcome_text, greenlet_text, job_text}
use Rattle.gv_values.specs.Value.{value_of_scalar}
use Rattle.trace_reader.specs.Ranges.{FaultFits, ScalarFits, ScalarsFit, ValueFits, OutcomeFits}
use Rattle.trace_reader.specs.Fronts.{and_then, after, or_else, strip, small_front, int_front}
use Rattle.trace_reader.specs.ValueFronts.{closed, error_front, call_fault_front, timeout_front, fault_front, starts_numeral, word_front, scalar_front, scalars_on, list_front, value_front, outcome_front}
use Rattle.trace_reader.proofs.Readers.{Stops, StartsDigit, and_then-is, or_else-none, small_read, int_read, decimal_start}
use Rattle.gv_values.specs.declared.limits.TheConstants.{MOST_ELEMENTS}

pub fault_read : (f : FaultKind) (r : Text) → FaultFits f → fault_front (fault_text f ++ r) ≡ Some (f, r)
unfolding fault_front timeout_front call_fault_front error_front or_else after strip closed
fault_read FaultKind.GreenletExit r h = refl
fault_read (FaultKind.Timeout n) r h =
    ap (λ t. and_then (small_front t) (closed (λ n. FaultKind.Timeout n))) (append_assoc (decimal n) (codes ")") r)
    ∙ and_then-is (small_front (decimal n ++ (codes ")" ++ r))) n (codes ")" ++ r) _ (small_read n (codes ")" ++ r) h refl)
fault_read FaultKind.LoopExit r h = refl
fault_read FaultKind.Empty r h = refl
fault_read FaultKind.Full r h = refl
fault_read FaultKind.ShutDown r h = refl
fault_read FaultKind.ValueError r h = refl
fault_read FaultKind.RuntimeError r h = refl
fault_read FaultKind.TypeError r h = refl
fault_read FaultKind.OverflowError r h = refl
fault_read FaultKind.ZeroDivisionError r h = refl
fault_read FaultKind.InvalidSwitch r h = refl
fault_read (FaultKind.Error z) r h =
    ap (λ t. and_then (int_front t) (closed (λ z. FaultKind.Error z))) (append_assoc (int_text z) (codes ")") r)
    ∙ and_then-is (int_front (int_text z ++ (codes ")" ++ r))) z (codes ")" ++ r) _ (int_read z (codes ")" ++ r) h refl)

pub digit_starts : (t : Text) → StartsDigit t → starts_numeral t ≡ true
unfolding starts_numeral
digit_starts [] d = absurd d
digit_starts (b ∷ bs) d = rw d

pub numeral_starts : (z : ℤ) (r : Text) → starts_numeral (int_text z ++ r) ≡ true
unfolding starts_numeral
numeral_starts (pos n) r = digit_starts (decimal n ++ r) (decimal_start n r)
numeral_starts (negsuc n) r = refl

pub fault_word : (f : FaultKind) (r : Text) →
    scalar_front (fault_text f ++ r) ≡ and_then (fault_front (fault_text f ++ r)) (λ g rest. Some (Scalar.Fault g, rest))
unfolding scalar_front starts_numeral word_front or_else strip
fault_word FaultKind.GreenletExit r = refl
fault_word f r = refl

handle_word : (g : ℕ) (r : Text) → scalar_front (greenlet_text g ++ r) ≡ and_then (small_front (decimal g ++ r)) (λ n rest. Some (Scalar.Greenlet n, rest))
unfolding scalar_front starts_numeral word_front or_else strip
handle_word g r = refl

job_word : (g : ℕ) (r : Text) → scalar_front (job_text g ++ r) ≡ and_then (small_front (decimal g ++ r)) (λ n rest. Some (Scalar.Job n, rest))
unfolding scalar_front starts_numeral word_front or_else strip
job_word g r = refl

none_word : (r : Text) → scalar_front (codes "none" ++ r) ≡ Some (Scalar.Nothing, r)
unfolding scalar_front starts_numeral word_front or_else strip
none_word r = refl

truth_word : (b : Bool) (r : Text) → scalar_front (scalar_text (Scalar.Bool b) ++ r) ≡ Some (Scalar.Bool b, r)
unfolding scalar_front starts_numeral word_front or_else strip
truth_word true r = refl
truth_word false r = refl

int_word : (z : ℤ) (r : Text) → scalar_front (int_text z ++ r) ≡ and_then (int_front (int_text z ++ r)) (λ z rest. Some (Scalar.Int z, rest))
unfolding scalar_front
int_word z r = rw (numeral_starts z r)

pub scalar_read : (s : Scalar) (r : Text) → ScalarFits s → Stops r → scalar_front (scalar_text s ++ r) ≡ Some (s, r)
scalar_read Scalar.Nothing r h e = none_word r
scalar_read (Scalar.Bool b) r h e = truth_word b r
scalar_read (Scalar.Int z) r h e = int_word z r ∙ and_then-is (int_front (int_text z ++ r)) z r _ (int_read z r h e)
scalar_read (Scalar.Fault f) r h e = fault_word f r ∙ and_then-is (fault_front (fault_text f ++ r)) f r _ (fault_read f r h)
scalar_read (Scalar.Greenlet g) r h e = handle_word g r ∙ and_then-is (small_front (decimal g ++ r)) g r _ (small_read g r h e)
scalar_read (Scalar.Job j) r h e = job_word j r ∙ and_then-is (small_front (decimal j ++ r)) j r _ (small_read j r h e)

no_open-digit : (t : Text) → StartsDigit t → strip (codes "[") t ≡ None
unfolding strip
no_open-digit [] d = absurd d
no_open-digit (b ∷ bs) d = let test : nat_eq b 91 ≡ false = grind (arith, nat_tests) in rw test

no_open-fault : (f : FaultKind) (r : Text) → strip (codes "[") (fault_text f ++ r) ≡ None
unfolding strip
no_open-fault FaultKind.GreenletExit r = refl
no_open-fault f r = refl

no_open : (s : Scalar) (r : Text) → strip (codes "[") (scalar_text s ++ r) ≡ None
unfolding strip
no_open Scalar.Nothing r = refl
no_open (Scalar.Bool true) r = refl
no_open (Scalar.Bool false) r = refl
no_open (Scalar.Int (pos n)) r = no_open-digit (decimal n ++ r) (decimal_start n r)
no_open (Scalar.Int (negsuc n)) r = refl
no_open (Scalar.Fault f) r = no_open-fault f r
no_open (Scalar.Greenlet g) r = refl
no_open (Scalar.Job j) r = refl

no_close-digit : (t : Text) → StartsDigit t → strip (codes "]") t ≡ None
unfolding strip
no_close-digit [] d = absurd d
no_close-digit (b ∷ bs) d = let test : nat_eq b 93 ≡ false = grind (arith, nat_tests) in rw test

no_close-fault : (f : FaultKind) (r : Text) → strip (codes "]") (fault_text f ++ r) ≡ None
unfolding strip
no_close-fault FaultKind.GreenletExit r = refl
no_close-fault f r = refl

no_close : (s : Scalar) (r : Text) → strip (codes "]") (scalar_text s ++ r) ≡ None
unfolding strip
no_close Scalar.Nothing r = refl
no_close (Scalar.Bool true) r = refl
no_close (Scalar.Bool false) r = refl
no_close (Scalar.Int (pos n)) r = no_close-digit (decimal n ++ r) (decimal_start n r)
no_close (Scalar.Int (negsuc n)) r = refl
no_close (Scalar.Fault f) r = no_close-fault f r
no_close (Scalar.Greenlet g) r = refl
no_close (Scalar.Job j) r = refl

one_left : (so_far : List Scalar) (n : ℕ) (x : Scalar) (r : Text) → ScalarFits x → scalars_on so_far (suc n) (scalar_text x ++ 93 ∷ r) ≡ Some (so_far ++ x ∷ [], r)
unfolding scalars_on or_else strip
one_left so_far n x r h = and_then-is (scalar_front (scalar_text x ++ 93 ∷ r)) x (93 ∷ r) _ (scalar_read x (93 ∷ r) h refl)

more_left : (so_far : List Scalar) (n : ℕ) (x : Scalar) (t : Text) → ScalarFits x →
    scalars_on so_far (suc n) (scalar_text x ++ 44 ∷ 32 ∷ t) ≡ scalars_on (so_far ++ x ∷ []) n t
unfolding scalars_on or_else after strip
more_left so_far n x t h = and_then-is (scalar_front (scalar_text x ++ 44 ∷ 32 ∷ t)) x (44 ∷ 32 ∷ t) _ (scalar_read x (44 ∷ 32 ∷ t) h refl)

scalars_read : (so_far : List Scalar) (n : ℕ) (x : Scalar) (xs : List Scalar) (r : Text) →
    ScalarsFit (x ∷ xs) → length xs < n → scalars_on so_far n (scalars_text (x ∷ xs) ++ 93 ∷ r) ≡ Some (so_far ++ x ∷ xs, r)
scalars_read so_far zero x xs r h few = grind arith
scalars_read so_far (suc n) x [] r h few = one_left so_far n x r h.0
scalars_read so_far (suc n) x (y ∷ ys) r h few =
    ap (scalars_on so_far (suc n))
    (append_assoc (scalar_text x ++ codes ", ") (scalars_text (y ∷ ys)) (93 ∷ r) ∙ append_assoc (scalar_text x) (codes ", ") (scalars_text (y ∷ ys) ++ 93 ∷ r))
    ∙ more_left so_far n x (scalars_text (y ∷ ys) ++ 93 ∷ r) h.0
    ∙ scalars_read (so_far ++ x ∷ []) n y ys r h.1 (omega (arith, few))
    ∙ ap (λ (l : List Scalar). Some (l, r)) (append_assoc so_far (x ∷ []) (y ∷ ys))

close_first : (x : Scalar) (xs : List Scalar) (r : Text) → strip (codes "]") (scalars_text (x ∷ xs) ++ r) ≡ None
close_first x [] r = no_close x r
close_first x (y ∷ ys) r =
    ap (strip (codes "]"))
    (append_assoc (scalar_text x ++ codes ", ") (scalars_text (y ∷ ys)) r ∙ append_assoc (scalar_text x) (codes ", ") (scalars_text (y ∷ ys) ++ r))
    ∙ no_close x (codes ", " ++ (scalars_text (y ∷ ys) ++ r))

pub list_read : (xs : List Scalar) (r : Text) → length xs ≤ MOST_ELEMENTS → ScalarsFit xs → list_front (scalars_text xs ++ 93 ∷ r) ≡ Some (xs, r)
unfolding list_front or_else strip
list_read [] r few h = refl
list_read (x ∷ xs) r few h =
    or_else-none _ _ _ (close_first x xs (93 ∷ r)) ∙ scalars_read [] MOST_ELEMENTS x xs r h (omega (arith, few))

value_word : (s : Scalar) (r : Text) → ScalarFits s → Stops r → value_front (scalar_text s ++ r) ≡ Some (value_of_scalar s, r)
unfolding value_front
value_word s r h e = or_else-none _ _ _ (no_open s r) ∙ and_then-is (scalar_front (scalar_text s ++ r)) s r _ (scalar_read s r h e)

list_word : (xs : List Scalar) (r : Text) → value_front (value_text (Value.List xs) ++ r) ≡ and_then (list_front ((scalars_text xs ++ codes "]") ++ r)) (λ l rest. Some (Value.List l, rest))
unfolding value_front or_else strip
list_word xs r = refl

pub value_read : (v : Value) (r : Text) → ValueFits v → Stops r → value_front (value_text v ++ r) ≡ Some (v, r)
value_read Value.Nothing r h e = value_word Scalar.Nothing r h e
value_read (Value.Bool true) r h e = value_word (Scalar.Bool true) r h e
value_read (Value.Bool false) r h e = value_word (Scalar.Bool false) r h e
value_read (Value.Int z) r h e = value_word (Scalar.Int z) r h e
value_read (Value.Fault f) r h e = value_word (Scalar.Fault f) r h e
value_read (Value.Greenlet g) r h e = value_word (Scalar.Greenlet g) r h e
value_read (Value.Job j) r h e = value_word (Scalar.Job j) r h e
value_read (Value.List xs) r h e =
    list_word xs r ∙ ap (λ t. and_then (list_front t) (λ l rest. Some (Value.List l, rest))) (append_assoc (scalars_text xs) (codes "]") r)
    ∙ and_then-is (list_front (scalars_text xs ++ 93 ∷ r)) xs r _ (list_read xs r h.0 h.1)

pub outcome_read : (o : Outcome) (r : Text) → OutcomeFits o → Stops r → outcome_front (outcome_text o ++ r) ≡ Some (o, r)
unfolding outcome_front or_else after strip
outcome_read (Outcome.Value v) r h e = and_then-is (value_front (value_text v ++ r)) v r _ (value_read v r h e)
outcome_read (Outcome.Fault f) r h e = and_then-is (fault_front (fault_text f ++ r)) f r _ (fault_read f r h)
