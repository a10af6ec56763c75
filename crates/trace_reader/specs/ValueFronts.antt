-- How the texts of faults and values are read.
use Rattle.std.specs.Prelude.{ℕ, zero, suc, Bool, true, false, ◌||◌, ◌==◌, if◌then◌else◌, List, [], ◌∷◌, ◌++◌, Some, None, codes}
use Rattle.gv_values.specs.Name.{is_digit}
use Rattle.gv_values.specs.declared.fault.FaultKind.{FaultKind}
use Rattle.gv_values.specs.declared.scalar.Scalar.{Scalar}
use Rattle.gv_values.specs.declared.value.Value.{Value}
use Rattle.gv_values.specs.declared.value.Outcome.{Outcome}
use Rattle.gv_values.specs.Value.{value_of_scalar}
use Rattle.gv_values.specs.Texts.{Text}
use Rattle.trace_reader.specs.Fronts.{Front, and_then, after, or_else, strip, small_front, int_front}
use Rattle.gv_values.specs.declared.limits.TheConstants.{MOST_ELEMENTS}

-- the end of a numbered fault
unfoldable pub closed : {A : Type 0} → (A → FaultKind) → A → Text → Front FaultKind
closed kind n rest = after (strip (codes ")") rest) (λ end. Some (kind n, end))

abbrev pub is : {A : Type 0} → A → Text → Front A
is x rest = Some (x, rest)

unfoldable pub error_front : Text → Front FaultKind
error_front text =
    or_else (strip (codes "ValueError") text) (is FaultKind.ValueError)
    (or_else (strip (codes "RuntimeError") text) (is FaultKind.RuntimeError)
    (or_else (strip (codes "TypeError") text) (is FaultKind.TypeError)
    (or_else (strip (codes "OverflowError") text) (is FaultKind.OverflowError)
    (or_else (strip (codes "ZeroDivisionError") text) (is FaultKind.ZeroDivisionError)
    (or_else (strip (codes "Error(") text) (λ rest. and_then (int_front rest) (closed (λ z. FaultKind.Error z)))
    None)))))

-- a fault of queues or of switches, or one named an error
unfoldable pub call_fault_front : Text → Front FaultKind
call_fault_front text =
    or_else (strip (codes "Empty") text) (is FaultKind.Empty)
    (or_else (strip (codes "Full") text) (is FaultKind.Full)
    (or_else (strip (codes "ShutDown") text) (is FaultKind.ShutDown)
    (or_else (strip (codes "InvalidSwitch") text) (is FaultKind.InvalidSwitch)
    (error_front text))))

unfoldable pub timeout_front : Text → Front FaultKind
timeout_front text = and_then (small_front text) (closed (λ n. FaultKind.Timeout n))

unfoldable pub fault_front : Text → Front FaultKind
fault_front text =
    or_else (strip (codes "GreenletExit") text) (is FaultKind.GreenletExit)
    (or_else (strip (codes "Timeout(") text) timeout_front
    (or_else (strip (codes "LoopExit") text) (is FaultKind.LoopExit)
    (call_fault_front text)))

-- a digit or a minus comes next
unfoldable pub starts_numeral : Text → Bool
starts_numeral [] = false
starts_numeral (b ∷ bs) = is_digit b || b == 45

-- what was read, put into a variant
abbrev pub as_kind : {A B : Type 0} → (A → B) → A → Text → Front B
as_kind kind x rest = Some (kind x, rest)

unfoldable pub word_front : Text → Front Scalar
word_front text =
    or_else (strip (codes "none") text) (is Scalar.Nothing)
    (or_else (strip (codes "true") text) (is (Scalar.Bool true))
    (or_else (strip (codes "false") text) (is (Scalar.Bool false))
    (or_else (strip (codes "g") text) (λ rest. and_then (small_front rest) (as_kind (λ g. Scalar.Greenlet g)))
    (or_else (strip (codes "j") text) (λ rest. and_then (small_front rest) (as_kind (λ j. Scalar.Job j)))
    (and_then (fault_front text) (as_kind (λ f. Scalar.Fault f)))))))

unfoldable pub scalar_front : Text → Front Scalar
scalar_front text = if starts_numeral text then and_then (int_front text) (as_kind (λ z. Scalar.Int z)) else word_front text

-- the scalars that come next behind those that were read so far, at most n of them, up to the bracket
unfoldable pub scalars_on : List Scalar → ℕ → Text → Front (List Scalar)
scalars_on so_far zero text = None
scalars_on so_far (suc n) text =
    and_then (scalar_front text)
    (λ s rest.
    or_else (strip (codes "]") rest) (is (so_far ++ s ∷ []))
    (after (strip (codes ", ") rest) (scalars_on (so_far ++ s ∷ []) n)))

unfoldable pub list_front : Text → Front (List Scalar)
list_front text = or_else (strip (codes "]") text) (is []) (scalars_on [] MOST_ELEMENTS text)

unfoldable pub value_front : Text → Front Value
value_front text =
    or_else (strip (codes "[") text) (λ rest. and_then (list_front rest) (as_kind (λ ss. Value.List ss)))
    (and_then (scalar_front text) (as_kind value_of_scalar))

unfoldable pub outcome_front : Text → Front Outcome
outcome_front text =
    or_else (strip (codes "value ") text) (λ rest. and_then (value_front rest) (as_kind (λ v. Outcome.Value v)))
    (after (strip (codes "fault ") text) (λ rest. and_then (fault_front rest) (as_kind (λ f. Outcome.Fault f))))
