-- How the scalars of a list are read one after another.
use Rattle.std.proofs.Common.{◌≡◌, ℕ, suc, ◌+◌, ◌-◌, ◌<◌, List, [], ◌∷◌, ◌++◌, Some, None, codes, refl, ap, sym, ◌∙◌, arith}
use Rattle.gv_values.specs.declared.scalar.Scalar.{Scalar}
use Rattle.gv_values.specs.Texts.{Text}
use Rattle.trace_reader.specs.Ranges.{ScalarFits, ScalarsFit}
use Rattle.trace_reader.specs.Fronts.{Front, and_then, after, or_else, strip}
use Rattle.trace_reader.specs.ValueFronts.{is, scalar_front, scalars_on}
use Rattle.trace_reader.proofs.Readers.{and_then-is, and_then-none, after-is, after-none, or_else-is, or_else-none}
use Rattle.gv_values.specs.declared.limits.TheConstants.{MOST_ELEMENTS}

-- what follows a scalar
abbrev pub behind : List Scalar → ℕ → Scalar → Text → Front (List Scalar)
behind read n s rest = or_else (strip (codes "]") rest) (is (read ++ s ∷ [])) (after (strip (codes ", ") rest) (scalars_on (read ++ s ∷ []) n))

one_step : (read : List Scalar) (n : ℕ) (t : Text) → scalars_on read (suc n) t ≡ and_then (scalar_front t) (behind read n)
unfolding scalars_on
one_step read n t = refl

step : (read : List Scalar) (k : ℕ) (t : Text) → k < MOST_ELEMENTS → scalars_on read (MOST_ELEMENTS - k) t ≡ and_then (scalar_front t) (behind read (MOST_ELEMENTS - (k + 1)))
step read k t few = let left : MOST_ELEMENTS - k ≡ suc (MOST_ELEMENTS - (k + 1)) = omega (arith, few) in ap (λ n. scalars_on read n t) left ∙ one_step read (MOST_ELEMENTS - (k + 1)) t

pub no_scalar : (read : List Scalar) (k : ℕ) (t : Text) (whole : Front (List Scalar)) → k < MOST_ELEMENTS → scalars_on read (MOST_ELEMENTS - k) t ≡ whole →
    scalar_front t ≡ None → whole ≡ None
no_scalar read k t whole few so_far none = sym so_far ∙ step read k t few ∙ and_then-none _ _ none

one_read : (read : List Scalar) (k : ℕ) (t : Text) (whole : Front (List Scalar)) (s : Scalar) (r : Text) → k < MOST_ELEMENTS → scalars_on read (MOST_ELEMENTS - k) t ≡ whole →
    scalar_front t ≡ Some (s, r) → whole ≡ behind read (MOST_ELEMENTS - (k + 1)) s r
one_read read k t whole s r few so_far here = sym so_far ∙ step read k t few ∙ and_then-is _ s r _ here

pub closed_here : (read : List Scalar) (k : ℕ) (t : Text) (whole : Front (List Scalar)) (s : Scalar) (r rest : Text) → k < MOST_ELEMENTS → scalars_on read (MOST_ELEMENTS - k) t ≡ whole →
    scalar_front t ≡ Some (s, r) → strip (codes "]") r ≡ Some rest → whole ≡ Some (read ++ s ∷ [], rest)
closed_here read k t whole s r rest few so_far here closed = one_read read k t whole s r few so_far here ∙ or_else-is _ rest _ _ closed

pub broken_here : (read : List Scalar) (k : ℕ) (t : Text) (whole : Front (List Scalar)) (s : Scalar) (r : Text) → k < MOST_ELEMENTS → scalars_on read (MOST_ELEMENTS - k) t ≡ whole →
    scalar_front t ≡ Some (s, r) → strip (codes "]") r ≡ None → strip (codes ", ") r ≡ None → whole ≡ None
broken_here read k t whole s r few so_far here not_closed broken =
    one_read read k t whole s r few so_far here ∙ or_else-none _ _ _ not_closed ∙ after-none _ _ broken

pub more_here : (read : List Scalar) (k : ℕ) (t : Text) (whole : Front (List Scalar)) (s : Scalar) (r rest : Text) → k < MOST_ELEMENTS → scalars_on read (MOST_ELEMENTS - k) t ≡ whole →
    scalar_front t ≡ Some (s, r) → strip (codes "]") r ≡ None → strip (codes ", ") r ≡ Some rest → scalars_on (read ++ s ∷ []) (MOST_ELEMENTS - (k + 1)) rest ≡ whole
more_here read k t whole s r rest few so_far here not_closed more =
    sym (one_read read k t whole s r few so_far here ∙ or_else-none _ _ _ not_closed ∙ after-is _ rest _ more)

pub none_left : (read : List Scalar) (t : Text) (whole : Front (List Scalar)) → scalars_on read (MOST_ELEMENTS - MOST_ELEMENTS) t ≡ whole → whole ≡ None
unfolding scalars_on
none_left read t whole so_far = sym so_far

pub fits_behind : (read : List Scalar) (s : Scalar) → ScalarsFit read → ScalarFits s → ScalarsFit (read ++ s ∷ [])
fits_behind [] s all one = (one, tt)
fits_behind (x ∷ read) s all one = (all.0, fits_behind read s all.1 one)
