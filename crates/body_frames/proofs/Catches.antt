-- The first of some excepts, by its class.
use Rattle.std.proofs.Common.{◌≡◌, refl, ap, sym, ◌∙◌, true, false, List, [], ◌∷◌, Some, map, ℕ, zero, suc, ◌+◌, ◌<◌, length, drop, get_or, arith}
use Rattle.gv_values.specs.declared.fault.FaultKind.{FaultKind}
use Rattle.gv_values.specs.Fault.{catches}
use Rattle.scenario_tree.specs.declared.tree.Except.{out-Except, out-roll-Except}
use Rattle.machine.specs.Unwinding.{catching}
use Rattle.body_blocks.specs.Trees.{Coded, block_at, except_of, name_if}
use Rattle.body_blocks.specs.declared.statement.FlatExcept.{FlatExcept}
use Rattle.body_frames.specs.Unwinding.{caught_of}

opened : (t : Coded) (e : FlatExcept) →
    out-Except (except_of t e) ≡ record { line = e.line; class = e.class; name = name_if t e.name; body = block_at e.body t }
opened t e = out-roll-Except _

catches_here : (t : Coded) (f : FaultKind) (e : FlatExcept) (es : List FlatExcept) → catches e.class f ≡ true →
    Some (caught_of t e) ≡ catching f (map (except_of t) (e ∷ es))
catches_here t f e es h = rw (opened t e, h) refl

passes_here : (t : Coded) (f : FaultKind) (e : FlatExcept) (es : List FlatExcept) → catches e.class f ≡ false →
    catching f (map (except_of t) (e ∷ es)) ≡ catching f (map (except_of t) es)
passes_here t f e es h = rw (opened t e, h) refl

drop_at : {X : Type 0} (xs : List X) (i : ℕ) (d : X) → i < length xs → drop i xs ≡ get_or xs i d ∷ drop (suc i) xs
drop_at [] i d h = grind arith
drop_at (x ∷ xs) zero d h = refl
drop_at (x ∷ xs) (suc i) d h = drop_at xs i d (omega (arith, h))

-- ---- the except at a place

pub catches_at : (t : Coded) (f : FaultKind) (es : List FlatExcept) (i : ℕ) (d : FlatExcept) → i < length es → catches (get_or es i d).class f ≡ true →
    catching f (map (except_of t) es) ≡ catching f (map (except_of t) (drop i es)) → Some (caught_of t (get_or es i d)) ≡ catching f (map (except_of t) es)
catches_at t f es i d h k e =
    catches_here t f (get_or es i d) (drop (suc i) es) k ∙ sym (ap (λ (xs : List FlatExcept). catching f (map (except_of t) xs)) (drop_at es i d h)) ∙ sym e

pub passes_at : (t : Coded) (f : FaultKind) (es : List FlatExcept) (i : ℕ) (d : FlatExcept) → i < length es → catches (get_or es i d).class f ≡ false →
    catching f (map (except_of t) es) ≡ catching f (map (except_of t) (drop i es)) → catching f (map (except_of t) es) ≡ catching f (map (except_of t) (drop (i + 1) es))
passes_at t f es i d h k e =
    let one : suc i ≡ i + 1 = omega arith in
    e ∙ ap (λ (xs : List FlatExcept). catching f (map (except_of t) xs)) (drop_at es i d h) ∙ passes_here t f (get_or es i d) (drop (suc i) es) k
    ∙ ap (λ (n : ℕ). catching f (map (except_of t) (drop n es))) one
