-- The texts of lines one after another.
use Rattle.std.proofs.Common.{◌≡◌, refl, ap, sym, ◌∙◌, ℕ, zero, suc, ◌+◌, ◌<◌, List, [], ◌∷◌, ◌++◌, length, take, get_or, append_assoc, arith}
use Rattle.trace_text.specs.declared.line.Line.{Line}
use Rattle.trace_text.specs.Line.{text_of, line_text}
use Rattle.trace_reader.specs.Ranges.{LineFits, LinesFit}

pub text_of_append : (xs ys : List Line) → text_of (xs ++ ys) ≡ text_of xs ++ text_of ys
text_of_append [] ys = refl
text_of_append (x ∷ xs) ys = rw (text_of_append xs ys) (cc (append_assoc (line_text x) (10 ∷ text_of xs) (text_of ys)))

-- the texts of one line more
pub text_more : (lines : List Line) (i : ℕ) (d : Line) → i < length lines →
    text_of (take (i + 1) lines) ≡ (text_of (take i lines) ++ line_text (get_or lines i d)) ++ 10 ∷ []
text_more [] i d h = grind arith
text_more (x ∷ lines) zero d h = refl
text_more (x ∷ lines) (suc i) d h =
    let one : suc i + 1 ≡ suc (i + 1) = omega arith in
    let t = text_of (take i lines) in
    let l = line_text (get_or lines i d) in
    rw one
    (ap (λ z. line_text x ++ 10 ∷ z) (text_more lines i d (omega (arith, h)))
    ∙ sym (append_assoc (line_text x) (10 ∷ (t ++ l)) (10 ∷ []))
    ∙ ap (λ z. z ++ 10 ∷ []) (sym (append_assoc (line_text x) (10 ∷ t) l)))

-- one line more fits
pub fit_more : (lines : List Line) (i : ℕ) (d : Line) → i < length lines → LinesFit (take i lines) → LineFits (get_or lines i d) → LinesFit (take (i + 1) lines)
fit_more [] i d h k l = grind arith
fit_more (x ∷ lines) zero d h k l = (l, tt)
fit_more (x ∷ lines) (suc i) d h k l =
    let one : suc i + 1 ≡ suc (i + 1) = omega arith in
    rw one (k.0, fit_more lines i d (omega (arith, h)) k.1 l)
