-- Where the first line feed of a text stands, and what that tells of its first line.
use Rattle.std.proofs.Common.{◌≡◌, ℕ, suc, ◌+◌, ◌<◌, ◌≤◌, true, false, not, nat_lt, List, [], ◌∷◌, ◌++◌, length, take, drop, get_or, Some, None, refl, ap, sym, ◌∙◌, subst, arith}
use Rattle.std.specs.Prelude.{Err, Result}
use Rattle.std.specs.List.{list_all, position, prefix_len}
use Rattle.std.proofs.lemmas.Bool.{and_parts}
use Rattle.std.proofs.lemmas.Bool.Decides.{nat_tests}
use Rattle.std.proofs.lemmas.List.{append-nil, drop_more, length-append, take-append-drop}
use Rattle.std.proofs.lemmas.List.Quantifiers.{position-Some}
use Rattle.std.proofs.Math.Seq.{take-append_seam}
use Rattle.gv_values.specs.declared.job.Answer.{Answer}
use Rattle.gv_values.specs.Texts.{Text}
use Rattle.trace_text.specs.declared.line.Line.{Line}
use Rattle.trace_text.specs.Line.{answers_told, line_text, text_of}
use Rattle.trace_reader.specs.Ranges.{LineFits}
use Rattle.trace_reader.specs.Read.{IsNoLine, IsRefused}
use Rattle.trace_reader.specs.declared.fault.LineFault.{LineFault}
use Rattle.trace_laws.specs.Traces.{BeginsWithLine, BeginsWithNone}
use Rattle.trace_laws.specs.Reads.{BeginsAt, HasRead, IsFirst, IsLine, NamesAnswers, is_feed}
use Rattle.trace_laws.specs.declared.reading.FirstLine.{FirstLine}
use Rattle.trace_laws.proofs.Lines.{answer_of, answers_last, fit_append, line_last}
use Rattle.trace_laws.proofs.Printed.{ArePrinted, is_printed, line_printed}

pub no_feed : (b : ℕ) → is_printed b ≡ true → is_feed b ≡ false
no_feed b h = grind (arith, nat_tests)

before_feed : (xs r : Text) → ArePrinted xs → prefix_len (λ b. not (is_feed b)) (xs ++ 10 ∷ r) ≡ length xs
before_feed [] r h = refl
before_feed (x ∷ xs) r h =
    let p = and_parts (is_printed x) (list_all is_printed xs) h in
    let test : is_feed x ≡ false = no_feed x p.0 in
    rw test (ap (λ n. 1 + n) (before_feed xs r p.1) ∙ omega arith)

-- behind the text of a line comes the first line feed
pub feed_behind : (xs r : Text) → ArePrinted xs → position is_feed (xs ++ 10 ∷ r) ≡ Some (length xs)
feed_behind xs r h =
    let at : prefix_len (λ b. not (is_feed b)) (xs ++ 10 ∷ r) ≡ length xs = before_feed xs r h in
    let long : length (xs ++ 10 ∷ r) ≡ length xs + length (10 ∷ r) = length-append xs (10 ∷ r) in
    let more : length (10 ∷ r) ≡ suc (length r) = refl in
    let inside : nat_lt (length xs) (length (xs ++ 10 ∷ r)) ≡ true = grind (arith, nat_tests) in
    rw (at, inside)

-- a line feed in a text
pub at_feed : (text : Text) (end : ℕ) → position is_feed text ≡ Some end → (end < length text) × (text ≡ take end text ++ 10 ∷ drop (end + 1) text)
at_feed text end e =
    let p = position-Some is_feed text end 0 e in
    let byte : get_or text end 0 ≡ 10 = grind (arith, nat_tests) in
    (p.0, sym (take-append-drop end text) ∙ ap (λ z. take end text ++ z) (drop_more text end 0 p.0 ∙ ap (λ b. b ∷ drop (end + 1) text) byte))

-- the first line ends at the first line feed
first_end : (text : Text) (l : Line) (b : BeginsWithLine text l) → position is_feed text ≡ Some (length (line_text l))
first_end text l b = ap (position is_feed) b.is ∙ feed_behind (line_text l) b.more (line_printed l b.fits)

pub none_first : (text : Text) → position is_feed text ≡ None → BeginsWithNone text
none_first text e l b = let f : Some (length (line_text l)) ≡ None = sym (first_end text l b) ∙ e in let z : ⊥ = cc f in z

pub refused_first : (text : Text) (end : ℕ) → position is_feed text ≡ Some end → IsNoLine (take end text) → BeginsWithNone text
refused_first text end e n l b =
    let f : Some (length (line_text l)) ≡ Some end = sym (first_end text l b) ∙ e in
    let same : length (line_text l) ≡ end = cc f in
    n l b.fits (sym (ap (λ k. take k text) (sym same) ∙ ap (take (length (line_text l))) b.is ∙ take-append_seam (line_text l) (10 ∷ b.more)))

pub line_at : (text : Text) (end : ℕ) (l : Line) → position is_feed text ≡ Some end → LineFits l → line_text l ≡ take end text → BeginsAt text l (end + 1)
line_at text end l e fits same =
    let p = at_feed text end e in
    record { fits = fits; within = omega (arith, p.0); is = p.1 ∙ ap (λ z. z ++ 10 ∷ drop (end + 1) text) (sym same) }

pub first_of : (text : Text) (l : Line) (next : ℕ) (first : FirstLine) → BeginsAt text l next → IsLine l next first → IsFirst text first
first_of text l next FirstLine.None b h = absurd h
first_of text l next (FirstLine.Turn answer place) b h =
    (h.0.0, subst (λ k. BeginsAt text (Line.Turn h.0.0 answer) k) (sym h.1) (subst (λ (z : Line). BeginsAt text z next) h.0.1 b))
first_of text l next (FirstLine.Other place) b h = (l, subst (λ k. BeginsAt text l k) (sym h.1) b, h.0)

pub no_line : (text : Text) (r : Result Line LineFault) (e : LineFault) → r ≡ Err e → e ≡ LineFault.NotALine → IsRefused text r → IsNoLine text
no_line text r e is kind h = by (subst (λ (x : Result Line LineFault). IsRefused text x) (is ∙ ap (λ (x : LineFault). out x) kind) h)
  where
    out : LineFault → Result Line LineFault
    out x = Err x

    by : IsRefused text (Err LineFault.NotALine) → IsNoLine text
    by h = h.0 refl

-- ---- lines that were read

read_more : (text rest : Text) (answers : List Answer) (l : Line) (next : ℕ) (more : List Answer) → HasRead text rest answers → BeginsAt rest l next → answer_of l ≡ more →
    HasRead text (drop next rest) (answers ++ more)
read_more text rest answers l next more h b e = record {
  lines = h.lines ++ l ∷ [];
  fit = fit_append h.lines (l ∷ []) h.fit (b.fits, tt);
  is = h.is ∙ ap (λ z. text_of h.lines ++ z) b.is ∙ sym (line_last h.lines l (drop next rest));
  answers_are = ap (λ z. z ++ more) h.answers_are ∙ ap (λ z. answers_told h.lines ++ z) (sym e) ∙ sym (answers_last h.lines l);
}

pub read_turn : (text rest : Text) (answers : List Answer) (first : FirstLine) (answer : Answer) (next : ℕ) → HasRead text rest answers → IsFirst rest first → first ≡ FirstLine.Turn answer next →
    HasRead text (drop next rest) (answers ++ answer ∷ [])
read_turn text rest answers first answer next h f e =
    let b = subst (λ (x : FirstLine). IsFirst rest x) e f in read_more text rest answers (Line.Turn b.0 answer) next (answer ∷ []) h b.1 refl

silent_line : (l : Line) → ((number : ℕ) (answer : Answer) → ¬ (l ≡ Line.Turn number answer)) → answer_of l ≡ []
silent_line (Line.Turn k a) h = absurd (h k a refl)
silent_line l h = refl

pub read_other : (text rest : Text) (answers : List Answer) (first : FirstLine) (next : ℕ) → HasRead text rest answers → IsFirst rest first → first ≡ FirstLine.Other next →
    HasRead text (drop next rest) answers
read_other text rest answers first next h f e =
    let b = subst (λ (x : FirstLine). IsFirst rest x) e f in
    subst (HasRead text (drop next rest)) (append-nil answers) (read_more text rest answers b.0 next [] h b.1 (silent_line b.0 b.2))

begins_within : (rest : Text) (l : Line) (next : ℕ) → BeginsAt rest l next → (next ≤ length rest) × (length (drop next rest) < length rest)
begins_within rest l next b =
    let long : length rest ≡ length (line_text l) + length (10 ∷ drop next rest) = ap (length {A = ℕ}) b.is ∙ length-append (line_text l) (10 ∷ drop next rest) in
    let one : length (10 ∷ drop next rest) ≡ suc (length (drop next rest)) = refl in
    (b.within, omega arith)

pub within_turn : (rest : Text) (first : FirstLine) (answer : Answer) (next : ℕ) → IsFirst rest first → first ≡ FirstLine.Turn answer next → (next ≤ length rest) × (length (drop next rest) < length rest)
within_turn rest first answer next f e =
    let b = subst (λ (x : FirstLine). IsFirst rest x) e f in begins_within rest (Line.Turn b.0 answer) next b.1

pub within_other : (rest : Text) (first : FirstLine) (next : ℕ) → IsFirst rest first → first ≡ FirstLine.Other next → (next ≤ length rest) × (length (drop next rest) < length rest)
within_other rest first next f e = let b = subst (λ (x : FirstLine). IsFirst rest x) e f in begins_within rest b.0 next b.1

pub read_all : (text rest : Text) (answers : List Answer) (first : FirstLine) → HasRead text rest answers → IsFirst rest first → first ≡ FirstLine.None → NamesAnswers text answers
read_all text rest answers first h f e =
    record { lines = h.lines; rest = rest; fit = h.fit; is = h.is; none = subst (λ (x : FirstLine). IsFirst rest x) e f; answers_are = h.answers_are }
