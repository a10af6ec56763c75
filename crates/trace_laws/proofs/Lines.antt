-- The lines that a text begins with are told by the text.
use Rattle.std.proofs.Common.{◌≡◌, ℕ, List, [], ◌∷◌, ◌++◌, refl, ap, sym, ◌∙◌, subst, append_assoc}
use Rattle.std.proofs.lemmas.List.{append-nil}
use Rattle.gv_values.specs.declared.job.Answer.{Answer}
use Rattle.gv_values.specs.Texts.{Text}
use Rattle.trace_text.specs.declared.line.Line.{Line}
use Rattle.trace_text.specs.Line.{answers_told, line_text, text_of}
use Rattle.trace_reader.specs.Ranges.{LinesFit}
use Rattle.trace_reader.proofs.LineReaders.{line_told}
use Rattle.trace_laws.specs.Traces.{BeginsWithLine}
use Rattle.trace_laws.proofs.Pieces.{line_split}
use Rattle.trace_laws.proofs.Printed.{line_printed}

-- ---- texts of lists of lines

-- the text of a line with its LF, and then a text
abbrev pub with_line : Line → Text → Text
with_line l t = line_text l ++ 10 ∷ t

pub text_of_append : (xs ys : List Line) → text_of (xs ++ ys) ≡ text_of xs ++ text_of ys
text_of_append [] ys = refl
text_of_append (l ∷ xs) ys = ap (with_line l) (text_of_append xs ys) ∙ sym (append_assoc (line_text l) (10 ∷ text_of xs) (text_of ys))

-- the texts of lines, and then a rest
pub line_first : (l : Line) (ls : List Line) (rest : Text) → text_of (l ∷ ls) ++ rest ≡ line_text l ++ 10 ∷ (text_of ls ++ rest)
line_first l ls rest = append_assoc (line_text l) (10 ∷ text_of ls) rest

pub line_last : (ls : List Line) (l : Line) (rest : Text) → text_of (ls ++ l ∷ []) ++ rest ≡ text_of ls ++ (line_text l ++ 10 ∷ rest)
line_last ls l rest =
    ap (λ t. t ++ rest) (text_of_append ls (l ∷ [])) ∙ append_assoc (text_of ls) (text_of (l ∷ [])) rest
    ∙ ap (λ t. text_of ls ++ t) (append_assoc (line_text l) (10 ∷ []) rest)

pub fit_append : (xs ys : List Line) → LinesFit xs → LinesFit ys → LinesFit (xs ++ ys)
fit_append [] ys h k = k
fit_append (l ∷ xs) ys h k = (h.0, fit_append xs ys h.1 k)

pub fit_front : (xs ys : List Line) → LinesFit (xs ++ ys) → LinesFit xs
fit_front [] ys h = tt
fit_front (l ∷ xs) ys h = (h.0, fit_front xs ys h.1)

pub fit_back : (xs ys : List Line) → LinesFit (xs ++ ys) → LinesFit ys
fit_back [] ys h = h
fit_back (l ∷ xs) ys h = fit_back xs ys h.1

-- ---- one line

-- a text begins with one line alone, and its rest is told
pub same_line : (t : Text) (l m : Line) (h : BeginsWithLine t l) (k : BeginsWithLine t m) → (l ≡ m) × (h.more ≡ k.more)
same_line t l m h k =
    let parts = line_split (line_text l) (line_text m) h.more k.more (line_printed l h.fits) (line_printed m k.fits) (sym h.is ∙ k.is) in
    (line_told l m h.fits k.fits parts.0, parts.1)

pub none_begins : (l : Line) → ¬ BeginsWithLine [] l
none_begins l h = no_bytes (line_text l) h.more h.is
  where
    no_bytes : (xs r : Text) → [] ≡ xs ++ 10 ∷ r → ⊥
    no_bytes [] r e = cc e
    no_bytes (x ∷ xs) r e = cc e

-- ---- lists of lines

-- of two ways to read the front of a text as lines, one goes on where the other ends, or they are the same
pub data Compared (b : List Line) (r : Text) (c : List Line) (s : Text) : Type 0 where
  Same : b ≡ c → r ≡ s → Compared b r c s
  Longer : (l : Line) (more : List Line) → c ≡ b ++ l ∷ more → BeginsWithLine r l → Compared b r c s
  Shorter : (l : Line) (more : List Line) → b ≡ c ++ l ∷ more → BeginsWithLine s l → Compared b r c s

pub compared : (b : List Line) (r : Text) (c : List Line) (s : Text) → LinesFit b → LinesFit c → text_of b ++ r ≡ text_of c ++ s → Compared b r c s
compared [] r [] s h k e = Compared.Same refl e
compared [] r (m ∷ c) s h k e = Compared.Longer m c refl (record { fits = k.0; more = text_of c ++ s; is = e ∙ line_first m c s })
compared (l ∷ b) r [] s h k e = Compared.Shorter l b refl (record { fits = h.0; more = text_of b ++ r; is = sym e ∙ line_first l b r })
compared (l ∷ b) r (m ∷ c) s h k e =
    let parts = line_split (line_text l) (line_text m) (text_of b ++ r) (text_of c ++ s) (line_printed l h.0) (line_printed m k.0) (sym (line_first l b r) ∙ e ∙ line_first m c s) in
    by (line_told l m h.0 k.0 parts.0) (compared b r c s h.1 k.1 parts.1)
  where
    by : l ≡ m → Compared b r c s → Compared (l ∷ b) r (m ∷ c) s
    by same (Compared.Same e f) = Compared.Same (ap (λ x. x ∷ b) same ∙ ap (λ x. m ∷ x) e) f
    by same (Compared.Longer x more e f) = Compared.Longer x more (ap (λ z. m ∷ z) e ∙ ap (λ z. z ∷ b ++ x ∷ more) (sym same)) f
    by same (Compared.Shorter x more e f) = Compared.Shorter x more (ap (λ z. l ∷ z) e ∙ ap (λ z. z ∷ c ++ x ∷ more) same) f

-- ---- answers

pub answers_append : (xs ys : List Line) → answers_told (xs ++ ys) ≡ answers_told xs ++ answers_told ys
answers_append [] ys = refl
answers_append (Line.Turn k a ∷ xs) ys = ap (λ z. a ∷ z) (answers_append xs ys)
answers_append (l ∷ xs) ys = answers_append xs ys

-- the answer that a line names, if it names one
abbrev pub answer_of : Line → List Answer
answer_of (Line.Turn k a) = a ∷ []
answer_of l = []

pub answers_first : (l : Line) (ls : List Line) → answers_told (l ∷ ls) ≡ answer_of l ++ answers_told ls
answers_first (Line.Turn k a) ls = refl
answers_first l ls = refl

pub answers_last : (ls : List Line) (l : Line) → answers_told (ls ++ l ∷ []) ≡ answers_told ls ++ answer_of l
answers_last ls l = answers_append ls (l ∷ []) ∙ ap (λ z. answers_told ls ++ z) (answers_first l [] ∙ append-nil (answer_of l))

-- what stands behind the same front is the same
pub same_back : {A : Type 0} (xs ys zs : List A) → xs ++ ys ≡ xs ++ zs → ys ≡ zs
same_back [] ys zs e = e
same_back (x ∷ xs) ys zs e = same_back xs ys zs (let z : xs ++ ys ≡ xs ++ zs = cc e in z)

-- two lists that are the same, each with a turn line behind as many answers, are the same before it
pub same_turn : (xs ys us vs : List Line) (n k : ℕ) (a b : Answer) → xs ++ Line.Turn n a ∷ us ≡ ys ++ Line.Turn k b ∷ vs → answers_told xs ≡ answers_told ys →
    (xs ≡ ys) × (n ≡ k) × (a ≡ b)
same_turn [] [] us vs n k a b e f =
    let same : Line.Turn n a ≡ Line.Turn k b = cc e in
    (refl, let z : n ≡ k = cc same in z, let z : a ≡ b = cc same in z)
same_turn [] (y ∷ ys) us vs n k a b e f =
    let first : Line.Turn n a ≡ y = cc e in
    let g : [] ≡ a ∷ answers_told ys = subst (λ (z : Line). [] ≡ answers_told (z ∷ ys)) (sym first) f in
    absurd (let z : ⊥ = cc g in z)
same_turn (x ∷ xs) [] us vs n k a b e f =
    let first : x ≡ Line.Turn k b = cc e in
    let g : b ∷ answers_told xs ≡ [] = subst (λ (z : Line). answers_told (z ∷ xs) ≡ []) first f in
    absurd (let z : ⊥ = cc g in z)
same_turn (x ∷ xs) (y ∷ ys) us vs n k a b e f =
    let first : x ≡ y = cc e in
    let g : answer_of y ++ answers_told xs ≡ answer_of y ++ answers_told ys =
    ap (λ z. answer_of z ++ answers_told xs) (sym first) ∙ sym (answers_first x xs) ∙ f ∙ answers_first y ys in
    let rest = same_turn xs ys us vs n k a b (let z : xs ++ Line.Turn n a ∷ us ≡ ys ++ Line.Turn k b ∷ vs = cc e in z) (same_back (answer_of y) (answers_told xs) (answers_told ys) g) in
    (ap (λ z. z ∷ xs) first ∙ ap (λ z. y ∷ z) rest.0, rest.1, rest.2)
