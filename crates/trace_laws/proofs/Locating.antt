-- In which line a text of lines departs from another text, and what tells that it is a turn line.
use Rattle.std.proofs.Common.{◌≡◌, ℕ, suc, ◌+◌, ◌*◌, ◌<◌, ◌≤◌, ◌^◌, true, false, not, List, [], ◌∷◌, ◌++◌, length, Option, Some, codes, refl, ap, sym, ◌∙◌, append_assoc, arith, filter, length-append}
use Rattle.std.specs.List.{list_all}
use Rattle.std.proofs.lemmas.Bool.{and_parts}
use Rattle.std.proofs.lemmas.List.Elements.{filter-append}
use Rattle.std.proofs.lemmas.Bool.Decides.{nat_tests}
use Rattle.gv_values.specs.declared.job.Answer.{Answer}
use Rattle.gv_values.specs.Texts.{Text, decimal}
use Rattle.trace_text.specs.declared.line.Line.{Line}
use Rattle.trace_text.specs.declared.line.Resumed.{Resumed}
use Rattle.trace_text.specs.Line.{answer_text, line_text, text_of}
use Rattle.trace_reader.specs.Fronts.{number_front}
use Rattle.trace_reader.specs.Ranges.{LineFits}
use Rattle.trace_reader.proofs.Readers.{number_read}
use Rattle.trace_laws.specs.Reads.{blanks, is_blank}
use Rattle.trace_laws.proofs.Pieces.{Cut, Reach, cut, reach}
use Rattle.trace_laws.proofs.Printed.{digits_all}
use Rattle.trace_laws.proofs.Lines.{line_first}

-- the byte b behind m stands in this line, or is its LF
pub record Located (m : Text) (b : ℕ) (lines : List Line) : Type 0 where
  pub before : List Line
  pub next : Line
  pub after : List Line
  pub front : Text
  pub back : Text
  pub is : lines ≡ before ++ next ∷ after
  pub matched : m ≡ text_of before ++ front
  pub byte : line_text next ++ 10 ∷ [] ≡ front ++ b ∷ back

pub located : (m : Text) (b : ℕ) (z : Text) (lines : List Line) → m ++ b ∷ z ≡ text_of lines → Located m b lines
located [] b z [] e = absurd (let f : ⊥ = cc e in f)
located (x ∷ m) b z [] e = absurd (let f : ⊥ = cc e in f)
located m b z (l ∷ lines) e = by (λ front g. located front b z lines g) (cut m b z (line_text l) 10 (text_of lines) e)
  where
    by : ((front : Text) → front ++ b ∷ z ≡ text_of lines → Located front b lines) → Cut m b z (line_text l) 10 (text_of lines) → Located m b (l ∷ lines)
    by later (Cut.Inside back f) = record { before = []; next = l; after = lines; front = m; back = back; is = refl; matched = refl; byte = f }
    by later (Cut.Behind front f g) =
        let r = later front g in
        record {
          before = l ∷ r.before;
          next = r.next;
          after = r.after;
          front = r.front;
          back = r.back;
          is = ap (λ ls. l ∷ ls) r.is;
          matched = f ∙ ap (λ t. line_text l ++ 10 ∷ t) r.matched ∙ sym (line_first l r.before r.front);
          byte = r.byte;
        }

-- ---- turn lines

-- how a turn line of this number begins, without the blank behind the number
abbrev pub turn_head : ℕ → Text
turn_head k = codes "turn " ++ decimal k

pub turn_text : (k : ℕ) (a : Answer) (r : Text) → line_text (Line.Turn k a) ++ r ≡ turn_head k ++ 32 ∷ (answer_text a ++ r)
turn_text k a r = append_assoc (turn_head k ++ codes " ") (answer_text a) r ∙ append_assoc (turn_head k) (codes " ") (answer_text a ++ r)

-- the first two bytes as one number
abbrev two : Text → ℕ
two [] = 0
two (x ∷ []) = 0
two (x ∷ y ∷ bs) = x * 256 + y

-- a line that begins so is a turn line of this number
pub turn_told : (l : Line) (k : ℕ) (w : Text) → LineFits l → k < 2 ^ 64 → line_text l ++ 10 ∷ [] ≡ turn_head k ++ 32 ∷ w → (a : Answer) × (l ≡ Line.Turn k a)
turn_told (Line.Start g name) k w h f e = let d : two (codes "st") ≡ two (codes "tu") = ap two e in absurd (omega arith)
turn_told (Line.Print g v) k w h f e = let d : two (codes "pr") ≡ two (codes "tu") = ap two e in absurd (omega arith)
turn_told (Line.Park g a u) k w h f e = let d : two (codes "pa") ≡ two (codes "tu") = ap two e in absurd (omega arith)
turn_told (Line.Resume g Resumed.Wake) k w h f e = let d : two (codes "wa") ≡ two (codes "tu") = ap two e in absurd (omega arith)
turn_told (Line.Resume g Resumed.Late) k w h f e = let d : two (codes "la") ≡ two (codes "tu") = ap two e in absurd (omega arith)
turn_told (Line.Throw g x) k w h f e = let d : two (codes "th") ≡ two (codes "tu") = ap two e in absurd (omega arith)
turn_told (Line.Into g o) k w h f e = let d : two (codes "in") ≡ two (codes "tu") = ap two e in absurd (omega arith)
turn_told (Line.End g o) k w h f e = let d : two (codes "en") ≡ two (codes "tu") = ap two e in absurd (omega arith)
turn_told (Line.Link n g c) k w h f e = let d : two (codes "li") ≡ two (codes "tu") = ap two e in absurd (omega arith)
turn_told (Line.Job j g c) k w h f e = let d : two (codes "jo") ≡ two (codes "tu") = ap two e in absurd (omega arith)
turn_told (Line.Block b) k w h f e = let d : two (codes "bl") ≡ two (codes "tu") = ap two e in absurd (omega arith)
turn_told (Line.Stop c t m) k w h f e = let d : two (codes "st") ≡ two (codes "tu") = ap two e in absurd (omega arith)
turn_told (Line.Turn n a) k w h f e =
    let heads : turn_head n ++ 32 ∷ (answer_text a ++ 10 ∷ []) ≡ turn_head k ++ 32 ∷ w = sym (turn_text n a (10 ∷ [])) ∙ e in
    let numbers : decimal n ++ 32 ∷ (answer_text a ++ 10 ∷ []) ≡ decimal k ++ 32 ∷ w = behind heads in
    let same = same_number n k _ _ (sym (number_read n (32 ∷ (answer_text a ++ 10 ∷ [])) h.0 refl) ∙ ap number_front numbers ∙ number_read k (32 ∷ w) f refl) in
    (a, ap (λ i. Line.Turn i a) same)
  where
    behind : {x y : Text} → codes "turn " ++ x ≡ codes "turn " ++ y → x ≡ y
    behind e = cc e

    same_number : (n k : ℕ) (x y : Text) → ◌≡◌ {A = Option (ℕ × Text)} (Some (n, x)) (Some (k, y)) → n ≡ k
    same_number n k x y e =
        let parts : ◌≡◌ {A = ℕ × Text} (n, x) (k, y) = cc e in
        ap (λ (q : ℕ × Text). q.0) parts

-- ---- blanks

blanks_append : (xs ys : Text) → blanks (xs ++ ys) ≡ blanks xs + blanks ys
blanks_append xs ys = ap (length {A = ℕ}) (filter-append is_blank xs ys) ∙ length-append (filter is_blank xs) (filter is_blank ys)

digit_is_no_blank : (d : ℕ) → d < 10 → not (is_blank (48 + d)) ≡ true
digit_is_no_blank d h = grind (arith, nat_tests)

no_blanks : (xs : Text) → list_all (λ b. not (is_blank b)) xs ≡ true → blanks xs ≡ 0
no_blanks [] h = refl
no_blanks (x ∷ xs) h =
    let p = and_parts (not (is_blank x)) (list_all (λ b. not (is_blank b)) xs) h in
    let here : is_blank x ≡ false = grind (arith, nat_tests) in
    rw here (no_blanks xs p.1)

-- before its number's end a turn line has one blank
head_blanks : (k : ℕ) → blanks (turn_head k) ≡ 1
head_blanks k =
    blanks_append (codes "turn ") (decimal k) ∙ ap (λ n. 1 + n) (no_blanks (decimal k) (digits_all (λ b. not (is_blank b)) digit_is_no_blank (suc k) k))

-- a text that has two blanks of a turn line has its number and the blank behind it
pub head_matched : (u after : Text) (k : ℕ) (p : Text) → u ++ after ≡ turn_head k ++ 32 ∷ p → 2 ≤ blanks u → (more : Text) × (u ≡ turn_head k ++ 32 ∷ more)
head_matched u after k p e h = by (reach u after (turn_head k) 32 p e)
  where
    by : Reach u (turn_head k) 32 → (more : Text) × (u ≡ turn_head k ++ 32 ∷ more)
    by (Reach.Past more f) = (more, f)
    by (Reach.Within d f) =
        let all : blanks u + blanks d ≡ 1 = sym (blanks_append u d) ∙ ap blanks (sym f) ∙ head_blanks k in
        absurd (omega arith)

pub head_two : (k : ℕ) (more : Text) → 2 ≤ blanks (turn_head k ++ 32 ∷ more)
head_two k more =
    let all : blanks (turn_head k ++ 32 ∷ more) ≡ blanks (turn_head k) + blanks (32 ∷ more) = blanks_append (turn_head k) (32 ∷ more) in
    let one : blanks (32 ∷ more) ≡ suc (blanks more) = refl in
    let head : blanks (turn_head k) ≡ 1 = head_blanks k in
    omega arith
