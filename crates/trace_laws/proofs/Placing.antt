-- Where the last line of a text begins.
use Rattle.std.proofs.Common.{◌≡◌, ◌≢◌, ℕ, zero, suc, ◌+◌, ◌-◌, ◌<◌, ◌≤◌, true, false, inl, inr, List, [], ◌∷◌, ◌++◌, length, take, drop, get_or, filter, refl, ap, sym, ◌∙◌, subst, arith, length-append, append_assoc}
use Rattle.std.proofs.lemmas.Bool.{and_parts, cases_lt}
use Rattle.std.proofs.lemmas.Bool.Decides.{nat_tests}
use Rattle.std.proofs.lemmas.Grind.{common_steps}
use Rattle.std.proofs.lemmas.List.{take_more, take-append-drop}
use Rattle.std.proofs.lemmas.List.Elements.{filter-append}
use Rattle.std.proofs.lemmas.List.Sums.{count_by-le-length, length-filter}
use Rattle.std.proofs.Math.Seq.{take-append_seam, take-length, drop-length}
use Rattle.std.specs.List.{list_all}
use Rattle.gv_values.specs.Texts.{Text}
use Rattle.trace_text.specs.declared.line.Line.{Line}
use Rattle.trace_text.specs.Line.{line_text, text_of}
use Rattle.trace_reader.specs.Ranges.{LinesFit}
use Rattle.trace_laws.specs.Places.{IsLastLine}
use Rattle.trace_laws.specs.Reads.{feeds, is_feed}
use Rattle.trace_laws.proofs.Feeds.{no_feed}
use Rattle.trace_laws.proofs.Printed.{ArePrinted, is_printed, line_printed}

-- ---- counts of line feeds

pub feeds_append : (xs ys : Text) → feeds (xs ++ ys) ≡ feeds xs + feeds ys
feeds_append xs ys = ap (length {A = ℕ}) (filter-append is_feed xs ys) ∙ length-append (filter is_feed xs) (filter is_feed ys)

pub printed_feeds : (xs : Text) → ArePrinted xs → feeds xs ≡ 0
printed_feeds [] h = refl
printed_feeds (x ∷ xs) h =
    let p = and_parts (is_printed x) (list_all is_printed xs) h in
    let here : is_feed x ≡ false = no_feed x p.0 in
    rw here (printed_feeds xs p.1)

pub feeds_lines : (lines : List Line) → LinesFit lines → feeds (text_of lines) ≡ length lines
feeds_lines [] h = refl
feeds_lines (l ∷ lines) h =
    let one : feeds (10 ∷ text_of lines) ≡ suc (feeds (text_of lines)) = refl in
    let none : feeds (line_text l) ≡ 0 = printed_feeds (line_text l) (line_printed l h.0) in
    let all : feeds (line_text l ++ 10 ∷ text_of lines) ≡ feeds (line_text l) + feeds (10 ∷ text_of lines) = feeds_append (line_text l) (10 ∷ text_of lines) in
    let rest : feeds (text_of lines) ≡ length lines = feeds_lines lines h.1 in
    let long : length (l ∷ lines) ≡ suc (length lines) = refl in
    omega arith

pub few_feeds : (xs : Text) → feeds xs ≤ length xs
few_feeds xs = omega (arith, length-filter is_feed xs, count_by-le-length is_feed xs)

-- ---- one byte more

pub place_first : IsLastLine [] 0 0
place_first = record { within = omega arith; lines_are = refl; begins = inl refl; none = refl }

take_within : (xs ys : Text) (n : ℕ) → n ≤ length xs → take n (xs ++ ys) ≡ take n xs
take_within xs ys n h = grind (arith, common_steps)

drop_within : (xs ys : Text) (n : ℕ) → n ≤ length xs → drop n (xs ++ ys) ≡ drop n xs ++ ys
drop_within xs ys n h = grind (arith, common_steps)

at_within : (xs ys : Text) (n : ℕ) → n < length xs → get_or (xs ++ ys) n 0 ≡ get_or xs n 0
at_within xs ys n h = grind (arith, common_steps)

at_seam : (xs : Text) (b : ℕ) → get_or (xs ++ b ∷ []) (length xs) 0 ≡ b
at_seam xs b = grind (arith, common_steps)

place_feed : (xs : Text) (b lines start : ℕ) → b ≡ 10 → IsLastLine xs lines start → IsLastLine (xs ++ b ∷ []) (lines + 1) (length xs + 1)
place_feed xs b lines start e p =
    let long : length (xs ++ b ∷ []) ≡ length xs + 1 = length-append xs (b ∷ []) in
    let whole : feeds xs ≡ feeds (take start xs) + feeds (drop start xs) = ap feeds (sym (take-append-drop start xs)) ∙ feeds_append (take start xs) (drop start xs) in
    let none : feeds (drop start xs) ≡ 0 = p.none in
    let lines_are : lines ≡ feeds (take start xs) = p.lines_are in
    let all : feeds (xs ++ b ∷ []) ≡ feeds xs + feeds (b ∷ []) = feeds_append xs (b ∷ []) in
    let one : feeds (b ∷ []) ≡ 1 = ap (λ n. feeds (n ∷ [])) e in
    let back : length xs + 1 - 1 ≡ length xs = omega arith in
    record {
      within = omega arith;
      lines_are = (let k : lines + 1 ≡ feeds (xs ++ b ∷ []) = omega arith in k) ∙ ap feeds (sym (take-length (xs ++ b ∷ [])) ∙ ap (λ n. take n (xs ++ b ∷ [])) long);
      begins = inr (ap (λ n. get_or (xs ++ b ∷ []) n 0) back ∙ at_seam xs b ∙ e);
      none = ap feeds (ap (λ n. drop n (xs ++ b ∷ [])) (sym long) ∙ drop-length (xs ++ b ∷ []));
    }

place_other : (xs : Text) (b lines start : ℕ) → b ≢ 10 → IsLastLine xs lines start → IsLastLine (xs ++ b ∷ []) lines start
place_other xs b lines start n p =
    let long : length (xs ++ b ∷ []) ≡ length xs + 1 = length-append xs (b ∷ []) in
    let test : is_feed b ≡ false = grind (arith, nat_tests) in
    let one : feeds (b ∷ []) ≡ 0 = rw test in
    record {
      within = omega (arith, p.within);
      lines_are = p.lines_are ∙ ap feeds (sym (take_within xs (b ∷ []) start p.within));
      begins = elim p.begins [
        | inl z ↦ inl z
        | inr f ↦ elim (cases_lt 0 start) [
          | inl pos ↦ inr (at_within xs (b ∷ []) (start - 1) (omega (arith, p.within)) ∙ f)
          | inr none ↦ inl (omega arith)
        ]
      ];
      none = ap feeds (drop_within xs (b ∷ []) start p.within) ∙ feeds_append (drop start xs) (b ∷ []) ∙ ap (λ k. feeds (drop start xs) + k) one ∙ (let k : feeds (drop start xs) + 0 ≡ 0 = omega (arith, p.none) in k);
    }

-- the same at a place of a text
pub more_feed : (text : Text) (i b lines start : ℕ) → i < length text → b ≡ get_or text i 0 → b ≡ 10 → IsLastLine (take i text) lines start → IsLastLine (take (i + 1) text) (lines + 1) (i + 1)
more_feed text i b lines start h at e p =
    let long : length (take i text) ≡ i = grind (arith, common_steps) in
    let more : take (i + 1) text ≡ take i text ++ b ∷ [] = take_more text i 0 h ∙ ap (λ k. take i text ++ k ∷ []) (sym at) in
    subst (λ t. IsLastLine t (lines + 1) (i + 1)) (sym more) (subst (λ n. IsLastLine (take i text ++ b ∷ []) (lines + 1) (n + 1)) long (place_feed (take i text) b lines start e p))

pub more_other : (text : Text) (i b lines start : ℕ) → i < length text → b ≡ get_or text i 0 → b ≢ 10 → IsLastLine (take i text) lines start → IsLastLine (take (i + 1) text) lines start
more_other text i b lines start h at n p =
    let more : take (i + 1) text ≡ take i text ++ b ∷ [] = take_more text i 0 h ∙ ap (λ k. take i text ++ k ∷ []) (sym at) in
    subst (λ t. IsLastLine t lines start) (sym more) (place_other (take i text) b lines start n p)

-- ---- the place is told

-- a text of lines ends with a line feed, or is empty
last_byte : (l : Line) (lines : List Line) → (front : Text) × (text_of (l ∷ lines) ≡ front ++ 10 ∷ [])
last_byte l [] = (line_text l, refl)
last_byte l (m ∷ lines) =
    let r = last_byte m lines in
    (line_text l ++ 10 ∷ r.0, ap (λ t. line_text l ++ 10 ∷ t) r.1 ∙ sym (append_assoc (line_text l) (10 ∷ r.0) (10 ∷ [])))

-- a line feed behind the place
feed_after : (xs ys : Text) (start : ℕ) → start ≤ length xs → 1 ≤ feeds (drop start ((xs ++ 10 ∷ []) ++ ys))
feed_after xs ys start h =
    let cut : drop start ((xs ++ 10 ∷ []) ++ ys) ≡ drop start xs ++ (10 ∷ ys) = ap (drop start) (append_assoc xs (10 ∷ []) ys) ∙ drop_within xs (10 ∷ ys) start h in
    let all : feeds (drop start xs ++ (10 ∷ ys)) ≡ feeds (drop start xs) + feeds (10 ∷ ys) = feeds_append (drop start xs) (10 ∷ ys) in
    let one : feeds (10 ∷ ys) ≡ suc (feeds ys) = refl in
    let here : feeds (drop start ((xs ++ 10 ∷ []) ++ ys)) ≡ feeds (drop start xs ++ (10 ∷ ys)) = ap feeds cut in
    omega arith

-- a line feed in a text is counted
feed_in : (ys : Text) (k : ℕ) → k < length ys → get_or ys k 0 ≡ 10 → 1 ≤ feeds ys
feed_in [] k h e = grind arith
feed_in (y ∷ ys) zero h e =
    let test : is_feed y ≡ true = grind (arith, nat_tests) in
    let one : feeds (y ∷ ys) ≡ suc (feeds ys) = rw test in
    omega arith
feed_in (y ∷ ys) (suc k) h e =
    let rest : 1 ≤ feeds ys = feed_in ys k (omega arith) e in
    let all : feeds (y ∷ ys) ≡ feeds (y ∷ []) + feeds ys = feeds_append (y ∷ []) ys in
    omega arith

same_start : (before : List Line) (front : Text) (lines start : ℕ) → LinesFit before → feeds front ≡ 0 → IsLastLine (text_of before ++ front) lines start → start ≡ length (text_of before)
same_start before front lines start fit none p = elim (cases_lt start (length (text_of before))) [
  | inl less ↦ absurd (too_early before less)
  | inr most ↦ elim (cases_lt (length (text_of before)) start) [
    | inl more ↦ absurd (too_late more)
    | inr least ↦ omega arith
  ]
]
  where
    too_early : (before' : List Line) → start < length (text_of before) → ⊥
    too_early before' less = early before refl
      where
        early : (ls : List Line) → before ≡ ls → ⊥
        early [] e = let z : length (text_of before) ≡ 0 = ap (λ ls. length (text_of ls)) e in absurd (omega arith)
        early (l ∷ ls) e =
            let r = last_byte l ls in
            let text : text_of before ≡ r.0 ++ 10 ∷ [] = ap text_of e ∙ r.1 in
            let long : length (text_of before) ≡ length r.0 + 1 = ap (length {A = ℕ}) text ∙ length-append r.0 (10 ∷ []) in
            let found : 1 ≤ feeds (drop start ((r.0 ++ 10 ∷ []) ++ front)) = feed_after r.0 front start (omega arith) in
            let here : feeds (drop start ((r.0 ++ 10 ∷ []) ++ front)) ≡ 0 = ap (λ t. feeds (drop start (t ++ front))) (sym text) ∙ p.none in
            absurd (omega arith)

    too_late : length (text_of before) < start → ⊥
    too_late more = elim p.begins [
      | inl z ↦ absurd (omega arith)
      | inr f ↦
          let long : length (text_of before ++ front) ≡ length (text_of before) + length front = length-append (text_of before) front in
          let k = start - 1 - length (text_of before) in
          let inside : k < length front = omega (arith, p.within) in
          let at : get_or front k 0 ≡ 10 = at_behind (text_of before) front (start - 1) (omega arith) ∙ f in
          let found : 1 ≤ feeds front = feed_in front k inside at in
          absurd (omega arith)
    ]
      where
        at_behind : (xs ys : Text) (n : ℕ) → length xs ≤ n → get_or ys (n - length xs) 0 ≡ get_or (xs ++ ys) n 0
        at_behind xs ys n h = grind (arith, common_steps)

pub placed : (before : List Line) (front : Text) (lines start : ℕ) → LinesFit before → feeds front ≡ 0 → IsLastLine (text_of before ++ front) lines start →
    (start ≡ length (text_of before)) × (lines ≡ length before)
placed before front lines start fit none p =
    let s = same_start before front lines start fit none p in (
      s,
      p.lines_are ∙ ap (λ n. feeds (take n (text_of before ++ front))) s ∙ ap feeds (take-append_seam (text_of before) front) ∙ feeds_lines before fit,
    )
