-- A text read line by line from the left.
use Rattle.std.proofs.Common.{◌≡◌, ℕ, zero, suc, ◌+◌, ◌-◌, ◌<◌, ◌≤◌, Bool, true, false, ◌&&◌, cond, not, nat_lt, if◌then◌else◌, List, [], ◌∷◌, ◌++◌, Option, Some, None, Result, Ok, Err, position, count_by, length, take, drop, get_or, max, nat_le, ◌==◌, refl, inl, inr, ap, sym, subst, ◌∙◌, arith}
use Rattle.std.specs.Option.{option_map}
use Rattle.std.proofs.lemmas.Bool.{and_parts, cases_Bool, cases_lt, cond-false, cond-true, leb-true, le-ltb, lt-ltb, ne_eqb, not_from_false, not_from_true, or_parts}
use Rattle.std.specs.List.{list_all, slice_split, onto_first, position_or_len}
use Rattle.std.proofs.lemmas.List.Splits.{slice_split-cons_no}
use Rattle.std.proofs.lemmas.List.Sums.{sum_by-cons}
use Rattle.scenario_tree.specs.declared.tree.Scenario.{Scenario}
use Rattle.scenario_grammar.specs.declared.place.Place.{Place}
use Rattle.scenario_grammar.specs.Building.{Building}
use Rattle.scenario_grammar.specs.Layout.{Line, lines, lines_from, with_line, drop_blanks, is_end, is_text_byte, is_ended, is_blank, may_be_long, most_bytes, most_of}
use Rattle.scenario_grammar.specs.Parsed.{finished, read_line, read_lines, read_text, reading, nothing_yet, standing, scenario}
use Rattle.scenario_grammar.specs.Place.{at_the_end, line_at, last_line, place_in_bytes, too_large}
use Rattle.scenario_grammar.specs.declared.reason.TextReason.{TextReason}
use Rattle.scenario_grammar.specs.declared.reason.TextReason.TheVariants as reason
use Rattle.scenario_grammar.specs.Reason.{text_number}
use Rattle.scenario_lines.specs.Fronts.{is_printable}
use Rattle.scenario_lang.specs.Lines.{after_line, carried, ended_at, fault_from, line_text, outcome, placed, then_lines}

abbrev choose : Option Place → Result Scenario Place → Result Scenario Place
choose o r = elim o [ Some p ↦ Err p | None ↦ r ]

-- a printable byte is a text byte that ends no line
printable : (b : ℕ) → is_printable b ≡ true → (is_end b ≡ false) × (is_text_byte b ≡ true)
printable b h =
    let p : (nat_le 32 b ≡ true) × (nat_le b 126 ≡ true) = and_parts _ _ h in
    let low : 32 ≤ b = leb-true 32 b p.0 in
    let e : (b == 10) ≡ false = ne_eqb b 10 (λ q. omega (arith, low, q)) in
    (e, rw e h)

fault_printable : (n b c : ℕ) (bs : List ℕ) → is_printable b ≡ true → fault_from n (b ∷ c ∷ bs) ≡ fault_from n (c ∷ bs)
fault_printable n b c bs h = let p = printable b h in rw (p.1, p.0) refl

and_first : (a b : Bool) → (a && b) ≡ true → a ≡ true
and_first a b h = (and_parts a b h).0

and_second : (a b : Bool) → (a && b) ≡ true → b ≡ true
and_second a b h = (and_parts a b h).1

fault_line : (n : ℕ) (front rest : List ℕ) → list_all is_printable front ≡ true → fault_from n (front ++ 10 ∷ rest) ≡ fault_from (n + 1) rest
fault_line n [] [] h = refl
fault_line n [] (c ∷ cs) h = refl
fault_line n (b ∷ []) rest h = fault_printable n b 10 rest (and_first _ _ h) ∙ fault_line n [] rest refl
fault_line n (b ∷ c ∷ cs) rest h = fault_printable n b c (cs ++ 10 ∷ rest) (and_first _ _ h) ∙ fault_line n (c ∷ cs) rest (and_second _ _ h)

fault_byte : (n : ℕ) (front : List ℕ) (b : ℕ) (rest : List ℕ) → list_all is_printable front ≡ true → is_text_byte b ≡ false → fault_from n (front ++ b ∷ rest) ≡ Some (record { line = n; reason = text_number reason.NotPrintable })
fault_byte n [] b [] h e =
    let o : ((b == 10) ≡ false) × ((nat_le 32 b && nat_le b 126) ≡ false) = or_parts _ _ e in
    rw (o.0, o.1) refl
fault_byte n [] b (c ∷ cs) h e =
    let o : ((b == 10) ≡ false) × ((nat_le 32 b && nat_le b 126) ≡ false) = or_parts _ _ e in
    rw (o.0, o.1) refl
fault_byte n (a ∷ []) b rest h e = fault_printable n a b rest (and_first _ _ h) ∙ fault_byte n [] b rest refl e
fault_byte n (a ∷ c ∷ cs) b rest h e = fault_printable n a c (cs ++ b ∷ rest) (and_first _ _ h) ∙ fault_byte n (c ∷ cs) b rest (and_second _ _ h) e

fault_unended : (n : ℕ) (b : ℕ) (bs : List ℕ) → list_all is_printable (b ∷ bs) ≡ true → fault_from n (b ∷ bs) ≡ Some (record { line = n; reason = text_number reason.NotEnded })
fault_unended n b [] h = let p = printable b (and_first _ _ h) in rw (p.1, p.0) refl
fault_unended n b (c ∷ cs) h = fault_printable n b c cs (and_first _ _ h) ∙ fault_unended n c cs (and_second _ _ h)

count_cons : (b : ℕ) (bs : List ℕ) → count_by is_end (b ∷ bs) ≡ (if is_end b then 1 else 0) + count_by is_end bs
count_cons b bs = sum_by-cons _ b bs

count_line : (front rest : List ℕ) → list_all is_printable front ≡ true → count_by is_end (front ++ 10 ∷ rest) ≡ count_by is_end rest + 1
count_line [] rest h = omega (arith, count_cons 10 rest)
count_line (b ∷ bs) rest h =
    let p = printable b (and_first _ _ h) in
    let c = rw p.0 at (count_cons b (bs ++ 10 ∷ rest)) in
    omega (arith, c, count_line bs rest (and_second _ _ h))

split_line : (front rest : List ℕ) → list_all is_printable front ≡ true → slice_split is_end (front ++ 10 ∷ rest) ≡ front ∷ slice_split is_end rest
split_line [] rest h = refl
split_line (b ∷ bs) rest h =
    let p = printable b (and_first _ _ h) in
    let more : list_all is_printable bs ≡ true = and_second _ _ h in
    slice_split-cons_no is_end b (bs ++ 10 ∷ rest) p.0 ∙ ap (onto_first b) (split_line bs rest more)

first_part : (t : Bool) (x : ℕ) (ys : List (List ℕ)) → (part : List ℕ) × ((parts : List (List ℕ)) × (cond t ([] ∷ ys) (onto_first x ys) ≡ part ∷ parts))
first_part true x ys = ([], (ys, refl))
first_part false x [] = (x ∷ [], ([], refl))
first_part false x (y ∷ ys) = (x ∷ y, (ys, refl))

-- a split has a first part
split_cons : (xs : List ℕ) → (part : List ℕ) × ((parts : List (List ℕ)) × (slice_split is_end xs ≡ part ∷ parts))
split_cons [] = ([], ([], refl))
split_cons (x ∷ xs) = first_part (is_end x) x (slice_split is_end xs)

lines_first : (n : ℕ) (front rest : List ℕ) → lines_from n (front ∷ slice_split is_end rest) ≡ with_line n (drop_blanks front) (lines_from (n + 1) (slice_split is_end rest))
lines_first n front rest = let s = split_cons rest in rw s.1.1 refl

-- what the lines behind make of the answer to the lines before
abbrev go_on : List Line → Result Building Place → Result Building Place
go_on more (Ok b) = read_lines b more
go_on more (Err p) = Err p

placed_on : (n : ℕ) (more : List Line) (r : Result Building TextReason) → go_on more (placed n r) ≡ elim r [ Ok c ↦ read_lines c more | Err e ↦ Err (record { line = n; reason = text_number e }) ]
placed_on n more (Ok b) = refl
placed_on n more (Err r) = refl

carried_if : (t : Bool) (b : Building) (n : ℕ) (words : List (List ℕ)) (more : List Line)
    → go_on more (placed n (if t then Ok b else read_line b (record { number = n; words = words }))) ≡ read_lines b (if t then more else record { number = n; words = words } ∷ more)
unfolding read_lines
carried_if true b n words more = refl
carried_if false b n words more = placed_on n more (read_line b (record { number = n; words = words }))

carried_on : (b : Building) (n : ℕ) (d : List ℕ) (more : List Line) → go_on more (placed n (carried b n d)) ≡ read_lines b (with_line n d more)
carried_on b n [] more = refl
carried_on b n (c ∷ cs) more = carried_if (c == 35) b n (slice_split is_blank (c ∷ cs)) more

text_on : (b : Building) (n : ℕ) (text : List ℕ) (more : List Line) → go_on more (placed n (line_text b n text)) ≡ read_lines b (with_line n (drop_blanks text) more)
unfolding line_text
text_on b n text more = carried_on b n (drop_blanks text) more

then_on : (n : ℕ) (r : Result Building Place) (bytes : List ℕ) → then_lines n r bytes ≡ go_on (lines_from n (slice_split is_end bytes)) r
then_on n (Ok b) bytes = refl
then_on n (Err p) bytes = refl

lines_line : (n : ℕ) (before : Result Building Place) (front rest : List ℕ) → list_all is_printable front ≡ true → then_lines n before (front ++ 10 ∷ rest) ≡ then_lines (n + 1) (after_line n before front) rest
lines_line n (Err p) front rest h = refl
lines_line n (Ok b) front rest h =
    ap (λ parts. read_lines b (lines_from n parts)) (split_line front rest h)
    ∙ ap (read_lines b) (lines_first n front rest)
    ∙ sym (text_on b n front (lines_from (n + 1) (slice_split is_end rest)))
    ∙ sym (then_on (n + 1) (placed n (line_text b n front)) rest)

-- one line more
pub outcome_line : (n : ℕ) (before : Result Building Place) (front rest : List ℕ) → 1 ≤ n → list_all is_printable front ≡ true → outcome n before (front ++ 10 ∷ rest) ≡ outcome (n + 1) (after_line n before front) rest
outcome_line n before front rest more h =
    let c : n - 1 + count_by is_end (front ++ 10 ∷ rest) ≡ n + 1 - 1 + count_by is_end rest = omega (arith, count_line front rest h) in
    λ i. choose (fault_line n front rest h i) (ended_at (max 1 (c i)) (lines_line n before front rest h i))

pub outcome_byte : (n : ℕ) (before : Result Building Place) (front : List ℕ) (b : ℕ) (rest : List ℕ) → list_all is_printable front ≡ true → is_text_byte b ≡ false → outcome n before (front ++ b ∷ rest) ≡ Err (record { line = n; reason = text_number reason.NotPrintable })
outcome_byte n before front b rest h e = ap (λ o. choose o (ended_at (max 1 (n - 1 + count_by is_end (front ++ b ∷ rest))) (then_lines n before (front ++ b ∷ rest)))) (fault_byte n front b rest h e)

pub outcome_unended : (n : ℕ) (before : Result Building Place) (b : ℕ) (bs : List ℕ) → list_all is_printable (b ∷ bs) ≡ true → outcome n before (b ∷ bs) ≡ Err (record { line = n; reason = text_number reason.NotEnded })
outcome_unended n before b bs h = ap (λ o. choose o (ended_at (max 1 (n - 1 + count_by is_end (b ∷ bs))) (then_lines n before (b ∷ bs)))) (fault_unended n b bs h)

position_later : (a l : ℕ) → cond (nat_lt (1 + a) (suc l)) (Some (1 + a)) None ≡ option_map (λ i. suc i) (cond (nat_lt a l) (Some a) None)
position_later a l = elim (cases_lt a l) [
  | inl low ↦ (let e : 1 + a ≡ suc a = omega arith in rw (lt-ltb a l low, lt-ltb (1 + a) (suc l) (omega (arith, low))) (ap Some e))
  | inr high ↦ rw (le-ltb a l high, le-ltb (1 + a) (suc l) (omega (arith, high))) refl
]

pub position_cons : (p : ℕ → Bool) (x : ℕ) (xs : List ℕ) → position p (x ∷ xs) ≡ (if p x then Some 0 else option_map (λ i. suc i) (position p xs))
position_cons p x xs = elim (cases_Bool (p x)) [
  | inl passes ↦ rw (passes, lt-ltb 0 (suc (length xs)) (omega arith)) refl
  | inr fails ↦ rw fails (position_later (position_or_len p xs) (length xs))
]

abbrev fault_by : ℕ → List ℕ → Option ℕ → Option Place
fault_by n bytes o = elim o [
  | Some i ↦ Some (record { line = count_by is_end (take i bytes) + n; reason = text_number reason.NotPrintable })
  | None ↦ if is_ended bytes then None else Some (record { line = count_by is_end bytes + n; reason = text_number reason.NotEnded })
]

-- the fault of the bytes from line n on, as the grammar says it
abbrev fault_at : ℕ → List ℕ → Option Place
fault_at n bytes = fault_by n bytes (position (λ b. not (is_text_byte b)) bytes)

abbrev marked : ℕ → TextReason → Option Place
marked n r = Some (record { line = n; reason = text_number r })

count_move : (n b : ℕ) (bs : List ℕ) → count_by is_end (b ∷ bs) + n ≡ count_by is_end bs + (if is_end b then n + 1 else n)
count_move n b bs = elim (cases_Bool (is_end b)) [
  | inl ends ↦ (let c = rw ends at (count_cons b bs) in rw ends (omega (arith, c)))
  | inr not_end ↦ (let c = rw not_end at (count_cons b bs) in rw not_end (omega (arith, c)))
]

fault_move : (n b c : ℕ) (cs : List ℕ) (o : Option ℕ) → fault_by n (b ∷ c ∷ cs) (option_map (λ i. suc i) o) ≡ fault_by (if is_end b then n + 1 else n) (c ∷ cs) o
fault_move n b c cs (Some i) = ap (λ k. marked k reason.NotPrintable) (count_move n b (take i (c ∷ cs)))
fault_move n b c cs None = ap (λ k. if is_ended (c ∷ cs) then None else marked k reason.NotEnded) (count_move n b (c ∷ cs))

at_bad : (b : ℕ) (bs : List ℕ) → is_text_byte b ≡ false → position (λ x. not (is_text_byte x)) (b ∷ bs) ≡ Some 0
at_bad b bs e = position_cons (λ x. not (is_text_byte x)) b bs ∙ cond-true _ _ _ (not_from_false _ e)

past_text : (b : ℕ) (bs : List ℕ) → is_text_byte b ≡ true → position (λ x. not (is_text_byte x)) (b ∷ bs) ≡ option_map (λ i. suc i) (position (λ x. not (is_text_byte x)) bs)
past_text b bs e = position_cons (λ x. not (is_text_byte x)) b bs ∙ cond-false _ _ _ (not_from_true _ e)

fault_here : (n b : ℕ) (bs : List ℕ) → is_text_byte b ≡ false → fault_at n (b ∷ bs) ≡ fault_from n (b ∷ bs)
fault_here n b bs e =
    let z : 0 + n ≡ n = omega arith in
    ap (fault_by n (b ∷ bs)) (at_bad b bs e) ∙ ap (λ k. marked k reason.NotPrintable) z ∙ sym (fault_byte n [] b bs refl e)

last_if : (t : Bool) (k n : ℕ) → (t ≡ false → k ≡ n) → (let p : Option Place = if t then None else Some (record { line = k; reason = text_number reason.NotEnded }) in p) ≡ (if t then None else Some (record { line = n; reason = text_number reason.NotEnded }))
last_if true k n e = refl
last_if false k n e = ap (λ m. let p : Option Place = Some (record { line = m; reason = text_number reason.NotEnded }) in p) (e refl)

last_from : (n b : ℕ) → is_text_byte b ≡ true → fault_from n (b ∷ []) ≡ (if is_end b then None else marked n reason.NotEnded)
last_from n b e = ap (λ t. if is_end b then None else marked n (if t then reason.NotEnded else reason.NotPrintable)) e

fault_last : (n b : ℕ) → is_text_byte b ≡ true → fault_at n (b ∷ []) ≡ fault_from n (b ∷ [])
fault_last n b e =
    ap (fault_by n (b ∷ [])) (past_text b [] e)
    ∙ last_if (is_end b) (count_by is_end (b ∷ []) + n) n (λ f. rw f (omega arith))
    ∙ sym (last_from n b e)

step_from : (n b c : ℕ) (cs : List ℕ) → is_text_byte b ≡ true → fault_from n (b ∷ c ∷ cs) ≡ fault_from (if is_end b then n + 1 else n) (c ∷ cs)
step_from n b c cs e = cond-true _ _ _ e

fault_is : (n : ℕ) (bytes : List ℕ) → fault_at n bytes ≡ fault_from n bytes
fault_is n [] = refl
fault_is n (b ∷ []) = elim (cases_Bool (is_text_byte b)) [ inl text ↦ fault_last n b text | inr bad ↦ fault_here n b [] bad ]
fault_is n (b ∷ c ∷ cs) = elim (cases_Bool (is_text_byte b)) [
  | inl text ↦ (ap (fault_by n (b ∷ c ∷ cs)) (past_text b (c ∷ cs) text)
      ∙ fault_move n b c cs (position (λ x. not (is_text_byte x)) (c ∷ cs))
      ∙ fault_is (if is_end b then n + 1 else n) (c ∷ cs)
      ∙ sym (step_from n b c cs text))
  | inr bad ↦ fault_here n b (c ∷ cs) bad
]

finished_at : (bytes : List ℕ) (r : Result Building Place) → elim r [ Ok b ↦ finished bytes b | Err p ↦ Err p ] ≡ ended_at (max 1 (1 - 1 + count_by is_end bytes)) r
finished_at bytes (Ok b) = let z : 1 - 1 + count_by is_end bytes ≡ count_by is_end bytes = omega arith in rw z refl
finished_at bytes (Err p) = refl

read_all : (bytes : List ℕ) → read_text bytes ≡ ended_at (max 1 (1 - 1 + count_by is_end bytes)) (then_lines 1 (Ok nothing_yet) bytes)
unfolding lines
read_all bytes = finished_at bytes (read_lines nothing_yet (lines_from 1 (slice_split is_end bytes)))

-- where the text is not too long, the whole is what the grammar reads
pub outcome_all : (bytes : List ℕ) → length bytes ≤ most_bytes bytes → reading bytes ≡ outcome 1 (Ok nothing_yet) bytes
unfolding reading
outcome_all bytes h =
    let p : place_in_bytes bytes ≡ fault_from 1 bytes = cond-false _ _ _ (le-ltb (most_bytes bytes) (length bytes) h) ∙ fault_is 1 bytes in
    ap (λ o. choose o (read_text bytes)) p ∙ ap (choose (fault_from 1 bytes)) (read_all bytes)

pub too_long : (bytes : List ℕ) → most_bytes bytes < length bytes → reading bytes ≡ Err (record { line = line_at (most_bytes bytes) bytes; reason = text_number (too_large (may_be_long bytes)) })
unfolding reading
too_long bytes h = ap (λ o. choose o (read_text bytes)) (cond-true _ _ _ (lt-ltb (most_bytes bytes) (length bytes) h))

-- the same, by what was found of the text
pub too_long_by : (bytes : List ℕ) (line most : ℕ) (long : Bool) (why : TextReason) → most ≡ most_of long → long ≡ may_be_long bytes → most < length bytes → line ≡ line_at most bytes → why ≡ too_large long
    → reading bytes ≡ Err (record { line = line; reason = text_number why })
too_long_by bytes line most long why m l h at so =
    let whole : most ≡ most_bytes bytes = m ∙ ap most_of l in
    let place : line ≡ line_at (most_bytes bytes) bytes = at ∙ ap (λ n. line_at n bytes) whole in
    let reason_is : why ≡ too_large (may_be_long bytes) = so ∙ ap too_large l in
    let found : Place = record { line = line; reason = text_number why } in
    let told : Place = record { line = line_at (most_bytes bytes) bytes; reason = text_number (too_large (may_be_long bytes)) } in
    let same : found ≡ told = λ i. record { line = place i; reason = text_number (reason_is i) } in
    too_long bytes (subst (λ n. n < length bytes) whole h) ∙ ap (λ p. let r : Result Scenario Place = Err p in r) (sym same)

pub outcome_unended_all : (n : ℕ) (before : Result Building Place) (bytes : List ℕ) → 0 < length bytes → list_all is_printable bytes ≡ true → outcome n before bytes ≡ Err (record { line = n; reason = text_number reason.NotEnded })
outcome_unended_all n before [] more h = absurd (omega (arith, more))
outcome_unended_all n before (b ∷ bs) more h = outcome_unended n before b bs h

then_none : (n : ℕ) (before : Result Building Place) → then_lines n before [] ≡ before
unfolding read_lines
then_none n (Ok b) = refl
then_none n (Err p) = refl

-- the text ends
pub outcome_end : (n : ℕ) (before : Result Building Place) (bytes : List ℕ) → length bytes ≡ 0 → outcome n before bytes ≡ ended_at (max 1 (n - 1)) before
outcome_end n before [] e = let z : n - 1 + 0 ≡ n - 1 = omega arith in ap (λ k. ended_at (max 1 k) (then_lines n before [])) z ∙ ap (ended_at (max 1 (n - 1))) (then_none n before)
outcome_end n before (b ∷ bs) e = absurd (omega (arith, e))
