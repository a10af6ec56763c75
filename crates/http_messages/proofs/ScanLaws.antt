-- What scans for line ends keep.
use Rattle.std.proofs.Common.{◌≡◌, ℕ, zero, suc, ◌+◌, ◌-◌, ◌<◌, ◌≤◌, Bool, true, false, ◌&&◌, cond, List, [], ◌∷◌, ◌++◌, length, take, drop, refl, sym, ap, ◌∙◌, subst, arith, append-nil, append_assoc, length-drop, le_refl, get_or, drop-cons, Option, Some, None, inl, inr}
use Rattle.std.proofs.lemmas.Bool.{cases_Bool, cond_both, cond-true, cond-false, eqb-true, false_from_ne_true}
use Rattle.std.proofs.lemmas.List.{take_more, take-append-drop, take_all}
use Rattle.std.proofs.lemmas.List.Sums.{position_or_len_is, prefix_len-le-length}
use Rattle.std.proofs.Math.Seq.{take-add}
use Rattle.std.specs.Prelude.{option_map, nat_lt, not, ◌==◌}
use Rattle.std.specs.List.{position_or_len}
use Rattle.memchr.specs.Find.{NoneBefore, Nowhere, Passes, is_byte}
use Rattle.http_messages.specs.declared.scan.LinePlace.{LinePlace}
use Rattle.http_messages.specs.declared.scan.LinePlace.TheVariants.{Start, AfterReturn, Within}
use Rattle.http_messages.specs.Cuts.{is_lf, empty_line, empty_line_end, line_end}
use Rattle.http_messages.specs.Scans.{is_empty_so_far, scanned_end, Resumes}

abbrev one_more : Option ℕ → Option ℕ
one_more o = option_map (λ n. n + 1) o

-- an LF that ends one
pub scan_found : (place : LinePlace) (b : ℕ) (bytes : List ℕ) → (is_empty_so_far place && is_lf b) ≡ true → scanned_end place (b ∷ bytes) ≡ Some 1
scan_found place b bytes e = cond-true (is_empty_so_far place && is_lf b) (Some 1) _ e

-- ---- the scan is the definition

empty_line_no : (b : ℕ) (bytes : List ℕ) → is_lf b ≡ false → (b == 13) ≡ false → empty_line (b ∷ bytes) ≡ 0
empty_line_no b [] e f = cond-false (is_lf b) 1 0 e
empty_line_no b (c ∷ bytes) e f = cond-false (is_lf b) 1 _ e ∙ (λ i. cond (f i && is_lf c) 2 0)

empty_line_lf : (b : ℕ) (bytes : List ℕ) → is_lf b ≡ true → empty_line (b ∷ bytes) ≡ 1
empty_line_lf b [] e = cond-true (is_lf b) 1 0 e
empty_line_lf b (c ∷ bytes) e = cond-true (is_lf b) 1 _ e

record LineStarts (bytes : List ℕ) : Type 0 where
  start : scanned_end Start bytes ≡ empty_line_end true bytes
  within : scanned_end Within bytes ≡ empty_line_end false bytes
  behind : one_more (scanned_end AfterReturn bytes) ≡ empty_line_end true (13 ∷ bytes)

line_starts : (bytes : List ℕ) → LineStarts bytes
line_starts [] = record { start = refl; within = refl; behind = refl }
line_starts (b ∷ bytes) =
    let ih = line_starts bytes in
    record { start = at_start ih; within = at_within ih (is_lf b); behind = at_behind ih (is_lf b) }
  where
    at_within : LineStarts bytes → (t : Bool) → one_more (scanned_end (cond t Start Within) bytes) ≡ one_more (empty_line_end t bytes)
    at_within ih true = ap one_more ih.start
    at_within ih false = ap one_more ih.within

    at_behind : LineStarts bytes → (t : Bool)
        → one_more (cond t (Some 1) (one_more (scanned_end (cond t Start Within) bytes)))
        ≡ cond (nat_lt 0 (cond t 2 0)) (Some (cond t 2 0)) (one_more (one_more (empty_line_end t bytes)))
    at_behind ih true = refl
    at_behind ih false = ap (λ (o : Option ℕ). one_more (one_more o)) ih.within

    at_start : LineStarts bytes → scanned_end Start (b ∷ bytes) ≡ empty_line_end true (b ∷ bytes)
    at_start ih = elim (cases_Bool (is_lf b)) [
      | inl lf ↦
          let one = empty_line_lf b bytes lf in
          cond-true (is_lf b) (Some 1) _ lf
          ∙ sym (λ i. cond (nat_lt 0 (one i)) (Some (one i)) (one_more (empty_line_end (is_lf b) bytes)))
      | inr other ↦ elim (cases_Bool (b == 13)) [
        | inl return ↦
            let P : ℕ → Type 0 = λ x. scanned_end Start (x ∷ bytes) ≡ empty_line_end true (x ∷ bytes) in
            subst P (sym (eqb-true b 13 return)) ih.behind
        | inr past ↦
            let none = empty_line_no b bytes other past in
            (λ i. cond (other i) (Some 1) (one_more (scanned_end (cond (other i) Start (cond (past i) AfterReturn Within)) bytes)))
            ∙ ap one_more ih.within
            ∙ sym (λ i. cond (nat_lt 0 (none i)) (Some (none i)) (one_more (empty_line_end (other i) bytes)))
      ]
    ]

pub scanned_is : (bytes : List ℕ) → scanned_end Start bytes ≡ empty_line_end true bytes
scanned_is bytes = (line_starts bytes).start

-- ---- byte by byte

pub scanned_nil : (place : LinePlace) → scanned_end place [] ≡ None
scanned_nil place = refl

length_take : (n : ℕ) (l : List ℕ) → n ≤ length l → length (take n l) ≡ n
length_take zero l h = refl
length_take (suc n) [] h = absurd (omega arith)
length_take (suc n) (x ∷ l) h = ap suc (length_take n l (omega arith))

pub scan_ends : (place : LinePlace) (bytes : List ℕ) (at : ℕ) → at < length bytes
    → (is_empty_so_far place && is_lf (get_or bytes at 0)) ≡ true → Resumes Start (take at bytes) place
    → Some (at + 1) ≡ empty_line_end true bytes
scan_ends place bytes at inside lf h =
    let x = get_or bytes at 0 in
    let rest = drop (suc at) bytes in
    let here : drop at bytes ≡ x ∷ rest = drop-cons bytes at 0 inside in
    let all : bytes ≡ take at bytes ++ x ∷ rest = sym (take-append-drop at bytes) ∙ ap (λ (l : List ℕ). take at bytes ++ l) here in
    let len : at + 1 ≡ 1 + length (take at bytes) = omega (arith, length_take at bytes (omega arith)) in
    sym (sym (scanned_is bytes) ∙ ap (scanned_end Start) all ∙ h (x ∷ rest)
    ∙ ap (option_map (λ n. n + length (take at bytes))) (scan_found place x rest lf)
    ∙ ap (λ (k : ℕ). Some k) (sym len))

pub scan_none : (place : LinePlace) (bytes : List ℕ) (at : ℕ) → length bytes ≤ at → Resumes Start (take at bytes) place → None ≡ empty_line_end true bytes
scan_none place bytes at all h =
    let front = take at bytes in
    let same : front ≡ bytes = take_all at bytes all in
    sym (sym (scanned_is bytes) ∙ ap (scanned_end Start) (sym same ∙ sym (append-nil front)) ∙ h []
    ∙ ap (option_map (λ n. n + length front)) (scanned_nil place))

-- all that stands behind a place
pub take_rest : (bytes : List ℕ) (at : ℕ) → take (length bytes - at) (drop at bytes) ≡ drop at bytes
take_rest bytes at = take_all (length bytes - at) (drop at bytes) (rw length-drop (omega arith))

none_more : (o : Option ℕ) → o ≡ option_map (λ n. n + 0) o
none_more None = refl
none_more (Some n) = ap (λ (k : ℕ). Some k) (omega arith)

-- within a line up to its LF, or to the end of the bytes
line_on : (rest more : List ℕ) → scanned_end Within (take (position_or_len is_lf rest) rest ++ more)
    ≡ option_map (λ n. n + position_or_len is_lf rest) (scanned_end Within more)
line_on [] more = none_more (scanned_end Within more)
line_on (b ∷ rest) more = on (line_on rest more) (is_lf b) refl
  where
    len : ℕ
    len = position_or_len is_lf rest

    one : (o : Option ℕ) (m : ℕ) → one_more (option_map (λ n. n + m) o) ≡ option_map (λ n. n + suc m) o
    one None m = refl
    one (Some n) m = ap (λ (k : ℕ). Some k) (omega arith)

    past : scanned_end Within (take len rest ++ more) ≡ option_map (λ n. n + len) (scanned_end Within more) → is_lf b ≡ false → (k : ℕ) → k ≡ suc len
        → scanned_end Within (take k (b ∷ rest) ++ more) ≡ option_map (λ n. n + k) (scanned_end Within more)
    past later e k is =
        let P : ℕ → Type 0 = λ j. scanned_end Within (take j (b ∷ rest) ++ more) ≡ option_map (λ n. n + j) (scanned_end Within more) in
        subst P (sym is)
        (ap (λ (t : Bool). one_more (scanned_end (cond t Start Within) (take len rest ++ more))) e
        ∙ ap one_more later ∙ one (scanned_end Within more) len)

    on : scanned_end Within (take len rest ++ more) ≡ option_map (λ n. n + len) (scanned_end Within more) → (t : Bool) → is_lf b ≡ t
        → scanned_end Within (take (cond (not t) (1 + len) 0) (b ∷ rest) ++ more) ≡ option_map (λ n. n + cond (not t) (1 + len) 0) (scanned_end Within more)
    on later true e = none_more (scanned_end Within more)
    on later false e = past later e (1 + len) (omega arith)

pub line_skipped : (bytes : List ℕ) (at : ℕ) → at ≤ length bytes → Resumes Start (take at bytes) Within
    → Resumes Start (take (at + position_or_len is_lf (drop at bytes)) bytes) Within
line_skipped bytes at inside h =
    let rest = drop at bytes in
    let n = position_or_len is_lf rest in
    let front = take at bytes in
    let part = take n rest in
    let short : n ≤ length rest = prefix_len-le-length (λ b. not (is_lf b)) rest in
    let fits : at + n ≤ length bytes = omega (arith, short, length-drop at bytes) in
    let long : length (take (at + n) bytes) ≡ n + length front = omega (arith, length_take (at + n) bytes fits, length_take at bytes inside) in
    λ more.
    ap (λ (l : List ℕ). scanned_end Start (l ++ more)) (take-add at n bytes)
    ∙ ap (scanned_end Start) (append_assoc front part more)
    ∙ h (part ++ more)
    ∙ ap (option_map (λ k. k + length front)) (line_on rest more)
    ∙ both (scanned_end Within more) n (length front)
    ∙ ap (λ (k : ℕ). option_map (λ i. i + k) (scanned_end Within more)) (sym long)
  where
    both : (o : Option ℕ) (n m : ℕ) → option_map (λ k. k + m) (option_map (λ k. k + n) o) ≡ option_map (λ i. i + (n + m)) o
    both None n m = refl
    both (Some k) n m = ap (λ (i : ℕ). Some i) (omega arith)

-- ---- a search for a byte

pub place_is : (byte : ℕ) (bytes : List ℕ) (at : ℕ) → NoneBefore (Passes (is_byte byte) bytes) 0 (length bytes) at → Passes (is_byte byte) bytes at
    → at ≡ position_or_len (λ b. b == byte) bytes
place_is byte bytes at none here =
    let low : at < length bytes = none.high in
    sym (position_or_len_is (λ b. b == byte) bytes at 0 (omega arith)
    (λ k lt. false_from_ne_true (get_or bytes k 0 == byte) (none.before k (omega arith) lt)) (λ _. here))

pub place_none : (byte : ℕ) (bytes : List ℕ) → Nowhere (Passes (is_byte byte) bytes) 0 (length bytes)
    → length bytes ≡ position_or_len (λ b. b == byte) bytes
place_none byte bytes none =
    sym (position_or_len_is (λ b. b == byte) bytes (length bytes) 0 (le_refl (length bytes))
    (λ k lt. false_from_ne_true (get_or bytes k 0 == byte) (none k (omega arith) lt)) (λ lt. absurd (omega arith)))

-- ---- the first line

-- where no line ends in the front, the first one ends behind it
pub line_behind : (front rest : List ℕ) → line_end front ≡ None → line_end (front ++ rest) ≡ option_map (λ n. n + length front) (line_end rest)
line_behind [] rest e = none_more (line_end rest)
line_behind (b ∷ front) rest e =
    cond_both (is_lf b) (Some 1) (one_more (line_end front))
    (λ o. o ≡ None → cond (is_lf b) (Some 1) (one_more (line_end (front ++ rest))) ≡ option_map (λ n. n + suc (length front)) (line_end rest))
    (λ lf e. absurd (cc))
    (λ other e. cond-false (is_lf b) (Some 1) _ other ∙ ap one_more (line_behind front rest (none (line_end front) e)) ∙ again (line_end rest) (length front))
    e
  where
    none : (o : Option ℕ) → one_more o ≡ None → o ≡ None
    none None e = refl
    none (Some n) e = absurd (cc)

    again : (o : Option ℕ) (m : ℕ) → one_more (option_map (λ n. n + m) o) ≡ option_map (λ n. n + suc m) o
    again None m = refl
    again (Some n) m = ap (λ (k : ℕ). Some k) (omega arith)

pub line_more : (bytes : List ℕ) (at : ℕ) → at < length bytes → is_lf (get_or bytes at 0) ≡ false → line_end (take at bytes) ≡ None
    → line_end (take (at + 1) bytes) ≡ None
line_more bytes at inside other h =
    let x = get_or bytes at 0 in
    ap line_end (take_more bytes at 0 inside) ∙ line_behind (take at bytes) (x ∷ []) h
    ∙ ap (option_map (λ n. n + length (take at bytes))) (cond-false (is_lf x) (Some 1) None other)

pub line_found : (bytes : List ℕ) (at : ℕ) → at < length bytes → is_lf (get_or bytes at 0) ≡ true → line_end (take at bytes) ≡ None
    → Some (at + 1) ≡ line_end bytes
line_found bytes at inside lf h =
    let x = get_or bytes at 0 in
    let rest = drop (suc at) bytes in
    let here : drop at bytes ≡ x ∷ rest = drop-cons bytes at 0 inside in
    let all : bytes ≡ take at bytes ++ x ∷ rest = sym (take-append-drop at bytes) ∙ ap (λ (l : List ℕ). take at bytes ++ l) here in
    let len : at + 1 ≡ 1 + length (take at bytes) = omega (arith, length_take at bytes (omega arith)) in
    sym (ap line_end all ∙ line_behind (take at bytes) (x ∷ rest) h
    ∙ ap (option_map (λ n. n + length (take at bytes))) (cond-true (is_lf x) (Some 1) _ lf)
    ∙ ap (λ (k : ℕ). Some k) (sym len))

-- none ends in a part of a front without one
pub none_within : (j m k : ℕ) (bytes : List ℕ) → j ≤ k → line_end (take k bytes) ≡ None → line_end (take j (take m bytes)) ≡ None
none_within zero m k bytes le e = refl
none_within (suc j) zero k bytes le e = refl
none_within (suc j) (suc m) zero bytes le e = absurd (omega arith)
none_within (suc j) (suc m) (suc k) [] le e = refl
none_within (suc j) (suc m) (suc k) (b ∷ bytes) le e =
    cond_both (is_lf b) (Some 1) (one_more (line_end (take k bytes)))
    (λ o. o ≡ None → cond (is_lf b) (Some 1) (one_more (line_end (take j (take m bytes)))) ≡ None)
    (λ lf e. absurd (cc))
    (λ other e. cond-false (is_lf b) (Some 1) _ other ∙ ap one_more (none_within j m k bytes (omega arith) (none (line_end (take k bytes)) e)))
    e
  where
    none : (o : Option ℕ) → one_more o ≡ None → o ≡ None
    none None e = refl
    none (Some n) e = absurd (cc)
