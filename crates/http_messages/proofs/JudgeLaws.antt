-- Lists of fields and blanks at the ends, one more at a time.
use Rattle.std.proofs.Common.{◌≡◌, ◌^◌, ◌||◌, ℕ, ◌+◌, ◌-◌, ◌<◌, ◌≤◌, Bool, true, false, cond, List, [], ◌∷◌, ◌++◌, length, map, filter, take, drop, refl, sym, ap, ◌∙◌, arith, get_or, lit<, inl, inr}
use Rattle.std.proofs.lemmas.Bool.{cond-true, cond-false}
use Rattle.std.proofs.lemmas.List.{map-append, take_more, take_all}
use Rattle.std.proofs.lemmas.List.Elements.{filter-append}
use Rattle.std.specs.Prelude.{◌&&◌, ◌==◌}
use Rattle.std.specs.Str.{str_eq_ignore_ascii_case}
use Rattle.http_messages.specs.Environ.{Pair}
use Rattle.std.specs.List.{list_any, list_all, position_or_len, before_first, after_first}
use Rattle.std.specs.Char.{is_ascii_digit, digit_value}
use Rattle.std.proofs.lemmas.List.Splits.{slice_split_first, slice_split_none}
use Rattle.std.proofs.lemmas.List.Sums.{fails_before_first}
use Rattle.std.proofs.lemmas.List.Folds.{list_all-append}
use Rattle.std.proofs.lemmas.Bool.{cases_lt, and_parts, leb-true, lt-ltb, le-ltb}
use Rattle.std.proofs.Math.Nat.{pow-le-pow_right}
use Rattle.std.specs.Prelude.{nat_lt, nat_le, not, Err, Option, Some, None}
use Rattle.httparse.specs.Grammar.{trim_ows, RequestHead}
use Rattle.httparse.specs.Spans.{name_and_value}
use Rattle.http_messages.specs.declared.refusal.Refusal.TheVariants.{BadRequest}
use Rattle.http_messages.specs.Requests.{values, has_member, is_comma, is_allowed_target, framing_of, on_framing, request_of, judged}
use Rattle.http_messages.specs.Cuts.{is_lf, empty_line, drop_empty_lines}
use Rattle.http_messages.specs.declared.limits.TheConstants.{MOST_FIELDS}

pub values-append : (name : List ℕ) (xs ys : List Pair) → values name (xs ++ ys) ≡ values name xs ++ values name ys
values-append name xs ys =
    let test : Pair → Bool = λ p. str_eq_ignore_ascii_case p.0 name in
    ap (map (λ (p : Pair). p.1)) (filter-append test xs ys) ∙ map-append (λ (p : Pair). p.1) (filter test xs) (filter test ys)

module _ (name : List ℕ) (xs : List Pair) (p : Pair) where
  pub values_more : true ≡ str_eq_ignore_ascii_case p.0 name → values name (xs ++ p ∷ []) ≡ values name xs ++ p.1 ∷ []
  values_more e = values-append name xs (p ∷ []) ∙ (λ i. values name xs ++ map (λ (p : Pair). p.1) (cond (sym e i) (p ∷ []) []))

  pub values_same : false ≡ str_eq_ignore_ascii_case p.0 name → values name (xs ++ p ∷ []) ≡ values name xs
  values_same e =
      values-append name xs (p ∷ []) ∙ (λ i. values name xs ++ map (λ (p : Pair). p.1) (cond (sym e i) (p ∷ []) [])) ∙ append_nil (values name xs)
    where
      append_nil : (l : List (List ℕ)) → l ++ [] ≡ l
      append_nil [] = refl
      append_nil (x ∷ l) = ap (λ (r : List (List ℕ)). x ∷ r) (append_nil l)

-- ---- empty lines

pub drop_line : (bytes : List ℕ) (len : ℕ) → empty_line bytes ≡ len → 0 < len → drop_empty_lines bytes ≡ drop_empty_lines (drop len bytes)
drop_line [] len e some = absurd (omega arith)
drop_line (b ∷ []) len e some = pick (is_lf b) len e some
  where
    pick : (t : Bool) (len : ℕ) → ◌≡◌ {A = ℕ} (cond t 1 0) len → 0 < len → cond t [] (b ∷ []) ≡ drop_empty_lines (drop len (b ∷ []))
    pick true len e some = ap (λ (n : ℕ). drop_empty_lines (drop n (b ∷ []))) e
    pick false len e some = absurd (omega arith)
drop_line (b ∷ c ∷ bytes) len e some = pick (is_lf b) ((b == 13) && is_lf c) len e some
  where
    pick : (t u : Bool) (len : ℕ) → ◌≡◌ {A = ℕ} (cond t 1 (cond u 2 0)) len → 0 < len
        → cond t (drop_empty_lines (c ∷ bytes)) (cond u (drop_empty_lines bytes) (b ∷ c ∷ bytes)) ≡ drop_empty_lines (drop len (b ∷ c ∷ bytes))
    pick true u len e some = ap (λ (n : ℕ). drop_empty_lines (drop n (b ∷ c ∷ bytes))) e
    pick false true len e some = ap (λ (n : ℕ). drop_empty_lines (drop n (b ∷ c ∷ bytes))) e
    pick false false len e some = absurd (omega arith)

pub no_line : (bytes : List ℕ) → empty_line bytes ≡ 0 → drop_empty_lines bytes ≡ bytes
no_line [] e = refl
no_line (b ∷ []) e = pick (is_lf b) e
  where
    pick : (t : Bool) → ◌≡◌ {A = ℕ} (cond t 1 0) 0 → cond t [] (b ∷ []) ≡ b ∷ []
    pick true e = absurd (omega arith)
    pick false e = refl
no_line (b ∷ c ∷ bytes) e = pick (is_lf b) ((b == 13) && is_lf c) e
  where
    pick : (t u : Bool) → ◌≡◌ {A = ℕ} (cond t 1 (cond u 2 0)) 0
        → cond t (drop_empty_lines (c ∷ bytes)) (cond u (drop_empty_lines bytes) (b ∷ c ∷ bytes)) ≡ b ∷ c ∷ bytes
    pick true u e = absurd (omega arith)
    pick false true e = absurd (omega arith)
    pick false false e = refl

-- ---- members of a list

abbrev pub is_option : List ℕ → List ℕ → Bool
is_option option token = str_eq_ignore_ascii_case (trim_ows token) option

module _ (option rest : List ℕ) where
  member_more : position_or_len is_comma rest < length rest → has_member option rest ≡ (is_option option (before_first is_comma rest) || has_member option (after_first is_comma rest))
  member_more inside = ap (list_any (is_option option)) (slice_split_first is_comma rest 0 inside)

  pub member_here : position_or_len is_comma rest < length rest → true ≡ is_option option (before_first is_comma rest) → true ≡ has_member option rest
  member_here inside e = sym (member_more inside ∙ (λ i. sym e i || has_member option (after_first is_comma rest)))

  pub member_later : position_or_len is_comma rest < length rest → false ≡ is_option option (before_first is_comma rest) → has_member option rest ≡ has_member option (after_first is_comma rest)
  member_later inside e = member_more inside ∙ (λ i. sym e i || has_member option (after_first is_comma rest))

  pub member_last : (t : Bool) → length rest ≤ position_or_len is_comma rest → t ≡ is_option option (before_first is_comma rest) → t ≡ has_member option rest
  member_last t all e =
      let whole : before_first is_comma rest ≡ rest = take_all (position_or_len is_comma rest) rest all in
      sym (ap (list_any (is_option option)) (slice_split_none is_comma rest (λ k d inside. fails_before_first is_comma rest k d (omega arith)))
      ∙ or_false (is_option option rest) ∙ ap (is_option option) (sym whole) ∙ sym e)
    where
      or_false : (b : Bool) → (b || false) ≡ b
      or_false true = refl
      or_false false = refl

  pub member_true : true ≡ is_option option (before_first is_comma rest) → true ≡ has_member option rest
  member_true e = elim (cases_lt (position_or_len is_comma rest) (length rest)) [
    | inl inside ↦ member_here inside e
    | inr all ↦ member_last true all e
  ]

-- ---- digits

pub digit_is : (b : ℕ) → is_ascii_digit b ≡ true → (b - 48 ≡ digit_value b) × (b - 48 < 10)
digit_is b e =
    let p = and_parts (nat_le 48 b) (nat_le b 57) e in
    let low : 48 ≤ b = leb-true _ _ p.0 in
    let high : b ≤ 57 = leb-true _ _ p.1 in
    (sym (cond-false (nat_lt b 48) 36 _ (le-ltb _ _ low) ∙ cond-true (nat_lt b 58) (b - 48) _ (lt-ltb _ _ (omega arith))), omega arith)

pub below_limit : (v i : ℕ) → v < 10 ^ i → i ≤ 18 → v < 1000000000000000000
below_limit v i small le = let p : 10 ^ i ≤ 10 ^ 18 = pow-le-pow_right (lit< tt) le in omega (arith, p)

pub digits_more : (bytes : List ℕ) (i : ℕ) → i < length bytes → list_all is_ascii_digit (take i bytes) ≡ true → is_ascii_digit (get_or bytes i 0) ≡ true
    → list_all is_ascii_digit (take (i + 1) bytes) ≡ true
digits_more bytes i inside before here =
    ap (list_all is_ascii_digit) (take_more bytes i 0 inside) ∙ list_all-append is_ascii_digit (take i bytes) (get_or bytes i 0 ∷ [])
    ∙ (λ j. before j && (here j && true))

-- ---- judgements

pub request_refused : (port : ℕ) (method target : List ℕ) (minor : ℕ) (fields : List Pair) → is_allowed_target target ≡ false
    → Err BadRequest ≡ request_of port method target minor fields
unfolding request_of
request_refused port method target minor fields e = sym (λ i. cond (not (e i)) (Err BadRequest) (on_framing port method target minor fields (framing_of minor fields)))

pub request_framed_as : (port : ℕ) (method target : List ℕ) (minor : ℕ) (fields : List Pair) → is_allowed_target target ≡ true
    → on_framing port method target minor fields (framing_of minor fields) ≡ request_of port method target minor fields
unfolding request_of
request_framed_as port method target minor fields e = sym (λ i. cond (not (e i)) (Err BadRequest) (on_framing port method target minor fields (framing_of minor fields)))

pub judged_none : (port : ℕ) (o : Option RequestHead) → ((h : RequestHead) → o ≡ Some h → MOST_FIELDS < length h.fields) → Err BadRequest ≡ judged port o
unfolding judged
judged_none port None over = refl
judged_none port (Some h) over = sym (cond-true (nat_lt MOST_FIELDS (length h.fields)) (Err BadRequest) _ (lt-ltb _ _ (over h refl)))

pub judged_some : (port : ℕ) (o : Option RequestHead) (h : RequestHead) → o ≡ Some h → length h.fields ≤ MOST_FIELDS
    → judged port o ≡ request_of port h.method h.target h.minor (map name_and_value h.fields)
unfolding judged
judged_some port o h e few = ap (judged port) e ∙ cond-false (nat_lt MOST_FIELDS (length h.fields)) (Err BadRequest) _ (le-ltb _ _ few)
