-- A word that a token stands for is the word of that token.
use Rattle.std.proofs.Common.{◌≡◌, ℕ, zero, suc, ◌≤◌, ◌<◌, ◌^◌, ℤ, pos, Bool, true, false, ◌&&◌, not, cond, if◌then◌else◌, nat_le, eqb, List, [], ◌∷◌, map, Option, Some, None, refl, sym, ap, subst, ◌∙◌, arith, drop}
use Rattle.std.specs.Prelude.{neg_ℤ}
use Rattle.std.specs.List.{list_all, find}
use Rattle.std.specs.Cmp.Lexicographic.{bytes_decides}
use Rattle.std.specs.Fmt.{digits, decimal, signed_decimal}
use Rattle.std.specs.Str.Parse.{AllDigits, digits_value, signed_digits_value}
use Rattle.std.proofs.lemmas.Bool.{leb-true, ltb-true, eqb-true}
use Rattle.std.proofs.lemmas.Fmt.{decimal-digits_value}
use Rattle.std.proofs.lemmas.Str.{digit_value_digit}
use Rattle.std.proofs.lemmas.Str.Parse.{IsNumeralModel, numerals_by_value, tells_digits}
use Rattle.gv_values.specs.Name.{is_name, is_digit}
use Rattle.scenario_grammar.specs.declared.keyword.Keyword.{Keyword}
use Rattle.scenario_grammar.specs.declared.token.Token.{Token}
use Rattle.scenario_grammar.specs.declared.token.Token.TheVariants as token
use Rattle.scenario_grammar.specs.Keyword.{spelling, is_spelled, keywords, keyword_of}
use Rattle.scenario_grammar.specs.Layout.{Word}
use Rattle.gv_values.specs.Digits.{is_plain_number}
use Rattle.scenario_grammar.specs.Token.{token_word, token_of, loose_token, number_token, in_64_bits, begins_with_zero, is_integer, begins_number}
use Rattle.scenario_grammar.proofs.Atoms.{and_left, and_right}
use Rattle.scenario_grammar.proofs.InWords.{is_word}

own : IsNumeralModel (AllDigits 10) (digits_value 10)
own = numerals_by_value (AllDigits 10) tells_digits

a_digit : (c : ℕ) → is_digit c ≡ true → (48 ≤ c) × (c ≤ 57)
a_digit c h = (leb-true 48 c (and_left (nat_le 48 c) (nat_le c 57) h), leb-true c 57 (and_right (nat_le 48 c) (nat_le c 57) h))

all_digits : (ds : List ℕ) → list_all is_digit ds ≡ true → AllDigits 10 ds
all_digits [] h = tt
all_digits (c ∷ cs) h =
    let range = a_digit c (and_left (is_digit c) (list_all is_digit cs) h) in
    (omega (arith, digit_value_digit c range, range.1), all_digits cs (and_right (is_digit c) (list_all is_digit cs) h))

-- a number in its one spelling is what is written of its value
plain_back : (ds : List ℕ) → is_plain_number ds ≡ true → digits_value 10 ds < 2 ^ 64 → decimal (digits_value 10 ds) ≡ ds
plain_back [] h small = cc
plain_back (b ∷ []) h small = decimal-digits_value own (b ∷ []) (all_digits (b ∷ []) (rw h refl)) (omega arith) (λ e. refl) small
plain_back (b ∷ c ∷ cs) h small =
    let first = and_left (nat_le 49 b && nat_le b 57) (list_all is_digit (c ∷ cs)) h in
    let others = and_right (nat_le 49 b && nat_le b 57) (list_all is_digit (c ∷ cs)) h in
    let least = leb-true 49 b (and_left (nat_le 49 b) (nat_le b 57) first) in
    let most = leb-true b 57 (and_right (nat_le 49 b) (nat_le b 57) first) in
    decimal-digits_value own (b ∷ c ∷ cs) (omega (arith, digit_value_digit b (omega (arith, least), most), most), all_digits (c ∷ cs) others) (omega arith) (λ e. absurd (omega (arith, e, least))) small

decimal_zero : decimal 0 ≡ 48 ∷ []
unfolding digits
decimal_zero = refl

minus_back : (n : ℕ) (bs : List ℕ) → is_plain_number bs ≡ true → begins_with_zero bs ≡ false → digits_value 10 bs ≡ n → in_64_bits (neg_ℤ (pos n)) ≡ true → signed_decimal (neg_ℤ (pos n)) ≡ 45 ∷ bs
minus_back zero bs plain first value fits =
    let zero_is : 48 ∷ [] ≡ bs = sym decimal_zero ∙ ap decimal (sym value) ∙ plain_back bs plain (omega (arith, value)) in
    absurd (no_zero (ap begins_with_zero zero_is ∙ first))
  where
    no_zero : true ≡ false → ⊥
    no_zero e = cc
minus_back (suc n) bs plain first value fits =
    let small = ltb-true n (2 ^ 63) fits in
    ap (λ z. 45 ∷ z) (ap decimal (sym value) ∙ plain_back bs plain (omega (arith, value, small)))

plus_back : (ds : List ℕ) → is_plain_number ds ≡ true → in_64_bits (pos (digits_value 10 ds)) ≡ true → decimal (digits_value 10 ds) ≡ ds
plus_back ds plain fits = plain_back ds plain (omega (arith, ltb-true (digits_value 10 ds) (2 ^ 63) fits))

not_true : (b : Bool) → not b ≡ true → b ≡ false
not_true true h = cc
not_true false h = refl

first_of_plain : (b : ℕ) (bs : List ℕ) → is_plain_number (b ∷ bs) ≡ true → (48 ≤ b) × (b ≤ 57)
first_of_plain b [] h = a_digit b h
first_of_plain b (c ∷ cs) h =
    let first = and_left (nat_le 49 b && nat_le b 57) (list_all is_digit (c ∷ cs)) h in
    let least = leb-true 49 b (and_left (nat_le 49 b) (nat_le b 57) first) in
    (omega (arith, least), leb-true b 57 (and_right (nat_le 49 b) (nat_le b 57) first))

-- behind `-`
signed_back : (bs : List ℕ) → is_integer (45 ∷ bs) ≡ true → in_64_bits (signed_digits_value 10 (45 ∷ bs)) ≡ true → signed_decimal (signed_digits_value 10 (45 ∷ bs)) ≡ 45 ∷ bs
signed_back bs h fits =
    minus_back (digits_value 10 bs) bs (and_left (is_plain_number bs) (not (begins_with_zero bs)) h) (not_true (begins_with_zero bs) (and_right (is_plain_number bs) (not (begins_with_zero bs)) h)) refl fits

otherwise : (s x y : Bool) → s ≡ false → (if s then x else y) ≡ true → y ≡ true
otherwise true x y e h = cc
otherwise false x y e h = h

value_by : (s t : Bool) (b : ℕ) (bs rest : List ℕ) → s ≡ false → t ≡ false
    → cond s (neg_ℤ (pos (digits_value 10 (cond s rest (drop (cond t 1 0) (b ∷ bs)))))) (pos (digits_value 10 (cond s rest (drop (cond t 1 0) (b ∷ bs))))) ≡ pos (digits_value 10 (b ∷ bs))
value_by false false b bs rest e f = refl
value_by true t b bs rest e f = cc
value_by false true b bs rest e f = cc

no_such : (b c : ℕ) → (b ≡ c → ⊥) → eqb b c ≡ false
no_such b c h = by_test (eqb b c) refl
  where
    by_test : (t : Bool) → eqb b c ≡ t → t ≡ false
    by_test false e = refl
    by_test true e = absurd (h (eqb-true b c e))

unsigned_back : (b : ℕ) (bs : List ℕ) → eqb b 45 ≡ false → is_integer (b ∷ bs) ≡ true → in_64_bits (signed_digits_value 10 (b ∷ bs)) ≡ true → signed_decimal (signed_digits_value 10 (b ∷ bs)) ≡ b ∷ bs
unsigned_back b bs other h fits =
    let plain = otherwise (eqb b 45) (is_plain_number bs && not (begins_with_zero bs)) (is_plain_number (b ∷ bs)) other h in
    let first = first_of_plain b bs plain in
    let value = value_by (eqb b 45) (eqb b 43) b bs (drop 1 (b ∷ bs)) other (no_such b 43 (λ e. omega (arith, e, first.0))) in
    ap signed_decimal value ∙ plus_back (b ∷ bs) plain (ap in_64_bits (sym value) ∙ fits)

integer_back : (w : Word) → is_integer w ≡ true → in_64_bits (signed_digits_value 10 w) ≡ true → signed_decimal (signed_digits_value 10 w) ≡ w
integer_back [] h fits = cc
integer_back (b ∷ bs) h fits = by_sign (eqb b 45) refl
  where
    by_sign : (s : Bool) → eqb b 45 ≡ s → signed_decimal (signed_digits_value 10 (b ∷ bs)) ≡ b ∷ bs
    by_sign false e = unsigned_back b bs e h fits
    by_sign true e =
        subst (λ c. is_integer (c ∷ bs) ≡ true → in_64_bits (signed_digits_value 10 (c ∷ bs)) ≡ true → signed_decimal (signed_digits_value 10 (c ∷ bs)) ≡ c ∷ bs)
        (sym (eqb-true b 45 e)) (signed_back bs) h fits

loose_back : (w : Word) → is_word (loose_token w) ≡ true → token_word (loose_token w) ≡ w
loose_back w h = by_name (is_name w) h
  where
    value : ℤ
    value = signed_digits_value 10 w

    by_range : (fits : Bool) → in_64_bits (signed_digits_value 10 w) ≡ fits → is_integer w ≡ true → is_word (if fits then token.Number (signed_digits_value 10 w) else token.Oversized) ≡ true
        → token_word (if fits then token.Number (signed_digits_value 10 w) else token.Oversized) ≡ w
    by_range true e spelt h = integer_back w spelt e
    by_range false e spelt h = cc

    by_spelling : (spelt : Bool) → is_integer w ≡ spelt → (let t : Token = if spelt then (if in_64_bits (signed_digits_value 10 w) then token.Number (signed_digits_value 10 w) else token.Oversized) else token.Misspelled in is_word t) ≡ true
        → (let t : Token = if spelt then (if in_64_bits (signed_digits_value 10 w) then token.Number (signed_digits_value 10 w) else token.Oversized) else token.Misspelled in token_word t) ≡ w
    by_spelling true e h = by_range (in_64_bits (signed_digits_value 10 w)) refl e h
    by_spelling false e h = cc

    by_begin : (begins : Bool) → is_word (if begins then number_token w else token.Unknown) ≡ true → token_word (if begins then number_token w else token.Unknown) ≡ w
    by_begin true h = by_spelling (is_integer w) refl h
    by_begin false h = cc

    by_name : (named : Bool) → is_word (if named then token.Name w else (if begins_number w then number_token w else token.Unknown)) ≡ true
        → token_word (if named then token.Name w else (if begins_number w then number_token w else token.Unknown)) ≡ w
    by_name true h = refl
    by_name false h = by_begin (begins_number w) h

found_passes : {A : Type 0} (test : A → Bool) (xs : List A) (x : A) → find test xs ≡ Some x → test x ≡ true
found_passes test [] x e = cc
found_passes {A = A} test (y ∷ ys) x e = by_test (test y) refl e (found_passes test ys x)
  where
    same : (x y : A) → (let o : Option A = Some y in o) ≡ Some x → y ≡ x
    same x y e = cc

    by_test : (t : Bool) → test y ≡ t → cond t (Some y) (find test ys) ≡ Some x → (find test ys ≡ Some x → test x ≡ true) → test x ≡ true
    by_test true p e below = ap test (sym (same x y e)) ∙ p
    by_test false p e below = below e

keyword_back : (w : Word) (k : Keyword) → keyword_of w ≡ Some k → spelling k ≡ w
unfolding keyword_of
keyword_back w k e = (bytes_decides (spelling k) w).0 (found_passes (is_spelled w) keywords k e)

token_back : (w : Word) → is_word (token_of w) ≡ true → token_word (token_of w) ≡ w
unfolding token_of
token_back w h = by_keyword (keyword_of w) refl h
  where
    by_keyword : (found : Option Keyword) → keyword_of w ≡ found → is_word (elim found [ Some k ↦ token.Fixed k | None ↦ loose_token w ]) ≡ true → token_word (elim found [ Some k ↦ token.Fixed k | None ↦ loose_token w ]) ≡ w
    by_keyword (Some k) e h = keyword_back w k e
    by_keyword None e h = loose_back w h

-- the words of a line, from its tokens
pub words_back : (ws : List Word) → list_all is_word (map token_of ws) ≡ true → map token_word (map token_of ws) ≡ ws
words_back [] h = refl
words_back (w ∷ ws) h =
    let here = token_back w (and_left (is_word (token_of w)) (list_all is_word (map token_of ws)) h) in
    let below = words_back ws (and_right (is_word (token_of w)) (list_all is_word (map token_of ws)) h) in
    λ i. here i ∷ below i
