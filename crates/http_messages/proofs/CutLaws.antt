-- What was decided stays decided, whatever bytes follow.
use Rattle.std.proofs.Common.{◌≡◌, ℕ, zero, suc, ◌+◌, ◌-◌, ◌<◌, ◌≤◌, Bool, true, false, ◌&&◌, cond, List, [], ◌∷◌, ◌++◌, length, take, drop, refl, sym, ap, ◌∙◌, subst, arith, length-append, length-drop, Option, Some, None, inl, inr}
use Rattle.std.proofs.lemmas.Bool.{cases_Bool, and_parts, and_from, and_left, eqb-true, ltb-true, leb-true, le-leb, cond_both, cond-true, cond-false}
use Rattle.std.proofs.lemmas.List.{take-append-le, drop-append-le}
use Rattle.std.specs.Prelude.{nat_le, nat_lt, ◌==◌, option_map, Result, Ok, Err}
use Rattle.http_messages.specs.declared.refusal.Refusal.{Refusal}
use Rattle.http_messages.specs.Cuts.{Cut, waits, refused, whole, and_then, or_refused, is_lf, empty_line, empty_line_end, line_end, up_to, within, drop_empty_lines}

-- d is what c becomes when more bytes come
abbrev pub Later : {A : Type 0} → List ℕ → Cut A → Cut A → Type 0
Later more waits d = Unit {0}
Later more (refused reason) d = d ≡ refused reason
Later more (whole a rest) d = d ≡ whole a (rest ++ more)

pub record IsStable {A : Type 0} (read : List ℕ → Cut A) : Type 0 where
  pub later : (bytes more : List ℕ) → Later more (read bytes) (read (bytes ++ more))

pub and_then-later : {A B : Type 0} (more : List ℕ) (c d : Cut A) (f g : A → List ℕ → Cut B)
    → Later more c d → ((a : A) (rest : List ℕ) → Later more (f a rest) (g a (rest ++ more))) → Later more (and_then c f) (and_then d g)
and_then-later more waits d f g h step = tt
and_then-later {B = B} more (refused reason) d f g h step = ap (λ (e : Cut _). and_then e g) h
and_then-later {B = B} more (whole a rest) d f g h step =
    subst (λ (e : Cut _). Later more (f a rest) (and_then e g)) (sym h) (step a rest)

pub or_refused-later : {A : Type 0} (more : List ℕ) (r : Result A Refusal) (rest : List ℕ) → Later more (or_refused r rest) (or_refused r (rest ++ more))
or_refused-later more (Ok a) rest = refl
or_refused-later more (Err reason) rest = refl

-- an end that was found is found again, and stands within the bytes
pub record IsFinder (end : List ℕ → Option ℕ) : Type 0 where
  pub same : (bytes more : List ℕ) (n : ℕ) → end bytes ≡ Some n → end (bytes ++ more) ≡ Some n
  pub fits : (bytes : List ℕ) (n : ℕ) → end bytes ≡ Some n → (0 < n) × (n ≤ length bytes)

take_more : (most : ℕ) (bytes more : List ℕ) → take most (bytes ++ more) ≡ take most bytes ++ take (most - length bytes) more
take_more zero [] more = refl
take_more (suc n) [] more =
    let all : suc n - 0 ≡ suc n = omega arith in ap (λ (k : ℕ). take k more) (sym all)
take_more zero (b ∷ bytes) more =
    let none : 0 - suc (length bytes) ≡ 0 = omega arith in ap (λ (k : ℕ). take k more) (sym none)
take_more (suc n) (b ∷ bytes) more =
    let less : suc n - suc (length bytes) ≡ n - length bytes = omega arith in
    ap (λ (l : List ℕ). b ∷ l) (take_more n bytes more ∙ ap (λ (k : ℕ). take n bytes ++ take k more) (sym less))

length_take_le : (n : ℕ) (l : List ℕ) → length (take n l) ≤ length l
length_take_le zero [] = omega arith
length_take_le zero (x ∷ l) = omega arith
length_take_le (suc n) [] = omega arith
length_take_le (suc n) (x ∷ l) = omega (arith, length_take_le n l)

module _ (end : List ℕ → Option ℕ) (finds : IsFinder end) (most enough : ℕ) (reason : Refusal) (le : most ≤ enough) where
  within_some : (bytes more : List ℕ) (n : ℕ) → end (take most bytes) ≡ Some n
      → within end most enough reason (bytes ++ more) ≡ whole (take n bytes) (drop n bytes ++ more)
  within_some bytes more n e =
      let again : end (take most (bytes ++ more)) ≡ Some n =
      ap end (take_more most bytes more) ∙ finds.same (take most bytes) (take (most - length bytes) more) n e in
      let fits = finds.fits (take most bytes) n e in
      let small : n ≤ length bytes = omega (arith, length_take_le most bytes) in
      let t = take-append-le n bytes more small in
      let d = drop-append-le n bytes more small in
      ap (λ (o : Option ℕ). up_to o (cond (nat_le enough (length (bytes ++ more))) (refused reason) waits) (bytes ++ more)) again
      ∙ (λ i. whole (t i) (d i))

  within_none : (bytes more : List ℕ) → end (take most bytes) ≡ None → enough ≤ length bytes
      → within end most enough reason (bytes ++ more) ≡ refused reason
  within_none bytes more e long =
      let same : take most (bytes ++ more) ≡ take most bytes = take-append-le most bytes more (omega arith) in
      let longer : enough ≤ length (bytes ++ more) = rw length-append (omega arith) in
      ap (λ (o : Option ℕ). up_to o (cond (nat_le enough (length (bytes ++ more))) (refused reason) waits) (bytes ++ more)) (ap end same ∙ e)
      ∙ cond-true (nat_le enough (length (bytes ++ more))) (refused reason) waits (le-leb _ _ longer)

  within_by : (bytes more : List ℕ) (o : Option ℕ) → end (take most bytes) ≡ o
      → Later more (up_to o (cond (nat_le enough (length bytes)) (refused reason) waits) bytes) (within end most enough reason (bytes ++ more))
  within_by bytes more (Some n) e = within_some bytes more n e
  within_by bytes more None e =
      cond_both (nat_le enough (length bytes)) (refused reason) waits (λ c. Later more c (within end most enough reason (bytes ++ more)))
      (λ long. within_none bytes more e (leb-true _ _ long)) (λ short. tt)

  pub within-stable : IsStable (within end most enough reason)
  within-stable = record { later = λ bytes more. within_by bytes more (end (take most bytes)) refl }

-- ---- the ends

more_is : (o : Option ℕ) (n : ℕ) → option_map (λ n. n + 1) o ≡ Some n → (m : ℕ) × (o ≡ Some m) × (n ≡ m + 1)
more_is None n e = absurd (cc)
more_is (Some m) n e = (m, refl, cc)

line_same : (bytes more : List ℕ) (n : ℕ) → line_end bytes ≡ Some n → line_end (bytes ++ more) ≡ Some n
line_same [] more n e = absurd (cc)
line_same (b ∷ bytes) more n e =
    cond_both (is_lf b) (Some 1) (option_map (λ n. n + 1) (line_end bytes))
    (λ o. o ≡ Some n → cond (is_lf b) (Some 1) (option_map (λ n. n + 1) (line_end (bytes ++ more))) ≡ Some n)
    (λ yes e. cond-true (is_lf b) (Some 1) _ yes ∙ e)
    (λ no e. let m = more_is (line_end bytes) n e in
    cond-false (is_lf b) (Some 1) _ no ∙ ap (option_map (λ n. n + 1)) (line_same bytes more m.0 m.1) ∙ ap (λ (k : ℕ). Some k) (sym m.2))
    e

line_fits : (bytes : List ℕ) (n : ℕ) → line_end bytes ≡ Some n → (0 < n) × (n ≤ length bytes)
line_fits [] n e = absurd (cc)
line_fits (b ∷ bytes) n e =
    cond_both (is_lf b) (Some 1) (option_map (λ n. n + 1) (line_end bytes))
    (λ o. o ≡ Some n → (0 < n) × (n ≤ suc (length bytes)))
    (λ yes e. let k : 1 ≡ n = cc in (omega arith, omega arith))
    (λ no e. let m = more_is (line_end bytes) n e in let r = line_fits bytes m.0 m.1 in (omega arith, omega arith))
    e

pub line_end-finds : IsFinder line_end
line_end-finds = record { same = line_same; fits = line_fits }

-- an empty line at the front is there still
empty_same : (b : ℕ) (bytes more : List ℕ) → 0 < empty_line (b ∷ bytes) → empty_line (b ∷ bytes ++ more) ≡ empty_line (b ∷ bytes)
empty_same b [] [] h = refl
empty_same b [] (c ∷ more) h =
    cond_both (is_lf b) 1 0 (λ n. 0 < n → cond (is_lf b) 1 (cond ((b == 13) && is_lf c) 2 0) ≡ n)
    (λ yes h. cond-true (is_lf b) 1 _ yes) (λ no h. absurd (omega arith)) h
empty_same b (c ∷ bytes) more h = refl

pub empty_fits : (bytes : List ℕ) → empty_line bytes ≤ length bytes
empty_fits [] = omega arith
empty_fits (b ∷ []) = cond_both (is_lf b) 1 0 (λ n. n ≤ 1) (λ _. omega arith) (λ _. omega arith)
empty_fits (b ∷ c ∷ bytes) =
    cond_both (is_lf b) 1 (cond ((b == 13) && is_lf c) 2 0) (λ n. n ≤ suc (suc (length bytes))) (λ _. omega arith)
    (λ _. cond_both ((b == 13) && is_lf c) 2 0 (λ n. n ≤ suc (suc (length bytes))) (λ _. omega arith) (λ _. omega arith))

empty_end_same : (fresh : Bool) (bytes more : List ℕ) (n : ℕ) → empty_line_end fresh bytes ≡ Some n → empty_line_end fresh (bytes ++ more) ≡ Some n
empty_end_same fresh [] more n e = absurd (cc)
empty_end_same fresh (b ∷ bytes) more n e =
    cond_both (fresh && nat_lt 0 (empty_line (b ∷ bytes))) (Some (empty_line (b ∷ bytes))) (option_map (λ n. n + 1) (empty_line_end (is_lf b) bytes))
    (λ o. o ≡ Some n → empty_line_end fresh (b ∷ (bytes ++ more)) ≡ Some n)
    (λ yes e.
    let p = and_parts fresh _ yes in
    let same = empty_same b bytes more (ltb-true _ _ p.1) in
    let test : (fresh && nat_lt 0 (empty_line (b ∷ (bytes ++ more)))) ≡ true = and_from fresh _ p.0 (ap (nat_lt 0) same ∙ p.1) in
    cond-true _ (Some (empty_line (b ∷ (bytes ++ more)))) _ test ∙ ap (λ (k : ℕ). Some k) same ∙ e)
    (λ no e.
    let m = more_is (empty_line_end (is_lf b) bytes) n e in
    let test : (fresh && nat_lt 0 (empty_line (b ∷ (bytes ++ more)))) ≡ false = still_no fresh b bytes more m.0 m.1 no in
    cond-false _ (Some (empty_line (b ∷ (bytes ++ more)))) _ test
    ∙ ap (option_map (λ n. n + 1)) (empty_end_same (is_lf b) bytes more m.0 m.1) ∙ ap (λ (k : ℕ). Some k) (sym m.2))
    e
  where
    still_no : (fresh : Bool) (b : ℕ) (bytes more : List ℕ) (m : ℕ) → empty_line_end (is_lf b) bytes ≡ Some m
        → (fresh && nat_lt 0 (empty_line (b ∷ bytes))) ≡ false → (fresh && nat_lt 0 (empty_line (b ∷ (bytes ++ more)))) ≡ false
    still_no fresh b [] more m e fails = absurd (cc)
    still_no fresh b (c ∷ bytes) more m e fails = fails

empty_end_fits : (fresh : Bool) (bytes : List ℕ) (n : ℕ) → empty_line_end fresh bytes ≡ Some n → (0 < n) × (n ≤ length bytes)
empty_end_fits fresh [] n e = absurd (cc)
empty_end_fits fresh (b ∷ bytes) n e =
    cond_both (fresh && nat_lt 0 (empty_line (b ∷ bytes))) (Some (empty_line (b ∷ bytes))) (option_map (λ n. n + 1) (empty_line_end (is_lf b) bytes))
    (λ o. o ≡ Some n → (0 < n) × (n ≤ suc (length bytes)))
    (λ yes e. let p = and_parts fresh _ yes in let k : empty_line (b ∷ bytes) ≡ n = cc in
    let positive = ltb-true _ _ p.1 in let fits = empty_fits (b ∷ bytes) in (omega arith, omega arith))
    (λ no e. let m = more_is (empty_line_end (is_lf b) bytes) n e in let r = empty_end_fits (is_lf b) bytes m.0 m.1 in (omega arith, omega arith))
    e

pub empty_line_end-finds : IsFinder (empty_line_end true)
empty_line_end-finds = record { same = empty_end_same true; fits = empty_end_fits true }

-- ---- past the empty lines at the front

stays : (b : ℕ) (more : List ℕ) → is_lf b ≡ false → (b == 13) ≡ false → drop_empty_lines (b ∷ more) ≡ b ∷ more
stays b [] other past = cond-false (is_lf b) [] (b ∷ []) other
stays b (c ∷ more) other past =
    cond-false (is_lf b) (drop_empty_lines (c ∷ more)) (cond ((b == 13) && is_lf c) (drop_empty_lines more) (b ∷ c ∷ more)) other
    ∙ cond-false ((b == 13) && is_lf c) (drop_empty_lines more) (b ∷ c ∷ more) (and_left (b == 13) (is_lf c) past)

-- a reading that says nothing yet where nothing or a lone CR stands
pub record WaitsAtFront {A : Type 0} (read : List ℕ → Cut A) : Type 0 where
  pub at_end : read [] ≡ waits
  pub at_cr : read (13 ∷ []) ≡ waits

module _ {A : Type 0} (read : List ℕ → Cut A) (stable : IsStable read) (front : WaitsAtFront read) where
  pub dropped-later : (bytes more : List ℕ) → Later more (read (drop_empty_lines bytes)) (read (drop_empty_lines (bytes ++ more)))
  dropped-later [] more = subst (λ (c : Cut A). Later more c (read (drop_empty_lines more))) (sym front.at_end) tt
  dropped-later (b ∷ []) more =
      cond_both (is_lf b) [] (b ∷ []) (λ l. Later more (read l) (read (drop_empty_lines (b ∷ more))))
      (λ yes. subst (λ (c : Cut A). Later more c (read (drop_empty_lines (b ∷ more)))) (sym front.at_end) tt)
      (λ other. elim (cases_Bool (b == 13)) [
        | inl at_cr ↦ subst (λ (c : Cut A). Later more c (read (drop_empty_lines (b ∷ more))))
            (sym (ap (λ (x : ℕ). read (x ∷ [])) (eqb-true b 13 at_cr) ∙ front.at_cr)) tt
        | inr past ↦ subst (λ (l : List ℕ). Later more (read (b ∷ [])) (read l)) (sym (stays b more other past)) (stable.later (b ∷ []) more)
      ])
  dropped-later (b ∷ c ∷ bytes) more =
      cond_both (is_lf b) (drop_empty_lines (c ∷ bytes)) (cond ((b == 13) && is_lf c) (drop_empty_lines bytes) (b ∷ c ∷ bytes))
      (λ l. Later more (read l) (read (drop_empty_lines (b ∷ c ∷ (bytes ++ more)))))
      (λ yes. subst (λ (l : List ℕ). Later more (read (drop_empty_lines (c ∷ bytes))) (read l))
      (sym (cond-true (is_lf b) (drop_empty_lines (c ∷ (bytes ++ more))) (cond ((b == 13) && is_lf c) (drop_empty_lines (bytes ++ more)) (b ∷ c ∷ (bytes ++ more))) yes))
      (dropped-later (c ∷ bytes) more))
      (λ no. subst (λ (l : List ℕ). Later more (read (cond ((b == 13) && is_lf c) (drop_empty_lines bytes) (b ∷ c ∷ bytes))) (read l))
      (sym (cond-false (is_lf b) (drop_empty_lines (c ∷ (bytes ++ more))) (cond ((b == 13) && is_lf c) (drop_empty_lines (bytes ++ more)) (b ∷ c ∷ (bytes ++ more))) no))
      (cond_both ((b == 13) && is_lf c) (drop_empty_lines bytes) (b ∷ c ∷ bytes)
      (λ l. Later more (read l) (read (cond ((b == 13) && is_lf c) (drop_empty_lines (bytes ++ more)) (b ∷ c ∷ (bytes ++ more)))))
      (λ yes. subst (λ (l : List ℕ). Later more (read (drop_empty_lines bytes)) (read l))
      (sym (cond-true ((b == 13) && is_lf c) (drop_empty_lines (bytes ++ more)) (b ∷ c ∷ (bytes ++ more)) yes)) (dropped-later bytes more))
      (λ other. subst (λ (l : List ℕ). Later more (read (b ∷ c ∷ bytes)) (read l))
      (sym (cond-false ((b == 13) && is_lf c) (drop_empty_lines (bytes ++ more)) (b ∷ c ∷ (bytes ++ more)) other)) (stable.later (b ∷ c ∷ bytes) more))))

-- ---- what a reading takes

-- what is left is shorter by so many bytes
abbrev pub Takes : {A : Type 0} → ℕ → List ℕ → Cut A → Type 0
Takes n bytes waits = Unit {0}
Takes n bytes (refused reason) = Unit {0}
Takes n bytes (whole a rest) = length rest + n ≤ length bytes

pub takes_further : {B : Type 0} (m n : ℕ) (bytes rest : List ℕ) (d : Cut B)
    → length rest + m ≤ length bytes → Takes n rest d → Takes (m + n) bytes d
takes_further m n bytes rest waits h t = tt
takes_further m n bytes rest (refused reason) h t = tt
takes_further m n bytes rest (whole b end) h t = omega arith

pub and_then-takes : {A B : Type 0} (m n : ℕ) (bytes : List ℕ) (c : Cut A) (f : A → List ℕ → Cut B)
    → Takes m bytes c → ((a : A) (rest : List ℕ) → length rest + m ≤ length bytes → Takes n rest (f a rest)) → Takes (m + n) bytes (and_then c f)
and_then-takes m n bytes waits f h step = tt
and_then-takes m n bytes (refused reason) f h step = tt
and_then-takes m n bytes (whole a rest) f h step = takes_further m n bytes rest (f a rest) h (step a rest h)

-- two readings that go on alike
pub and_then-same : {A B : Type 0} (c : Cut A) (f g : A → List ℕ → Cut B)
    → ((a : A) (rest : List ℕ) → c ≡ whole a rest → f a rest ≡ g a rest) → and_then c f ≡ and_then c g
and_then-same waits f g h = refl
and_then-same (refused reason) f g h = refl
and_then-same (whole a rest) f g h = h a rest refl

pub takes_at : {A : Type 0} (n : ℕ) (bytes : List ℕ) (c : Cut A) (a : A) (rest : List ℕ) → Takes n bytes c → c ≡ whole a rest → length rest + n ≤ length bytes
takes_at {A} n bytes c a rest h e = let P : Cut A → Type 0 = λ d. Takes n bytes d in subst P e h

up_to-takes : (o : Option ℕ) (bytes : List ℕ) (b : Bool) (reason : Refusal)
    → ((n : ℕ) → o ≡ Some n → (0 < n) × (n ≤ length bytes)) → Takes 1 bytes (up_to o (cond b (refused reason) waits) bytes)
up_to-takes None bytes true reason h = tt
up_to-takes None bytes false reason h = tt
up_to-takes (Some n) bytes b reason h = let f = h n refl in rw length-drop (omega arith)

pub within-takes : (end : List ℕ → Option ℕ) (finds : IsFinder end) (most enough : ℕ) (reason : Refusal) (bytes : List ℕ)
    → Takes 1 bytes (within end most enough reason bytes)
within-takes end finds most enough reason bytes =
    up_to-takes (end (take most bytes)) bytes (nat_le enough (length bytes)) reason
    (λ n e. let f = finds.fits (take most bytes) n e in (f.0, omega (arith, length_take_le most bytes)))

pub drop_empty_lines-le : (bytes : List ℕ) → length (drop_empty_lines bytes) ≤ length bytes
drop_empty_lines-le [] = omega arith
drop_empty_lines-le (b ∷ []) = cond_both (is_lf b) [] (b ∷ []) (λ l. length l ≤ 1) (λ _. omega arith) (λ _. omega arith)
drop_empty_lines-le (b ∷ c ∷ bytes) =
    cond_both (is_lf b) (drop_empty_lines (c ∷ bytes)) (cond ((b == 13) && is_lf c) (drop_empty_lines bytes) (b ∷ c ∷ bytes))
    (λ l. length l ≤ suc (suc (length bytes)))
    (λ _. let r = drop_empty_lines-le (c ∷ bytes) in omega arith)
    (λ _. cond_both ((b == 13) && is_lf c) (drop_empty_lines bytes) (b ∷ c ∷ bytes) (λ l. length l ≤ suc (suc (length bytes)))
    (λ _. let r = drop_empty_lines-le bytes in omega arith) (λ _. omega arith))
