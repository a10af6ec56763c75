-- The laws of names, numbers and counted parts.
use Rattle.std.proofs.Common.{◌≡◌, ℕ, zero, suc, pos, negsuc, Bool, true, false, ◌&&◌, nat_le, cond, List, [], ◌∷◌, ◌++◌, length, Some, Ok, Err, refl, sym, ap, arith}
use Rattle.std.specs.List.{list_all}
use Rattle.scenario_grammar.specs.declared.token.Token.{Token}
use Rattle.scenario_grammar.specs.declared.token.Token.TheVariants as token
use Rattle.scenario_grammar.specs.Token.{Written, each, only_if, is_free_name, in_64_bits, name, integer, number}
use Rattle.scenario_grammar.specs.Reading.{Reader, Reading, ◌<$>◌, name_at, integer_at, number_at, count_at}
use Rattle.scenario_grammar.proofs.Parts.{is_proper, Sound, Full, Anything, ok_first, ok_second, proper_at, map_sound, then_sound, map_full, then_full}
use Rattle.scenario_grammar.specs.declared.reason.TextReason.TheVariants as reason

pub and_left : (a b : Bool) → (a && b) ≡ true → a ≡ true
and_left true b h = refl
and_left false b h = cc

pub and_right : (a b : Bool) → (a && b) ≡ true → b ≡ true
and_right true b h = h
and_right false b h = cc

pub name_sound : Sound (λ n. n) name name_at
unfolding name name_at
name_sound [] rest made h e = cc
name_sound (token.Fixed w ∷ ts) rest made h e = cc
name_sound (token.Number z ∷ ts) rest made h e = cc
name_sound (token.Oversized ∷ ts) rest made h e = cc
name_sound (token.Misspelled ∷ ts) rest made h e = cc
name_sound (token.Unknown ∷ ts) rest made h e = cc
name_sound (token.Name n ∷ ts) rest made h e =
    let free : is_free_name n ≡ true = and_left (is_free_name n) (list_all is_proper ts) h in
    let ends = ok_second n made ts rest e in
    record {
      parts = n;
      made_of = ok_first n made ts rest e;
      front = token.Name n ∷ [];
      written = rw free refl;
      whole = ap (λ z. token.Name n ∷ z) ends;
      proper = proper_at ts rest ends (and_right (is_free_name n) (list_all is_proper ts) h);
    }

pub kept : {A : Type 0} (b : Bool) (w : Written A) (front : List A) → only_if b w ≡ Some front → (b ≡ true) × (w ≡ Some front)
kept true w front e = (refl, e)
kept false w front e = cc

pub name_full : Full (λ n. n) name Anything name_at
unfolding name name_at
name_full n front rest e h =
    let k = kept (is_free_name n) (Some (token.Name n ∷ [])) front e in
    let same : token.Name n ∷ [] ≡ front = cc in
    rw (sym same) refl

pub integer_sound : Sound (λ z. z) integer integer_at
unfolding integer_at
integer_sound [] rest made h e = cc
integer_sound (token.Fixed w ∷ ts) rest made h e = cc
integer_sound (token.Name z ∷ ts) rest made h e = cc
integer_sound (token.Oversized ∷ ts) rest made h e = cc
integer_sound (token.Misspelled ∷ ts) rest made h e = cc
integer_sound (token.Unknown ∷ ts) rest made h e = cc
integer_sound (token.Number z ∷ ts) rest made h e =
    let fits : in_64_bits z ≡ true = and_left (in_64_bits z) (list_all is_proper ts) h in
    let ends = ok_second z made ts rest e in
    record {
      parts = z;
      made_of = ok_first z made ts rest e;
      front = token.Number z ∷ [];
      written = rw fits refl;
      whole = ap (λ x. token.Number z ∷ x) ends;
      proper = proper_at ts rest ends (and_right (in_64_bits z) (list_all is_proper ts) h);
    }

pub integer_full : Full (λ z. z) integer Anything integer_at
unfolding integer_at
integer_full z front rest e h =
    let k = kept (in_64_bits z) (Some (token.Number z ∷ [])) front e in
    let same : token.Number z ∷ [] ≡ front = cc in
    rw (sym same) refl

chosen : (b : Bool) (n made : ℕ) (ts rest : List Token) → (let r : Reading ℕ = cond b (Ok (n, ts)) (Err reason.OutOfRange) in r) ≡ Ok (made, rest) → (b ≡ true) × (n ≡ made) × (ts ≡ rest)
chosen true n made ts rest e = (refl, ok_first n made ts rest e, ok_second n made ts rest e)
chosen false n made ts rest e = cc

pub number_sound : (least greatest : ℕ) → Sound (λ n. n) (number least greatest) (number_at least greatest)
unfolding number_at
number_sound least greatest [] rest made h e = cc
number_sound least greatest (token.Fixed w ∷ ts) rest made h e = cc
number_sound least greatest (token.Name z ∷ ts) rest made h e = cc
number_sound least greatest (token.Oversized ∷ ts) rest made h e = cc
number_sound least greatest (token.Misspelled ∷ ts) rest made h e = cc
number_sound least greatest (token.Unknown ∷ ts) rest made h e = cc
number_sound least greatest (token.Number (negsuc n) ∷ ts) rest made h e = cc
number_sound least greatest (token.Number (pos n) ∷ ts) rest made h e =
    let c = chosen (nat_le least n && nat_le n greatest) n made ts rest e in
    record {
      parts = n;
      made_of = c.1;
      front = token.Number (pos n) ∷ [];
      written = rw c.0 refl;
      whole = ap (λ x. token.Number (pos n) ∷ x) c.2;
      proper = proper_at ts rest c.2 (and_right (in_64_bits (pos n)) (list_all is_proper ts) h);
    }

pub number_full : (least greatest : ℕ) → Full (λ n. n) (number least greatest) Anything (number_at least greatest)
unfolding number_at
number_full least greatest n front rest e h =
    let k = kept (nat_le least n && nat_le n greatest) (Some (token.Number (pos n) ∷ [])) front e in
    let same : token.Number (pos n) ∷ [] ≡ front = cc in
    rw (sym same, k.0) refl

-- as many parts as were counted
abbrev pub Many : Type 0 → ℕ → Type 0
Many A n = (xs : List A) × (length xs ≡ n)

pub count_sound : {A : Type 0} (writes : A → Written Token) (reader : Reader A) → Sound (λ x. x) writes reader
    → (n : ℕ) → Sound {E = Many A n} (λ p. p.0) (λ p. each writes p.0) (count_at reader n)
count_sound writes reader sound zero ts rest made h e =
    let none = ok_first [] made ts rest e in
    let ends = ok_second [] made ts rest e in
    record { parts = ([], refl); made_of = none; front = []; written = refl; whole = ends; proper = proper_at ts rest ends h }
count_sound writes reader sound (suc n) ts rest made h e =
    let got = then_sound (λ x xs. x ∷ xs) writes ((λ x xs. x ∷ xs) <$> reader) (λ p. p.0) (λ p. each writes p.0) (count_at reader n)
    (map_sound (λ x xs. x ∷ xs) (λ x. x) writes reader sound) (count_sound writes reader sound n) ts rest made h e in
    record { parts = (got.parts.0 ∷ got.parts.1.0, ap suc got.parts.1.1); made_of = got.made_of; front = got.front; written = got.written; whole = got.whole; proper = got.proper }

pub count_full : {A : Type 0} (writes : A → Written Token) (reader : Reader A) → Full (λ x. x) writes Anything reader
    → (n : ℕ) → Full {E = Many A n} (λ p. p.0) (λ p. each writes p.0) Anything (count_at reader n)
count_full {A = A} writes reader full zero p front rest e h = empty_full p.0 p.1 front rest e
  where
    empty_full : (xs : List A) → length xs ≡ 0 → (front rest : List Token) → each writes xs ≡ Some front → count_at reader 0 (front ++ rest) ≡ Ok (xs, rest)
    empty_full [] l front rest e = let none : [] ≡ front = cc in rw (sym none) refl
    empty_full (x ∷ xs) l front rest e = absurd (omega (arith, l))
count_full {A = A} writes reader full (suc n) p front rest e h = more_full p.0 p.1 front rest e (count_full writes reader full n)
  where
    more_full : (xs : List A) → length xs ≡ suc n → (front rest : List Token) → each writes xs ≡ Some front
        → Full {E = Many A n} (λ q. q.0) (λ q. each writes q.0) Anything (count_at reader n) → count_at reader (suc n) (front ++ rest) ≡ Ok (xs, rest)
    more_full [] l front rest e below = absurd (omega (arith, l))
    more_full (x ∷ xs) l front rest e below =
        then_full (λ y ys. y ∷ ys) writes Anything ((λ y ys. y ∷ ys) <$> reader) (λ q. q.0) (λ q. each writes q.0) Anything (count_at reader n)
        (map_full (λ y ys. y ∷ ys) (λ y. y) writes Anything reader full) below (λ q f r w t. tt) (x, (xs, omega (arith, l))) front rest e tt
