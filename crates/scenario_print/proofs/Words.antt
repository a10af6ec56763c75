-- Pieces of a line, one after another.
use Rattle.std.proofs.Common.{◌≡◌, ℕ, nat_le, ◌&&◌, Bool, ℤ, pos, List, [], ◌∷◌, ◌++◌, Some, None, Result, Ok, Err, refl, sym, ap, subst, ◌∙◌, append_assoc, true, false, codes}
use Rattle.std.specs.Result.{IsErr}
use Rattle.std.specs.Fmt.{decimal, signed_decimal}
use Rattle.std.proofs.lemmas.List.{append-nil}
use Rattle.gv_values.specs.Fronts.{BeginsWith}
use Rattle.gv_values.specs.declared.name.Name.{Name}
use Rattle.scenario_grammar.specs.declared.keyword.Keyword.{Keyword}
use Rattle.scenario_grammar.specs.declared.token.Token.{Token}
use Rattle.scenario_grammar.specs.declared.token.Token.TheVariants as token
use Rattle.scenario_grammar.specs.Keyword.{spelling}
use Rattle.scenario_grammar.specs.Token.{Written, ◌⊕◌, ◌▹◌, fixed, name, number, integer, only_if, token_word, is_free_name, in_64_bits}
use Rattle.scenario_print.specs.Written.{Appended, spaced, Wrote, WroteNumber, Started, AreWords, WroteLine}

pub through : (whole middle front : List ℕ) → BeginsWith whole middle → BeginsWith middle front → BeginsWith whole front
through whole middle front b d = record { rest = d.rest ++ b.rest; is = b.is ∙ ap (λ z. z ++ b.rest) d.is ∙ append_assoc front d.rest b.rest }

-- where no memory was found
pub broken_bytes : {T E : Type 0} {o n : List ℕ} {r : Result T E} {text : List ℕ} → IsErr r → BeginsWith n o → Appended o n r text
broken_bytes {r = Ok x} is front = cc
broken_bytes {r = Err x} is front = record { bytes = tt; front = front }

pub broken_words : {T E : Type 0} {o n : List ℕ} {r : Result T E} {w : Written Token} → IsErr r → BeginsWith n o → Wrote o n r w
broken_words {r = Ok x} is front = cc
broken_words {r = Err x} is front = record { words = tt; front = front }

pub broken_start : {T E : Type 0} {o n : List ℕ} {r : Result T E} {k : Keyword} {w : Written Token} → IsErr r → BeginsWith n o → Started o n r k w
broken_start {r = Ok x} is front = cc
broken_start {r = Err x} is front = record { words = tt; front = front }

pub broken_line : {T E : Type 0} {o n : List ℕ} {r : Result T E} {w : Written Token} → IsErr r → BeginsWith n o → WroteLine o n r w
broken_line {r = Ok x} is front = cc
broken_line {r = Err x} is front = record { words = tt; front = front }

spaced_append : (xs ys : List Token) → spaced (xs ++ ys) ≡ spaced xs ++ spaced ys
spaced_append [] ys = refl
spaced_append (x ∷ xs) ys = ap (λ z. 32 ∷ token_word x ++ z) (spaced_append xs ys) ∙ sym (append_assoc (32 ∷ token_word x) (spaced xs) (spaced ys))

-- a written list that was joined of two
pub record Parted {A : Type 0} (a b : Written A) (ts : List A) : Type 0 where
  pub first : List A
  pub second : List A
  pub is_first : a ≡ Some first
  pub is_second : b ≡ Some second
  pub whole : ts ≡ first ++ second

pub parted : {A : Type 0} (a b : Written A) (ts : List A) → a ⊕ b ≡ Some ts → Parted a b ts
parted (Some x) (Some y) ts e = record { first = x; second = y; is_first = refl; is_second = refl; whole = cc }
parted (Some x) None ts e = cc
parted None b ts e = cc

-- a written list that a fixed word begins
record Marked (k : Keyword) (a : Written Token) (ts : List Token) : Type 0 where
  rest : List Token
  is_rest : a ≡ Some rest
  whole : ts ≡ token.Fixed k ∷ rest

marked : (k : Keyword) (a : Written Token) (ts : List Token) → k ▹ a ≡ Some ts → Marked k a ts
marked k (Some x) ts e = record { rest = x; is_rest = refl; whole = cc }
marked k None ts e = cc

-- a word alone, where it stands there at all
one_word : {T E : Type 0} (o n : List ℕ) (r : Result T E) (b : Bool) (t : Token) → Appended o n r (32 ∷ token_word t) → Wrote o n r (only_if b (Some (t ∷ [])))
one_word o n (Ok x) b t f = record { words = λ ts e. f.bytes ∙ ap (λ z. o ++ 32 ∷ z) (sym (append-nil (token_word t))) ∙ ap (λ z. o ++ spaced z) (by_test b ts e); front = f.front }
  where
    by_test : (c : Bool) (ts : List Token) → only_if c (Some (t ∷ [])) ≡ Some ts → t ∷ [] ≡ ts
    by_test true ts e = cc
    by_test false ts e = cc
one_word o n (Err x) b t f = record { words = tt; front = f.front }

pub fixed_word : {T E : Type 0} (o n : List ℕ) (r : Result T E) (k : Keyword) → Appended o n r (32 ∷ spelling k) → Wrote o n r (fixed k)
fixed_word o n r k f = one_word o n r true (token.Fixed k) f

pub name_word : {T E : Type 0} (o n : List ℕ) (r : Result T E) (w : Name) → Appended o n r (32 ∷ w) → Wrote o n r (name w)
unfolding name
name_word o n r w f = one_word o n r (is_free_name w) (token.Name w) f

pub integer_word : {T E : Type 0} (o n : List ℕ) (r : Result T E) (z : ℤ) → Appended o n r (32 ∷ signed_decimal z) → Wrote o n r (integer z)
integer_word o n r z f = one_word o n r (in_64_bits z) (token.Number z) f

pub number_word : {T E : Type 0} (o n : List ℕ) (r : Result T E) (m : ℕ) → Appended o n r (32 ∷ decimal m) → WroteNumber o n r m
number_word o n r m f = record {
  words = λ least greatest. (one_word o n r (nat_le least m && nat_le m greatest) (token.Number (pos m)) f).words;
  front = f.front;
}

pub first_word : {T E : Type 0} (o n : List ℕ) (r : Result T E) (k : Keyword) → Appended o n r (spelling k) → Started o n r k (Some [])
first_word o n (Ok x) k f = record { words = λ ts e. let none : [] ≡ ts = cc in f.bytes ∙ ap (λ z. o ++ z) (sym (append-nil (spelling k)) ∙ ap (λ z. spelling k ++ spaced z) none); front = f.front }
first_word o n (Err x) k f = record { words = tt; front = f.front }

pub ruleset leaves = (fixed_word, name_word, number_word, integer_word, first_word)

pub nothing : {T E : Type 0} (o : List ℕ) (r : Result T E) → Wrote o o r (Some [])
nothing o (Ok x) = record { words = λ ts e. sym (append-nil o) ∙ ap (λ z. o ++ spaced z) (let t : [] ≡ ts = cc in t); front = record { rest = []; is = sym (append-nil o) } }
nothing o (Err x) = record { words = tt; front = record { rest = []; is = sym (append-nil o) } }

-- no words are promised where there are none
pub no_words : {T E : Type 0} (o n : List ℕ) (r : Result T E) → BeginsWith n o → Wrote o n r None
no_words o n (Ok x) b = record { words = λ ts e. cc; front = b }
no_words o n (Err x) b = record { words = tt; front = b }

pub in_range : {T E : Type 0} {o n : List ℕ} {r : Result T E} {m : ℕ} (least greatest : ℕ) → WroteNumber o n r m → Wrote o n r (number least greatest m)
in_range least greatest f = record { words = f.words least greatest; front = f.front }

pub joined : {T E : Type 0} {o m n : List ℕ} {x : T} {r : Result T E} {a b : Written Token} → (let done : Result T E = Ok x in Wrote o m done a) → Wrote m n r b → Wrote o n r (a ⊕ b)
joined {o = o} {m = m} {n = n} {r = Ok y} {a = a} {b = b} f g = record {
  words = λ ts e. let p = parted a b ts e in
      g.words p.second p.is_second ∙ ap (λ z. z ++ spaced p.second) (f.words p.first p.is_first) ∙ append_assoc o (spaced p.first) (spaced p.second)
      ∙ ap (λ z. o ++ z) (sym (spaced_append p.first p.second)) ∙ ap (λ z. o ++ spaced z) (sym p.whole);
  front = through n m o g.front f.front;
}
joined {o = o} {m = m} {n = n} {r = Err y} {a = a} {b = b} f g = record { words = tt; front = through n m o g.front f.front }

-- a fixed word, and a part behind it
pub worded : {T E : Type 0} {o m n : List ℕ} {x : T} {r : Result T E} (k : Keyword) {a : Written Token} → (let done : Result T E = Ok x in Wrote o m done (fixed k)) → Wrote m n r a → Wrote o n r (k ▹ a)
worded {o = o} {m = m} {n = n} {r = Ok y} k {a = a} f g = record {
  words = λ ts e. let p = marked k a ts e in
      g.words p.rest p.is_rest ∙ ap (λ z. z ++ spaced p.rest) (f.words (token.Fixed k ∷ []) refl) ∙ append_assoc o (spaced (token.Fixed k ∷ [])) (spaced p.rest)
      ∙ ap (λ z. o ++ z) (sym (spaced_append (token.Fixed k ∷ []) p.rest)) ∙ ap (λ z. o ++ spaced z) (sym p.whole);
  front = through n m o g.front f.front;
}
worded {o = o} {m = m} {n = n} {r = Err y} k {a = a} f g = record { words = tt; front = through n m o g.front f.front }

-- the first part behind the first word of a line
pub started : {T E : Type 0} {o m n : List ℕ} {x : T} {r : Result T E} {k : Keyword} {a : Written Token} → (let done : Result T E = Ok x in Started o m done k (Some [])) → Wrote m n r a → Started o n r k a
started {o = o} {m = m} {n = n} {r = Ok y} {k = k} {a = a} f g = record {
  words = λ ts e. g.words ts e ∙ ap (λ z. z ++ spaced ts) (f.words [] refl ∙ ap (λ z. o ++ z) (append-nil (spelling k))) ∙ append_assoc o (spelling k) (spaced ts);
  front = through n m o g.front f.front;
}
started {o = o} {m = m} {n = n} {r = Err y} f g = record { words = tt; front = through n m o g.front f.front }

-- one more part behind those that follow the first word
pub further : {T E : Type 0} {o m n : List ℕ} {x : T} {r : Result T E} {k : Keyword} {a b : Written Token} → (let done : Result T E = Ok x in Started o m done k a) → Wrote m n r b → Started o n r k (a ⊕ b)
further {o = o} {m = m} {n = n} {r = Ok y} {k = k} {a = a} {b = b} f g = record {
  words = λ ts e. let p = parted a b ts e in
      let text : (spelling k ++ spaced p.first) ++ spaced p.second ≡ spelling k ++ spaced ts = append_assoc (spelling k) (spaced p.first) (spaced p.second) ∙ ap (λ z. spelling k ++ z) (sym (spaced_append p.first p.second)) ∙ ap (λ z. spelling k ++ spaced z) (sym p.whole) in
      g.words p.second p.is_second ∙ ap (λ z. z ++ spaced p.second) (f.words p.first p.is_first) ∙ append_assoc o (spelling k ++ spaced p.first) (spaced p.second) ∙ ap (λ z. o ++ z) text;
  front = through n m o g.front f.front;
}
further {o = o} {m = m} {n = n} {r = Err y} f g = record { words = tt; front = through n m o g.front f.front }

-- a line that a fixed word begins
pub line : {T E : Type 0} {o n : List ℕ} {r : Result T E} {k : Keyword} {a : Written Token} → Started o n r k a → WroteLine o n r (k ▹ a)
line {o = o} {n = n} {r = Ok y} {k = k} {a = a} f = record {
  words = λ ts e. let p = marked k a ts e in subst (AreWords o n) (sym p.whole) (f.words p.rest p.is_rest);
  front = f.front;
}
line {r = Err y} f = record { words = tt; front = f.front }

record Targeted (w : Name) (a : Written Token) (ts : List Token) : Type 0 where
  rest : List Token
  is_rest : a ≡ Some rest
  whole : ts ≡ token.Name w ∷ token.Fixed Keyword.Arrow ∷ rest

targeted : (w : Name) (a : Written Token) (ts : List Token) → name w ⊕ fixed Keyword.Arrow ⊕ a ≡ Some ts → Targeted w a ts
unfolding name
targeted w a ts e = by_test (is_free_name w) a ts e
  where
    by_test : (b : Bool) (a : Written Token) (ts : List Token) → only_if b (Some (token.Name w ∷ [])) ⊕ fixed Keyword.Arrow ⊕ a ≡ Some ts → Targeted w a ts
    by_test true (Some us) ts e = record { rest = us; is_rest = refl; whole = cc }
    by_test true None ts e = cc
    by_test false a ts e = cc

on_target : (o m n : List ℕ) (w : Name) (us : List Token) → m ≡ o ++ (w ++ codes " <- ") → AreWords m n us → AreWords o n (token.Name w ∷ token.Fixed Keyword.Arrow ∷ us)
on_target o m n w [] e h = absurd h
on_target o m n w (t ∷ us) e h =
    h ∙ ap (λ z. z ++ (token_word t ++ spaced us)) e ∙ append_assoc o (w ++ codes " <- ") (token_word t ++ spaced us)
    ∙ ap (λ z. o ++ z) (append_assoc w (codes " <- ") (token_word t ++ spaced us))

-- a line that a name and `<-` begin
pub named_line : {T E : Type 0} {o m n : List ℕ} {x : T} {r : Result T E} (w : Name) {a : Written Token} → (let done : Result T E = Ok x in Appended o m done (w ++ codes " <- ")) → WroteLine m n r a → WroteLine o n r (name w ⊕ fixed Keyword.Arrow ⊕ a)
named_line {o = o} {m = m} {n = n} {r = Ok y} w {a = a} f g = record {
  words = λ ts e. let p = targeted w a ts e in subst (AreWords o n) (sym p.whole) (on_target o m n w p.rest f.bytes (g.words p.rest p.is_rest));
  front = through n m o g.front f.front;
}
named_line {o = o} {m = m} {n = n} {r = Err y} w f g = record { words = tt; front = through n m o g.front f.front }

-- a line with nothing before it
pub unnamed_line : {T E : Type 0} {o n : List ℕ} {r : Result T E} {a : Written Token} → WroteLine o n r a → WroteLine o n r (Some [] ⊕ a)
unnamed_line {r = Ok y} {a = Some us} f = f
unnamed_line {r = Ok y} {a = None} f = record { words = λ ts e. cc; front = f.front }
unnamed_line {r = Err y} f = record { words = tt; front = f.front }
