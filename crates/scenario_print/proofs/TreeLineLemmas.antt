-- Lines, one after another.
use Rattle.std.proofs.Common.{◌≡◌, ℕ, ◌+◌, ◌-◌, ◌*◌, arith, Bool, ◌&&◌, List, [], ◌∷◌, ◌++◌, map, replicate, Option, Some, None, Result, Ok, Err, IsTrue, refl, sym, ap, subst, ◌∙◌, append_assoc, true, false}
use Rattle.std.specs.List.{list_all, join_with_byte}
use Rattle.std.specs.Result.{IsErr}
use Rattle.std.specs.Option.{IsSome, is_some}
use Rattle.std.proofs.lemmas.List.{append-nil, replicate-append-replicate}
use Rattle.gv_values.specs.Fronts.{BeginsWith}
use Rattle.scenario_grammar.specs.declared.keyword.Keyword.{Keyword}
use Rattle.scenario_grammar.specs.declared.phrase.Phrase.{Phrase}
use Rattle.scenario_grammar.specs.declared.phrase.Phrase.TheVariants as phrase
use Rattle.scenario_grammar.specs.declared.token.Token.{Token}
use Rattle.scenario_grammar.specs.Blocks.{TreeLine}
use Rattle.scenario_grammar.specs.Keyword.{spelling}
use Rattle.scenario_grammar.specs.Phrase.{phrase_tokens}
use Rattle.scenario_grammar.specs.Printed.{printed_tree_lines, words_of, is_closing, is_opening, less_if, more_if}
use Rattle.scenario_grammar.specs.Token.{Written, ◌⊕◌, fixed, token_word}
use Rattle.scenario_print.specs.Texts.{has_words}
use Rattle.scenario_print.specs.Written.{Appended, spaced, Started, AreWords, WroteLine}
use Rattle.scenario_print.specs.TreeLines.{line_text, WroteTreeLine, WroteFixedLine, Laid}
use Rattle.scenario_print.proofs.Words.{through, parted}

-- where no memory was found
pub broken_tree_line : {T E : Type 0} {o n : List ℕ} {r : Result T E} {level : ℕ} {p : Phrase} → IsErr r → BeginsWith n o → WroteTreeLine o n r level p
broken_tree_line {r = Ok x} is front = cc
broken_tree_line {r = Err x} is front = record { text = tt; front = front }

pub broken_fixed_line : {T E : Type 0} {o n : List ℕ} {r : Result T E} {level : ℕ} {k : Keyword} → IsErr r → BeginsWith n o → WroteFixedLine o n r level k
broken_fixed_line {r = Ok x} is front = cc
broken_fixed_line {r = Err x} is front = record { text = tt; front = front }

pub broken_lines : {T E : Type 0} {o n : List ℕ} {r : Result T E} {a b : ℕ} {w : Written TreeLine} → IsErr r → BeginsWith n o → Laid o n r a b w
broken_lines {r = Ok x} is front = cc
broken_lines {r = Err x} is front = record { lines = tt; front = front }

joined_words : (t : Token) (ts : List Token) → token_word t ++ spaced ts ≡ join_with_byte 32 (map token_word (t ∷ ts))
joined_words t [] = append-nil (token_word t)
joined_words t (u ∷ us) = ap (λ z. token_word t ++ 32 ∷ z) (joined_words u us)

line_words : (o n : List ℕ) (w : Written Token) → is_some w ≡ true → ((ts : List Token) → w ≡ Some ts → AreWords o n ts) → n ≡ o ++ words_of w
line_words o n None h f = cc
line_words o n (Some []) h f = absurd (f [] refl)
line_words o n (Some (t ∷ ts)) h f = f (t ∷ ts) refl ∙ ap (λ z. o ++ z) (joined_words t ts)

in_line : (o m n k : List ℕ) (indent words : List ℕ) → m ≡ o ++ indent → n ≡ m ++ words → k ≡ n ++ 10 ∷ [] → k ≡ o ++ (indent ++ words ++ 10 ∷ [])
in_line o m n k indent words e f g =
    g ∙ ap (λ z. z ++ 10 ∷ []) (f ∙ ap (λ z. z ++ words) e ∙ append_assoc o indent words) ∙ append_assoc o (indent ++ words) (10 ∷ [])

-- blanks, words and an end are a line
pub tree_line : {T E : Type 0} {o m n k : List ℕ} {x y : T} {r : Result T E} {level : ℕ} (p : Phrase)
    → (let done : Result T E = Ok x in Appended o m done (replicate (2 * level) 32)) → (let done : Result T E = Ok y in WroteLine m n done (phrase_tokens p)) → Appended n k r (10 ∷ []) → WroteTreeLine o k r level p
tree_line {o = o} {m = m} {n = n} {k = k} {r = Ok z} {level = level} p f g h = record {
  text = λ s. in_line o m n k (replicate (2 * level) 32) (words_of (phrase_tokens p)) f.bytes (line_words m n (phrase_tokens p) s g.words) h.bytes;
  front = through k m o (through k n m h.front g.front) f.front;
}
tree_line {o = o} {m = m} {n = n} {k = k} {r = Err z} p f g h = record { text = tt; front = through k m o (through k n m h.front g.front) f.front }

no_blanks : {T E : Type 0} (o : List ℕ) (x : T) → (let done : Result T E = Ok x in Appended o o done [])
no_blanks o x = record { bytes = sym (append-nil o); front = record { rest = []; is = sym (append-nil o) } }

-- the same without blanks
pub outer_line : {T E : Type 0} {o n k : List ℕ} {y : T} {r : Result T E} (p : Phrase)
    → (let done : Result T E = Ok y in WroteLine o n done (phrase_tokens p)) → Appended n k r (10 ∷ []) → WroteTreeLine o k r 0 p
outer_line {o = o} {y = y} p g h = tree_line p (no_blanks o y) g h

pub fixed_line : {T E : Type 0} {o m n k : List ℕ} {x y : T} {r : Result T E} {level : ℕ} {w : Keyword}
    → (let done : Result T E = Ok x in Appended o m done (replicate (2 * level) 32)) → (let done : Result T E = Ok y in Started m n done w (Some [])) → Appended n k r (10 ∷ []) → WroteFixedLine o k r level w
fixed_line {o = o} {m = m} {n = n} {k = k} {r = Ok z} {level = level} {w = w} f g h = record {
  text = in_line o m n k (replicate (2 * level) 32) (spelling w) f.bytes (g.words [] refl ∙ ap (λ z. m ++ z) (append-nil (spelling w))) h.bytes;
  front = through k m o (through k n m h.front g.front) f.front;
}
fixed_line {o = o} {m = m} {n = n} {k = k} {r = Err z} f g h = record { text = tt; front = through k m o (through k n m h.front g.front) f.front }

words_are : (w : Written Token) (k : Keyword) → w ≡ fixed k → words_of w ≡ spelling k
words_are w k e = ap words_of e

pub says : {T E : Type 0} {o n : List ℕ} {r : Result T E} {level : ℕ} {k : Keyword} (p : Phrase) → phrase_tokens p ≡ fixed k → WroteFixedLine o n r level k → WroteTreeLine o n r level p
says {o = o} {r = Ok z} {level = level} {k = k} p e f = record { text = λ s. f.text ∙ ap (λ z. o ++ line_text level z) (sym (words_are (phrase_tokens p) k e)); front = f.front }
says {r = Err z} p e f = record { text = tt; front = f.front }

pub else_tree_line : {T E : Type 0} {o n : List ℕ} {r : Result T E} {level : ℕ} → WroteFixedLine o n r level Keyword.Else → WroteTreeLine o n r level phrase.Else
unfolding phrase_tokens
else_tree_line f = says phrase.Else refl f

pub try_tree_line : {T E : Type 0} {o n : List ℕ} {r : Result T E} {level : ℕ} → WroteFixedLine o n r level Keyword.Try → WroteTreeLine o n r level phrase.Try
unfolding phrase_tokens
try_tree_line f = says phrase.Try refl f

pub finally_tree_line : {T E : Type 0} {o n : List ℕ} {r : Result T E} {level : ℕ} → WroteFixedLine o n r level Keyword.Finally → WroteTreeLine o n r level phrase.Finally
unfolding phrase_tokens
finally_tree_line f = says phrase.Finally refl f

pub end_tree_line : {T E : Type 0} {o n : List ℕ} {r : Result T E} {level : ℕ} → WroteFixedLine o n r level Keyword.End → WroteTreeLine o n r level phrase.End
unfolding phrase_tokens
end_tree_line f = says phrase.End refl f

and_both : (a b : Bool) → IsTrue (a && b) → IsTrue a × IsTrue b
and_both true b h = (refl, h)
and_both false b h = cc

all_both : {A : Type 0} (p : A → Bool) (xs ys : List A) → IsTrue (list_all p (xs ++ ys)) → IsTrue (list_all p xs) × IsTrue (list_all p ys)
all_both p [] ys h = (refl, h)
all_both p (x ∷ xs) ys h =
    let here = and_both (p x) (list_all p (xs ++ ys)) h in
    let more = all_both p xs ys here.1 in
    (ap (λ b. b && list_all p xs) here.0 ∙ more.0, more.1)

pub laid_nothing : {T E : Type 0} (o : List ℕ) (r : Result T E) (level : ℕ) → Laid o o r level level (Some [])
laid_nothing o (Ok x) level = record { lines = λ rs e said rest. ap (λ z. o ++ printed_tree_lines level (z ++ rest)) (let none : rs ≡ [] = cc in none); front = record { rest = []; is = sym (append-nil o) } }
laid_nothing o (Err x) level = record { lines = tt; front = record { rest = []; is = sym (append-nil o) } }

pub laid_none : {T E : Type 0} {o n : List ℕ} (r : Result T E) (a b : ℕ) → BeginsWith n o → Laid o n r a b None
laid_none (Ok x) a b h = record { lines = λ rs e. cc; front = h }
laid_none (Err x) a b h = record { lines = tt; front = h }

pub laid : {T E : Type 0} {o m n : List ℕ} {x : T} {r : Result T E} {a b c : ℕ} {v w : Written TreeLine} → (let done : Result T E = Ok x in Laid o m done a b v) → Laid m n r b c w → Laid o n r a c (v ⊕ w)
laid {o = o} {m = m} {n = n} {r = Ok y} {a = a} {v = v} {w = w} f g = record {
  lines = λ rs e said rest.
      let p = parted v w rs e in
      let both = all_both has_words p.first p.second (subst (λ z. IsTrue (list_all has_words z)) p.whole said) in
      ap (λ z. o ++ printed_tree_lines a (z ++ rest)) p.whole ∙ ap (λ z. o ++ printed_tree_lines a z) (append_assoc p.first p.second rest)
      ∙ f.lines p.first p.is_first both.0 (p.second ++ rest) ∙ g.lines p.second p.is_second both.1 rest;
  front = through n m o g.front f.front;
}
laid {o = o} {m = m} {n = n} {r = Err y} f g = record { lines = tt; front = through n m o g.front f.front }

said_one : (at : Option ℕ) (p : Phrase) (rs : List TreeLine) → (let r : TreeLine = record { at = at; says = p } in Some (r ∷ []) ≡ Some rs) → (let r : TreeLine = record { at = at; says = p } in rs ≡ r ∷ [])
said_one at p rs e = cc

one_said : (at : Option ℕ) (p : Phrase) → (let r : TreeLine = record { at = at; says = p } in IsTrue (list_all has_words (r ∷ []))) → IsSome (phrase_tokens p)
one_said at p h = (and_both (is_some (phrase_tokens p)) true h).0

tree_line_text : (o n indent words rest : List ℕ) → n ≡ o ++ (indent ++ words ++ 10 ∷ []) → o ++ (indent ++ words ++ 10 ∷ rest) ≡ n ++ rest
tree_line_text o n indent words rest e =
    ap (λ z. o ++ z) (sym (append_assoc (indent ++ words) (10 ∷ []) rest)) ∙ sym (append_assoc o (indent ++ words ++ 10 ∷ []) rest) ∙ ap (λ z. z ++ rest) (sym e)

-- one line
pub laid_line : {T E : Type 0} {o n : List ℕ} {r : Result T E} (at : Option ℕ) (p : Phrase) (from : ℕ) → WroteTreeLine o n r (less_if (is_closing p) from) p
    → (let tree_line : TreeLine = record { at = at; says = p } in Laid o n r from (more_if (is_opening p) (less_if (is_closing p) from)) (Some (tree_line ∷ [])))
laid_line {o = o} {n = n} {r = Ok y} at p from f = record {
  lines = λ rs e said rest.
      let same = said_one at p rs e in
      let here = less_if (is_closing p) from in
      ap (λ z. o ++ printed_tree_lines from (z ++ rest)) same
      ∙ tree_line_text o n (replicate (2 * here) 32) (words_of (phrase_tokens p)) (printed_tree_lines (more_if (is_opening p) here) rest) (f.text (one_said at p (subst (λ z. IsTrue (list_all has_words z)) same said)));
  front = f.front;
}
laid_line {r = Err y} at p from f = record { lines = tt; front = f.front }

-- one line that stands a level less far in
pub laid_back : {T E : Type 0} {o n : List ℕ} {r : Result T E} (at : Option ℕ) (p : Phrase) (level : ℕ) → is_closing p ≡ true → WroteTreeLine o n r level p
    → (let tree_line : TreeLine = record { at = at; says = p } in Laid o n r (level + 1) (more_if (is_opening p) level) (Some (tree_line ∷ [])))
laid_back {o = o} {n = n} {r = r} at p level closes f =
    let less : less_if (is_closing p) (level + 1) ≡ level = ap (λ z. less_if z (level + 1)) closes ∙ (let minus : level + 1 - 1 ≡ level = omega arith in minus) in
    subst (λ z. (let tree_line : TreeLine = record { at = at; says = p } in Laid o n r (level + 1) (more_if (is_opening p) z) (Some (tree_line ∷ [])))) less (laid_line at p (level + 1) (subst (λ z. WroteTreeLine o n r z p) (sym less) f))

-- two blanks more
pub more_blanks : {T E : Type 0} {o m n : List ℕ} {x y : T} (i : ℕ) → (let done : Result T E = Ok x in Appended o m done (replicate (2 * i) 32)) → (let done : Result T E = Ok y in Appended m n done (32 ∷ 32 ∷ []))
    → (let done : Result T E = Ok y in Appended o n done (replicate (2 * (i + 1)) 32))
more_blanks {o = o} {m = m} {n = n} i f g =
    let two : replicate (2 * i) 32 ++ replicate 2 32 ≡ replicate (2 * (i + 1)) 32 = replicate-append-replicate (2 * i) 2 32 ∙ ap (λ k. replicate k 32) (let sum : 2 * i + 2 ≡ 2 * (i + 1) = omega arith in sum) in
    record {
      bytes = g.bytes ∙ ap (λ z. z ++ 32 ∷ 32 ∷ []) f.bytes ∙ append_assoc o (replicate (2 * i) 32) (32 ∷ 32 ∷ []) ∙ ap (λ z. o ++ z) two;
      front = through n m o g.front f.front;
    }
