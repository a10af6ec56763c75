-- The words of a line, taken off one by one.
use Rattle.std.proofs.Common.{◌≡◌, ℕ, zero, suc, ◌+◌, ◌<◌, ◌≤◌, Bool, true, false, cond, if◌then◌else◌, not, ◌==◌, map, inl, inr, List, [], ◌∷◌, ◌++◌, Option, Some, None, position, length, take, drop, refl, ap, sym, arith, append_assoc}
use Rattle.std.specs.List.{slice_split, position_or_len, list_all}
use Rattle.std.proofs.lemmas.List.Splits.{slice_split_first, slice_split-cons_no}
use Rattle.std.proofs.lemmas.Bool.{cases_Bool, eqb-true, ltb-true, ltb-false}
use Rattle.scenario_grammar.specs.declared.token.Token.{Token}
use Rattle.scenario_grammar.specs.Layout.{is_blank, is_empty}
use Rattle.scenario_grammar.specs.Token.{token_in}
use Rattle.scenario_lines.specs.Fronts.{spaced_tokens, tokens_if_spaced}

-- the tokens of all words, where those of the first are known
abbrev pub behind : List Token → Option (List Token) → Option (List Token)
behind front None = None
behind front (Some ts) = Some (front ++ ts)

found : (t : Bool) (a i : ℕ) → cond t (Some a) None ≡ Some i → (t ≡ true) × (a ≡ i)
found true a i e = (refl, cc)
found false a i e = cc

not_found : (t : Bool) (a : ℕ) → cond t (Some a) None ≡ None → t ≡ false
not_found true a e = cc
not_found false a e = refl

pub position-found : (p : ℕ → Bool) (xs : List ℕ) (i : ℕ) → position p xs ≡ Some i → (position_or_len p xs ≡ i) × (i < length xs)
position-found p xs i e =
    let h = found _ _ i e in
    let less : position_or_len p xs < length xs = ltb-true _ _ h.0 in
    (h.1, rw (← h.1) less)

pub split_none : (p : ℕ → Bool) (xs : List ℕ) → length xs ≤ position_or_len p xs → slice_split p xs ≡ xs ∷ []
split_none p [] h = refl
split_none p (x ∷ xs) h =
    elim (cases_Bool (p x)) [
      | inl passes ↦ absurd (let z : position_or_len p (x ∷ xs) ≡ 0 = rw passes refl in omega (arith, h))
      | inr fails ↦ (let z : position_or_len p (x ∷ xs) ≡ position_or_len p xs + 1 = rw fails (omega arith) in rw (slice_split-cons_no p x xs fails, split_none p xs (omega (arith, h))) refl)
    ]

pub split_at_position : (p : ℕ → Bool) (xs : List ℕ) (i : ℕ) → position p xs ≡ Some i → slice_split p xs ≡ take i xs ∷ slice_split p (drop (i + 1) xs)
split_at_position p xs i e =
    let h = position-found p xs i e in
    let s = slice_split_first p xs 0 (rw h.0 h.1) in
    rw h.0 at s

pub split_unfound : (p : ℕ → Bool) (xs : List ℕ) → position p xs ≡ None → slice_split p xs ≡ xs ∷ []
split_unfound p xs e = split_none p xs (ltb-false _ _ (not_found _ _ e))

taken : (xs : List ℕ) (i : ℕ) → 0 < i → i < length xs → is_empty (take i xs) ≡ false
taken [] i h l = absurd (omega (arith, l))
taken (x ∷ xs) zero h l = absurd (omega (arith, h))
taken (x ∷ xs) (suc i) h l = refl

full_rest : (t : List Token) (x : Token) (spaced : Bool) (xs : List Token) → behind t (if spaced then Some (x ∷ xs) else None) ≡ behind (t ++ x ∷ []) (if spaced then Some xs else None)
full_rest t x true xs = ap Some (sym (append_assoc t (x ∷ []) xs))
full_rest t x false xs = refl

full : (p : ℕ) (t : List Token) (w : List ℕ) (ws : List (List ℕ)) → is_empty w ≡ false → behind t (tokens_if_spaced p (w ∷ ws)) ≡ behind (t ++ token_in p w ∷ []) (tokens_if_spaced p ws)
full p t w ws e = rw e (full_rest t (token_in p w) (list_all (λ word. not (is_empty word)) ws) (map (token_in p) ws))

-- one word more
pub word_next : (p : ℕ) (front : List Token) (text : List ℕ) (i : ℕ) → position is_blank text ≡ Some i → 0 < i → behind (front ++ token_in p (take i text) ∷ []) (spaced_tokens p (drop (i + 1) text)) ≡ behind front (spaced_tokens p text)
unfolding spaced_tokens
word_next p front text i e h = rw (split_at_position is_blank text i e) (sym (full p front (take i text) (slice_split is_blank (drop (i + 1) text)) (taken text i h ((position-found is_blank text i e).1))))

-- a blank where a word is to begin
pub word_missing : (p : ℕ) (front : List Token) (text : List ℕ) → position is_blank text ≡ Some 0 → behind front (spaced_tokens p text) ≡ None
unfolding spaced_tokens
word_missing p front text e = rw (split_at_position is_blank text 0 e) refl

unempty : (text : List ℕ) → (length text == 0) ≡ false → is_empty text ≡ false
unempty [] h = cc
unempty (b ∷ bs) h = refl

pub word_last : (p : ℕ) (front : List Token) (text : List ℕ) → position is_blank text ≡ None → (length text == 0) ≡ false → behind front (spaced_tokens p text) ≡ Some (front ++ token_in p text ∷ [])
unfolding spaced_tokens
word_last p front text e h = rw (split_unfound is_blank text e, unempty text h) refl

pub word_end : (p : ℕ) (front : List Token) (text : List ℕ) → (length text == 0) ≡ true → behind front (spaced_tokens p text) ≡ None
unfolding spaced_tokens
word_end p front [] e = refl
word_end p front (b ∷ bs) e = absurd (omega (arith, eqb-true (length (b ∷ bs)) 0 e))
