-- The words of bytes, taken off their front one by one.
use Rattle.std.proofs.Common.{◌≡◌, ◌<◌, ◌==◌, ℕ, Bool, false, List, [], ◌∷◌, ◌++◌, length, map, take, refl, sym, ap, subst, ◌∙◌}
use Rattle.std.specs.List.{slice_split, position_or_len, before_first, after_first}
use Rattle.std.proofs.lemmas.List.{map_push}
use Rattle.std.proofs.lemmas.List.Splits.{slice_split_first, slice_split_none}
use Rattle.std.proofs.lemmas.List.Sums.{fails_before_first}
use Rattle.std.proofs.lemmas.List.Elements.{All-from_get_or}
use Rattle.gv_io.specs.Memory.{SinkState}
use Rattle.page_answer.specs.Page.{Written, first_of, written_in}

abbrev pub is_end : ℕ → Bool
is_end b = b == 10

onto : (words : List (List ℕ)) (word : List ℕ) (rest : List (List ℕ)) → (words ++ word ∷ []) ++ rest ≡ words ++ word ∷ rest
onto [] word rest = refl
onto (w ∷ words) word rest = ap (λ r. w ∷ r) (onto words word rest)

-- one word more was taken
pub one_more : {X : Type 0} (f : X → List ℕ) (all new : List X) (s : X) (left word rest bytes : List ℕ) →
    new ≡ all ++ s ∷ [] → f s ≡ word → position_or_len is_end left < length left → word ≡ before_first is_end left → rest ≡ after_first is_end left →
    map f all ++ slice_split is_end left ≡ slice_split is_end bytes → map f new ++ slice_split is_end rest ≡ slice_split is_end bytes
one_more f all new s left word rest bytes made is lt front back before =
    ap (λ n. map f n ++ slice_split is_end rest) made
    ∙ ap (λ n. n ++ slice_split is_end rest) (map_push f all s)
    ∙ onto (map f all) (f s) (slice_split is_end rest)
    ∙ ap (λ w. map f all ++ w ∷ slice_split is_end rest) (is ∙ front)
    ∙ ap (λ r. map f all ++ before_first is_end left ∷ slice_split is_end r) back
    ∙ ap (λ r. map f all ++ r) (sym (slice_split_first is_end left 0 lt))
    ∙ before

-- the last word was taken
pub last : {X : Type 0} (f : X → List ℕ) (all new : List X) (s : X) (left bytes : List ℕ) →
    new ≡ all ++ s ∷ [] → f s ≡ left → slice_split is_end left ≡ left ∷ [] →
    map f all ++ slice_split is_end left ≡ slice_split is_end bytes → map f new ≡ slice_split is_end bytes
last f all new s left bytes made is alone before =
    ap (λ n. map f n) made ∙ map_push f all s ∙ ap (λ w. map f all ++ w ∷ []) is ∙ ap (λ r. map f all ++ r) (sym alone) ∙ before

-- where there is no end, the bytes are one word
pub alone : (left : List ℕ) → position_or_len is_end left ≡ length left → slice_split is_end left ≡ left ∷ []
alone left all = slice_split_none is_end left (All-from_get_or (λ b. is_end b ≡ false) left 0 (λ i lt. fails_before_first is_end left i 0 (subst (λ n. i < n) (sym all) lt)))

-- what was said of some words and bytes was said of those that are the same
pub said_of : (says : ℕ → List (List ℕ) → List ℕ → Written → Written → Type 0) {status : ℕ} {words others : List (List ℕ)} {text other : List ℕ} {out first err front : Written} →
    says status words text out err → words ≡ others → text ≡ other → out ≡ first → err ≡ front → says status others other first front
said_of says {status} {words} {others} {text} {other} {out} {first} {err} {front} so as_words as_text as_out as_err =
    subst (λ w. says status w other first front) as_words (subst (λ t. says status words t first front) as_text (subst (λ o. says status words text o front) as_out (subst (λ e. says status words text out e) as_err so)))

-- what stands in a sink is what was copied of it
pub copied : (s : SinkState) (room count : ℕ) (all : List ℕ) → s.room ≡ room → length all ≡ room → take count all ≡ s.bytes → written_in s ≡ first_of count all
copied s room count all own as_long is = ap (λ n. record { room = n; bytes = s.bytes }) (own ∙ sym as_long) ∙ ap (λ b. record { room = length all; bytes = b }) (sym is)
