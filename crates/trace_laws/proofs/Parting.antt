-- The first line of four equals signs, found line by line.
use Rattle.std.proofs.Common.{◌≡◌, refl, ap, sym, ◌∙◌, ℕ, zero, suc, ◌+◌, ◌||◌, ◌≤◌, ◌<◌, Bool, true, false, cond, [], ◌∷◌, ◌++◌, Option, Some, None, option_map, append_assoc, bytes_eq, drop, get_or, length, take, arith}
use Rattle.std.specs.Prelude.{◌==◌}
use Rattle.std.specs.List.{position, position_or_len}
use Rattle.std.proofs.lemmas.List.{drop-drop, length-drop, length-take}
use Rattle.std.proofs.lemmas.Grind.{common_steps}
use Rattle.std.proofs.lemmas.List.Quantifiers.{position-Some}
use Rattle.std.proofs.lemmas.List.Sums.{fails_before_first}
use Rattle.std.proofs.Math.Seq.{take-add}
use Rattle.std.proofs.lemmas.Slice.Eq.{bytes_eq-Decides}
use Rattle.gv_values.specs.Texts.{Text}
use Rattle.trace_laws.specs.Parts.{is_marked, last_mark, dividing_mark, parted, parted_from}
use Rattle.trace_laws.specs.Reads.{is_feed}

-- the parts behind these bytes
abbrev pub onto : Text → Option (Text × Text) → Option (Text × Text)
onto xs = option_map (λ (p : Text × Text). (xs ++ p.0, p.1))

onto-nil : (o : Option (Text × Text)) → onto [] o ≡ o
onto-nil None = refl
onto-nil (Some p) = refl

onto-onto : (xs ys : Text) (o : Option (Text × Text)) → onto xs (onto ys o) ≡ onto (xs ++ ys) o
onto-onto xs ys None = refl
onto-onto xs ys (Some p) = ap (λ t. Some (t, p.1)) (sym (append_assoc xs ys p.0))

-- no line begins where there is none of four equals signs
unmarked : (text : Text) → is_marked text ≡ false → parted text ≡ parted_from false text
unmarked [] h = refl
unmarked (b ∷ rest) h = ap (λ m. cond m (Some ([], drop 5 (b ∷ rest))) (onto (b ∷ []) (parted_from (b == 10) rest))) h

behind_feed : (text : Text) (end : ℕ) → end < length text → is_feed (get_or text end 0) ≡ true → ((k : ℕ) → k < end → is_feed (get_or text k 0) ≡ false) →
    parted_from false text ≡ onto (take (suc end) text) (parted (drop (suc end) text))
behind_feed [] end lt h none = absurd (omega (arith, lt))
behind_feed (b ∷ rest) zero lt h none = ap (λ first. onto (b ∷ []) (parted_from first rest)) h
behind_feed (b ∷ rest) (suc end) lt h none =
    let first : (b == 10) ≡ false = none 0 (omega arith) in
    let later = behind_feed rest end (omega (arith, lt)) h (λ k below. none (suc k) (omega (arith, below))) in
    ap (λ f. onto (b ∷ []) (parted_from f rest)) first ∙ ap (onto (b ∷ [])) later ∙ onto-onto (b ∷ []) (take (suc end) rest) (parted (drop (suc end) rest))

no_feeds : (text : Text) → ((k : ℕ) → k < length text → is_feed (get_or text k 0) ≡ false) → parted_from false text ≡ None
no_feeds [] none = refl
no_feeds (b ∷ rest) none =
    let first : (b == 10) ≡ false = none 0 (omega arith) in
    ap (λ f. onto (b ∷ []) (parted_from f rest)) first ∙ ap (onto (b ∷ [])) (no_feeds rest (λ k below. none (suc k) (omega (arith, below))))

-- a marked text is long enough
pub mark_within : (text : Text) → is_marked text ≡ true → 4 ≤ length text
mark_within text h = by (bytes_eq (take 5 text) dividing_mark) refl
  where
    by : (b : Bool) → bytes_eq (take 5 text) dividing_mark ≡ b → 4 ≤ length text
    by true e =
        let long : length (take 5 text) ≡ 5 = ap length ((bytes_eq-Decides (take 5 text) dividing_mark).0 e) in
        omega (arith, long, length-take 5 text)
    by false e =
        let long : length text ≡ 4 = ap length ((bytes_eq-Decides text last_mark).0 (sym (ap (λ b. b || bytes_eq text last_mark) e) ∙ h)) in
        omega (arith, long)

marked : (text : Text) → is_marked text ≡ true → parted text ≡ Some ([], drop 5 text)
marked [] h = absurd (omega (arith, mark_within [] h))
marked (b ∷ rest) h = ap (λ m. cond m (Some ([], drop 5 (b ∷ rest))) (onto (b ∷ []) (parted_from (b == 10) rest))) h

none_pass : (text : Text) → position is_feed text ≡ None → (k : ℕ) → k < length text → is_feed (get_or text k 0) ≡ false
none_pass text e k lt =
    let past : length text ≤ position_or_len is_feed text = grind (arith, common_steps) in
    fails_before_first is_feed text k 0 (omega (arith, past, lt))

pub no_more : (input : Text) (place : ℕ) → is_marked (drop place input) ≡ false → position is_feed (drop place input) ≡ None → parted input ≡ onto (take place input) (parted (drop place input)) → parted input ≡ None
no_more input place plain e so =
    let rest = drop place input in
    so ∙ ap (onto (take place input)) (unmarked rest plain ∙ no_feeds rest (none_pass rest e))

pub one_more : (input : Text) (place end : ℕ) → is_marked (drop place input) ≡ false → position is_feed (drop place input) ≡ Some end → place ≤ length input → parted input ≡ onto (take place input) (parted (drop place input)) →
    (place + (end + 1) ≤ length input) × (parted input ≡ onto (take (place + (end + 1)) input) (parted (drop (place + (end + 1)) input)))
one_more input place end plain e within so =
    let rest = drop place input in
    let p = position-Some is_feed rest end 0 e in
    let next : suc end ≡ end + 1 = omega arith in
    let first : parted rest ≡ onto (take (end + 1) rest) (parted (drop (end + 1) rest)) =
    unmarked rest plain ∙ behind_feed rest end p.0 p.1 p.2 ∙ ap (λ k. onto (take k rest) (parted (drop k rest))) next in (
      omega (arith, p.0, length-drop place input, within),
      so ∙ ap (onto (take place input)) first ∙ onto-onto (take place input) (take (end + 1) rest) (parted (drop (end + 1) rest))
          ∙ ap (λ t. onto t (parted (drop (end + 1) rest))) (sym (take-add place (end + 1) input)) ∙ ap (λ t. onto (take (place + (end + 1)) input) (parted t)) (drop-drop (end + 1) place input),
    )
