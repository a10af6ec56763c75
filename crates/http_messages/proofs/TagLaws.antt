-- What the marks of keys say.
use Rattle.std.proofs.Common.{◌≡◌, ◌<◌, ℕ, Bool, false, List, [], ◌∷◌, ◌++◌, length, sym, ap, ◌∙◌, arith, get_or, set, get_or-set_same, get_or-set_other, le_refl, None, inl, inr}
use Rattle.std.specs.Prelude.{◌==◌, slice_index}
use Rattle.std.specs.List.{position, position_or_len}
use Rattle.std.specs.Str.{bytes_eq}
use Rattle.std.proofs.lemmas.Bool.{cases_Bool, eqb-true, eqb-false, false_from_ne_true}
use Rattle.std.proofs.lemmas.Grind.{common_steps}
use Rattle.std.proofs.lemmas.List.{length-set}
use Rattle.std.proofs.lemmas.List.Elements.{All-append, All-cons, All-nil, All-set, All-weaker}
use Rattle.std.proofs.lemmas.List.Sums.{position_or_len_is}
use Rattle.std.proofs.lemmas.Slice.Eq.{bytes_eq-Decides}
use Rattle.http_messages.specs.Environ.{Pair}
use Rattle.http_messages.specs.Tags.{AreMarked, tag_of}

none_at_end : (p : Pair → Bool) (pairs : List Pair) → position_or_len p pairs ≡ length pairs → position p pairs ≡ None
none_at_end p pairs e = grind (arith, common_steps)

-- a key whose tag has no mark has no pair
pub none_marked : (marks : List ℕ) (pairs : List Pair) (key : List ℕ) → AreMarked marks pairs → slice_index marks (tag_of key) ≡ 0
    → position (λ (p : Pair). bytes_eq p.0 key) pairs ≡ None
none_marked marks pairs key h none =
    let d : Pair = ([], []) in
    let test : Pair → Bool = λ p. bytes_eq p.0 key in
    let differs : (k : ℕ) → k < length pairs → test (get_or pairs k d) ≡ false = λ k lt.
    false_from_ne_true (test (get_or pairs k d)) (λ same.
    let key_is : (get_or pairs k d).0 ≡ key = (bytes_eq-Decides (get_or pairs k d).0 key).0 same in
    let one : slice_index marks (tag_of key) ≡ 1 = ap (λ (l : List ℕ). slice_index marks (tag_of l)) (sym key_is) ∙ h.marked k d lt in
    absurd (omega (arith, one, none))) in
    none_at_end test pairs (position_or_len_is test pairs (length pairs) d (le_refl (length pairs)) differs (λ lt. absurd (omega arith)))

-- a mark more
still_marked : (marks : List ℕ) (tag other : ℕ) → tag < length marks → slice_index marks other ≡ 1 → slice_index (set marks tag 1) other ≡ 1
still_marked marks tag other inside h = elim (cases_Bool (other == tag)) [
  | inl same ↦ ap (λ (n : ℕ). get_or (set marks tag 1) n 0) (eqb-true other tag same) ∙ get_or-set_same marks tag 1 0 inside
  | inr apart ↦ get_or-set_other marks tag other 1 0 (eqb-false other tag apart) ∙ h
]

-- a pair that is put at the end, with its mark
pub marked_push : (marks : List ℕ) (pairs : List Pair) (key value : List ℕ) → tag_of key < 256 → AreMarked marks pairs
    → AreMarked (set marks (tag_of key) 1) (pairs ++ (key, value) ∷ [])
marked_push marks pairs key value below h =
    let tag = tag_of key in
    let inside : tag < length marks = omega (arith, below, h.full) in
    let P : Pair → Type 0 = λ p. slice_index (set marks tag 1) (tag_of p.0) ≡ 1 in
    record {
      full = length-set marks tag 1 ∙ h.full;
      marked = All-append P pairs ((key, value) ∷ [])
          (All-weaker (λ p. slice_index marks (tag_of p.0) ≡ 1) P (λ p. still_marked marks tag (tag_of p.0) inside) pairs h.marked)
          (All-cons P (key, value) [] (get_or-set_same marks tag 1 0 inside) (All-nil P));
    }

-- a pair whose value changes
pub marked_set : (marks : List ℕ) (pairs : List Pair) (place : ℕ) (d : Pair) (value : List ℕ) → place < length pairs → AreMarked marks pairs
    → AreMarked marks (set pairs place ((get_or pairs place d).0, value))
marked_set marks pairs place d value inside h =
    let P : Pair → Type 0 = λ p. slice_index marks (tag_of p.0) ≡ 1 in
    record {
      full = h.full;
      marked = All-set P pairs place ((get_or pairs place d).0, value) (h.marked place d inside) h.marked;
    }
