-- A read to a limit, piece by piece.
use Rattle.std.proofs.Common.{◌≡◌, ℕ, ◌+◌, ◌≤◌, ◌⊎◌, inl, inr, List, [], ◌++◌, length, take, Option, Some, None, IfSome, ap, sym, ◌∙◌, arith, length-append}
use Rattle.std.proofs.lemmas.List.{append-nil, take_all}
use Rattle.std.proofs.Math.Seq.{take-append_seam}
use Rattle.gv_io.specs.Streams.{prepended}
use Rattle.gv_io.specs.Limited.{TakesAtMost}
use Rattle.gv_io.proofs.StreamLaws.{prepended-nothing, prepended-prepended}

few_or_full : (n limit : ℕ) → n ≤ limit + 1 → (n ≤ limit) ⊎ (limit + 1 ≡ n)
few_or_full n limit h = grind arith

first_bytes : (left taken : List ℕ) (limit : ℕ) → length taken ≤ limit + 1 → (length taken ≤ limit → left ≡ []) →
    taken ≡ take (limit + 1) (taken ++ left)
first_bytes left taken limit fits end = elim (few_or_full (length taken) limit fits) [
  | inl few ↦
      sym
      (ap (λ z. take (limit + 1) (taken ++ z)) (end few) ∙ ap (take (limit + 1)) (append-nil taken) ∙ take_all (limit + 1) taken fits)
  | inr full ↦ sym (ap (λ n. take n (taken ++ left)) full ∙ take-append_seam taken left)
]

-- what was taken of the bytes that were left are the first of them, up to one past the limit
pub taken-first : (old new : Option (List ℕ)) (taken : List ℕ) (limit : ℕ) →
    old ≡ prepended taken new → length taken ≤ limit + 1 → (length taken ≤ limit → IfSome new (λ left. left ≡ [])) →
    IfSome old (λ left. taken ≡ take (limit + 1) left)
unfolding prepended
taken-first old None taken limit e fits end = rw e tt
taken-first old (Some left) taken limit e fits end = rw e (first_bytes left taken limit fits end)

pub TakesAtMost-nothing : (most : ℕ) (old new : Option (List ℕ)) → new ≡ old → TakesAtMost most old new
TakesAtMost-nothing most old new e = record { front = []; fits = omega arith; is = sym e ∙ sym (prepended-nothing new) }

pub TakesAtMost-taken : (most : ℕ) (old new : Option (List ℕ)) (front : List ℕ) →
    old ≡ prepended front new → length front ≤ most → TakesAtMost most old new
TakesAtMost-taken most old new front e fits = record { front = front; fits = fits; is = e }

pub TakesAtMost-after : (more most : ℕ) (old middle new : Option (List ℕ)) (front : List ℕ) →
    old ≡ prepended front middle → TakesAtMost more middle new → length front + more ≤ most → TakesAtMost most old new
TakesAtMost-after more most old middle new front e then fits =
    record {
      front = front ++ then.front;
      fits = omega (arith, length-append front then.front, then.fits);
      is = e ∙ ap (prepended front) then.is ∙ prepended-prepended new front then.front;
    }

pub ruleset pieces = (prepended-prepended, TakesAtMost-nothing, TakesAtMost-taken)

pub ruleset limits = (prepended-nothing, taken-first, TakesAtMost-after)
