-- What a reading up to an end comes to.
use Rattle.std.proofs.Common.{◌≡◌, ℕ, ◌<◌, ◌≤◌, true, cond, List, length, take, drop, ap, ◌∙◌, Option, Some, None}
use Rattle.std.proofs.lemmas.Bool.{cond-true, cond-false, le-leb, lt-leb}
use Rattle.std.specs.Prelude.{◌+◌, nat_le}
use Rattle.http_messages.specs.declared.refusal.Refusal.{Refusal}
use Rattle.http_messages.specs.declared.refusal.Refusal.TheVariants.{BadRequest, TooLong}
use Rattle.http_messages.specs.Cuts.{Cut, waits, refused, whole, and_then, up_to, within, line_end, empty_line_end}
use Rattle.http_messages.specs.Requests.{head_lines, head_at}
use Rattle.http_messages.specs.declared.limits.TheConstants.{MOST_FIRST_LINE, MOST_HEAD}

module _ (end : List ℕ → Option ℕ) (most enough : ℕ) (reason : Refusal) (bytes : List ℕ) where
  by_end : (o : Option ℕ) → end (take most bytes) ≡ o
      → within end most enough reason bytes ≡ up_to o (cond (nat_le enough (length bytes)) (refused reason) waits) bytes
  by_end o e = ap (λ (o : Option ℕ). up_to o (cond (nat_le enough (length bytes)) (refused reason) waits) bytes) e

  -- the end is there
  pub within_at : (n : ℕ) → end (take most bytes) ≡ Some n → within end most enough reason bytes ≡ whole (take n bytes) (drop n bytes)
  within_at n e = by_end (Some n) e

  -- it can't come any more
  pub within_long : end (take most bytes) ≡ None → enough ≤ length bytes → within end most enough reason bytes ≡ refused reason
  within_long e long = by_end None e ∙ cond-true (nat_le enough (length bytes)) (refused reason) waits (le-leb _ _ long)

  -- it may come
  pub within_short : end (take most bytes) ≡ None → length bytes < enough → within end most enough reason bytes ≡ waits
  within_short e short = by_end None e ∙ cond-false (nat_le enough (length bytes)) (refused reason) waits (lt-leb _ _ short)

-- ---- heads

module _ (bytes : List ℕ) where
  pub line_too_long : line_end (take MOST_FIRST_LINE bytes) ≡ None → MOST_FIRST_LINE + 1 ≤ length bytes → head_at bytes ≡ refused TooLong
  line_too_long e long = ap (λ (c : Cut (List ℕ)). and_then c (λ _ _. head_lines bytes)) (within_long line_end MOST_FIRST_LINE (MOST_FIRST_LINE + 1) TooLong bytes e long)

  pub line_waits : line_end (take MOST_FIRST_LINE bytes) ≡ None → length bytes < MOST_FIRST_LINE + 1 → head_at bytes ≡ waits
  line_waits e short = ap (λ (c : Cut (List ℕ)). and_then c (λ _ _. head_lines bytes)) (within_short line_end MOST_FIRST_LINE (MOST_FIRST_LINE + 1) TooLong bytes e short)

  head_behind : (n : ℕ) → line_end (take MOST_FIRST_LINE bytes) ≡ Some n → head_at bytes ≡ head_lines bytes
  head_behind n e = ap (λ (c : Cut (List ℕ)). and_then c (λ _ _. head_lines bytes)) (within_at line_end MOST_FIRST_LINE (MOST_FIRST_LINE + 1) TooLong bytes n e)

  pub head_found : (n k : ℕ) → line_end (take MOST_FIRST_LINE bytes) ≡ Some n → empty_line_end true (take MOST_HEAD bytes) ≡ Some k
      → head_at bytes ≡ whole (take k bytes) (drop k bytes)
  head_found n k e f = head_behind n e ∙ within_at (empty_line_end true) MOST_HEAD MOST_HEAD BadRequest bytes k f

  pub head_too_long : (n : ℕ) → line_end (take MOST_FIRST_LINE bytes) ≡ Some n → empty_line_end true (take MOST_HEAD bytes) ≡ None
      → MOST_HEAD ≤ length bytes → head_at bytes ≡ refused BadRequest
  head_too_long n e f long = head_behind n e ∙ within_long (empty_line_end true) MOST_HEAD MOST_HEAD BadRequest bytes f long

  pub head_waits : (n : ℕ) → line_end (take MOST_FIRST_LINE bytes) ≡ Some n → empty_line_end true (take MOST_HEAD bytes) ≡ None
      → length bytes < MOST_HEAD → head_at bytes ≡ waits
  head_waits n e f short = head_behind n e ∙ within_short (empty_line_end true) MOST_HEAD MOST_HEAD BadRequest bytes f short
