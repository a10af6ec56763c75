-- The steps of reading a body.
use Rattle.std.proofs.Common.{◌≡◌, ◌≢◌, ℕ, ◌+◌, ◌<◌, ◌≤◌, true, false, cond, List, [], ◌∷◌, ◌++◌, length, take, drop, refl, sym, ap, ◌∙◌, subst, append-nil, Option, Some, None, eq-eqb}
use Rattle.std.proofs.lemmas.Bool.{cond-true, cond-false, le-leb, lt-leb, lt-ltb, le-ltb, ne_eqb}
use Rattle.std.specs.Prelude.{nat_le, nat_lt, ◌==◌, option_map}
use Rattle.std.specs.Str.{bytes_eq}
use Rattle.httparse.specs.Grammar.{ChunkLine, chunk_size}
use Rattle.http_messages.specs.declared.refusal.Refusal.TheVariants.{BadRequest, TooLarge}
use Rattle.http_messages.specs.declared.request.AwaitedBody.{AwaitedBody}
use Rattle.http_messages.specs.declared.request.AwaitedBody.TheVariants.{InChunks, InChunk, InTrailers}
use Rattle.http_messages.specs.declared.found.BodyFound.{BodyFound}
use Rattle.http_messages.specs.declared.found.BodyFound.TheVariants.{BodyWaits, BodyRefused, BodyWhole}
use Rattle.http_messages.specs.Cuts.{Cut, waits, refused, whole, and_then, line_end, empty_line_end}
use Rattle.http_messages.specs.Body.{size_on, chunk_size_at, chunk_line, chunk_data, trailers, rest_of_chunks, rest_of_chunk, body_left}
use Rattle.http_messages.specs.Readings.{ReadsAlike, FindsBody}
use Rattle.http_messages.proofs.CutLaws.{Later}
use Rattle.http_messages.proofs.CutReads.{within_at, within_long, within_short}
use Rattle.http_messages.proofs.BodyLaws.{after_size, chunk_size_later, chunk_data_later, rest_of_chunks-step}
use Rattle.http_messages.specs.declared.limits.TheConstants.{MOST_BODY, MOST_CHUNK_LINE, MOST_TRAILERS}

pub later_whole : {A : Type 0} (more : List ℕ) (c d : Cut A) (a : A) (rest : List ℕ) → Later more c d → c ≡ whole a rest → d ≡ whole a (rest ++ more)
later_whole {A} more c d a rest h e = let P : Cut A → Type 0 = λ x. Later more x d in subst P e h

-- ---- a chunk line

module _ (body bytes : List ℕ) where
  abbrev from_size : Cut ℕ → Cut (List ℕ)
  from_size c = and_then c (after_size rest_of_chunks body)

  abbrev from_line : Cut (List ℕ) → Cut ℕ
  from_line c = and_then c (λ line rest. size_on (length body) (chunk_line line) rest)

  pub size_waits : line_end (take MOST_CHUNK_LINE bytes) ≡ None → length bytes < MOST_CHUNK_LINE → rest_of_chunks body bytes ≡ waits
  size_waits e short =
      rest_of_chunks-step body bytes ∙ ap (λ (c : Cut (List ℕ)). from_size (from_line c)) (within_short line_end MOST_CHUNK_LINE MOST_CHUNK_LINE BadRequest bytes e short)

  pub size_too_long : line_end (take MOST_CHUNK_LINE bytes) ≡ None → MOST_CHUNK_LINE ≤ length bytes → rest_of_chunks body bytes ≡ refused BadRequest
  size_too_long e long =
      rest_of_chunks-step body bytes ∙ ap (λ (c : Cut (List ℕ)). from_size (from_line c)) (within_long line_end MOST_CHUNK_LINE MOST_CHUNK_LINE BadRequest bytes e long)

  module _ (n : ℕ) (ends : line_end (take MOST_CHUNK_LINE bytes) ≡ Some n) where
    size_at : (o : Option ChunkLine) → chunk_line (take n bytes) ≡ o → chunk_size_at (length body) bytes ≡ size_on (length body) o (drop n bytes)
    size_at o e =
        ap (λ (c : Cut (List ℕ)). from_line c) (within_at line_end MOST_CHUNK_LINE MOST_CHUNK_LINE BadRequest bytes n ends)
        ∙ ap (λ (o : Option ChunkLine). size_on (length body) o (drop n bytes)) e

    none_of : (o : Option ChunkLine) → None ≡ option_map chunk_size o → o ≡ None
    none_of None e = refl
    none_of (Some l) e = absurd (cc)

    some_of : (o : Option ChunkLine) (size : ℕ) → Some size ≡ option_map chunk_size o → (l : ChunkLine) × (o ≡ Some l) × (size ≡ chunk_size l)
    some_of None size e = absurd (cc)
    some_of (Some l) size e = (l, refl, cc)

    pub size_refused : None ≡ option_map chunk_size (chunk_line (take n bytes)) → rest_of_chunks body bytes ≡ refused BadRequest
    size_refused e =
        rest_of_chunks-step body bytes ∙ ap (λ (c : Cut ℕ). from_size c) (size_at None (none_of (chunk_line (take n bytes)) e))

    module _ (size : ℕ) (says : Some size ≡ option_map chunk_size (chunk_line (take n bytes))) where
      sized : chunk_size_at (length body) bytes ≡ cond (nat_le (length body + size) MOST_BODY) (whole size (drop n bytes)) (refused TooLarge)
      sized =
          let l = some_of (chunk_line (take n bytes)) size says in
          size_at (Some l.0) l.1
          ∙ ap (λ (k : ℕ). cond (nat_le (length body + k) MOST_BODY) (whole k (drop n bytes)) (refused TooLarge)) (sym l.2)

      pub size_too_large : MOST_BODY < length body + size → rest_of_chunks body bytes ≡ refused TooLarge
      size_too_large large =
          rest_of_chunks-step body bytes
          ∙ ap (λ (c : Cut ℕ). from_size c) (sized ∙ cond-false (nat_le (length body + size) MOST_BODY) _ _ (lt-leb _ _ large))

      goes_on : length body + size ≤ MOST_BODY → (more : List ℕ) → rest_of_chunks body (bytes ++ more) ≡ after_size rest_of_chunks body size (drop n bytes ++ more)
      goes_on fits more =
          let here : chunk_size_at (length body) bytes ≡ whole size (drop n bytes) =
          sized ∙ cond-true (nat_le (length body + size) MOST_BODY) _ _ (le-leb _ _ fits) in
          rest_of_chunks-step body (bytes ++ more)
          ∙ ap (λ (c : Cut ℕ). from_size c)
          (later_whole more (chunk_size_at (length body) bytes) (chunk_size_at (length body) (bytes ++ more)) size (drop n bytes) (chunk_size_later (length body) bytes more) here)

      pub size_last : length body + size ≤ MOST_BODY → size ≡ 0 → ReadsAlike (body_left (InChunks body)) (body_left (InTrailers body)) bytes (drop n bytes)
      size_last fits none more = goes_on fits more ∙ cond-true (size == 0) _ _ (eq-eqb size 0 none)

      pub size_more : length body + size ≤ MOST_BODY → size ≢ 0 → ReadsAlike (body_left (InChunks body)) (body_left (InChunk body size)) bytes (drop n bytes)
      size_more fits some more = goes_on fits more ∙ cond-false (size == 0) _ _ (ne_eqb size 0 some)

-- ---- a chunk

module _ (body : List ℕ) (size : ℕ) (bytes : List ℕ) where
  abbrev from_chunk : Cut (List ℕ) → Cut (List ℕ)
  from_chunk c = and_then c (λ piece rest. rest_of_chunks (body ++ piece) rest)

  pub chunk_waits : length bytes < size + 2 → rest_of_chunk body size bytes ≡ waits
  chunk_waits short = ap (λ (c : Cut (List ℕ)). from_chunk c) (cond-true (nat_lt (length bytes) (size + 2)) waits _ (lt-ltb _ _ short))

  ended : size + 2 ≤ length bytes → chunk_data size bytes ≡ cond (bytes_eq (take 2 (drop size bytes)) (13 ∷ 10 ∷ [])) (whole (take size bytes) (drop (size + 2) bytes)) (refused BadRequest)
  ended long = cond-false (nat_lt (length bytes) (size + 2)) waits _ (le-ltb _ _ long)

  pub chunk_refused : size + 2 ≤ length bytes → bytes_eq (take 2 (drop size bytes)) (13 ∷ 10 ∷ []) ≡ false → rest_of_chunk body size bytes ≡ refused BadRequest
  chunk_refused long other = ap (λ (c : Cut (List ℕ)). from_chunk c) (ended long ∙ cond-false (bytes_eq (take 2 (drop size bytes)) (13 ∷ 10 ∷ [])) _ _ other)

  pub chunk_whole : size + 2 ≤ length bytes → bytes_eq (take 2 (drop size bytes)) (13 ∷ 10 ∷ []) ≡ true
      → ReadsAlike (body_left (InChunk body size)) (body_left (InChunks (body ++ take size bytes))) bytes (drop (size + 2) bytes)
  chunk_whole long ends more =
      ap (λ (c : Cut (List ℕ)). from_chunk c)
      (later_whole more (chunk_data size bytes) (chunk_data size (bytes ++ more)) (take size bytes) (drop (size + 2) bytes) (chunk_data_later size bytes more)
      (ended long ∙ cond-true (bytes_eq (take 2 (drop size bytes)) (13 ∷ 10 ∷ [])) _ _ ends))

-- ---- the lines after the last chunk

module _ (body bytes : List ℕ) where
  abbrev from_lines : Cut (List ℕ) → Cut (List ℕ)
  from_lines c = and_then c (λ lines rest. whole body rest)

  pub trailers_waits : empty_line_end true (take MOST_TRAILERS bytes) ≡ None → length bytes < MOST_TRAILERS → trailers body bytes ≡ waits
  trailers_waits e short = ap (λ (c : Cut (List ℕ)). from_lines c) (within_short (empty_line_end true) MOST_TRAILERS MOST_TRAILERS BadRequest bytes e short)

  pub trailers_refused : empty_line_end true (take MOST_TRAILERS bytes) ≡ None → MOST_TRAILERS ≤ length bytes → trailers body bytes ≡ refused BadRequest
  trailers_refused e long = ap (λ (c : Cut (List ℕ)). from_lines c) (within_long (empty_line_end true) MOST_TRAILERS MOST_TRAILERS BadRequest bytes e long)

  pub trailers_whole : (n : ℕ) → empty_line_end true (take MOST_TRAILERS bytes) ≡ Some n → trailers body bytes ≡ whole body (drop n bytes)
  trailers_whole n e = ap (λ (c : Cut (List ℕ)). from_lines c) (within_at (empty_line_end true) MOST_TRAILERS MOST_TRAILERS BadRequest bytes n e)

-- ---- one part after the other

pub alike-then : {A : Type 0} (a b c : List ℕ → Cut A) (old mid new : List ℕ) → ReadsAlike a b old mid → ReadsAlike b c mid new → ReadsAlike a c old new
alike-then a b c old mid new h k more = h more ∙ k more

pub alike-now : {A : Type 0} (a b : List ℕ → Cut A) (old new : List ℕ) → ReadsAlike a b old new → a old ≡ b new
alike-now a b old new h = sym (ap a (append-nil old)) ∙ h [] ∙ ap b (append-nil new)

pub finds-then : (awaited left : AwaitedBody) (found : BodyFound) (old mid new : List ℕ)
    → ReadsAlike (body_left awaited) (body_left left) old mid → FindsBody left found mid new → FindsBody awaited found old new
finds-then awaited left (BodyWaits next) old mid new h k = (k.0, alike-then (body_left awaited) (body_left left) (body_left next) old mid new h k.1)
finds-then awaited left (BodyRefused reason) old mid new h k = alike-now (body_left awaited) (body_left left) old mid h ∙ k
finds-then awaited left (BodyWhole body) old mid new h k = alike-now (body_left awaited) (body_left left) old mid h ∙ k
