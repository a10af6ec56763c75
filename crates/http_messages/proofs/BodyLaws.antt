-- Bodies: what was decided stays decided, and the number of chunks is no bound.
use Rattle.std.proofs.Common.{◌≡◌, ℕ, zero, suc, ◌+◌, ◌<◌, ◌≤◌, Bool, true, false, cond, List, [], ◌∷◌, ◌++◌, length, take, drop, refl, sym, ap, ◌∙◌, subst, arith, length-append, length-drop, Option, Some, None}
use Rattle.std.proofs.lemmas.Bool.{ltb-false, leb-true, le-ltb, le-leb, cond_both, cond-true, cond-false}
use Rattle.std.proofs.lemmas.List.{take-append-le, drop-append-le}
use Rattle.std.specs.Prelude.{nat_le, nat_lt, ◌==◌}
use Rattle.std.specs.Str.{bytes_eq}
use Rattle.httparse.specs.Grammar.{ChunkLine, chunk_size}
use Rattle.http_messages.specs.declared.refusal.Refusal.TheVariants.{BadRequest, TooLarge}
use Rattle.http_messages.specs.Cuts.{Cut, waits, refused, whole, and_then, within, line_end, empty_line_end}
use Rattle.http_messages.specs.declared.request.Framing.{Framing}
use Rattle.http_messages.specs.declared.request.Framing.TheVariants.{Sized, Chunked}
use Rattle.http_messages.specs.Body.{exactly, size_on, chunk_size_at, chunk_line, chunk_data, trailers, chunks, rest_of_chunks, body_by}
use Rattle.http_messages.proofs.CutLaws.{Later, and_then-later, within-stable, line_end-finds, empty_line_end-finds, Takes, and_then-takes, takes_at, and_then-same, within-takes}
use Rattle.http_messages.specs.declared.limits.TheConstants.{MOST_BODY, MOST_CHUNK_LINE, MOST_TRAILERS}

pub exactly_later : (n : ℕ) (bytes more : List ℕ) → Later more (exactly n bytes) (exactly n (bytes ++ more))
exactly_later n bytes more =
    cond_both (nat_le n (length bytes)) (whole (take n bytes) (drop n bytes)) waits (λ c. Later more c (exactly n (bytes ++ more)))
    (λ enough.
    let fits : n ≤ length bytes = leb-true _ _ enough in
    let t = take-append-le n bytes more fits in
    let d = drop-append-le n bytes more fits in
    let longer : n ≤ length (bytes ++ more) = rw length-append (omega arith) in
    cond-true (nat_le n (length (bytes ++ more))) (whole (take n (bytes ++ more)) (drop n (bytes ++ more))) waits (le-leb _ _ longer)
    ∙ (λ i. whole (t i) (d i)))
    (λ short. tt)

take_in_drop : (n : ℕ) (bytes more : List ℕ) → n + 2 ≤ length bytes → take 2 (drop n (bytes ++ more)) ≡ take 2 (drop n bytes)
take_in_drop n bytes more fits =
    ap (take 2) (drop-append-le n bytes more (omega arith))
    ∙ take-append-le 2 (drop n bytes) more (rw length-drop (omega arith))

abbrev chunk_by : ℕ → List ℕ → List ℕ → Cut (List ℕ)
chunk_by n two bytes = cond (bytes_eq two (13 ∷ 10 ∷ [])) (whole (take n bytes) (drop (n + 2) bytes)) (refused BadRequest)

pub chunk_data_later : (n : ℕ) (bytes more : List ℕ) → Later more (chunk_data n bytes) (chunk_data n (bytes ++ more))
chunk_data_later n bytes more =
    cond_both (nat_lt (length bytes) (n + 2)) waits (chunk_by n (take 2 (drop n bytes)) bytes) (λ c. Later more c (chunk_data n (bytes ++ more)))
    (λ short. tt)
    (λ enough.
    let fits : n + 2 ≤ length bytes = ltb-false _ _ enough in
    let longer : n + 2 ≤ length (bytes ++ more) = rw length-append (omega arith) in
    let t = take-append-le n bytes more (omega arith) in
    let d = drop-append-le (n + 2) bytes more fits in
    let e : chunk_data n (bytes ++ more) ≡ cond (bytes_eq (take 2 (drop n bytes)) (13 ∷ 10 ∷ [])) (whole (take n bytes) (drop (n + 2) bytes ++ more)) (refused BadRequest) =
    cond-false (nat_lt (length (bytes ++ more)) (n + 2)) waits (chunk_by n (take 2 (drop n (bytes ++ more))) (bytes ++ more)) (le-ltb _ _ longer)
    ∙ ap (λ (two : List ℕ). chunk_by n two (bytes ++ more)) (take_in_drop n bytes more fits)
    ∙ (λ i. cond (bytes_eq (take 2 (drop n bytes)) (13 ∷ 10 ∷ [])) (whole (t i) (d i)) (refused BadRequest)) in
    pick (bytes_eq (take 2 (drop n bytes)) (13 ∷ 10 ∷ [])) n bytes more (chunk_data n (bytes ++ more)) e)
  where
    pick : (b : Bool) (n : ℕ) (bytes more : List ℕ) (d : Cut (List ℕ))
        → d ≡ cond b (whole (take n bytes) (drop (n + 2) bytes ++ more)) (refused BadRequest)
        → Later more (cond b (whole (take n bytes) (drop (n + 2) bytes)) (refused BadRequest)) d
    pick true n bytes more d e = e
    pick false n bytes more d e = e

size_on_later : (before : ℕ) (l : Option ChunkLine) (rest more : List ℕ) → Later more (size_on before l rest) (size_on before l (rest ++ more))
size_on_later before None rest more = refl
size_on_later before (Some l) rest more = pick (nat_le (before + chunk_size l) MOST_BODY) (chunk_size l) rest more
  where
    pick : (b : Bool) (n : ℕ) (rest more : List ℕ) → Later more (cond b (whole n rest) (refused TooLarge)) (cond b (whole n (rest ++ more)) (refused TooLarge))
    pick true n rest more = refl
    pick false n rest more = refl

pub chunk_size_later : (before : ℕ) (bytes more : List ℕ) → Later more (chunk_size_at before bytes) (chunk_size_at before (bytes ++ more))
chunk_size_later before bytes more =
    and_then-later more (within line_end MOST_CHUNK_LINE MOST_CHUNK_LINE BadRequest bytes) (within line_end MOST_CHUNK_LINE MOST_CHUNK_LINE BadRequest (bytes ++ more)) (λ line rest. size_on before (chunk_line line) rest) (λ line rest. size_on before (chunk_line line) rest)
    ((within-stable line_end line_end-finds MOST_CHUNK_LINE MOST_CHUNK_LINE BadRequest (omega arith)).later bytes more)
    (λ line rest. size_on_later before (chunk_line line) rest more)

pub trailers_later : (body bytes more : List ℕ) → Later more (trailers body bytes) (trailers body (bytes ++ more))
trailers_later body bytes more =
    and_then-later more (within (empty_line_end true) MOST_TRAILERS MOST_TRAILERS BadRequest bytes) (within (empty_line_end true) MOST_TRAILERS MOST_TRAILERS BadRequest (bytes ++ more)) (λ lines rest. whole body rest) (λ lines rest. whole body rest)
    ((within-stable (empty_line_end true) empty_line_end-finds MOST_TRAILERS MOST_TRAILERS BadRequest (omega arith)).later bytes more)
    (λ lines rest. refl)

-- what follows a chunk's size
abbrev pub after_size : (List ℕ → List ℕ → Cut (List ℕ)) → List ℕ → ℕ → List ℕ → Cut (List ℕ)
after_size again body size rest = cond (size == 0) (trailers body rest) (and_then (chunk_data size rest) (λ piece rest. again (body ++ piece) rest))

after_size_later : (again later : List ℕ → List ℕ → Cut (List ℕ)) (body : List ℕ) (size : ℕ) (rest more : List ℕ)
    → ((body bytes : List ℕ) → Later more (again body bytes) (later body (bytes ++ more)))
    → Later more (after_size again body size rest) (after_size later body size (rest ++ more))
after_size_later again later body size rest more h = pick (size == 0)
  where
    pick : (b : Bool) → Later more (cond b (trailers body rest) (and_then (chunk_data size rest) (λ piece rest. again (body ++ piece) rest)))
        (cond b (trailers body (rest ++ more)) (and_then (chunk_data size (rest ++ more)) (λ piece rest. later (body ++ piece) rest)))
    pick true = trailers_later body rest more
    pick false =
        and_then-later more (chunk_data size rest) (chunk_data size (rest ++ more)) (λ piece rest. again (body ++ piece) rest) (λ piece rest. later (body ++ piece) rest)
        (chunk_data_later size rest more) (λ piece rest. h (body ++ piece) rest)

chunks_later : (n : ℕ) (body bytes more : List ℕ) → Later more (chunks n body bytes) (chunks n body (bytes ++ more))
chunks_later zero body bytes more = tt
chunks_later (suc n) body bytes more =
    and_then-later more (chunk_size_at (length body) bytes) (chunk_size_at (length body) (bytes ++ more)) (after_size (chunks n) body) (after_size (chunks n) body)
    (chunk_size_later (length body) bytes more)
    (λ size rest. after_size_later (chunks n) (chunks n) body size rest more (λ body bytes. chunks_later n body bytes more))

-- ---- enough chunks

size_on_takes : (before : ℕ) (l : Option ChunkLine) (rest : List ℕ) → Takes 0 rest (size_on before l rest)
size_on_takes before None rest = tt
size_on_takes before (Some l) rest =
    cond_both (nat_le (before + chunk_size l) MOST_BODY) (whole (chunk_size l) rest) (refused TooLarge) (Takes 0 rest) (λ _. omega arith) (λ _. tt)

chunk_size_takes : (before : ℕ) (bytes : List ℕ) → Takes 1 bytes (chunk_size_at before bytes)
chunk_size_takes before bytes =
    and_then-takes 1 0 bytes (within line_end MOST_CHUNK_LINE MOST_CHUNK_LINE BadRequest bytes) (λ line rest. size_on before (chunk_line line) rest)
    (within-takes line_end line_end-finds MOST_CHUNK_LINE MOST_CHUNK_LINE BadRequest bytes) (λ line rest _. size_on_takes before (chunk_line line) rest)

pub chunk_data_takes : (n : ℕ) (bytes : List ℕ) → Takes 0 bytes (chunk_data n bytes)
chunk_data_takes n bytes =
    cond_both (nat_lt (length bytes) (n + 2)) waits (chunk_by n (take 2 (drop n bytes)) bytes) (Takes 0 bytes) (λ _. tt)
    (λ _. cond_both (bytes_eq (take 2 (drop n bytes)) (13 ∷ 10 ∷ [])) (whole (take n bytes) (drop (n + 2) bytes)) (refused BadRequest) (Takes 0 bytes)
    (λ _. rw length-drop (omega arith)) (λ _. tt))

after_size_same : (again other : List ℕ → List ℕ → Cut (List ℕ)) (body : List ℕ) (size : ℕ) (rest : List ℕ)
    → ((body bytes : List ℕ) → length bytes ≤ length rest → again body bytes ≡ other body bytes)
    → after_size again body size rest ≡ after_size other body size rest
after_size_same again other body size rest h =
    ap (cond (size == 0) (trailers body rest))
    (and_then-same (chunk_data size rest) (λ piece rest. again (body ++ piece) rest) (λ piece rest. other (body ++ piece) rest)
    (λ piece end e. h (body ++ piece) end (let t = takes_at 0 rest (chunk_data size rest) piece end (chunk_data_takes size rest) e in omega arith)))

chunks_same : (m n : ℕ) (body bytes : List ℕ) → length bytes < m → length bytes < n → chunks m body bytes ≡ chunks n body bytes
chunks_same zero n body bytes h k = absurd (omega arith)
chunks_same (suc m) zero body bytes h k = absurd (omega arith)
chunks_same (suc m) (suc n) body bytes h k =
    and_then-same (chunk_size_at (length body) bytes) (after_size (chunks m) body) (after_size (chunks n) body)
    (λ size rest e.
    let t = takes_at 1 bytes (chunk_size_at (length body) bytes) size rest (chunk_size_takes (length body) bytes) e in
    after_size_same (chunks m) (chunks n) body size rest (λ body bytes le. chunks_same m n body bytes (omega arith) (omega arith)))

-- the chunks, one after the other
pub rest_of_chunks-step : (body bytes : List ℕ) → rest_of_chunks body bytes ≡ and_then (chunk_size_at (length body) bytes) (after_size rest_of_chunks body)
unfolding rest_of_chunks
rest_of_chunks-step body bytes =
    ap (λ (n : ℕ). chunks n body bytes) (one_more (length bytes))
    ∙ and_then-same (chunk_size_at (length body) bytes) (after_size (chunks (length bytes)) body) (after_size (λ body bytes. chunks (length bytes + 1) body bytes) body)
    (λ size rest e.
    let t = takes_at 1 bytes (chunk_size_at (length body) bytes) size rest (chunk_size_takes (length body) bytes) e in
    after_size_same (chunks (length bytes)) (λ body bytes. chunks (length bytes + 1) body bytes) body size rest
    (λ body end le. chunks_same (length bytes) (length end + 1) body end (omega arith) (omega arith)))
  where
    one_more : (n : ℕ) → n + 1 ≡ suc n
    one_more n = omega arith

pub rest_of_chunks-later : (body bytes more : List ℕ) → Later more (rest_of_chunks body bytes) (rest_of_chunks body (bytes ++ more))
unfolding rest_of_chunks
rest_of_chunks-later body bytes more =
    let longer : length bytes < length (bytes ++ more) + 1 = rw length-append (omega arith) in
    let same : chunks (length bytes + 1) body bytes ≡ chunks (length (bytes ++ more) + 1) body bytes =
    chunks_same (length bytes + 1) (length (bytes ++ more) + 1) body bytes (omega arith) longer in
    let P : Cut (List ℕ) → Type 0 = λ c. Later more c (chunks (length (bytes ++ more) + 1) body (bytes ++ more)) in
    subst P (sym same) (chunks_later (length (bytes ++ more) + 1) body bytes more)

pub body_by-later : (framing : Framing) (bytes more : List ℕ) → Later more (body_by framing bytes) (body_by framing (bytes ++ more))
body_by-later (Sized n) bytes more = exactly_later n bytes more
body_by-later Chunked bytes more = rest_of_chunks-later [] bytes more

-- ---- what a body takes

pub exactly_takes : (n : ℕ) (bytes : List ℕ) → Takes 0 bytes (exactly n bytes)
exactly_takes n bytes =
    cond_both (nat_le n (length bytes)) (whole (take n bytes) (drop n bytes)) waits (Takes 0 bytes) (λ _. rw length-drop (omega arith)) (λ _. tt)

pub trailers_takes : (body bytes : List ℕ) → Takes 0 bytes (trailers body bytes)
trailers_takes body bytes =
    weaker (trailers body bytes) (and_then-takes 1 0 bytes (within (empty_line_end true) MOST_TRAILERS MOST_TRAILERS BadRequest bytes) (λ lines rest. whole body rest)
    (within-takes (empty_line_end true) empty_line_end-finds MOST_TRAILERS MOST_TRAILERS BadRequest bytes) (λ lines rest le. omega arith))
  where
    weaker : (c : Cut (List ℕ)) → Takes 1 bytes c → Takes 0 bytes c
    weaker waits t = tt
    weaker (refused reason) t = tt
    weaker (whole a rest) t = omega arith

chunks_takes : (n : ℕ) (body bytes : List ℕ) → Takes 0 bytes (chunks n body bytes)
chunks_takes zero body bytes = tt
chunks_takes (suc n) body bytes =
    and_then-takes 0 0 bytes (chunk_size_at (length body) bytes) (after_size (chunks n) body)
    (weaker (chunk_size_at (length body) bytes) (chunk_size_takes (length body) bytes))
    (λ size rest _. cond_both (size == 0) (trailers body rest) (and_then (chunk_data size rest) (λ piece rest. chunks n (body ++ piece) rest)) (Takes 0 rest)
    (λ _. trailers_takes body rest)
    (λ _. and_then-takes 0 0 rest (chunk_data size rest) (λ piece rest. chunks n (body ++ piece) rest) (chunk_data_takes size rest)
    (λ piece rest _. chunks_takes n (body ++ piece) rest)))
  where
    weaker : (c : Cut ℕ) → Takes 1 bytes c → Takes 0 bytes c
    weaker waits t = tt
    weaker (refused reason) t = tt
    weaker (whole a rest) t = omega arith

pub rest_of_chunks-takes : (body bytes : List ℕ) → Takes 0 bytes (rest_of_chunks body bytes)
unfolding rest_of_chunks
rest_of_chunks-takes body bytes = chunks_takes (length bytes + 1) body bytes

pub body_by-takes : (framing : Framing) (bytes : List ℕ) → Takes 0 bytes (body_by framing bytes)
unfolding rest_of_chunks
body_by-takes (Sized n) bytes = exactly_takes n bytes
body_by-takes Chunked bytes = chunks_takes (length bytes + 1) [] bytes
