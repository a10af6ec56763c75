-- Requests and bodies: what was decided stays decided, and what a reading takes.
use Rattle.std.proofs.Common.{◌≡◌, ℕ, ◌≤◌, true, List, ◌++◌, length, refl, arith}
use Rattle.std.specs.Prelude.{◌+◌, Result, Ok, Err}
use Rattle.http_messages.specs.declared.refusal.Refusal.{Refusal}
use Rattle.http_messages.specs.declared.refusal.Refusal.TheVariants.{BadRequest, TooLong}
use Rattle.http_messages.specs.declared.request.Framing.{Framing}
use Rattle.http_messages.specs.declared.request.Framing.TheVariants.{Sized, Chunked}
use Rattle.http_messages.specs.declared.request.HttpRequest.{HttpRequest}
use Rattle.http_messages.specs.declared.request.AwaitedBody.{AwaitedBody}
use Rattle.http_messages.specs.declared.request.AwaitedBody.TheVariants.{Counted, InChunks, InChunk, InTrailers}
use Rattle.http_messages.specs.Cuts.{Cut, waits, refused, whole, and_then, or_refused, line_end, empty_line_end, drop_empty_lines}
use Rattle.http_messages.specs.Head.{request_head}
use Rattle.http_messages.specs.Requests.{judged, first_line, head_lines, head_at, request_here, request_at}
use Rattle.http_messages.specs.Body.{body_by, body_left, chunk_data, rest_of_chunks}
use Rattle.http_messages.specs.AwaitedBody.{awaited_by}
use Rattle.http_messages.proofs.CutLaws.{Later, IsStable, and_then-later, or_refused-later, within-stable, line_end-finds, empty_line_end-finds, dropped-later, Takes, and_then-takes, within-takes, drop_empty_lines-le}
use Rattle.http_messages.proofs.BodyLaws.{exactly_later, rest_of_chunks-later, chunk_data_later, trailers_later, exactly_takes, trailers_takes, rest_of_chunks-takes, chunk_data_takes}
use Rattle.http_messages.specs.declared.limits.TheConstants.{MOST_FIRST_LINE, MOST_HEAD}

abbrev judge_lines : ℕ → List ℕ → List ℕ → Cut HttpRequest
judge_lines port head rest = or_refused (judged port (request_head head)) rest

head_at_later : (bytes more : List ℕ) → Later more (head_at bytes) (head_at (bytes ++ more))
head_at_later bytes more =
    and_then-later more (first_line bytes) (first_line (bytes ++ more)) (λ _ _. head_lines bytes) (λ _ _. head_lines (bytes ++ more))
    ((within-stable line_end line_end-finds MOST_FIRST_LINE (MOST_FIRST_LINE + 1) TooLong (omega arith)).later bytes more)
    (λ _ _. (within-stable (empty_line_end true) empty_line_end-finds MOST_HEAD MOST_HEAD BadRequest (omega arith)).later bytes more)

request_here_stable : (port : ℕ) → IsStable (request_here port)
request_here_stable port = record {
  later = λ bytes more.
      and_then-later more (head_at bytes) (head_at (bytes ++ more)) (judge_lines port) (judge_lines port) (head_at_later bytes more)
      (λ head rest. or_refused-later more (judged port (request_head head)) rest);
}

pub request_at-later : (port : ℕ) (bytes more : List ℕ) → Later more (request_at port bytes) (request_at port (bytes ++ more))
unfolding request_at
request_at-later port bytes more =
    dropped-later (request_here port) (request_here_stable port) (record { at_end = refl; at_cr = refl }) bytes more

judge_takes : (rest : List ℕ) (r : Result HttpRequest Refusal) → Takes 0 rest (or_refused r rest)
judge_takes rest (Ok q) = omega arith
judge_takes rest (Err reason) = tt

within_same : (b : List ℕ) (c d : Cut (List ℕ)) (n : ℕ) → Takes n b d → Takes n b (and_then c (λ _ _. d))
within_same b waits d n t = tt
within_same b (refused reason) d n t = tt
within_same b (whole a rest) d n t = t

shorter : (d : Cut HttpRequest) (short long : List ℕ) → length short ≤ length long → Takes 1 short d → Takes 1 long d
shorter waits short long le t = tt
shorter (refused reason) short long le t = tt
shorter (whole q rest) short long le t = omega arith

request_here_takes : (port : ℕ) (bytes : List ℕ) → Takes 1 bytes (request_here port bytes)
request_here_takes port bytes =
    and_then-takes 1 0 bytes (head_at bytes) (judge_lines port)
    (within_same bytes (first_line bytes) (head_lines bytes) 1 (within-takes (empty_line_end true) empty_line_end-finds MOST_HEAD MOST_HEAD BadRequest bytes))
    (λ head rest _. judge_takes rest (judged port (request_head head)))

-- a head has bytes
pub request_at-takes : (port : ℕ) (bytes : List ℕ) → Takes 1 bytes (request_at port bytes)
unfolding request_at
request_at-takes port bytes =
    shorter (request_here port (drop_empty_lines bytes)) (drop_empty_lines bytes) bytes (drop_empty_lines-le bytes) (request_here_takes port (drop_empty_lines bytes))

-- ---- what is left of a body

pub body_left-later : (awaited : AwaitedBody) (bytes more : List ℕ) → Later more (body_left awaited bytes) (body_left awaited (bytes ++ more))
body_left-later (Counted n) bytes more = exactly_later n bytes more
body_left-later (InChunks body) bytes more = rest_of_chunks-later body bytes more
body_left-later (InChunk body size) bytes more =
    and_then-later more (chunk_data size bytes) (chunk_data size (bytes ++ more)) (λ piece rest. rest_of_chunks (body ++ piece) rest) (λ piece rest. rest_of_chunks (body ++ piece) rest)
    (chunk_data_later size bytes more) (λ piece rest. rest_of_chunks-later (body ++ piece) rest more)
body_left-later (InTrailers body) bytes more = trailers_later body bytes more

pub body_left-takes : (awaited : AwaitedBody) (bytes : List ℕ) → Takes 0 bytes (body_left awaited bytes)
body_left-takes (Counted n) bytes = exactly_takes n bytes
body_left-takes (InChunks body) bytes = rest_of_chunks-takes body bytes
body_left-takes (InChunk body size) bytes =
    and_then-takes 0 0 bytes (chunk_data size bytes) (λ piece rest. rest_of_chunks (body ++ piece) rest) (chunk_data_takes size bytes)
    (λ piece rest _. rest_of_chunks-takes (body ++ piece) rest)
body_left-takes (InTrailers body) bytes = trailers_takes body bytes

pub body_starts : (framing : Framing) (bytes : List ℕ) → body_by framing bytes ≡ body_left (awaited_by framing) bytes
body_starts (Sized n) bytes = refl
body_starts Chunked bytes = refl
