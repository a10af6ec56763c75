-- The body of a request, from the bytes after its head.
use Rattle.std.specs.Prelude.{ℕ, zero, suc, ◌+◌, Bool, true, ◌&&◌, ◌==◌, nat_lt, nat_le, List, [], ◌∷◌, ◌++◌, length, take, drop, Option, Some, None, if◌then◌else◌}
use Rattle.std.specs.List.{list_all, take_while, prefix_len}
use Rattle.std.specs.Str.{bytes_eq}
use Rattle.std.specs.Char.{is_ascii_hexdigit}
use Rattle.httparse.specs.Grammar.{is_ows, is_extension_byte, ChunkLine, print_chunk_line, chunk_size}
use Rattle.http_messages.specs.declared.limits.TheConstants.{MOST_BODY, MOST_CHUNK_LINE, MOST_SIZE_DIGITS, MOST_TRAILERS}
use Rattle.http_messages.specs.declared.refusal.Refusal.TheVariants.{BadRequest, TooLarge}
use Rattle.http_messages.specs.Cuts.{Cut, waits, refused, whole, and_then, within, line_end, empty_line_end}
use Rattle.http_messages.specs.declared.request.Framing.{Framing}
use Rattle.http_messages.specs.declared.request.Framing.TheVariants.{Sized, Chunked}
use Rattle.http_messages.specs.declared.request.AwaitedBody.{AwaitedBody}
use Rattle.http_messages.specs.declared.request.AwaitedBody.TheVariants.{Counted, InChunks, InChunk, InTrailers}

-- so many bytes
abbrev pub exactly : ℕ → List ℕ → Cut (List ℕ)
exactly n bytes = if nat_le n (length bytes) then whole (take n bytes) (drop n bytes) else waits

-- the chunk line that may be these bytes: digits, blanks, and what stands from a `;` on
abbrev pub extension_of : List ℕ → Option (List ℕ)
extension_of [] = None
extension_of (b ∷ text) = if b == 59 then Some (take (prefix_len is_extension_byte text) text) else None

abbrev pub after_digits : List ℕ → List ℕ
after_digits bytes = drop (prefix_len is_ascii_hexdigit bytes) bytes

abbrev pub chunk_line_of : List ℕ → ChunkLine
chunk_line_of bytes = record {
  digits = take_while is_ascii_hexdigit bytes;
  pad = take_while is_ows (after_digits bytes);
  extension = extension_of (drop (prefix_len is_ows (after_digits bytes)) (after_digits bytes));
}

-- `IsChunkLine` as a test
abbrev pub is_extension : Option (List ℕ) → Bool
is_extension None = true
is_extension (Some text) = list_all is_extension_byte text

abbrev pub is_chunk_line : ChunkLine → Bool
is_chunk_line l =
    (nat_lt 0 (length l.digits) && nat_le (length l.digits) MOST_SIZE_DIGITS && list_all is_ascii_hexdigit l.digits)
    && list_all is_ows l.pad
    && is_extension l.extension

-- the chunk line of the grammar that these bytes are, wholly
unfoldable pub chunk_line : List ℕ → Option ChunkLine
chunk_line bytes =
    if is_chunk_line (chunk_line_of bytes) && bytes_eq (print_chunk_line (chunk_line_of bytes)) bytes
    then Some (chunk_line_of bytes) else None

-- the size on the line, after a body of so many bytes
abbrev pub size_on : ℕ → Option ChunkLine → List ℕ → Cut ℕ
size_on before None rest = refused BadRequest
size_on before (Some l) rest = if nat_le (before + chunk_size l) MOST_BODY then whole (chunk_size l) rest else refused TooLarge

abbrev pub chunk_size_at : ℕ → List ℕ → Cut ℕ
chunk_size_at before bytes =
    and_then (within line_end MOST_CHUNK_LINE MOST_CHUNK_LINE BadRequest bytes) (λ line rest. size_on before (chunk_line line) rest)

-- the bytes of a chunk, and CR LF
abbrev pub chunk_data : ℕ → List ℕ → Cut (List ℕ)
chunk_data n bytes =
    if nat_lt (length bytes) (n + 2) then waits
    else if bytes_eq (take 2 (drop n bytes)) (13 ∷ 10 ∷ []) then whole (take n bytes) (drop (n + 2) bytes)
    else refused BadRequest

-- the lines after the last chunk are dropped
abbrev pub trailers : List ℕ → List ℕ → Cut (List ℕ)
trailers body bytes = and_then (within (empty_line_end true) MOST_TRAILERS MOST_TRAILERS BadRequest bytes) (λ lines rest. whole body rest)

-- the rest of a body that has come so far, in so many chunks at most
abbrev pub chunks : ℕ → List ℕ → List ℕ → Cut (List ℕ)
chunks zero body bytes = waits
chunks (suc more) body bytes =
    and_then (chunk_size_at (length body) bytes) (λ size rest.
    if size == 0 then trailers body rest
    else and_then (chunk_data size rest) (λ piece rest. chunks more (body ++ piece) rest))

-- each chunk takes bytes, so their number bounds the chunks
unfoldable pub rest_of_chunks : List ℕ → List ℕ → Cut (List ℕ)
rest_of_chunks body bytes = chunks (length bytes + 1) body bytes

abbrev pub body_by : Framing → List ℕ → Cut (List ℕ)
body_by (Sized n) bytes = exactly n bytes
body_by Chunked bytes = rest_of_chunks [] bytes

-- the rest of a body, in the middle of a chunk that has so many bytes
abbrev pub rest_of_chunk : List ℕ → ℕ → List ℕ → Cut (List ℕ)
rest_of_chunk body size bytes = and_then (chunk_data size bytes) (λ piece rest. rest_of_chunks (body ++ piece) rest)

abbrev pub body_left : AwaitedBody → List ℕ → Cut (List ℕ)
body_left (Counted n) bytes = exactly n bytes
body_left (InChunks body) bytes = rest_of_chunks body bytes
body_left (InChunk body size) bytes = rest_of_chunk body size bytes
body_left (InTrailers body) bytes = trailers body bytes
