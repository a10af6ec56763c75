-- What a reply is sent as (PEP 3333, start_response and the rule on hop-by-hop fields; RFC 9112, 6 and 7.1).
use Rattle.std.specs.Prelude.{ℕ, Bool, true, false, ◌&&◌, ◌||◌, not, ◌==◌, nat_lt, nat_le, ◌-◌, List, [], ◌∷◌, ◌++◌, length, take, drop, slice_index, if◌then◌else◌, codes, decimal}
use Rattle.std.specs.List.{list_all, flat_map, concat}
use Rattle.std.specs.Fmt.{digits}
use Rattle.std.specs.Str.{bytes_eq, str_eq_ignore_ascii_case}
use Rattle.std.specs.Str.Parse.{digits_value}
use Rattle.std.specs.Char.{is_ascii_digit}
use Rattle.httparse.specs.Grammar.{is_token, is_value_byte}
use Rattle.http_messages.specs.declared.refusal.Refusal.{Refusal}
use Rattle.http_messages.specs.declared.refusal.Refusal.TheVariants.{BadRequest, TooLarge, TooLong}
use Rattle.http_messages.specs.Environ.{Pair}
use Rattle.http_messages.specs.declared.request.HttpRequest.{HttpRequest}
use Rattle.http_messages.specs.Requests.{is_length, values}
use Rattle.wsgi_core.specs.declared.answer.Stated.{Stated}
use Rattle.wsgi_core.specs.declared.answer.Stated.TheVariants.{Nothing, Length, Wrong}
use Rattle.wsgi_core.specs.declared.answer.Ending.{Ending}
use Rattle.wsgi_core.specs.declared.answer.Ending.TheVariants.{Counted, InChunks, AtClose, NoBody}
use Rattle.wsgi_core.specs.declared.reply.Reply.{Reply}
use Rattle.wsgi_core.specs.declared.reply.Reply.TheVariants.{Raised, Started}
use Rattle.wsgi_core.specs.declared.reply.Response.{Response}

-- bytes sent, and whether the session closes after them
pub record Sent : Type 0 where
  pub bytes : List ℕ
  pub closes : Bool

infixr 30 ◌⨾◌
-- one and then the other, unless the first closes
abbrev pub ◌⨾◌ : Sent → Sent → Sent
a ⨾ b = if a.closes then a else record { bytes = a.bytes ++ b.bytes; closes = b.closes }

abbrev pub nothing_sent : Sent
nothing_sent = record { bytes = []; closes = false }

abbrev pub line : List ℕ → List ℕ
line text = text ++ 13 ∷ 10 ∷ []

abbrev pub reason : Refusal → List ℕ
reason BadRequest = codes "400 Bad Request"
reason TooLarge = codes "413 Request Entity Too Large"
reason TooLong = codes "414 Request URI Too Long"

abbrev pub refusal : Refusal → Sent
refusal r = record {
  bytes = line (codes "HTTP/1.1 " ++ reason r) ++ line (codes "Connection: close") ++ line (codes "Content-Length: 0") ++ line [];
  closes = true;
}

abbrev pub if_continues : HttpRequest → Sent
if_continues q = record { bytes = if q.continues then line (codes "HTTP/1.1 100 Continue") ++ line [] else []; closes = false }

abbrev pub is_visible : ℕ → Bool
is_visible b = nat_lt 32 b && nat_lt b 127

abbrev pub is_reason_byte : ℕ → Bool
is_reason_byte b = is_visible b || b == 32

abbrev pub has_visible_ends : List ℕ → Bool
has_visible_ends bytes =
    nat_lt 0 (length bytes) && is_visible (slice_index bytes 0) && is_visible (slice_index bytes (length bytes - 1))

-- visible bytes and blanks, of which the first and the last are visible
abbrev pub is_reason : List ℕ → Bool
is_reason bytes = has_visible_ends bytes && list_all is_reason_byte bytes

abbrev pub begins_with_code : List ℕ → Bool
begins_with_code status =
    nat_lt 4 (length status) && list_all is_ascii_digit (take 3 status) && nat_le 50 (slice_index status 0)

-- three digits, 200 to 999, a blank and a reason
abbrev pub is_status : List ℕ → Bool
is_status status = begins_with_code status && (slice_index status 3 == 32 && is_reason (drop 4 status))

-- the names that belong to the connection and not to the reply
abbrev pub is_hop_by_hop : List ℕ → Bool
is_hop_by_hop name =
    str_eq_ignore_ascii_case name (codes "Connection")
    || str_eq_ignore_ascii_case name (codes "Keep-Alive")
    || str_eq_ignore_ascii_case name (codes "Proxy-Authenticate")
    || str_eq_ignore_ascii_case name (codes "Proxy-Authorization")
    || str_eq_ignore_ascii_case name (codes "TE")
    || str_eq_ignore_ascii_case name (codes "Trailer")
    || str_eq_ignore_ascii_case name (codes "Transfer-Encoding")
    || str_eq_ignore_ascii_case name (codes "Upgrade")

abbrev pub is_header : Pair → Bool
is_header p = is_token p.0 && list_all is_value_byte p.1 && not (is_hop_by_hop p.0)

abbrev pub has_code : List ℕ → List ℕ → Bool
has_code code status = bytes_eq (take 3 status) code

-- what one value of Content-Length states
abbrev pub length_of : List ℕ → Stated
length_of value = if is_length value then Length (digits_value 10 value) else Wrong

-- what the values of Content-Length state: none, or one of 1 to 19 digits, or nothing that can be sent
abbrev pub stated_by : List (List ℕ) → Stated
stated_by [] = Nothing
stated_by (value ∷ []) = length_of value
stated_by (value ∷ other ∷ values) = Wrong

abbrev pub stated : List Pair → Stated
stated headers = stated_by (values (codes "Content-Length") headers)

-- the length may stand beside a status that has a body, or not
abbrev pub is_wrong : Bool → Stated → Bool
is_wrong no_content Nothing = false
is_wrong no_content (Length n) = no_content
is_wrong no_content Wrong = true

abbrev pub is_empty : {X : Type 0} → List X → Bool
is_empty [] = true
is_empty (x ∷ xs) = false

abbrev pub is_faulty : Reply → Bool
is_faulty Raised = true
is_faulty (Started response) =
    not (is_status response.status)
    || not (list_all is_header response.headers)
    || is_wrong (has_code (codes "204") response.status) (stated response.headers)
    || (response.raised && list_all is_empty response.pieces)

abbrev pub server_error : HttpRequest → Sent
server_error q = record {
  bytes =
      line (codes "HTTP/1.1 500 Internal Server Error") ++ line (codes "Content-Type: text/plain")
      ++ line (codes "Connection: close") ++ line (codes "Content-Length: 21") ++ line []
      ++ (if q.is_head then [] else codes "Internal Server Error");
  closes = true;
}

-- the status has a body
abbrev pub has_body_place : List ℕ → Bool
has_body_place status = not (has_code (codes "204") status || has_code (codes "304") status)

abbrev pub header_line : Pair → List ℕ
header_line p = line (p.0 ++ codes ": " ++ p.1)

abbrev pub chunk : List ℕ → List ℕ
chunk [] = []
chunk (b ∷ piece) = line (digits 16 false (length (b ∷ piece))) ++ line (b ∷ piece)

-- how the end of a body is told, by the status's place for a body, the minor version and the length
abbrev pub ending_by : Bool → ℕ → Stated → Ending
ending_by false minor length = NoBody
ending_by true minor (Length n) = Counted n
ending_by true minor Nothing = if minor == 1 then InChunks else AtClose
ending_by true minor Wrong = if minor == 1 then InChunks else AtClose

abbrev pub ending : HttpRequest → Response → Ending
ending q response = ending_by (has_body_place response.status) q.minor (stated response.headers)

abbrev pub is_in_chunks : Ending → Bool
is_in_chunks InChunks = true
is_in_chunks e = false

abbrev pub is_at_close : Ending → Bool
is_at_close AtClose = true
is_at_close e = false

abbrev pub says_close : HttpRequest → Ending → Bool
says_close q e = not q.persists || is_at_close e

abbrev pub connection_line : HttpRequest → Ending → List ℕ
connection_line q e =
    if says_close q e then line (codes "Connection: close")
    else if q.minor == 0 then line (codes "Connection: keep-alive") else []

abbrev pub status_line : ℕ → List ℕ → List ℕ
status_line minor status = line (codes "HTTP/1." ++ decimal minor ++ codes " " ++ status)

abbrev pub coding_line : Ending → List ℕ
coding_line e = if is_in_chunks e then line (codes "Transfer-Encoding: chunked") else []

abbrev pub head_bytes : HttpRequest → Ending → Response → List ℕ
head_bytes q e response =
    status_line q.minor response.status
    ++ flat_map header_line response.headers
    ++ coding_line e
    ++ connection_line q e
    ++ line []

abbrev pub body_bytes : Ending → List (List ℕ) → Bool → List ℕ
body_bytes NoBody pieces broken = []
body_bytes (Counted n) pieces broken = take n (concat pieces)
body_bytes InChunks pieces broken = flat_map chunk pieces ++ (if broken then [] else line (codes "0") ++ line [])
body_bytes AtClose pieces broken = concat pieces

abbrev pub falls_short : Ending → List (List ℕ) → Bool
falls_short (Counted n) pieces = nat_lt (length (concat pieces)) n
falls_short e pieces = false

abbrev pub sent_by : HttpRequest → Ending → Response → Sent
sent_by q e response = record {
  bytes = head_bytes q e response ++ (if q.is_head then [] else body_bytes e response.pieces response.raised);
  closes = says_close q e || response.raised || (not q.is_head && falls_short e response.pieces);
}

abbrev pub sent_for : HttpRequest → Reply → Sent
sent_for q Raised = server_error q
sent_for q (Started response) = sent_by q (ending q response) response

unfoldable pub answer : HttpRequest → Reply → Sent
answer q reply = if is_faulty reply then server_error q else sent_for q reply
