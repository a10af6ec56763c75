-- What a request head asks for: the request without its body, or the reason to refuse it.
use Rattle.std.specs.Prelude.{ℕ, ◌+◌, Bool, true, ◌&&◌, ◌||◌, not, ◌==◌, nat_lt, nat_le, List, [], ◌∷◌, length, map, filter, Option, Some, None, Result, Ok, Err, if◌then◌else◌, codes}
use Rattle.std.specs.List.{slice_split, list_all, list_any}
use Rattle.std.specs.Str.{bytes_eq, str_eq_ignore_ascii_case}
use Rattle.std.specs.Str.Parse.{digits_value}
use Rattle.std.specs.Char.{is_ascii_digit}
use Rattle.httparse.specs.Grammar.{RequestHead, trim_ows}
use Rattle.httparse.specs.Spans.{name_and_value}
use Rattle.http_messages.specs.declared.limits.TheConstants.{MOST_FIRST_LINE, MOST_HEAD, MOST_FIELDS, MOST_LENGTH_DIGITS, MOST_BODY}
use Rattle.http_messages.specs.declared.refusal.Refusal.{Refusal}
use Rattle.http_messages.specs.declared.refusal.Refusal.TheVariants.{BadRequest, TooLarge, TooLong}
use Rattle.http_messages.specs.declared.request.Framing.{Framing}
use Rattle.http_messages.specs.declared.request.Framing.TheVariants.{Sized, Chunked}
use Rattle.http_messages.specs.declared.request.HttpRequest.{HttpRequest}
use Rattle.http_messages.specs.Cuts.{Cut, and_then, or_refused, within, line_end, empty_line_end, drop_empty_lines}
use Rattle.http_messages.specs.Head.{request_head}
use Rattle.http_messages.specs.Environ.{Pair, begins_with, environ_of}

-- the values of the pairs of this name in any case, in order
abbrev pub values : List ℕ → List Pair → List (List ℕ)
values name pairs = map (λ p. p.1) (filter (λ p. str_eq_ignore_ascii_case p.0 name) pairs)

-- at least one digit
abbrev pub is_length : List ℕ → Bool
is_length digits = nat_lt 0 (length digits) && nat_le (length digits) MOST_LENGTH_DIGITS && list_all is_ascii_digit digits

abbrev pub is_allowed_target : List ℕ → Bool
is_allowed_target target =
    bytes_eq target (codes "*") || begins_with (codes "/") target || begins_with (codes "http://") target

-- by a Content-Length
abbrev pub sized_by : List ℕ → Result Framing Refusal
sized_by digits =
    if not (is_length digits) then Err BadRequest
    else if nat_le (digits_value 10 digits) MOST_BODY then Ok (Sized (digits_value 10 digits))
    else Err TooLarge

-- by the minor version and a Transfer-Encoding
abbrev pub coded_by : ℕ → List ℕ → Result Framing Refusal
coded_by minor coding =
    if minor == 1 && str_eq_ignore_ascii_case coding (codes "chunked") then Ok Chunked else Err BadRequest

-- by the minor version, the values of Content-Length and those of Transfer-Encoding
abbrev pub framing_by : ℕ → List (List ℕ) → List (List ℕ) → Result Framing Refusal
framing_by minor [] [] = Ok (Sized 0)
framing_by minor (digits ∷ []) [] = sized_by digits
framing_by minor [] (coding ∷ []) = coded_by minor coding
framing_by minor lengths codings = Err BadRequest

-- how the fields frame the body
abbrev pub framing_of : ℕ → List Pair → Result Framing Refusal
framing_of minor fields = framing_by minor (values (codes "Content-Length") fields) (values (codes "Transfer-Encoding") fields)

abbrev pub is_comma : ℕ → Bool
is_comma b = b == 44

-- a member of the list that this value is, in any case
abbrev pub has_member : List ℕ → List ℕ → Bool
has_member option value = list_any (λ token. str_eq_ignore_ascii_case (trim_ows token) option) (slice_split is_comma value)

-- a member of a Connection field
abbrev pub has_option : List ℕ → List Pair → Bool
has_option option fields = list_any (has_member option) (values (codes "Connection") fields)

-- whether the client wants the connection to stay (RFC 9112, 9.3)
abbrev pub does_persist : ℕ → List Pair → Bool
does_persist minor fields =
    if minor == 1 then not (has_option (codes "close") fields) else has_option (codes "keep-alive") fields

abbrev pub announces_body : Framing → Bool
announces_body (Sized n) = nat_lt 0 n
announces_body Chunked = true

abbrev pub expects : List Pair → Bool
expects fields = list_any (λ value. str_eq_ignore_ascii_case value (codes "100-continue")) (values (codes "Expect") fields)

-- whether `100 Continue` is sent before the body is read
abbrev pub does_continue : Framing → ℕ → List Pair → Bool
does_continue framing minor fields = minor == 1 && announces_body framing && expects fields

abbrev pub request_framed : ℕ → List ℕ → List ℕ → ℕ → List Pair → Framing → HttpRequest
request_framed port method target minor fields framing = record {
  environ = environ_of port method target minor fields;
  is_head = bytes_eq method (codes "HEAD");
  minor = minor;
  persists = does_persist minor fields;
  continues = does_continue framing minor fields;
  framing = framing;
}

abbrev pub on_framing : ℕ → List ℕ → List ℕ → ℕ → List Pair → Result Framing Refusal → Result HttpRequest Refusal
on_framing port method target minor fields (Ok framing) = Ok (request_framed port method target minor fields framing)
on_framing port method target minor fields (Err refusal) = Err refusal

-- the judgement of a head's parts, at the port
unfoldable pub request_of : ℕ → List ℕ → List ℕ → ℕ → List Pair → Result HttpRequest Refusal
request_of port method target minor fields =
    if not (is_allowed_target target) then Err BadRequest
    else on_framing port method target minor fields (framing_of minor fields)

-- the judgement of a head
unfoldable pub judged : ℕ → Option RequestHead → Result HttpRequest Refusal
judged port None = Err BadRequest
judged port (Some h) =
    if nat_lt MOST_FIELDS (length h.fields) then Err BadRequest
    else request_of port h.method h.target h.minor (map name_and_value h.fields)

-- the first line of a head; one byte more than it may have decides
abbrev pub first_line : List ℕ → Cut (List ℕ)
first_line bytes = within line_end MOST_FIRST_LINE (MOST_FIRST_LINE + 1) TooLong bytes

-- a head ends with the first empty line
abbrev pub head_lines : List ℕ → Cut (List ℕ)
head_lines bytes = within (empty_line_end true) MOST_HEAD MOST_HEAD BadRequest bytes

-- the head at the front, where no empty line stands, before it is judged
abbrev pub head_at : List ℕ → Cut (List ℕ)
head_at bytes = and_then (first_line bytes) (λ _ _. head_lines bytes)

-- the request at the front, where no empty line stands
abbrev pub request_here : ℕ → List ℕ → Cut HttpRequest
request_here port bytes = and_then (head_at bytes) (λ head rest. or_refused (judged port (request_head head)) rest)

-- the request at the front, up to its body
unfoldable pub request_at : ℕ → List ℕ → Cut HttpRequest
request_at port bytes = request_here port (drop_empty_lines bytes)
