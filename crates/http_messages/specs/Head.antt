-- Request heads of `httparse`'s grammar: the head that some bytes are.
use Rattle.std.specs.Prelude.{ℕ, ◌-◌, Bool, ◌&&◌, ◌==◌, nat_lt, nat_le, List, [], ◌∷◌, length, map, take, Option, Some, None, if◌then◌else◌, slice_index}
use Rattle.std.specs.List.{slice_split, before_first, after_first, list_all, slice_index_or}
use Rattle.std.specs.Str.{bytes_eq, is_utf8}
use Rattle.httparse.specs.Grammar.{is_token, is_uri_byte, is_value_byte, LineEnd, crlf, lf, Field, RequestHead, print_request}
use Rattle.http_messages.specs.Cuts.{is_lf}

-- a line without its end: CR before the LF belongs to the end
abbrev pub line_and_end : List ℕ → List ℕ × LineEnd
line_and_end [] = ([], lf)
line_and_end (b ∷ []) = if b == 13 then ([], crlf) else (b ∷ [], lf)
line_and_end (b ∷ c ∷ bytes) = (b ∷ (line_and_end (c ∷ bytes)).0, (line_and_end (c ∷ bytes)).1)

abbrev pub is_space : ℕ → Bool
is_space b = b == 32

abbrev pub is_colon : ℕ → Bool
is_colon b = b == 58

abbrev pub field_of : List ℕ × LineEnd → Field
field_of line = record { name = before_first is_colon line.0; raw = after_first is_colon line.0; end = line.1 }

-- all lines but the last two are fields: the empty line, and what stands after it
abbrev pub fields_of : List (List ℕ × LineEnd) → List Field
fields_of lines = map field_of (take (length lines - 2) lines)

-- how the empty line ends
abbrev pub last_of : List (List ℕ × LineEnd) → LineEnd
last_of lines = (slice_index_or lines (length lines - 2) ([], lf)).1

-- a request line has three words; the eighth byte of the third is the digit of the minor version
abbrev pub head_with : List (List ℕ) → LineEnd → List (List ℕ × LineEnd) → Option RequestHead
head_with (method ∷ target ∷ version ∷ []) end lines = Some (record {
  blank = [];
  method = method;
  target = target;
  minor = slice_index version 7 - 48;
  line_end = end;
  fields = fields_of lines;
  last = last_of lines;
})
head_with words end lines = None

abbrev pub head_of_lines : List (List ℕ × LineEnd) → Option RequestHead
head_of_lines [] = None
head_of_lines (first ∷ lines) = head_with (slice_split is_space first.0) first.1 lines

-- `IsRequestHead` as a test
abbrev pub is_field : Field → Bool
is_field f = is_token f.name && list_all is_value_byte f.raw

abbrev pub is_request_head : RequestHead → Bool
is_request_head h =
    is_token h.method
    && (nat_lt 0 (length h.target) && list_all is_uri_byte h.target && is_utf8 h.target)
    && nat_le h.minor 1
    && list_all is_field h.fields

-- the head, where it is one of the grammar and is printed as these bytes
abbrev pub if_printed : List ℕ → Option RequestHead → Option RequestHead
if_printed bytes None = None
if_printed bytes (Some h) = if is_request_head h && bytes_eq (print_request h) bytes then Some h else None

-- the head of the grammar that these bytes are, wholly and with no empty line before it
unfoldable pub request_head : List ℕ → Option RequestHead
request_head bytes = if_printed bytes (head_of_lines (map line_and_end (slice_split is_lf bytes)))
