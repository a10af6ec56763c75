-- The environ of a request.
use Rattle.std.specs.Prelude.{ℕ, Bool, ◌||◌, not, ◌==◌, List, [], ◌∷◌, ◌++◌, map, filter, fold, drop, Option, Some, None, if◌then◌else◌, codes, decimal}
use Rattle.std.specs.List.{list_any, before_first, after_first, starts_with, position_or_len}
use Rattle.std.specs.Str.{bytes_eq}
use Rattle.std.specs.Char.{to_ascii_uppercase}
use Rattle.http_messages.specs.declared.environ.KeyClass.{KeyClass}
use Rattle.http_messages.specs.declared.environ.KeyClass.TheVariants.{ContentType, ContentLength, Other}
use Rattle.percent_encoding.specs.Percent.{percent_decode}

abbrev pub Pair : Type 0
Pair = List ℕ × List ℕ

-- the value of the first pair with the key
abbrev pub pair_value : List ℕ → List Pair → Option (List ℕ)
pair_value key [] = None
pair_value key (p ∷ pairs) = if bytes_eq p.0 key then Some p.1 else pair_value key pairs

-- in upper case, with `_` for `-`
abbrev pub key_byte : ℕ → ℕ
key_byte b = if b == 45 then 95 else to_ascii_uppercase b

abbrev pub is_content_key : List ℕ → Bool
is_content_key name = bytes_eq name (codes "CONTENT_TYPE") || bytes_eq name (codes "CONTENT_LENGTH")

abbrev pub key_of : List ℕ → List ℕ
key_of name = if is_content_key (map key_byte name) then map key_byte name else codes "HTTP_" ++ map key_byte name

-- a field's pair in the environ
abbrev pub pair_of : Pair → Pair
pair_of field = (key_of field.0, field.1)

-- what stands between the values of repeated fields
abbrev pub joint : List ℕ → List ℕ
joint key = if bytes_eq key (codes "HTTP_COOKIE") then codes "; " else codes ","

-- one more pair: its value goes on behind the one that its key has
abbrev pub with_pair : List Pair → Pair → List Pair
with_pair [] new = new ∷ []
with_pair (p ∷ pairs) new =
    if bytes_eq p.0 new.0 then (p.0, p.1 ++ joint p.0 ++ new.1) ∷ pairs else p ∷ with_pair pairs new

abbrev pub is_underscore : ℕ → Bool
is_underscore b = b == 95

-- a field whose name has `_` is left out
abbrev pub is_kept : Pair → Bool
is_kept field = not (list_any is_underscore field.0)

-- the pairs of the fields that are kept
abbrev pub field_pairs : List Pair → List Pair
field_pairs fields = map pair_of (filter is_kept fields)

-- whether the key is of this class
abbrev pub is_in : KeyClass → List ℕ → Bool
is_in ContentType key = bytes_eq key (codes "CONTENT_TYPE")
is_in ContentLength key = bytes_eq key (codes "CONTENT_LENGTH")
is_in Other key = not (is_content_key key)

abbrev pub pairs_of_class : KeyClass → List Pair → List Pair
pairs_of_class class pairs = filter (λ p. is_in class p.0) pairs

-- the type first, then the length, then the others
abbrev pub in_order : List Pair → List Pair
in_order pairs = pairs_of_class ContentType pairs ++ pairs_of_class ContentLength pairs ++ pairs_of_class Other pairs

abbrev pub is_question : ℕ → Bool
is_question b = b == 63

abbrev pub is_slash : ℕ → Bool
is_slash b = b == 47

abbrev pub or_root : List ℕ → List ℕ
or_root [] = codes "/"
or_root (b ∷ path) = b ∷ path

abbrev pub begins_with : List ℕ → List ℕ → Bool
begins_with prefix bytes = starts_with (λ a b. a == b) bytes prefix

-- of `http://authority/path` the path begins after the authority
abbrev pub path_of : List ℕ → List ℕ
path_of target =
    if begins_with (codes "http://") target
    then or_root (drop (position_or_len is_slash (drop 7 target)) (drop 7 target))
    else target

-- the pairs that do not come from fields
abbrev pub request_pairs : ℕ → List ℕ → List ℕ → ℕ → List Pair
request_pairs port method target minor =
    (codes "REQUEST_METHOD", method)
    ∷ (codes "SCRIPT_NAME", [])
    ∷ (codes "PATH_INFO", percent_decode (path_of (before_first is_question target)))
    ∷ (codes "QUERY_STRING", after_first is_question target)
    ∷ (codes "SERVER_NAME", codes "localhost")
    ∷ (codes "SERVER_PORT", decimal port)
    ∷ (codes "SERVER_PROTOCOL", codes "HTTP/1." ++ decimal minor)
    ∷ []

-- the environ of a request (PEP 3333, "environ Variables"): method, target, minor version and fields
unfoldable pub environ_of : ℕ → List ℕ → List ℕ → ℕ → List Pair → List Pair
environ_of port method target minor fields =
    fold with_pair (request_pairs port method target minor) (in_order (field_pairs fields))
