-- The fields of a head that was parsed.
use Rattle.std.specs.Prelude.{ℕ, Bool, ◌&&◌, not, List, map}
use Rattle.std.specs.List.{list_any}
use Rattle.httparse.specs.declared.spans.HeaderSpan.{HeaderSpan}
use Rattle.httparse.specs.Spans.{header_bytes}
use Rattle.http_messages.specs.declared.environ.KeyClass.{KeyClass}
use Rattle.http_messages.specs.Environ.{Pair, is_in, is_underscore, key_of}

-- the names and values that the spans cover
abbrev pub fields_at : List ℕ → List HeaderSpan → List Pair
fields_at head headers = map (header_bytes head) headers

-- whether a name's key stands among those of the class
abbrev pub is_of : KeyClass → List ℕ → Bool
is_of class name = not (list_any is_underscore name) && is_in class (key_of name)
