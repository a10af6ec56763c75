-- What the headers state of the body's length, one after the other.
use Rattle.std.specs.Prelude.{ℕ, List, if◌then◌else◌, codes}
use Rattle.std.specs.Str.{str_eq_ignore_ascii_case}
use Rattle.http_messages.specs.Environ.{Pair}
use Rattle.wsgi_core.specs.Answer.{length_of}
use Rattle.wsgi_core.specs.declared.answer.Stated.{Stated}
use Rattle.wsgi_core.specs.declared.answer.Stated.TheVariants.{Nothing, Length, Wrong}

-- what is stated by one more value, and after one more header
abbrev pub stated_next : Stated → List ℕ → Stated
stated_next Nothing value = length_of value
stated_next (Length n) value = Wrong
stated_next Wrong value = Wrong

abbrev pub stated_after : Stated → Pair → Stated
stated_after s p = if str_eq_ignore_ascii_case p.0 (codes "Content-Length") then stated_next s p.1 else s
