-- Scanning for line ends and empty lines from where an earlier scan stopped.
use Rattle.std.specs.Prelude.{◌≡◌, ◌≤◌, ℕ, ◌+◌, Bool, true, false, ◌&&◌, ◌==◌, List, [], ◌∷◌, ◌++◌, length, take, drop, Option, Some, None, option_map, if◌then◌else◌}
use Rattle.http_messages.specs.declared.scan.LinePlace.{LinePlace}
use Rattle.http_messages.specs.declared.scan.LinePlace.TheVariants.{Start, AfterReturn, Within}
use Rattle.http_messages.specs.Cuts.{is_lf, line_end}

-- the place behind one more byte
abbrev pub place_after : LinePlace → ℕ → LinePlace
place_after Start b = if is_lf b then Start else if b == 13 then AfterReturn else Within
place_after AfterReturn b = if is_lf b then Start else Within
place_after Within b = if is_lf b then Start else Within

-- an LF here ends an empty line
abbrev pub is_empty_so_far : LinePlace → Bool
is_empty_so_far Start = true
is_empty_so_far AfterReturn = true
is_empty_so_far Within = false

-- where the first empty line ends, from this place in a line on
abbrev pub scanned_end : LinePlace → List ℕ → Option ℕ
scanned_end place [] = None
scanned_end place (b ∷ bytes) =
    if is_empty_so_far place && is_lf b then Some 1
    else option_map (λ n. n + 1) (scanned_end (place_after place b) bytes)

-- no empty line ends within the front, and a scan that goes on behind it stands at that place
abbrev pub Resumes : LinePlace → List ℕ → LinePlace → Type 0
Resumes before front after =
    (more : List ℕ) → scanned_end before (front ++ more) ≡ option_map (λ n. n + length front) (scanned_end after more)

-- of the bytes from the start on, so many hold no line end, and so many no end of an empty line
pub record IsScanned (bytes : List ℕ) (start line empty : ℕ) (place : LinePlace) : Type 0 where
  pub start_fits : start ≤ length bytes
  pub line_fits : start + line ≤ length bytes
  pub no_line : line_end (take line (drop start bytes)) ≡ None
  pub empty_fits : start + empty ≤ length bytes
  pub resumes : Resumes Start (take empty (drop start bytes)) place
