-- Where a text is refused, and why, for the reasons that no name decides.
use Rattle.std.specs.Prelude.{ℕ, ◌+◌, Bool, true, false, ◌&&◌, ◌||◌, not, nat_le, nat_lt, nat_eq, max, if◌then◌else◌, List, [], ◌∷◌, length, map, take, count_by, codes, Option, Some, None, Result, Ok, Err, position}
use Rattle.std.specs.Cmp.Lexicographic.{pointwise}
use Rattle.scenario_grammar.specs.declared.keyword.Keyword.{Keyword}
use Rattle.scenario_grammar.specs.declared.keyword.Keyword.TheVariants as k
use Rattle.scenario_grammar.specs.declared.phrase.Phrase.{Phrase}
use Rattle.scenario_grammar.specs.declared.phrase.Phrase.TheVariants as phrase
use Rattle.scenario_grammar.specs.declared.place.Place.{Place}
use Rattle.scenario_grammar.specs.declared.reason.TextReason.{TextReason}
use Rattle.scenario_grammar.specs.declared.reason.TextReason.TheVariants as reason
use Rattle.scenario_grammar.specs.declared.token.Token.{Token}
use Rattle.scenario_grammar.specs.declared.token.Token.TheVariants as token
use Rattle.scenario_grammar.specs.Layout.{Line, lines, is_end, is_text_byte, is_spaced, is_ended, may_be_long, most_bytes}
use Rattle.scenario_grammar.specs.declared.limits.TheConstants.{MOST_LEVELS}
use Rattle.scenario_grammar.specs.Token.{token_in}
use Rattle.scenario_grammar.specs.Reading.{phrase_of, gives, is_given, ◌>>=◌}
use Rattle.scenario_grammar.specs.Reason.{text_number}

-- a block that is open, by what has come of it
pub data Open : Type 0 where
  Body Then Otherwise Loop Trying Catching Ending Timing : Open

-- what stands before a line: profile, if a line, the open blocks from the innermost, if a function, if `main`
pub record Standing : Type 0 where
  pub profile : ℕ
  pub any_line : Bool
  pub open_blocks : List Open
  pub begun : Bool
  pub has_main : Bool

-- before the first line: a text has profile 1 unless its first line says otherwise
abbrev pub at_the_start : Standing
at_the_start = record { profile = 1; any_line = false; open_blocks = []; begun = false; has_main = false }

-- What the first words make of a line. A line with `<-` has the reason that it has outside a function.
pub data Role : Type 0 where
  Profiles Declares Defines States Opens Parts Catches Finishes Ends Unknown : Role
  Gives : TextReason → Role

-- by the first word alone
abbrev pub role_by : Keyword → Role
role_by k.Profile = Profiles
role_by k.Event = Declares
role_by k.Result = Declares
role_by k.Sem = Declares
role_by k.BoundedSem = Declares
role_by k.Lock = Declares
role_by k.Queue = Declares
role_by k.Group = Declares
role_by k.Pool = Declares
role_by k.Native = Declares
role_by k.Channel = Declares
role_by k.Function = Defines
role_by k.RawFunction = Defines
role_by k.If = Opens
role_by k.While = Opens
role_by k.Try = Opens
role_by k.Timeout = Opens
role_by k.Else = Parts
role_by k.Except = Catches
role_by k.Finally = Finishes
role_by k.End = Ends
role_by k.Print = States
role_by k.Let = States
role_by k.Return = States
role_by k.Raise = States
role_by k.Start = States
role_by k.Sleep = States
role_by k.Join = States
role_by k.Kill = States
role_by k.KillAll = States
role_by k.Unlink = States
role_by k.Set = States
role_by k.Clear = States
role_by k.ResultSet = States
role_by k.ResultFail = States
role_by k.Release = States
role_by k.QueuePut = States
role_by k.QueueDone = States
role_by k.GroupJoin = States
role_by k.GroupKill = States
role_by k.SetParent = States
role_by k.ChannelPut = States
role_by k.QueueShut = States
role_by word = if gives word then States else Unknown

-- Outside a function a line with `<-` is out of place at its third word, where the words up to it are right.
abbrev pub outside : List Token → TextReason
outside (token.Name n ∷ arrow ∷ []) = reason.TooShort
outside (token.Name n ∷ arrow ∷ token.Fixed word ∷ ts) = if gives word then reason.LineOutOfPlace else reason.UnknownWord
outside (token.Name n ∷ arrow ∷ t ∷ ts) = reason.UnknownWord
outside _ = reason.NotAName

-- by the first words
abbrev pub role_of : List Token → Role
role_of [] = Unknown
role_of (token.Fixed word ∷ ts) = if is_given (token.Fixed word ∷ ts) then Gives reason.NotAName else role_by word
role_of (t ∷ ts) = if is_given (t ∷ ts) then Gives (outside (t ∷ ts)) else Unknown

-- an `if` before its `else`
abbrev pub is_then : Open → Bool
is_then Then = true
is_then _ = false

-- a try before its first except
abbrev pub is_trying : Open → Bool
is_trying Trying = true
is_trying _ = false

-- a try, before its finally
abbrev pub is_try : Open → Bool
is_try Trying = true
is_try Catching = true
is_try _ = false

-- inside a function, or else for this reason
abbrev pub in_a_body : TextReason → List Open → Option TextReason
in_a_body why [] = Some why
in_a_body why (o ∷ os) = None

-- where an except or a finally may stand
abbrev pub in_a_try : List Open → Option TextReason
in_a_try [] = Some reason.BlockWordOutOfPlace
in_a_try (o ∷ os) = if is_try o then None else Some reason.BlockWordOutOfPlace

-- why a line of this role may not stand here
abbrev pub misplaced : Standing → Role → Option TextReason
misplaced s Profiles = if s.any_line then Some reason.LineOutOfPlace else None
misplaced s Declares = if s.begun then Some reason.LineOutOfPlace else None
misplaced s Defines = elim s.open_blocks [ [] ↦ None | o ∷ os ↦ Some reason.LineOutOfPlace ]
misplaced s States = in_a_body reason.LineOutOfPlace s.open_blocks
misplaced s (Gives why) = in_a_body why s.open_blocks
misplaced s Opens = if nat_le MOST_LEVELS (length s.open_blocks) then Some reason.NestedTooDeep else in_a_body reason.LineOutOfPlace s.open_blocks
misplaced s Parts = elim s.open_blocks [ [] ↦ Some reason.BlockWordOutOfPlace | o ∷ os ↦ if is_then o then None else Some reason.BlockWordOutOfPlace ]
misplaced s Catches = in_a_try s.open_blocks
misplaced s Finishes = in_a_try s.open_blocks
misplaced s Ends = elim s.open_blocks [ [] ↦ Some reason.BlockWordOutOfPlace | o ∷ os ↦ if is_trying o then Some reason.BlockWordOutOfPlace else None ]
misplaced s Unknown = None

-- one more open block
abbrev pub opened : Standing → Open → Standing
opened s o = record s { open_blocks = o ∷ s.open_blocks }

-- the innermost block goes on as another part
abbrev pub replaced : Standing → Open → Standing
replaced s o = record s { open_blocks = elim s.open_blocks [ [] ↦ [] | p ∷ os ↦ o ∷ os ] }

-- what stands after a line that says this; statements stand in a function, and so behind a line
abbrev pub after : Standing → Phrase → Standing
after s (phrase.Profile profile) = record s { profile = profile; any_line = true }
after s (phrase.Declaration n o) = record s { any_line = true }
after s (phrase.Function is_raw n parameters) = record { profile = s.profile; any_line = true; open_blocks = Body ∷ []; begun = true; has_main = s.has_main || not is_raw && pointwise nat_eq n (codes "main") }
after s (phrase.Command c) = s
after s (phrase.Giving target g) = s
after s (phrase.If e) = opened s Then
after s phrase.Else = replaced s Otherwise
after s (phrase.While e) = opened s Loop
after s phrase.Try = opened s Trying
after s (phrase.Except c n) = replaced s Catching
after s phrase.Finally = replaced s Ending
after s (phrase.Timeout t silent) = opened s Timing
after s phrase.End = record s { open_blocks = elim s.open_blocks [ [] ↦ [] | o ∷ os ↦ os ] }

-- one line: its place among the blocks by its first word, and then its words
abbrev pub judge : Standing → List Token → Result Standing TextReason
judge s ts = elim (misplaced s (role_of ts)) [ Some r ↦ Err r | None ↦ phrase_of ts >>= λ p. Ok (after s p) ]

-- one line, blanks first
abbrev pub judge_line : Standing → Line → Result Standing TextReason
judge_line s line = if is_spaced line then judge s (map (token_in s.profile) line.words) else Err reason.BlankOutOfPlace

-- line by line, up to the first that is refused
unfoldable pub judge_lines : Standing → List Line → Result Standing Place
judge_lines s [] = Ok s
judge_lines s (line ∷ rest) = elim (judge_line s line) [ Ok t ↦ judge_lines t rest | Err r ↦ Err (record { line = line.number; reason = text_number r }) ]

-- the line of the byte that stands behind so many
abbrev pub line_at : ℕ → List ℕ → ℕ
line_at count bytes = count_by is_end (take count bytes) + 1

-- the number of the last line, at least 1
abbrev pub last_line : List ℕ → ℕ
last_line bytes = max 1 (count_by is_end bytes)

-- an open block, or else a missing `main`
abbrev pub at_the_end : ℕ → Standing → Option Place
at_the_end last s = elim s.open_blocks [
  | [] ↦ if s.has_main then None else Some (record { line = last; reason = text_number reason.NoMain })
  | o ∷ os ↦ Some (record { line = last; reason = text_number reason.NotClosed })
]

-- the first line that is refused, or the end of the text
abbrev pub place_in_lines : List ℕ → Option Place
place_in_lines bytes = elim (judge_lines at_the_start (lines bytes)) [ Ok s ↦ at_the_end (last_line bytes) s | Err p ↦ Some p ]

-- why a text with too many bytes is refused, which may be long or not
abbrev pub too_large : Bool → TextReason
too_large long = if long then reason.LongTooLarge else reason.TooLarge

-- where the bytes as a whole are no text, before any line is judged
abbrev pub place_in_bytes : List ℕ → Option Place
place_in_bytes bytes =
    if nat_lt (most_bytes bytes) (length bytes) then Some (record { line = line_at (most_bytes bytes) bytes; reason = text_number (too_large (may_be_long bytes)) })
    else (elim (position (λ b. not (is_text_byte b)) bytes) [
      | Some i ↦ Some (record { line = line_at i bytes; reason = text_number reason.NotPrintable })
      | None ↦ if is_ended bytes then None else Some (record { line = count_by is_end bytes + 1; reason = text_number reason.NotEnded })
    ])

-- the first place where a text is refused, none where some tree has it
unfoldable pub place : List ℕ → Option Place
place bytes = elim (place_in_bytes bytes) [ Some p ↦ Some p | None ↦ place_in_lines bytes ]
