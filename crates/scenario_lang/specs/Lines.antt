-- What one line of a text makes of the tree that is begun.
use Rattle.std.specs.Prelude.{◌≡◌, Bool, false, not, ℕ, ◌+◌, ◌-◌, if◌then◌else◌, ◌==◌, List, [], ◌∷◌, Option, Some, None, Result, Ok, Err, count_by, max}
use Rattle.std.specs.List.{slice_split}
use Rattle.scenario_tree.specs.declared.tree.Scenario.{Scenario}
use Rattle.scenario_grammar.specs.declared.place.Place.{Place}
use Rattle.scenario_grammar.specs.Building.{Building}
use Rattle.scenario_grammar.specs.Layout.{drop_blanks, is_blank, is_end, is_text_byte, lines_from}
use Rattle.scenario_grammar.specs.Parsed.{read_line, read_lines, scenario, standing}
use Rattle.scenario_grammar.specs.Place.{at_the_end, place}
use Rattle.scenario_grammar.specs.Spells.{Spells}
use Rattle.scenario_grammar.specs.declared.reason.TextReason.{TextReason}
use Rattle.scenario_grammar.specs.declared.reason.TextReason.TheVariants as reason
use Rattle.scenario_grammar.specs.Reason.{text_number}
use Rattle.scenario_lines.specs.declared.refusal.LineRefusal.{LineRefusal}
use Rattle.scenario_lines.specs.declared.refusal.LineRefusal.TheVariants as refusal
use Rattle.scenario_lang.specs.declared.builder.Builder.{Builder}
use Rattle.scenario_lang.specs.declared.text.ParseRefusal.{ParseRefusal}
use Rattle.scenario_lang.specs.declared.text.Reader.{Reader}
use Rattle.scenario_lang.specs.declared.text.ParseRefusal.TheVariants as parse
use Rattle.scenario_lang.specs.Builders.{building}

-- line n, what stands past its leading blanks: nothing, a comment, or words
abbrev pub carried : Building → ℕ → List ℕ → Result Building TextReason
carried b n [] = Ok b
carried b n (c ∷ cs) = if c == 35 then Ok b else read_line b (record { number = n; words = slice_split is_blank (c ∷ cs) })

-- whether the words of a line are to be read: what stands past its leading blanks is no comment
abbrev pub carries : List ℕ → Bool
carries [] = false
carries (c ∷ cs) = not (c == 35)

-- line n with this text, its LF left out
unfoldable pub line_text : Building → ℕ → List ℕ → Result Building TextReason
line_text b n text = carried b n (drop_blanks text)

-- what a function that takes one line ensures: what the grammar says, unless memory runs out
abbrev pub Takes : Result Building TextReason → Result (Unit {0}) LineRefusal → Builder → Type 0
Takes taken (Ok done) new = taken ≡ Ok (building new)
Takes taken (Err refusal.Memory) new = Unit {0}
Takes taken (Err (refusal.Reason r)) new = taken ≡ Err r

-- what parsing ensures: what the grammar reads, unless memory runs out
abbrev pub Parses : Result Scenario Place → Result Scenario ParseRefusal → Type 0
Parses read (Ok s) = read ≡ Ok s
Parses read (Err (parse.Refused p)) = read ≡ Err p
Parses read (Err parse.Memory) = Unit {0}

-- the fault of the bytes from line n on
abbrev pub fault_from : ℕ → List ℕ → Option Place
fault_from n [] = None
fault_from n (b ∷ []) = if is_end b then None else Some (record { line = n; reason = text_number (if is_text_byte b then reason.NotEnded else reason.NotPrintable) })
fault_from n (b ∷ c ∷ bs) =
    if is_text_byte b then fault_from (if is_end b then n + 1 else n) (c ∷ bs) else Some (record { line = n; reason = text_number reason.NotPrintable })

-- what the lines from line n on make of what the lines before made
abbrev pub then_lines : ℕ → Result Building Place → List ℕ → Result Building Place
then_lines n (Ok b) bytes = read_lines b (lines_from n (slice_split is_end bytes))
then_lines n (Err p) bytes = Err p

-- the whole, where the text ends behind these lines
abbrev pub ended_at : ℕ → Result Building Place → Result Scenario Place
ended_at last (Ok b) = elim (at_the_end last (standing b)) [ Some p ↦ Err p | None ↦ Ok (scenario b) ]
ended_at last (Err p) = Err p

-- the whole, where so much has been read
abbrev pub outcome : ℕ → Result Building Place → List ℕ → Result Scenario Place
outcome n before bytes = elim (fault_from n bytes) [
  | Some p ↦ Err p
  | None ↦ ended_at (max 1 (n - 1 + count_by is_end bytes)) (then_lines n before bytes)
]

-- a line's refusal, at its place
abbrev pub placed : ℕ → Result Building TextReason → Result Building Place
placed n (Ok b) = Ok b
placed n (Err r) = Err (record { line = n; reason = text_number r })

-- what line n makes of what the lines before made
abbrev pub after_line : ℕ → Result Building Place → List ℕ → Result Building Place
after_line n (Ok b) text = placed n (line_text b n text)
after_line n (Err p) text = Err p

-- what the lines so far make: a tree that is begun, or the place of the first that was refused
abbrev pub state_of : Reader → Result Building Place
state_of r = elim r.fault [ None ↦ Ok (building r.builder) | Some p ↦ Err p ]

-- what parsed is the tree that the bytes spell
abbrev pub IsSpelt : List ℕ → Result Scenario ParseRefusal → Type 0
IsSpelt bytes (Ok s) = Spells s bytes
IsSpelt bytes (Err e) = Unit {0}

-- what is refused is spelt by no tree, and is refused at its place
abbrev pub IsRefused : List ℕ → Result Scenario ParseRefusal → Type 0
IsRefused bytes (Ok s) = Unit {0}
IsRefused bytes (Err (parse.Refused p)) = (place bytes ≡ Some p) × ((s : Scenario) → Spells s bytes → ⊥)
IsRefused bytes (Err parse.Memory) = Unit {0}
