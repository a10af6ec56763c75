-- The tree that a text spells, or the first place where it is refused.
use Rattle.std.specs.Prelude.{ℕ, Bool, true, false, ◌&&◌, ◌||◌, not, if◌then◌else◌, List, [], ◌∷◌, map, codes, Some, None, Result, Ok, Err, nat_eq, ◌==◌}
use Rattle.std.specs.List.{list_any}
use Rattle.std.specs.Cmp.Lexicographic.{pointwise}
use Rattle.scenario_tree.specs.declared.tree.Scenario.{Scenario}
use Rattle.scenario_grammar.specs.declared.building.Opening.{Opening}
use Rattle.scenario_grammar.specs.declared.building.Opening.TheVariants as opening
use Rattle.scenario_grammar.specs.declared.place.Place.{Place}
use Rattle.scenario_grammar.specs.declared.reason.TextReason.{TextReason}
use Rattle.scenario_grammar.specs.declared.reason.TextReason.TheVariants as reason
use Rattle.scenario_grammar.specs.declared.token.Token.{Token}
use Rattle.scenario_grammar.specs.Building.{Building, step}
use Rattle.scenario_grammar.specs.Layout.{Line, lines, is_spaced}
use Rattle.scenario_grammar.specs.Place.{Open, Body, Then, Otherwise, Loop, Trying, Catching, Ending, Timing, Standing, role_of, misplaced, at_the_end, last_line, place_in_bytes}
use Rattle.scenario_grammar.specs.Reading.{phrase_of, ◌>>=◌}
use Rattle.scenario_grammar.specs.Reason.{text_number}
use Rattle.scenario_grammar.specs.Spells.{is_main}
use Rattle.scenario_grammar.specs.Token.{token_in}

-- before the first line
abbrev pub nothing_yet : Building
nothing_yet = record { profile = 1; objects = []; functions = []; open_blocks = [] }

-- what has come of an open block
abbrev pub kind_of : Opening → Open
kind_of (opening.Function is_raw n parameters) = Body
kind_of (opening.If e) = Then
kind_of (opening.Else e then_part) = Otherwise
kind_of (opening.While e) = Loop
kind_of opening.Try = Trying
kind_of (opening.Except tried excepts n c target) = Catching
kind_of (opening.Finally tried excepts) = Ending
kind_of (opening.Timeout after silent) = Timing

-- a function of the name `main`, not a raw one
abbrev pub opens_main : Opening → Bool
opens_main (opening.Function is_raw n parameters) = not is_raw && pointwise nat_eq n (codes "main")
opens_main _ = false

-- whether a function has begun
abbrev pub is_begun : Building → Bool
is_begun b = elim b.functions [ [] ↦ elim b.open_blocks [ [] ↦ false | o ∷ os ↦ true ] | f ∷ fs ↦ true ]

-- an object is declared
abbrev pub has_objects : Building → Bool
has_objects b = elim b.objects [ [] ↦ false | d ∷ ds ↦ true ]

-- what stands before the next line
abbrev pub standing : Building → Standing
standing b = record {
  profile = b.profile;
  any_line = is_begun b || has_objects b || not (b.profile == 1);
  open_blocks = map (λ o. kind_of o.opening) b.open_blocks;
  begun = is_begun b;
  has_main = list_any is_main b.functions || list_any (λ o. opens_main o.opening) b.open_blocks;
}

-- one line: its place among the blocks by its first words, and then its words
abbrev pub read_words : Building → ℕ → List Token → Result Building TextReason
read_words b n ts = elim (misplaced (standing b) (role_of ts)) [ Some r ↦ Err r | None ↦ phrase_of ts >>= λ p. Ok (step b n p) ]

-- one line, blanks first
abbrev pub read_line : Building → Line → Result Building TextReason
read_line b line = if is_spaced line then read_words b line.number (map (token_in b.profile) line.words) else Err reason.BlankOutOfPlace

-- line by line, up to the first that is refused
unfoldable pub read_lines : Building → List Line → Result Building Place
read_lines b [] = Ok b
read_lines b (line ∷ rest) = elim (read_line b line) [ Ok c ↦ read_lines c rest | Err r ↦ Err (record { line = line.number; reason = text_number r }) ]

-- the tree that was made
abbrev pub scenario : Building → Scenario
scenario b = record { profile = b.profile; objects = b.objects; functions = b.functions }

-- the tree, where every block is closed and there is a `main`
abbrev pub finished : List ℕ → Building → Result Scenario Place
finished bytes b = elim (at_the_end (last_line bytes) (standing b)) [ Some p ↦ Err p | None ↦ Ok (scenario b) ]

-- the lines of a text, one after another, and its end
abbrev pub read_text : List ℕ → Result Scenario Place
read_text bytes = elim (read_lines nothing_yet (lines bytes)) [ Ok b ↦ finished bytes b | Err p ↦ Err p ]

-- the tree, or the first place where the text is refused
unfoldable pub reading : List ℕ → Result Scenario Place
reading bytes = elim (place_in_bytes bytes) [ Some p ↦ Err p | None ↦ read_text bytes ]
