-- A row of a table of runs: a text with its words, and what is told of its run. In texts `|` stands for the end of a
-- line.
use Rattle.std.specs.Prelude.{ℕ, ◌==◌, Bool, false, ◌&&◌, List, [], ◌∷◌, ◌++◌, map, if◌then◌else◌, Ok, Err}
use Rattle.std.specs.List.{flat_map, list_all}
use Rattle.gv_values.specs.declared.job.Answer.{Answer}
use Rattle.scenario_tree.specs.declared.tree.Scenario.{Scenario}
use Rattle.scenario_grammar.specs.Parsed.{reading}
use Rattle.trace_text.specs.Line.{line_text}
use Rattle.machine.specs.TraceLaws.{meets_laws}
use Rattle.machine.specs.Quiet.{is_quiet}
use Rattle.machine.specs.Soundness.{is_sound}
use Rattle.machine.specs.Status.{status, err_line}
use Rattle.machine.specs.Run.{End, Ran, Source, run_from}

-- the bytes of a text
abbrev Text : Type 0
Text = List ℕ

-- what a run comes to: its trace, the status of the program, and the line on the error stream
pub record Outcome : Type 0 where
  pub trace : Text
  pub status : ℕ
  pub err : Text

-- a text, its budgets, where its answers come from, and what is told of its run
pub record Row : Type 0 where
  pub text : Text
  pub turns : ℕ
  pub moves : ℕ
  pub source : Source
  pub told : Outcome

abbrev line_end : ℕ → ℕ
line_end b = if b == 124 then 10 else b

-- the row with these words
abbrev made : ℕ → ℕ → Source → Text → Text → ℕ → Text → Row
made turns moves source text trace status err = record {
  text = map line_end text;
  turns = turns;
  moves = moves;
  source = source;
  told = record { trace = map line_end trace; status = status; err = map line_end err };
}

-- within so many turns and moves, under the rule of a script with this tick
abbrev pub within : ℕ → ℕ → ℕ → Text → Text → ℕ → Text → Row
within turns moves tick = made turns moves (Source.Scripted tick [])

-- the turns and the moves of a run without words
abbrev pub usual_turns : ℕ
usual_turns = 1000000

abbrev pub usual_moves : ℕ
usual_moves = 10000000

-- without words
abbrev pub row : Text → Text → ℕ → Text → Row
row = within usual_turns usual_moves 0

-- within so many turns and moves, under these answers
abbrev pub answered : ℕ → ℕ → List Answer → Text → Text → ℕ → Text → Row
answered turns moves answers = made turns moves (Source.Given answers)

-- where the text spells no scenario, and where a question finds no answer
abbrev nothing : Outcome
nothing = record { trace = []; status = 3; err = [] }

-- what the run comes to
abbrev ended : Ran → End → Outcome
ended r End.Asking = nothing
ended r (End.Stopped cause) = record { trace = flat_map (λ line. line_text line ++ 10 ∷ []) r.lines; status = status cause; err = err_line cause }

abbrev run_of : Row → Scenario → Ran
run_of r s = run_from r.source r.turns r.moves s

-- what the run of the text comes to
abbrev pub comes_to : Row → Outcome
comes_to r = elim (reading r.text) [ Ok s ↦ ended (run_of r s) (run_of r s).end | Err p ↦ nothing ]

-- what is told of it
abbrev pub told : Row → Outcome
told r = r.told

-- the lines meet the laws of a trace, and each block line stands at a quiet and sound state
abbrev keeps : Ran → Bool
keeps r = meets_laws r.lines && list_all is_quiet r.blocked && list_all is_sound r.blocked

-- so is the run of the text
abbrev pub is_lawful : Row → Bool
is_lawful r = elim (reading r.text) [ Ok s ↦ keeps (run_of r s) | Err p ↦ false ]
