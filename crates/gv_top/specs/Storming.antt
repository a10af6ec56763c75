-- The run of the storm of many greenlets, and the summary of that.
use Rattle.std.specs.Prelude.{ℕ, List, ◌++◌, length, codes}
use Rattle.scenario_tree.specs.declared.tree.Scenario.{Scenario}
use Rattle.machine.specs.Run.{Ran, script_run}
use Rattle.serve_command.specs.Lines.{number_line}
use Rattle.gv_values.specs.declared.limits.TheConstants.{MOST_MOVES, MOST_TURNS}

-- the run of a storm: within as many turns and moves as a run may be given, under the rule of a script without a tick
unfoldable pub storm_run : Scenario → Ran
storm_run s = script_run s MOST_TURNS MOST_MOVES 0

-- The summary of a run as the storm of n greenlets, with the numbers of its last state, and how many lines it has.
abbrev pub summary : ℕ → Ran → List ℕ
summary n r =
    number_line (codes "storm") n
    ++ number_line (codes "greenlets") (length r.state.greenlets)
    ++ number_line (codes "turns") r.state.turns
    ++ number_line (codes "moves") r.state.moves
    ++ number_line (codes "moment") r.state.moment
    ++ number_line (codes "lines") (length r.lines)
