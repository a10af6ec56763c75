-- The state of the machine: moment, counts, objects, jobs, greenlets and the one list of items. This project's own.
use Rattle.std.specs.Prelude.{ℕ, List, [], ◌∷◌, ◌++◌}
use Rattle.scenario_tree.specs.declared.tree.Scenario.{Scenario}
use Rattle.trace_text.specs.declared.line.Line.{Line}
use Rattle.machine.specs.declared.items.Item.{Item}
use Rattle.machine.specs.declared.state.Greenlet.{Greenlet}
use Rattle.machine.specs.declared.state.JobState.{JobState}
use Rattle.machine.specs.declared.state.Object.{Object}
use Rattle.machine.specs.declared.state.Post.{Post}

-- a name is the list of its bytes
abbrev pub Name : Type 0
Name = List ℕ

-- the state between two steps
pub record State : Type 0 where
  pub scenario : Scenario
  pub moment : ℕ
  pub next_ready : ℕ
  pub next_since : ℕ
  -- how many were begun, or drawn, or made
  pub turns : ℕ
  pub moves : ℕ
  pub timeouts : ℕ
  pub links : ℕ
  -- in order of declaration
  pub objects : List Object
  -- in order of making; a greenlet's number is its place
  pub greenlets : List Greenlet
  -- in order of posting; a job's number is its place counted from 1
  pub jobs : List JobState
  -- in order of since
  pub items : List Item
  -- what the step under way has written and posted, and not yet given out
  pub lines : List Line
  pub posts : List Post

-- the state with a line more
abbrev pub say : Line → State → State
say line s = record s { lines = s.lines ++ line ∷ [] }
