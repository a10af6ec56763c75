-- The numbers of a run whose lines were counted.
use Rattle.std.specs.Prelude.{◌≡◌, ℕ, length, Some}
use Rattle.machine.specs.Run.{Ran}
use Rattle.hub_engine.specs.declared.run.Ran.{Ran as Came}
use Rattle.hub_engine.specs.Ends.{CountsOf, end_of_run}

-- the run came to this end, with these numbers of its last state, and its trace has so many lines
pub record WasCounted (came : Came) (lines : ℕ) (r : Ran) : Type 0 where
  pub end : Some came.end ≡ end_of_run r.end
  pub numbers : CountsOf came r.state
  pub lines_are : lines ≡ length r.lines
