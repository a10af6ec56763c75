-- How the words of a cell are read. Any word can be read, as something.
use Rattle.std.specs.Prelude.{ℕ, zero, suc, ◌+◌, ◌*◌, ◌/◌, ◌%◌, ◌^◌, List, slice_index, ℤ, pos}
use mir.Val.{to_z}
use mir.Syntax.{w64}
use Rattle.gv_values.specs.declared.job.JobKind.{JobKind}
use Rattle.gv_values.specs.declared.job.JobKind.TheVariants as kind
use Rattle.gv_values.specs.declared.fault.FaultKind.{FaultKind}
use Rattle.native_board.specs.declared.views.Ended.{Ended}
use Rattle.native_board.specs.declared.views.Ended.TheVariants.{Int, ValueError, OverflowError, Error}
use Rattle.native_board.specs.declared.views.Signal.{Signal}
use Rattle.native_board.specs.declared.views.Signal.TheVariants.{Low, High}
use Rattle.gv_values.specs.declared.job.JobOutcome.{JobOutcome}
use Rattle.native_board.specs.declared.views.CellState.{CellState}
use Rattle.native_board.specs.declared.views.CellState.TheVariants.{Free, Posted, Stop, Done}

-- the kind of a job by its code
abbrev pub kind_at : ℕ → JobKind
kind_at zero = kind.Sum
kind_at (suc zero) = kind.Collatz
kind_at (suc (suc zero)) = kind.Fail
kind_at (suc (suc (suc n))) = kind.Echo

-- the state that a cell's first word says
abbrev pub state_in : ℕ → CellState
state_in zero = Free
state_in (suc zero) = Posted
state_in (suc (suc zero)) = Stop
state_in (suc (suc (suc zero))) = Done Int
state_in (suc (suc (suc (suc zero)))) = Done ValueError
state_in (suc (suc (suc (suc (suc zero))))) = Done OverflowError
state_in (suc (suc (suc (suc (suc (suc n)))))) = Done Error

-- the signal that word 0 says
abbrev pub signal_in : ℕ → Signal
signal_in zero = Low
signal_in (suc n) = High

-- the number of the job in an order
abbrev pub number_in : ℕ → ℕ
number_in w = w / 4 % 2 ^ 32

-- the kind of the job in an order
abbrev pub kind_in : ℕ → JobKind
kind_in w = kind_at (w % 4)

-- the integer in an argument or a value
abbrev pub signed_in : ℕ → ℤ
signed_in w = to_z w64 w

-- how a job ended that came to this
abbrev pub ended_of : JobOutcome → Ended
ended_of (JobOutcome.Int x) = Int
ended_of (JobOutcome.Fault FaultKind.ValueError) = ValueError
ended_of (JobOutcome.Fault FaultKind.OverflowError) = OverflowError
ended_of (JobOutcome.Fault fault) = Error

-- the integer of an outcome, and 0 where it has none
abbrev pub value_of : JobOutcome → ℤ
value_of (JobOutcome.Int x) = x
value_of (JobOutcome.Fault (FaultKind.Error x)) = x
value_of (JobOutcome.Fault fault) = pos 0

-- the outcome of a job that ended so, with this integer
abbrev pub job_outcome_of : Ended → ℤ → JobOutcome
job_outcome_of Int x = JobOutcome.Int x
job_outcome_of ValueError x = JobOutcome.Fault FaultKind.ValueError
job_outcome_of OverflowError x = JobOutcome.Fault FaultKind.OverflowError
job_outcome_of Error x = JobOutcome.Fault (FaultKind.Error x)

-- the words of one cell
pub record CellWords : Type 0 where
  pub state : ℕ
  pub order : ℕ
  pub argument : ℕ
  pub value : ℕ

-- the words of cell i: word 0 is the signal, and each cell has the four words that follow those of the cell before
abbrev pub cell_words : List ℕ → ℕ → CellWords
cell_words ws i = record { state = slice_index ws (4 * i + 1); order = slice_index ws (4 * i + 2); argument = slice_index ws (4 * i + 3); value = slice_index ws (4 * i + 4) }
