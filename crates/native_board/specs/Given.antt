-- The passes that are still to be given out.
use Rattle.std.specs.Prelude.{ℕ, length}
use Rattle.atomic_table.specs.Seated.{TableId}
use Rattle.native_board.specs.declared.made.WorkerPasses.{WorkerPasses}

-- the board that they were made with
abbrev pub passes_board : WorkerPasses → TableId
passes_board ps = ps.at.value.table_id

-- the cell of the next one
abbrev pub next_cell : WorkerPasses → ℕ
next_cell ps = ps.next

-- how many they are
abbrev pub passes_left : WorkerPasses → ℕ
passes_left ps = length ps.passes.items
