-- What the steps outwards through the blocks stand for.
use Rattle.std.specs.Prelude.{ℕ, List, ⊤, ◌≡◌}
use Rattle.body_blocks.specs.Trees.{Coded, block_at, name_if}
use Rattle.body_blocks.specs.declared.statement.FlatExcept.{FlatExcept}
use Rattle.machine.specs.declared.state.Local.{Local}
use Rattle.machine.specs.declared.state.Todo.{Todo}
use Rattle.machine.specs.Unwinding.{Caught, Unwound, unwind}
use Rattle.body_entries.specs.declared.entry.Entry.{Entry}
use Rattle.body_frames.specs.declared.unwind.Unwound.{Unwound as Came}
use Rattle.body_frames.specs.declared.unwind.Stepped.{Stepped}

abbrev pub unwound_of : Came → List ℕ → List Local → List Todo → Unwound
unwound_of Came.Runs left locals todo = Unwound.Runs left locals todo
unwound_of (Came.Out how) left locals todo = Unwound.Out left how

abbrev pub caught_of : Coded → FlatExcept → Caught
caught_of t e = record { name = name_if t e.name; body = block_at e.body t }

abbrev pub stepped_of : Stepped → List ℕ → List Local → List Todo → Unwound
stepped_of Stepped.Runs left locals todo = Unwound.Runs left locals todo
stepped_of (Stepped.Further how) left locals todo = unwind todo left how locals

-- where it goes on outwards, no more is to do than before
abbrev pub KeepsIfFurther : Stepped → List Entry → List Entry → Type 0
KeepsIfFurther Stepped.Runs old new = ⊤
KeepsIfFurther (Stepped.Further how) old new = new ≡ old
