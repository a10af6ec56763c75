-- What a sweep leaves of the cells.
use Rattle.std.proofs.Common.{◌≡◌, ℕ, zero, suc, true, List, [], ◌∷◌, length, get_or, ap, refl}
use Rattle.native_board.specs.declared.views.CellState.{CellState}
use Rattle.native_board.specs.declared.views.CellState.TheVariants.{Done}
use Rattle.native_board.specs.declared.views.HubCell.{HubCell}
use Rattle.native_board.specs.declared.views.HubCell.TheVariants.{Vacant, Sent}
use Rattle.native_board.specs.Passes.{is_sent, swept_cell, after_sweep}

-- a cell that has a job after a sweep had it before
swept_sent : (st : CellState) (x : HubCell) → is_sent (swept_cell st x) ≡ true → is_sent x ≡ true
swept_sent (Done e) (Sent k j) h = refl
swept_sent st x h = h

pub after_sent : (cells : List HubCell) (seen : List CellState) (i : ℕ) → is_sent (get_or (after_sweep cells seen) i Vacant) ≡ true → is_sent (get_or cells i Vacant) ≡ true
after_sent cells [] i h = h
after_sent [] (st ∷ sts) i h = h
after_sent (x ∷ xs) (st ∷ sts) zero h = swept_sent st x h
after_sent (x ∷ xs) (st ∷ sts) (suc i) h = after_sent xs sts i h

pub length-after_sweep : (cells : List HubCell) (seen : List CellState) → length (after_sweep cells seen) ≡ length cells
length-after_sweep cells [] = refl
length-after_sweep [] (st ∷ sts) = refl
length-after_sweep (x ∷ xs) (st ∷ sts) = ap suc (length-after_sweep xs sts)
