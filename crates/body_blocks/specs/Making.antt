-- Names and blocks while they are made.
use Rattle.std.specs.Prelude.{◌≡◌, List, [], ◌∷◌, ◌++◌, Result, Ok}
use Rattle.body_names.specs.Naming.{IsKept}
use Rattle.body_blocks.specs.declared.making.Making.{Making}
use Rattle.body_blocks.specs.Trees.{Coded, EachStands, start, trees}

-- the names, and what the blocks stand for
abbrev pub made : Making → Coded
made m = trees (start m.naming.names) m.blocks

-- each name has its number, and each block stands for what it does among those before it
abbrev pub IsMaking : Making → Type 0
IsMaking m = IsKept m.naming.numbers m.naming.names × EachStands (start m.naming.names) m.blocks

-- what was made stands behind the others
abbrev pub IsPushed : {T E : Type 0} → Result T E → List T → List T → Type 0
IsPushed {T} {E} made old new = (x : T) × (made ≡ Ok x) × (new ≡ old ++ x ∷ [])
