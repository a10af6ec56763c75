-- Lines of a word and a number.
use Rattle.std.specs.Prelude.{ℕ, List, ◌++◌, codes}
use Rattle.gv_values.specs.Texts.{decimal}

-- a word, a number and LF
abbrev pub number_line : List ℕ → ℕ → List ℕ
number_line word number = word ++ codes " " ++ decimal number ++ codes "\n"
