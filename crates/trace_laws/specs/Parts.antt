-- A text of two parts: what stands before the first line of four equals signs, and what stands behind that line. This
-- project's own.
use Rattle.std.specs.Prelude.{◌==◌, Bool, true, ◌&&◌, ◌||◌, [], ◌∷◌, Option, Some, None, option_map, if◌then◌else◌, codes, drop, take}
use Rattle.std.specs.Str.{bytes_eq}
use Rattle.gv_values.specs.Texts.{Text}

-- the line, with its LF
abbrev pub dividing_mark : Text
dividing_mark = codes "====\n"

-- the line without one, as the last line may be
abbrev pub last_mark : Text
last_mark = codes "===="

-- the text begins with the line
abbrev pub is_marked : Text → Bool
is_marked text = bytes_eq (take 5 text) dividing_mark || bytes_eq text last_mark

-- what stands before the first such line, and what stands behind it; whether a line begins here is told
abbrev pub parted_from : Bool → Text → Option (Text × Text)
parted_from first [] = None
parted_from first (b ∷ rest) =
    if first && is_marked (b ∷ rest) then Some ([], drop 5 (b ∷ rest)) else option_map (λ (p : Text × Text). (b ∷ p.0, p.1)) (parted_from (b == 10) rest)

abbrev pub parted : Text → Option (Text × Text)
parted text = parted_from true text
