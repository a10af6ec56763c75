-- What a table of names holds.
use Rattle.std.specs.Prelude.{◌≡◌, List, Option, nat_eq}
use Rattle.std.specs.BTreeMap.{get_by}
use Rattle.std.specs.Cmp.Lexicographic.{pointwise, slice_cmp}
use Rattle.std.specs.Map.{lookup}
use Rattle.std.specs.Ordering.{nat_cmp}
use Rattle.gv_values.specs.declared.name.Name.{Name}
use Rattle.name_table.specs.declared.names.Names.{Names}

-- what the table has at the name
abbrev pub found : {V : Type 0} → Names V → Name → Option V
found t x = get_by (λ k. slice_cmp nat_cmp x k.items) t.entries

-- at each name the first value that the list gives it
abbrev pub Holds : {V : Type 0} → Names V → List (Name × V) → Type 0
Holds t ds = (x : Name) → found t x ≡ lookup (pointwise nat_eq x) ds
