use Rattle.std.proofs.Common.{◌≡◌, ◌++◌, List, map, take}
use Rattle.gv_values.specs.declared.name.Name.{Name}
use Rattle.body_names.specs.Expressions.{expression_of}
use Rattle.body_names.specs.Naming.{Grows, IsKept}
use Rattle.body_names.proofs.expression.+flat.Given as goal

abbrev pub invariant-flat_items-loop-item : goal.invariant-flat_items-loop-item
invariant-flat_items-loop-item l = record {
  kept : IsKept l.naming.numbers l.naming.names;
  grows : Grows l.initial.naming.names l.naming.names;
  same : (more : List Name) → map (expression_of (l.naming.names ++ more)) l.flat ≡ take l.item-index l.item-items;
}
