use Rattle.std.proofs.Common.{◌≡◌, map, take}
use Rattle.body_names.specs.Naming.{name_of}
use Rattle.body_blocks.specs.Making.{IsMaking, made}
use Rattle.body_blocks.specs.Trees.{Coded, Grows, joined}
use Rattle.body_values.proofs.functions.number_names.Given as goal

abbrev pub invariant-loop-name : goal.invariant-loop-name
invariant-loop-name l = record {
  kept : IsMaking l.making;
  grows : Grows (made l.initial.making) (made l.making);
  same : (more : Coded) → map (name_of (joined (made l.making) more).names) l.numbers ≡ take l.name-index l.names;
}
