use Rattle.body_names.specs.Naming.{Grows, IsKept}
use Rattle.body_names.proofs.bindings.+note.Given as goal

abbrev pub invariant-note_block-loop-statement : goal.invariant-note_block-loop-statement
invariant-note_block-loop-statement l = record {
  kept : IsKept l.naming.numbers l.naming.names;
  grows : Grows l.initial.naming.names l.naming.names;
}

abbrev pub invariant-note_excepts-loop-except : goal.invariant-note_excepts-loop-except
invariant-note_excepts-loop-except l = record {
  kept : IsKept l.naming.numbers l.naming.names;
  grows : Grows l.initial.naming.names l.naming.names;
}
