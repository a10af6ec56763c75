use Rattle.std.proofs.Common.{◌≡◌, ◌+◌, ◌-◌, ◌≤◌, length}
use Rattle.gv_io.specs.Streams.{prepended}
use Rattle.gv_io.proofs.limited.read_limited.Given as goal

abbrev pub invariant-loop-bytes : goal.invariant-loop-bytes
invariant-loop-bytes g l = record {
  read : g.S.Source.remaining l.initial.source ≡ prepended l.bytes.items (g.S.Source.remaining l.source);
  fits : length l.bytes.items ≤ l.limit + 1;
  faults : g.S.Source.faults l.source ≡ g.S.Source.faults l.initial.source;
}

abbrev pub decreases-loop-bytes : goal.decreases-loop-bytes
decreases-loop-bytes g l = (l.limit + 1) - length l.bytes.items
