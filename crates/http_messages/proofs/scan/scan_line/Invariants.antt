use Rattle.std.proofs.Common.{◌≡◌, None, take}
use Rattle.http_messages.specs.Cuts.{line_end}
use Rattle.http_messages.proofs.scan.scan_line.Given as goal

abbrev pub invariant-loop-at : goal.invariant-loop-at
invariant-loop-at l = line_end (take l.at l.bytes) ≡ None
