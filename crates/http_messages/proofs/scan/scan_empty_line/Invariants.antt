use Rattle.std.proofs.Common.{◌≤◌, ◌-◌, length, take}
use Rattle.http_messages.specs.declared.scan.LinePlace.TheVariants.{Start}
use Rattle.http_messages.specs.Scans.{Resumes}
use Rattle.http_messages.proofs.scan.scan_empty_line.Given as goal

abbrev pub invariant-scan : goal.invariant-scan
invariant-scan l = record {
  fits : l.at ≤ length l.bytes;
  resumes : Resumes Start (take l.at l.bytes) l.place;
}

abbrev pub decreases-scan : goal.decreases-scan
decreases-scan l = length l.bytes - l.at
