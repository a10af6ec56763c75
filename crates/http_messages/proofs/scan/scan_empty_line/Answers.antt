use Rattle.std.proofs.Common.{sym}
use Rattle.http_messages.proofs.ScanLaws.{scan_ends, scan_none}
use Rattle.http_messages.proofs.scan.scan_empty_line.Goals as goal

pub returns-then-ends_empty_line-clause-end : goal.returns-then-ends_empty_line-clause-end
returns-then-ends_empty_line-clause-end c =
    scan_ends c.scan.place c.args.bytes.now c.scan.at c.scan-test.true
    (sym c.if-ends_empty_line.ensures) c.scan.invariant.resumes

pub returns-clause-end : goal.returns-clause-end
returns-clause-end c = scan_none c.scan.place c.args.bytes.now c.scan.at c.scan-test.false c.scan.invariant.resumes
