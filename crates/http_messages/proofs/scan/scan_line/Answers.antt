use Rattle.std.proofs.Common.{eq-eqb}
use Rattle.std.proofs.lemmas.Bool.{ne_eqb}
use Rattle.http_messages.proofs.ScanLaws.{line_more, line_found}
use Rattle.http_messages.proofs.scan.scan_line.Goals as goal

pub returns-then-bytes-at-eq10-clause-end : goal.returns-then-bytes-at-eq10-clause-end
returns-then-bytes-at-eq10-clause-end c =
    line_found c.args.bytes.now c.loop-at.at c.loop-at-test.true (eq-eqb _ _ c.if-bytes-at-eq10.true) c.loop-at.invariant

pub loop-at-preserved : goal.loop-at-preserved
loop-at-preserved c =
    line_more c.args.bytes.now c.loop-at.at c.loop-at-test.true (ne_eqb _ _ c.if-bytes-at-eq10.false) c.loop-at.invariant
