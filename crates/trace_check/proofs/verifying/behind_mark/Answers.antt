use Rattle.std.proofs.Common.{arith}
use Rattle.trace_check.proofs.Saying.{behind_last, behind_line}
use Rattle.trace_check.proofs.verifying.behind_mark.Goals as goal

pub returns-then-bytes-place-lt-MARK_BYTES : goal.returns-then-bytes-place-lt-MARK_BYTES
returns-then-bytes-place-lt-MARK_BYTES c =
    behind_last c.args.bytes.now c.args.place (omega (arith, c.requires)) (omega (arith, c.requires, c.if-bytes-place-lt-MARK_BYTES.true))

pub returns : goal.returns
returns c = behind_line c.args.bytes.now c.args.place
