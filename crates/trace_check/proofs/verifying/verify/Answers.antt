use Rattle.std.proofs.Common.{arith, subst}
use Rattle.command_words.specs.Ranges.{IsCheckInRange}
use Rattle.command_words.specs.declared.command.TraceCheck.{TraceCheck}
use Rattle.trace_check.proofs.Saying.{only_of_long, only_of_short, said_of_long, said_of_short}
use Rattle.trace_check.proofs.verifying.verify.Goals as goal

pub returns-then-bytes-gt-MOST_CHECKED-clause-said : goal.returns-then-bytes-gt-MOST_CHECKED-clause-said
returns-then-bytes-gt-MOST_CHECKED-clause-said c = said_of_long c.args.check c.args.bytes.now _ (omega (arith, c.if-bytes-gt-MOST_CHECKED.true)) c.line_at.ensures

pub returns-then-bytes-gt-MOST_CHECKED-clause-only : goal.returns-then-bytes-gt-MOST_CHECKED-clause-only
returns-then-bytes-gt-MOST_CHECKED-clause-only c = only_of_long c.args.check c.args.bytes.now _ (omega (arith, c.if-bytes-gt-MOST_CHECKED.true)) c.line_at.ensures

pub verify_parts-requires : goal.verify_parts-requires
verify_parts-requires c =
    let r = subst IsCheckInRange c.in-Run.is c.requires in
    record { some_turns = r.0.0; few_turns = r.0.1; some_moves = r.1.0; few_moves = r.1.1 }

pub returns-in-Run-clause-said : goal.returns-in-Run-clause-said
returns-in-Run-clause-said c = rw c.in-Run.is (said_of_short (TraceCheck.Run c.in-Run.turns c.in-Run.moves) c.args.bytes.now _ (omega (arith, c.if-bytes-gt-MOST_CHECKED.false)) c.verify_parts.ensures.said)

pub returns-in-Run-clause-only : goal.returns-in-Run-clause-only
returns-in-Run-clause-only c = rw c.in-Run.is (only_of_short (TraceCheck.Run c.in-Run.turns c.in-Run.moves) c.args.bytes.now _ (omega (arith, c.if-bytes-gt-MOST_CHECKED.false)) c.verify_parts.ensures.only)

pub returns-in-Laws-clause-said : goal.returns-in-Laws-clause-said
returns-in-Laws-clause-said c =
    rw c.in-Laws.is (said_of_short TraceCheck.Laws c.args.bytes.now _ (omega (arith, c.if-bytes-gt-MOST_CHECKED.false)) (λ g. c.verify_lines.ensures.said))

pub returns-in-Laws-clause-only : goal.returns-in-Laws-clause-only
returns-in-Laws-clause-only c = rw c.in-Laws.is (only_of_short TraceCheck.Laws c.args.bytes.now _ (omega (arith, c.if-bytes-gt-MOST_CHECKED.false)) c.verify_lines.ensures.only)
