use Rattle.std.proofs.Common.{Ok, Err, refl}
use Rattle.trace_check.proofs.Saying.{only_of_run}
use Rattle.trace_check.proofs.verifying.verify_trace.Goals as goal

pub returns-in-Ok-clause-said : goal.returns-in-Ok-clause-said
returns-in-Ok-clause-said c = (Ok c.in-Ok.lines, c.in-Ok.ensures.judged, refl)

pub returns-in-Ok-clause-only : goal.returns-in-Ok-clause-only
returns-in-Ok-clause-only c = only_of_run c.args.checked c.args.budgets.turns c.args.budgets.moves c.args.trace.now (Ok c.in-Ok.lines) _ refl c.in-Ok.ensures.only

pub returns-in-Err-clause-said : goal.returns-in-Err-clause-said
returns-in-Err-clause-said c = (Err c.in-Err.refusal, c.in-Err.ensures.judged, c.said_of_run.ensures.is)

pub returns-in-Err-clause-only : goal.returns-in-Err-clause-only
returns-in-Err-clause-only c = only_of_run c.args.checked c.args.budgets.turns c.args.budgets.moves c.args.trace.now (Err c.in-Err.refusal) _ c.said_of_run.ensures.is c.in-Err.ensures.only
