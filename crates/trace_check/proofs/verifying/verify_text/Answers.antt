use Rattle.trace_check.proofs.Saying.{only_as, only_refused, refusal_reasoned, refused_as, said_as}
use Rattle.trace_check.proofs.verifying.verify_text.Goals as goal

pub returns-in-Ok-clause-said : goal.returns-in-Ok-clause-said
returns-in-Ok-clause-said c = said_as _ _ c.args.budgets.turns c.args.budgets.moves c.args.trace.now _ c.in-Ok.ensures.judged c.verify_trace.ensures.said

pub returns-in-Ok-clause-only : goal.returns-in-Ok-clause-only
returns-in-Ok-clause-only c = only_as _ _ c.args.budgets.turns c.args.budgets.moves c.args.trace.now _ c.in-Ok.ensures.judged c.verify_trace.ensures.only

pub returns-in-Err-clause-said : goal.returns-in-Err-clause-said
returns-in-Err-clause-said c = refused_as _ c.in-Err.refusal _ c.args.budgets.turns c.args.budgets.moves c.args.trace.now c.said_of_text.ensures c.in-Err.ensures.judged

pub returns-in-Err-clause-only : goal.returns-in-Err-clause-only
returns-in-Err-clause-only c = only_refused _ c.in-Err.refusal _ c.args.budgets.turns c.args.budgets.moves c.args.trace.now c.said_of_text.ensures c.in-Err.ensures.judged

pub returns-in-Err-clause-reason : goal.returns-in-Err-clause-reason
returns-in-Err-clause-reason c = refusal_reasoned c.in-Err.refusal _ c.said_of_text.ensures c.in-Err.ensures.reason
