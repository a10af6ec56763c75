use Rattle.std.proofs.Common.{refl}
use Rattle.trace_check.proofs.Saying.{marked_as, only_marked, only_unmarked, unmarked_as}
use Rattle.trace_check.proofs.verifying.verify_parts.Goals as goal

pub returns-in-None-clause-said : goal.returns-in-None-clause-said
returns-in-None-clause-said c = unmarked_as _ c.args.bytes.now c.args.budgets.turns c.args.budgets.moves _ c.in-None.ensures.parts c.end_line.ensures

pub returns-in-None-clause-only : goal.returns-in-None-clause-only
returns-in-None-clause-only c = only_unmarked _ c.args.bytes.now c.args.budgets.turns c.args.budgets.moves _ c.in-None.ensures.parts c.end_line.ensures

pub returns-in-Some-clause-said : goal.returns-in-Some-clause-said
returns-in-Some-clause-said c =
    marked_as _ c.args.bytes.now _ _ c.in-Some.place c.args.budgets.turns c.args.budgets.moves _ c.in-Some.ensures.parts refl c.behind_mark.ensures c.verify_text.ensures.said

pub returns-in-Some-clause-only : goal.returns-in-Some-clause-only
returns-in-Some-clause-only c =
    only_marked _ c.args.bytes.now _ _ c.in-Some.place c.args.budgets.turns c.args.budgets.moves _ c.in-Some.ensures.parts refl c.behind_mark.ensures c.verify_text.ensures.only
