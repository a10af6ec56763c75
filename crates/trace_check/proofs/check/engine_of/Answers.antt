use Rattle.trace_check.proofs.check.engine_of.Goals as goal

pub unreachable-requires : goal.unreachable-requires
unreachable-requires c =
    let refused = rw c.in-Err-Budgets.field-0-is at c.in-Err-Budgets.ensures.refused in
    refused (record { few_turns = c.requires.few_turns; few_moves = c.requires.few_moves })
