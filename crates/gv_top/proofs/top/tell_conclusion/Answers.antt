use Rattle.std.proofs.Common.{arith}
use Rattle.gv_top.proofs.Tops.{told_memory, told_nothing}
use Rattle.gv_top.proofs.top.tell_conclusion.Goals as goal

pub returns-then-number-eq0-clause-told : goal.returns-then-number-eq0-clause-told
returns-then-number-eq0-clause-told g c = told_nothing c.args.conclusion _ _ (omega (arith, c.number.ensures, c.if-number-eq0.true))

pub returns-in-Err-clause-told : goal.returns-in-Err-clause-told
returns-in-Err-clause-told g c = told_memory _ c.args.conclusion _ _ _ _ (λ z. omega (arith, c.number.ensures, c.if-number-eq0.false, z)) c.try_line-in-Err.ensures.told
