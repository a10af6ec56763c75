use Rattle.std.proofs.Common.{inl, subst, sym}
use Rattle.gv_top.specs.Inner.{IsExplained}
use Rattle.gv_top.proofs.Tops.{failure_has_line, told_as}
use Rattle.gv_top.proofs.top.tell.Goals as goal

pub tell_conclusion-requires : goal.tell_conclusion-requires
tell_conclusion-requires g c = subst IsExplained c.in-Did.is c.requires

pub returns-in-Did-clause-told : goal.returns-in-Did-clause-told
returns-in-Did-clause-told g c = told_as (sym c.in-Did.is) c.tell_conclusion.ensures.told

pub try_line-requires-clause-has_line : goal.try_line-requires-clause-has_line
try_line-requires-clause-has_line g c = failure_has_line c.in-Broke.failure

pub returns-in-Broke-clause-told : goal.returns-in-Broke-clause-told
returns-in-Broke-clause-told g c = (_, inl (sym c.in-Broke.is), c.try_line.ensures.told)
