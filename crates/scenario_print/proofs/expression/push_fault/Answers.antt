use Rattle.std.proofs.Common.{rules, ◌≡◌, to_z, of_z, w64, sym}
use Rattle.scenario_print.proofs.Words.{broken_words, worded}
use Rattle.scenario_grammar.specs.declared.keyword.Keyword.TheVariants as k
use Rattle.scenario_print.proofs.expression.push_fault.Goals as goal

pub returns-in_ok-push_fixed-in-Error : goal.returns-in_ok-push_fixed-in-Error
returns-in_ok-push_fixed-in-Error c = let same : to_z w64 (of_z w64 c.in-Error.number) ≡ c.in-Error.number = search rules in rw (c.in-Error.is, sym same) (worded k.Error c.in_ok-push_fixed-in-Error.ensures c.push_integer.ensures)

pub returns-in_err-push_fixed-in-Error : goal.returns-in_err-push_fixed-in-Error
returns-in_err-push_fixed-in-Error c = broken_words c.from_residual.ensures.0 c.in_err-push_fixed-in-Error.ensures.front
