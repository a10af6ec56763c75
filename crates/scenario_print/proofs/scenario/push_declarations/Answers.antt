use Rattle.scenario_grammar.specs.Blocks.{declaration_lines}
use Rattle.scenario_print.proofs.Words.{through}
use Rattle.scenario_print.proofs.TreeLineLemmas.{broken_lines, laid_nothing}
use Rattle.scenario_print.proofs.ScenarioLemmas.{next_lines, one_declaration}
use Rattle.scenario_print.proofs.scenario.push_declarations.Goals as goal

pub loop-declaration-init : goal.loop-declaration-init
loop-declaration-init c = laid_nothing _ _ 0

pub loop-declaration-preserved : goal.loop-declaration-preserved
loop-declaration-preserved c = next_lines declaration_lines c.loop-declaration.declaration-index c.args.declarations.now c.declaration-item.result c.loop-declaration-test.true c.declaration-item.is c.loop-declaration.invariant (one_declaration c.declaration-item.result c.in_ok-push_declaration_line.ensures)

pub returns-in_err-push_declaration_line : goal.returns-in_err-push_declaration_line
returns-in_err-push_declaration_line c = broken_lines c.from_residual.ensures.0 (through _ _ _ c.in_err-push_declaration_line.ensures.front c.loop-declaration.invariant.front)
