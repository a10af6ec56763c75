use Rattle.scenario_print.proofs.Layers.{next_name}
use Rattle.scenario_print.proofs.Words.{broken_words, through}
use Rattle.scenario_print.proofs.head.push_names.Goals as goal

pub loop-n-preserved : goal.loop-n-preserved
loop-n-preserved c = next_name c.loop-n.n-index c.args.names.now c.n-item.result c.loop-n-test.true c.n-item.is c.loop-n.invariant c.in_ok-push_name.ensures

pub returns-in_err-push_name : goal.returns-in_err-push_name
returns-in_err-push_name c = broken_words c.from_residual.ensures.0 (through _ _ _ c.in_err-push_name.ensures.front c.loop-n.invariant.front)
