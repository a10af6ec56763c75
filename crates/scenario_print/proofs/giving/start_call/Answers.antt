use Rattle.scenario_print.proofs.Words.{further}
use Rattle.scenario_print.proofs.Layers.{all_whole}
use Rattle.scenario_print.proofs.giving.start_call.Goals as goal

pub returns : goal.returns
returns c = further c.in_ok-start_name.ensures (all_whole c.push_expressions.ensures)
