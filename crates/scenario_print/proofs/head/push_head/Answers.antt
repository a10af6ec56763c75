use Rattle.scenario_print.proofs.Heads.{head_line}
use Rattle.scenario_print.proofs.head.push_head.Goals as goal

pub returns : goal.returns
returns c = head_line c.args.is_raw c.args.n.now c.args.parameters.now c.head_word.ensures c.in_ok-start_name.ensures c.push_names.ensures
