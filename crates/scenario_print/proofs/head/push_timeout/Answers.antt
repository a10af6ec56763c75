use Rattle.scenario_print.proofs.Heads.{timeout_line}
use Rattle.scenario_print.proofs.head.push_timeout.Goals as goal

pub returns : goal.returns
returns c = timeout_line c.args.after c.args.is_silent c.in_ok-start_timeout.ensures c.push_flag.ensures
