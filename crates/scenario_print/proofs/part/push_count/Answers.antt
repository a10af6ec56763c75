use Rattle.scenario_print.proofs.part.push_count.Goals as goal
use Rattle.gv_values.specs.declared.limits.TheConstants.{MOST_ELEMENTS}

pub returns : goal.returns
returns c = c.push_numbered.ensures 0 MOST_ELEMENTS
