use Rattle.std.proofs.Common.{subst}
use Rattle.scenario_print.specs.Texts.{HasText}
use Rattle.hub_engine.proofs.Counts.{text_is_countable, text_is_counted}
use Rattle.hub_engine.proofs.run.may_run.Goals as goal

pub returns-clause-counted : goal.returns-clause-counted
returns-clause-counted c = text_is_counted c.args.checked.now (subst HasText c.scenario.ensures.same c.tree-written.ensures.written.text)

pub returns-clause-countable : goal.returns-clause-countable
returns-clause-countable c = text_is_countable c.args.checked.now (subst HasText c.scenario.ensures.same c.tree-written.ensures.written.text)
