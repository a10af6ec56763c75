use Rattle.command_words.proofs.Adding.{all_options_added, one_option_more}
use Rattle.command_words.proofs.clap_command.with_options.Goals as goal

pub loop-option-preserved : goal.loop-option-preserved
loop-option-preserved c = (
  one_option_more _ _ _ _ _ _ _ c.loop-option.invariant.0 c.loop-option-test.true c.name_of.ensures c.in_ok-command.ensures.app,
  λ local. c.in_ok-command.ensures.local (c.loop-option.invariant.1 local),
)

pub returns-clause-app : goal.returns-clause-app
returns-clause-app c = all_options_added _ _ _ _ c.loop-option.invariant.0 c.loop-option-test.false
