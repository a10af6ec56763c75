use Rattle.command_words.proofs.Adding.{all_added, one_more}
use Rattle.command_words.proofs.clap_command.with_commands.Goals as goal

pub loop-row-preserved : goal.loop-row-preserved
loop-row-preserved c = one_more _ _ _ _ _ _ c.loop-row.invariant c.loop-row-test.true c.in_ok-program.ensures

pub returns : goal.returns
returns c = all_added _ _ _ _ c.loop-row.invariant c.loop-row-test.false
