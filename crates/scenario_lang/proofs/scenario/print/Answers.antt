use Rattle.std.proofs.Common.{◌≡◌, subst}
use Rattle.scenario_lang.specs.Written.{IsWritten}
use Rattle.scenario_lang.proofs.Laws.{read_again}
use Rattle.scenario_lang.proofs.scenario.print.Goals as goal

pub returns-clause-again : goal.returns-clause-again
returns-clause-again c =
    read_again (λ s h few. c.printed_forms_are_spelt.ensures s h few) (λ s bytes h. c.spelt_texts_are_read.ensures s bytes h) c.args.scenario.now
    (subst IsWritten c.scenario.view_is c.scenario.invariant)
