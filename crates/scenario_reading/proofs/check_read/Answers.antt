use Rattle.scenario_reading.proofs.Reasons.{placed_has_reason, still_spelt}
use Rattle.scenario_reading.proofs.check_read.Goals as goal

pub returns-clause-spelt : goal.returns-clause-spelt
returns-clause-spelt c = still_spelt c.args.bytes.now c.args.scenario _ c.requires.spelt c.check.ensures.same

pub returns-clause-reason : goal.returns-clause-reason
returns-clause-reason c = placed_has_reason (λ s p e. c.rules_have_reasons.ensures s p e) _ _ c.check.ensures.refused
