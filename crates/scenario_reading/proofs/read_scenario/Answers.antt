use Rattle.scenario_reading.proofs.Reasons.{read_has_reason}
use Rattle.scenario_reading.proofs.read_scenario.Goals as goal

pub returns-in-Err-clause-reason : goal.returns-in-Err-clause-reason
returns-in-Err-clause-reason c = read_has_reason (λ bytes p e. c.texts_without_a_place_are_spelt.ensures.reason bytes p e) c.args.bytes.now _ c.in-Err.ensures.read
