use Rattle.std.proofs.Common.{refl}
use Rattle.hub_requests.proofs.ends.drop_at_end.Goals as goal

pub returns-clause-same : goal.returns-clause-same
returns-clause-same c = c.outcome_of.ensures c.args.g c.args.outcome refl
