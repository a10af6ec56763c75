use Rattle.hub_requests.proofs.Named.{named_there}
use Rattle.hub_requests.proofs.waits.come_to_wait.Goals as goal

pub come_to_wait_as-requires-clause-named : goal.come_to_wait_as-requires-clause-named
come_to_wait_as-requires-clause-named c = named_there c.args.hub.now.scenario c.args.waiting c.requires.named
