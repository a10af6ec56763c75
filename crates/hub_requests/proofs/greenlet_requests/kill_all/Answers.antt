use Rattle.std.proofs.Common.{sym, ◌∙◌}
use Rattle.machine_soundness.proofs.Requests.{plain_greenlet_list-raw}
use Rattle.hub_requests.proofs.greenlet_requests.kill_all.Goals as goal

pub kill_greenlets-requires-clause-plain : goal.kill_greenlets-requires-clause-plain
kill_greenlets-requires-clause-plain c = plain_greenlet_list-raw c.args.hub.now c.args.value c.in-Some.targets (sym c.in_ok-listed.ensures.greenlets ∙ c.in-Some.is)
