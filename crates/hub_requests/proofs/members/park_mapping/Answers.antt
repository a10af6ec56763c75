use Rattle.std.proofs.Common.{◌≡◌, None, sym, subst}
use Rattle.std.specs.Prelude.{IfSome}
use Rattle.machine.specs.declared.items.Waiting.{Waiting}
use Rattle.machine.specs.State.{State}
use Rattle.machine.specs.Waits.{parked}
use Rattle.hub_items.specs.Short.{IsShort}
use Rattle.hub_requests.specs.Awaited.{awaited_of, object_of}
use Rattle.hub_requests.specs.Naming.{IsObject}
use Rattle.hub_requests.proofs.members.park_mapping.Goals as goal

pub park-requires-clause-named : goal.park-requires-clause-named
park-requires-clause-named c = subst (λ (w : Waiting). IfSome (object_of w) (IsObject c.args.hub.now.scenario)) (sym c.in_ok-waiting.ensures) c.requires.named

pub park-requires-clause-short : goal.park-requires-clause-short
park-requires-clause-short c = subst IsShort (sym c.in_ok-waiting.ensures) c.requires.short

pub returns : goal.returns
returns c = subst (λ (w : Waiting). c.park.new.hub ≡ parked c.args.g (awaited_of w c.args.hub.now) w None c.args.hub.now) c.in_ok-waiting.ensures c.in_ok-park.ensures
