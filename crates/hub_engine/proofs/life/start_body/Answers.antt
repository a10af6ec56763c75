use Rattle.std.proofs.Common.{◌+◌, arith}
use Rattle.hub_engine.specs.Settlings.{most_hops}
use Rattle.hub_engine.proofs.Functions.{declared_started}
use Rattle.hub_engine.proofs.Settlings.{settles_fewer, settles_started}
use Rattle.hub_engine.proofs.life.start_body.Goals as goal

pub begin_greenlet-requires-clause-settles : goal.begin_greenlet-requires-clause-settles
begin_greenlet-requires-clause-settles c = settles_fewer (most_hops + 1) 1 c.args.hub.now (omega arith) c.requires.settles

pub hop_on-requires : goal.hop_on-requires
hop_on-requires c = record {
  declared = declared_started c.args.g c.args.arguments c.args.hub.now c.begin_greenlet.new.hub c.in_ok-hop.hop c.requires.declared c.in_ok-hop.ensures;
  settles = settles_started most_hops c.args.g c.args.arguments c.args.hub.now c.begin_greenlet.new.hub c.in_ok-hop.hop c.requires.settles c.in_ok-hop.ensures;
}
