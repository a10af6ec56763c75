use Rattle.std.proofs.Common.{◌+◌, arith}
use Rattle.machine.specs.Greenlets.{frame_of, greenlet}
use Rattle.hub_engine.specs.Settlings.{most_hops}
use Rattle.hub_engine.proofs.Functions.{declared_resumed}
use Rattle.hub_engine.proofs.Settlings.{settles_fewer, settles_resumed}
use Rattle.hub_engine.proofs.life.answer_greenlet.Goals as goal

pub resume_greenlet-requires : goal.resume_greenlet-requires
resume_greenlet-requires c = settles_fewer (most_hops + 1) 1 c.args.hub.now (omega arith) c.requires.settles

pub hop_on-requires : goal.hop_on-requires
hop_on-requires c = record {
  declared = declared_resumed c.args.g (frame_of (greenlet c.args.g c.args.hub.now).phase) c.args.answer c.args.hub.now c.resume_greenlet.new.hub c.in_ok-hop.hop c.requires.declared c.in_ok-hop.ensures;
  settles = settles_resumed most_hops c.args.g (frame_of (greenlet c.args.g c.args.hub.now).phase) c.args.answer c.args.hub.now c.resume_greenlet.new.hub c.in_ok-hop.hop c.requires.settles c.in_ok-hop.ensures;
}
