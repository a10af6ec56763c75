use Rattle.std.proofs.Common.{◌-◌, arith}
use Rattle.machine.specs.declared.state.Phase.{Phase}
use Rattle.machine.specs.Greenlets.{with_phase}
use Rattle.hub_engine.proofs.LegByLeg.{goes_first, goes_further, last_leg, room_ahead}
use Rattle.hub_engine.proofs.legs.step_greenlet.Goals as goal

pub moves-init : goal.moves-init
moves-init c = (goes_first c.args.g c.args.most c.args.running.now c.args.hub.now c.requires.some c.requires.few c.requires.ready c.requires.within c.requires.moving, c.requires.stays)

pub make_leg-requires : goal.make_leg-requires
make_leg-requires c =
    let l = c.moves in
    let on = l.invariant.0 in
    let left = on.left in
    let few = on.few in
    record {
      stays = l.invariant.1;
      ready = on.ready;
      moving = on.moving;
      some = omega (arith, left);
      few = omega (arith, left, few);
      room = room_ahead (c.args.most - l.made) c.args.g l.running l.hub on.ready on.within (omega (arith, left, few));
    }

pub moves-preserved : goal.moves-preserved
moves-preserved c =
    let l = c.moves in
    let stays = c.stays_on.ensures.stays c.if-not-stays_on.false in (
      goes_further c.args.g l.made c.args.most c.in_ok-before.before c.make_leg.new.left (with_phase c.args.g (Phase.Live c.args.running.now) c.args.hub.now) l.running c.make_leg.new.running l.hub c.make_leg.new.hub
          l.invariant.0 c.in_ok-before.ensures.ends stays (c.stays_on.ensures.some c.if-not-stays_on.false) (c.stays_on.ensures.silent c.if-not-stays_on.false),
      stays,
    )

pub returns-then-not-stays_on-clause-ends : goal.returns-then-not-stays_on-clause-ends
returns-then-not-stays_on-clause-ends c =
    let l = c.moves in
    last_leg c.args.g l.made c.args.most c.in_ok-before.before c.make_leg.new.left c.args.running.now l.running c.make_leg.new.running c.args.hub.now l.hub c.make_leg.new.hub l.invariant.0 c.in_ok-before.ensures.ends
