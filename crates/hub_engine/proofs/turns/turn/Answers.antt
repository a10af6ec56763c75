use Rattle.std.proofs.Common.{ap, ◌+◌, true, arith}
use Rattle.machine.specs.State.{State}
use Rattle.hub_engine.proofs.Tying.{tied_as, tied_now, tied_turned}
use Rattle.hub_engine.proofs.turns.turn.Goals as goal

pub count_turn-requires : goal.count_turn-requires
count_turn-requires g c = let left = c.requires.left in omega (arith, left)

pub deliver_below-requires : goal.deliver_below-requires
deliver_below-requires g c = record {
  tied = tied_now true _ _ c.count_turn.new.self (tied_turned _ _ c.args.hub.now c.count_turn.new.self c.count_turn.ensures (omega (arith, c.requires.left)) c.requires.tied);
  few = c.requires.few;
}

pub returns-clause-tied : goal.returns-clause-tied
returns-clause-tied g c =
    tied_as true c.in_ok-deliver_below.field-0 c.count_turn.new.self.turns (c.args.hub.now.turns + 1) (g.W.World.meaning c.deliver_below.new.world) c.deliver_below.new.hub (ap (λ (s : State). s.turns) c.count_turn.ensures) c.in_ok-deliver_below.ensures.tied
