use Rattle.std.proofs.Common.{rules, ◌≡◌, ◌-◌, true, arith}
use Rattle.machine.specs.Deliveries.{deliver}
use Rattle.machine.specs.Run.{runs_on}
use Rattle.hub_engine.specs.Outside.{outside}
use Rattle.hub_engine.proofs.Giving.{part_nothing}
use Rattle.hub_engine.proofs.Tying.{counted_delivered, tied_delivered}
use Rattle.hub_engine.proofs.turns.deliver_one.Goals as goal

pub returns-in_err-next-clause-given : goal.returns-in_err-next-clause-given
returns-in_err-next-clause-given g c = λ i e.
    let p = runs_on c.args.budget c.args.hub.now (deliver i c.args.hub.now) in
    let broken = part_nothing (outside g.W.World g.K.Sink c.args.world.now c.args.sink.now) p.lines p.posts in
    search (rules, broken)

pub deliver_item-requires-clause-within : goal.deliver_item-requires-clause-within
deliver_item-requires-clause-within g c = record { may = true; turns = c.args.hub.now.turns; within = c.requires.tied.within }

pub run_greenlet-requires : goal.run_greenlet-requires
run_greenlet-requires g c =
    let turns = c.args.hub.now.turns in
    let left : c.saturating_sub-left.result ≡ c.args.budget - c.args.hub.now.moves = omega (arith, c.saturating_sub-left.ensures, c.moves.ensures) in
    let same = counted_delivered true turns _ c.args.mark c.args.hub.now c.deliver_item.new.hub c.in_ok-next.next c.requires.there c.requires.tied c.in_ok-next.ensures.delivered in
    record {
      tied = record {
        may = true;
        turns = turns;
        tied = tied_delivered true turns _ c.args.mark c.args.hub.now c.deliver_item.new.hub c.in_ok-next.next c.requires.there c.requires.tied c.in_ok-next.ensures.delivered c.in_ok-next.ensures.ready;
      };
      few = let most = c.requires.tied.within.few_moves in omega (arith, left, same, most, c.requires.few);
    }

pub returns-clause-tied : goal.returns-clause-tied
returns-clause-tied g c =
    let turns = c.args.hub.now.turns in
    c.in_ok-run_greenlet.ensures.tied true turns
    (tied_delivered true turns _ c.args.mark c.args.hub.now c.deliver_item.new.hub c.in_ok-next.next c.requires.there c.requires.tied c.in_ok-next.ensures.delivered c.in_ok-next.ensures.ready)
