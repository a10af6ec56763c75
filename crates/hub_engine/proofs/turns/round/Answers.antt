use Rattle.std.proofs.Common.{rules, suc, ◌+◌, true, false}
use Rattle.std.specs.Prelude.{Ok, Err}
use Rattle.machine.specs.Run.{run_turns}
use Rattle.hub_engine.specs.Outside.{outside}
use Rattle.hub_engine.specs.Written.{from_turn}
use Rattle.hub_engine.proofs.Running.{at_turn_end, round_ended, stops_at, turned, turned_broken}
use Rattle.hub_engine.proofs.Tying.{tied_after, tied_as, tied_now, turns_are}
use Rattle.hub_engine.proofs.turns.round.Goals as goal

pub returns-in_err-cause-clause-ran : goal.returns-in_err-cause-clause-ran
returns-in_err-cause-clause-ran g c = λ n.
    let broken = turned_broken (outside g.W.World g.K.Sink c.args.world.now c.args.sink.now) (outside g.W.World g.K.Sink c.turn.new.world c.turn.new.sink) n c.args.budget c.args.hub.now c.in_err-cause.ensures.given in
    search (rules, broken)

pub returns-in-ToAnEnd-clause-ran : goal.returns-in-ToAnEnd-clause-ran
returns-in-ToAnEnd-clause-ran g c = λ n.
    let u = outside g.W.World g.K.Sink c.args.world.now c.args.sink.now in
    let v = outside g.W.World g.K.Sink c.turn.new.world c.turn.new.sink in
    stops_at u v _ c.in-ToAnEnd.cause (from_turn (suc n) c.args.budget c.args.hub.now) (at_turn_end n c.args.budget) c.turn.new.hub c.in-ToAnEnd.is
    (turned u v n c.args.budget _ c.args.hub.now c.turn.new.hub c.in_ok-cause.ensures.next c.in_ok-cause.ensures.given)

pub end_turn-requires : goal.end_turn-requires
end_turn-requires g c = record {
  tied = tied_now true _ _ c.turn.new.hub (tied_after true (c.args.hub.now.turns + 1) _ (g.W.World.meaning c.turn.new.world) c.turn.new.hub c.in-ToRest.is c.in_ok-cause.ensures.tied);
  few = c.requires.few;
}

pub returns-in_ok-end_turn-in-ToRest-clause-tied : goal.returns-in_ok-end_turn-in-ToRest-clause-tied
returns-in_ok-end_turn-in-ToRest-clause-tied g c =
    let before = tied_after true (c.args.hub.now.turns + 1) _ (g.W.World.meaning c.turn.new.world) c.turn.new.hub c.in-ToRest.is c.in_ok-cause.ensures.tied in
    tied_as false c.in_ok-end_turn-in-ToRest.field-0 c.turn.new.hub.turns (c.args.hub.now.turns + 1) (g.W.World.meaning c.end_turn.new.world) c.end_turn.new.hub (turns_are true _ _ c.turn.new.hub before) c.in_ok-end_turn-in-ToRest.ensures.tied

pub returns-in_err-end_turn-in-ToRest-clause-ran : goal.returns-in_err-end_turn-in-ToRest-clause-ran
returns-in_err-end_turn-in-ToRest-clause-ran g c = λ n.
    let u = outside g.W.World g.K.Sink c.args.world.now c.args.sink.now in
    let v = outside g.W.World g.K.Sink c.turn.new.world c.turn.new.sink in
    let w = outside g.W.World g.K.Sink c.end_turn.new.world c.end_turn.new.sink in
    let broken = round_ended u v w n c.args.budget _ (Err c.in_err-end_turn-in-ToRest.field-0.0) c.args.hub.now c.turn.new.hub c.end_turn.new.hub c.in-ToRest.is
    (turned u v n c.args.budget _ c.args.hub.now c.turn.new.hub c.in_ok-cause.ensures.next c.in_ok-cause.ensures.given)
    (c.in_err-end_turn-in-ToRest.ensures.ran (run_turns n c.args.budget)) in
    search (rules, broken)

pub returns-in_ok-end_turn-in-ToRest-clause-ran : goal.returns-in_ok-end_turn-in-ToRest-clause-ran
returns-in_ok-end_turn-in-ToRest-clause-ran g c = λ n.
    let u = outside g.W.World g.K.Sink c.args.world.now c.args.sink.now in
    let v = outside g.W.World g.K.Sink c.turn.new.world c.turn.new.sink in
    let w = outside g.W.World g.K.Sink c.end_turn.new.world c.end_turn.new.sink in
    round_ended u v w n c.args.budget _ (Ok c.in_ok-end_turn-in-ToRest.field-0) c.args.hub.now c.turn.new.hub c.end_turn.new.hub c.in-ToRest.is
    (turned u v n c.args.budget _ c.args.hub.now c.turn.new.hub c.in_ok-cause.ensures.next c.in_ok-cause.ensures.given)
    (c.in_ok-end_turn-in-ToRest.ensures.ran (run_turns n c.args.budget))
