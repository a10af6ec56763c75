use Rattle.std.proofs.Common.{rules, ◌+◌, ◌-◌, ◌≤◌, ◌∙◌, refl, false, arith}
use Rattle.std.specs.Prelude.{Ok, Err}
use Rattle.gv_values.specs.declared.limits.TheConstants.{MOST_TURNS}
use Rattle.trace_text.specs.declared.line.StopCause.{StopCause}
use Rattle.hub_engine.specs.Outside.{outside}
use Rattle.hub_engine.specs.Written.{from_turn}
use Rattle.hub_engine.proofs.Giving.{done_nothing}
use Rattle.hub_engine.proofs.Running.{next_round, out_of_turns, rests_on, running, stop_broken, stopped_on, stops_at}
use Rattle.hub_engine.proofs.Tying.{tied_after, tied_now, turns_are}
use Rattle.hub_engine.proofs.turns.run_turns.Goals as goal

pub loop-left-init : goal.loop-left-init
loop-left-init g c = (running _ _, refl, c.requires.tied, c.requires.left)

pub round-requires : goal.round-requires
round-requires g c = record {
  tied = c.loop-left.invariant.2;
  left = let few : c.loop-left.hub.turns + c.loop-left.left ≤ MOST_TURNS = c.loop-left.invariant.3 in omega (arith, few, c.loop-left-test.true);
  few = c.requires.few;
}

pub returns-in_err-round-clause-ran : goal.returns-in_err-round-clause-ran
returns-in_err-round-clause-ran g c =
    let broken = next_round (outside g.W.World g.K.Sink c.args.world.now c.args.sink.now) (outside g.W.World g.K.Sink c.loop-left.world c.loop-left.sink) (outside g.W.World g.K.Sink c.round.new.world c.round.new.sink) c.loop-left.left c.args.moves (Err c.in_err-round.field-0.0) (from_turn c.args.turns c.args.moves c.args.hub.now)
    c.loop-left.hub c.round.new.hub c.loop-left-test.true c.loop-left.invariant.0 c.in_err-round.ensures.ran in
    search (rules, broken)

pub loop-left-preserved : goal.loop-left-preserved
loop-left-preserved g c =
    let before = tied_after false (c.loop-left.hub.turns + 1) _ (g.W.World.meaning c.round.new.world) c.round.new.hub c.in-ToRest.is c.in_ok-round.ensures.tied in (
      rests_on (outside g.W.World g.K.Sink c.args.world.now c.args.sink.now) (outside g.W.World g.K.Sink c.round.new.world c.round.new.sink) c.in_ok-round.field-0 (from_turn c.args.turns c.args.moves c.args.hub.now) (from_turn (c.loop-left.left - 1) c.args.moves) c.round.new.hub c.in-ToRest.is
          (next_round (outside g.W.World g.K.Sink c.args.world.now c.args.sink.now) (outside g.W.World g.K.Sink c.loop-left.world c.loop-left.sink) (outside g.W.World g.K.Sink c.round.new.world c.round.new.sink) c.loop-left.left c.args.moves (Ok c.in_ok-round.field-0) (from_turn c.args.turns c.args.moves c.args.hub.now)
          c.loop-left.hub c.round.new.hub c.loop-left-test.true c.loop-left.invariant.0 c.in_ok-round.ensures.ran),
      c.in_ok-round.ensures.counts.tells ∙ c.loop-left.invariant.1,
      tied_now false _ _ c.round.new.hub before,
      let more = turns_are false _ _ c.round.new.hub before in let few : c.loop-left.hub.turns + c.loop-left.left ≤ MOST_TURNS = c.loop-left.invariant.3 in omega (arith, more, few, c.loop-left-test.true),
    )

pub returns-in_err-stop-in-ToAnEnd-clause-ran : goal.returns-in_err-stop-in-ToAnEnd-clause-ran
returns-in_err-stop-in-ToAnEnd-clause-ran g c =
    let u = outside g.W.World g.K.Sink c.args.world.now c.args.sink.now in
    let v = outside g.W.World g.K.Sink c.round.new.world c.round.new.sink in
    let w = outside g.W.World g.K.Sink c.loop-left.world c.loop-left.sink in
    let x = outside g.W.World g.K.Sink c.round.new.world c.stop.new.sink in
    let stop = stops_at u v c.in_ok-round.field-0 c.in-ToAnEnd.cause (from_turn c.args.turns c.args.moves c.args.hub.now) (from_turn (c.loop-left.left - 1) c.args.moves) c.round.new.hub c.in-ToAnEnd.is
    (next_round u w v c.loop-left.left c.args.moves (Ok c.in_ok-round.field-0) (from_turn c.args.turns c.args.moves c.args.hub.now)
    c.loop-left.hub c.round.new.hub c.loop-left-test.true c.loop-left.invariant.0 c.in_ok-round.ensures.ran) in
    let broken = stop_broken u v x (from_turn c.args.turns c.args.moves c.args.hub.now) c.in-ToAnEnd.cause c.round.new.hub stop c.in_err-stop-in-ToAnEnd.ensures.written (c.stop.ensures.out g.W.World.waits) (done_nothing v) in
    search (rules, broken)

pub returns-in-ToAnEnd-clause-ran : goal.returns-in-ToAnEnd-clause-ran
returns-in-ToAnEnd-clause-ran g c =
    let u = outside g.W.World g.K.Sink c.args.world.now c.args.sink.now in
    let v = outside g.W.World g.K.Sink c.round.new.world c.round.new.sink in
    let w = outside g.W.World g.K.Sink c.loop-left.world c.loop-left.sink in
    let x = outside g.W.World g.K.Sink c.round.new.world c.stop.new.sink in
    let stop = stops_at u v c.in_ok-round.field-0 c.in-ToAnEnd.cause (from_turn c.args.turns c.args.moves c.args.hub.now) (from_turn (c.loop-left.left - 1) c.args.moves) c.round.new.hub c.in-ToAnEnd.is
    (next_round u w v c.loop-left.left c.args.moves (Ok c.in_ok-round.field-0) (from_turn c.args.turns c.args.moves c.args.hub.now)
    c.loop-left.hub c.round.new.hub c.loop-left-test.true c.loop-left.invariant.0 c.in_ok-round.ensures.ran) in
    stopped_on u v x (from_turn c.args.turns c.args.moves c.args.hub.now) c.in-ToAnEnd.cause _ c.round.new.hub stop c.in_ok-stop-in-ToAnEnd.ensures.written (c.stop.ensures.out g.W.World.waits) (done_nothing v) c.in_ok-stop-in-ToAnEnd.ensures.end

pub returns-in_err-stop-clause-ran : goal.returns-in_err-stop-clause-ran
returns-in_err-stop-clause-ran g c =
    let u = outside g.W.World g.K.Sink c.args.world.now c.args.sink.now in
    let v = outside g.W.World g.K.Sink c.loop-left.world c.loop-left.sink in
    let w = outside g.W.World g.K.Sink c.loop-left.world c.stop-2.new.sink in
    let stop = out_of_turns u v c.loop-left.left c.args.moves (from_turn c.args.turns c.args.moves c.args.hub.now) c.loop-left.hub c.loop-left-test.false c.loop-left.invariant.0 in
    let broken = stop_broken u v w (from_turn c.args.turns c.args.moves c.args.hub.now) StopCause.NoTurns c.loop-left.hub stop c.in_err-stop.ensures.written (c.stop-2.ensures.out g.W.World.waits) (done_nothing v) in
    search (rules, broken)

pub returns-clause-ran : goal.returns-clause-ran
returns-clause-ran g c =
    let u = outside g.W.World g.K.Sink c.args.world.now c.args.sink.now in
    let v = outside g.W.World g.K.Sink c.loop-left.world c.loop-left.sink in
    let w = outside g.W.World g.K.Sink c.loop-left.world c.stop-2.new.sink in
    let stop = out_of_turns u v c.loop-left.left c.args.moves (from_turn c.args.turns c.args.moves c.args.hub.now) c.loop-left.hub c.loop-left-test.false c.loop-left.invariant.0 in
    stopped_on u v w (from_turn c.args.turns c.args.moves c.args.hub.now) StopCause.NoTurns _ c.loop-left.hub stop c.in_ok-stop.ensures.written (c.stop-2.ensures.out g.W.World.waits) (done_nothing v) c.in_ok-stop.ensures.end
