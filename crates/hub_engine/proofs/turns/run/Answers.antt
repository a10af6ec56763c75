use Rattle.std.proofs.Common.{rules, ◌≡◌, List, [], false, subst, arith}
use Rattle.std.specs.Prelude.{Ok, Err}
use Rattle.gv_values.specs.declared.value.Value.{Value}
use Rattle.machine.specs.Landing.{lands, starts}
use Rattle.machine.specs.Run.{run}
use Rattle.machine.specs.State.{State}
use Rattle.hub_engine.specs.declared.stand.Stand.{Stand}
use Rattle.hub_engine.specs.Outside.{outside}
use Rattle.hub_engine.specs.Stands.{next_at}
use Rattle.hub_engine.specs.Written.{from_turn}
use Rattle.hub_engine.proofs.Giving.{done_nothing}
use Rattle.hub_engine.proofs.Running.{began, began_broken, broken_first, ran_then, rests_on, stop_broken, stopped_on, stops_at}
use Rattle.hub_engine.proofs.Tying.{counted_started, declared_started, first_settles, tied_after, tied_now, tied_started, turns_are}
use Rattle.hub_engine.proofs.turns.run.Goals as goal

-- main starts with the arguments that it was given, and these are none
without_arguments : (args : List Value) (s t : State) (at : Stand) → args ≡ [] → starts lands 0 args s ≡ next_at at t → starts lands 0 [] s ≡ next_at at t
without_arguments args s t at e f = subst (λ (xs : List Value). starts lands 0 xs s ≡ next_at at t) e f

pub start_body-requires : goal.start_body-requires
start_body-requires g c = record {
  declared = declared_started c.args.hub.now.scenario c.args.hub.now c.requires.prepared.may_run c.requires.prepared.first;
  settles = first_settles c.args.hub.now.scenario c.args.hub.now c.requires.prepared.first;
}

pub returns-in_err-at-clause-ran : goal.returns-in_err-at-clause-ran
returns-in_err-at-clause-ran g c =
    let broken = broken_first (outside g.W.World g.K.Sink c.args.world.now c.args.sink.now) (run c.args.hub.now.scenario c.args.turns c.args.moves) in search (rules, broken)

pub run_greenlet-requires : goal.run_greenlet-requires
run_greenlet-requires g c =
    let begun = without_arguments c.new.result c.args.hub.now c.start_body.new.hub c.in_ok-at.at c.new.ensures c.in_ok-at.ensures in
    let none = counted_started c.args.hub.now.scenario c.args.hub.now c.start_body.new.hub c.in_ok-at.at c.requires.prepared.may_run c.requires.prepared.first begun in
    let most = c.requires.few.few_moves in
    record {
      tied = record {
        may = false;
        turns = 0;
        tied = tied_started _ c.args.hub.now.scenario c.args.hub.now c.start_body.new.hub c.in_ok-at.at c.requires.prepared.may_run c.requires.runs c.requires.no_posts c.requires.no_answers c.requires.prepared.first begun;
      };
      few = omega (arith, none, most);
    }

pub returns-in_err-cause-clause-ran : goal.returns-in_err-cause-clause-ran
returns-in_err-cause-clause-ran g c =
    let begun = without_arguments c.new.result c.args.hub.now c.start_body.new.hub c.in_ok-at.at c.new.ensures c.in_ok-at.ensures in
    let broken = began_broken (outside g.W.World g.K.Sink c.args.world.now c.args.sink.now) (outside g.W.World g.K.Sink c.run_greenlet.new.world c.run_greenlet.new.sink) c.args.turns c.args.moves c.args.hub.now.scenario c.in_ok-at.at c.args.hub.now c.start_body.new.hub c.requires.prepared.first begun c.in_err-cause.ensures.given in
    search (rules, broken)

pub returns-in_err-stop-in-ToAnEnd-clause-ran : goal.returns-in_err-stop-in-ToAnEnd-clause-ran
returns-in_err-stop-in-ToAnEnd-clause-ran g c =
    let u = outside g.W.World g.K.Sink c.args.world.now c.args.sink.now in
    let v = outside g.W.World g.K.Sink c.run_greenlet.new.world c.run_greenlet.new.sink in
    let w = outside g.W.World g.K.Sink c.run_greenlet.new.world c.stop.new.sink in
    let begun = without_arguments c.new.result c.args.hub.now c.start_body.new.hub c.in_ok-at.at c.new.ensures c.in_ok-at.ensures in
    let part = began u v c.args.turns c.args.moves c.args.hub.now.scenario c.in_ok-at.at _ c.args.hub.now c.start_body.new.hub c.run_greenlet.new.hub c.requires.prepared.first begun c.in_ok-cause.ensures.next c.in_ok-cause.ensures.given in
    let stop = stops_at u v _ c.in-ToAnEnd.cause (run c.args.hub.now.scenario c.args.turns c.args.moves) (from_turn c.args.turns c.args.moves) c.run_greenlet.new.hub c.in-ToAnEnd.is part in
    let broken = stop_broken u v w (run c.args.hub.now.scenario c.args.turns c.args.moves) c.in-ToAnEnd.cause c.run_greenlet.new.hub stop c.in_err-stop-in-ToAnEnd.ensures.written (c.stop.ensures.out g.W.World.waits) (done_nothing v) in
    search (rules, broken)

pub returns-in_ok-stop-in-ToAnEnd-clause-ran : goal.returns-in_ok-stop-in-ToAnEnd-clause-ran
returns-in_ok-stop-in-ToAnEnd-clause-ran g c =
    let u = outside g.W.World g.K.Sink c.args.world.now c.args.sink.now in
    let v = outside g.W.World g.K.Sink c.run_greenlet.new.world c.run_greenlet.new.sink in
    let w = outside g.W.World g.K.Sink c.run_greenlet.new.world c.stop.new.sink in
    let begun = without_arguments c.new.result c.args.hub.now c.start_body.new.hub c.in_ok-at.at c.new.ensures c.in_ok-at.ensures in
    let part = began u v c.args.turns c.args.moves c.args.hub.now.scenario c.in_ok-at.at _ c.args.hub.now c.start_body.new.hub c.run_greenlet.new.hub c.requires.prepared.first begun c.in_ok-cause.ensures.next c.in_ok-cause.ensures.given in
    let stop = stops_at u v _ c.in-ToAnEnd.cause (run c.args.hub.now.scenario c.args.turns c.args.moves) (from_turn c.args.turns c.args.moves) c.run_greenlet.new.hub c.in-ToAnEnd.is part in
    stopped_on u v w (run c.args.hub.now.scenario c.args.turns c.args.moves) c.in-ToAnEnd.cause _ c.run_greenlet.new.hub stop c.in_ok-stop-in-ToAnEnd.ensures.written (c.stop.ensures.out g.W.World.waits) (done_nothing v) c.in_ok-stop-in-ToAnEnd.ensures.end

pub run_turns-requires : goal.run_turns-requires
run_turns-requires g c =
    let begun = without_arguments c.new.result c.args.hub.now c.start_body.new.hub c.in_ok-at.at c.new.ensures c.in_ok-at.ensures in
    let first = tied_started _ c.args.hub.now.scenario c.args.hub.now c.start_body.new.hub c.in_ok-at.at c.requires.prepared.may_run c.requires.runs c.requires.no_posts c.requires.no_answers c.requires.prepared.first begun in
    let tied = tied_after false 0 _ (g.W.World.meaning c.run_greenlet.new.world) c.run_greenlet.new.hub c.in-ToRest.is (c.in_ok-cause.ensures.tied false 0 first) in
    let none = turns_are false 0 _ c.run_greenlet.new.hub tied in
    let most = c.requires.few.few_turns in
    record { tied = tied_now false 0 _ c.run_greenlet.new.hub tied; left = omega (arith, none, most); few = c.requires.few.few_moves }

pub returns-in_err-run_turns-in-ToRest-clause-ran : goal.returns-in_err-run_turns-in-ToRest-clause-ran
returns-in_err-run_turns-in-ToRest-clause-ran g c =
    let u = outside g.W.World g.K.Sink c.args.world.now c.args.sink.now in
    let v = outside g.W.World g.K.Sink c.run_greenlet.new.world c.run_greenlet.new.sink in
    let w = outside g.W.World g.K.Sink c.run_turns.new.world c.run_turns.new.sink in
    let begun = without_arguments c.new.result c.args.hub.now c.start_body.new.hub c.in_ok-at.at c.new.ensures c.in_ok-at.ensures in
    let part = began u v c.args.turns c.args.moves c.args.hub.now.scenario c.in_ok-at.at _ c.args.hub.now c.start_body.new.hub c.run_greenlet.new.hub c.requires.prepared.first begun c.in_ok-cause.ensures.next c.in_ok-cause.ensures.given in
    let rest = rests_on u v _ (run c.args.hub.now.scenario c.args.turns c.args.moves) (from_turn c.args.turns c.args.moves) c.run_greenlet.new.hub c.in-ToRest.is part in
    let broken = ran_then u v w (Err c.in_err-run_turns-in-ToRest.field-0.0) (run c.args.hub.now.scenario c.args.turns c.args.moves) (from_turn c.args.turns c.args.moves c.run_greenlet.new.hub) c.run_turns.new.hub rest
    c.in_err-run_turns-in-ToRest.ensures.ran in
    search (rules, broken)

pub returns-in_ok-run_turns-in-ToRest-clause-ran : goal.returns-in_ok-run_turns-in-ToRest-clause-ran
returns-in_ok-run_turns-in-ToRest-clause-ran g c =
    let u = outside g.W.World g.K.Sink c.args.world.now c.args.sink.now in
    let v = outside g.W.World g.K.Sink c.run_greenlet.new.world c.run_greenlet.new.sink in
    let w = outside g.W.World g.K.Sink c.run_turns.new.world c.run_turns.new.sink in
    let begun = without_arguments c.new.result c.args.hub.now c.start_body.new.hub c.in_ok-at.at c.new.ensures c.in_ok-at.ensures in
    let part = began u v c.args.turns c.args.moves c.args.hub.now.scenario c.in_ok-at.at _ c.args.hub.now c.start_body.new.hub c.run_greenlet.new.hub c.requires.prepared.first begun c.in_ok-cause.ensures.next c.in_ok-cause.ensures.given in
    let rest = rests_on u v _ (run c.args.hub.now.scenario c.args.turns c.args.moves) (from_turn c.args.turns c.args.moves) c.run_greenlet.new.hub c.in-ToRest.is part in
    ran_then u v w (Ok c.in_ok-run_turns-in-ToRest.field-0) (run c.args.hub.now.scenario c.args.turns c.args.moves) (from_turn c.args.turns c.args.moves c.run_greenlet.new.hub) c.run_turns.new.hub rest
    c.in_ok-run_turns-in-ToRest.ensures.ran
