use Rattle.std.proofs.Common.{Bool, sym, subst, []}
use Rattle.scenario_rules.specs.Rules.{IsWellFormed}
use Rattle.machine.specs.Run.{Source, run}
use Rattle.hub_engine.specs.declared.run.EngineEnd.{EngineEnd}
use Rattle.hub_engine.specs.declared.run.Ran.{Ran}
use Rattle.hub_engine.specs.Ends.{CountsOf, HasLogged, HasNumbersAt, RanTo}
use Rattle.hub_engine.specs.Run.{WroteAhead}
use Rattle.hub_engine.specs.Outside.{outside, out_of}
use Rattle.hub_engine.specs.Prepared.{Prepared}
use Rattle.hub_engine.specs.Written.{RunsTo}
use Rattle.hub_engine.proofs.Ending.{ran_ahead, ran_legal, ran_logged, ran_numbers, ran_out, ran_tried, ran_written}
use Rattle.hub_engine.proofs.run.Engine.run.Goals as goal

pub run-ran-requires-clause-prepared : goal.run-ran-requires-clause-prepared
run-ran-requires-clause-prepared g c = c.self.invariant.prepared

pub run-ran-requires-clause-few : goal.run-ran-requires-clause-few
run-ran-requires-clause-few g c = c.self.invariant.few

pub returns-clause-written : goal.returns-clause-written
returns-clause-written g c =
    let u = outside g.W.World g.K.Sink c.args.world.now c.args.sink.now in
    let v = outside g.W.World g.K.Sink c.run-ran.new.world c.run-ran.new.sink in
    let none = g.met.W.World.log_is c.args.world.now [] c.requires.begun in
    let ran = subst (λ (p : Prepared). RunsTo c.run-ran.result u v (run p.scenario p.turns p.moves) c.run-ran.new.hub) c.self.view_is c.run-ran.ensures.ran in
    subst (λ (e : EngineEnd). RanTo e (run c.args.self.scenario c.args.self.turns c.args.self.moves (g.W.World.meaning c.run-ran.new.world).answers) (g.K.Sink.written c.args.sink.now) (g.K.Sink.written c.run-ran.new.sink)) (sym c.ended_as.ensures)
    (ran_written u v (run c.args.self.scenario c.args.self.turns c.args.self.moves) c.run-ran.result c.run-ran.new.hub (sym none.1) ran)

pub returns-clause-tried : goal.returns-clause-tried
returns-clause-tried g c =
    let u = outside g.W.World g.K.Sink c.args.world.now c.args.sink.now in
    let v = outside g.W.World g.K.Sink c.run-ran.new.world c.run-ran.new.sink in
    let none = g.met.W.World.log_is c.args.world.now [] c.requires.begun in
    let ran = subst (λ (p : Prepared). RunsTo c.run-ran.result u v (run p.scenario p.turns p.moves) c.run-ran.new.hub) c.self.view_is c.run-ran.ensures.ran in
    ran_tried u v (run c.args.self.scenario c.args.self.turns c.args.self.moves) c.run-ran.result c.run-ran.new.hub (sym none.1) ran

pub returns-clause-ahead : goal.returns-clause-ahead
returns-clause-ahead g c =
    let u = outside g.W.World g.K.Sink c.args.world.now c.args.sink.now in
    let v = outside g.W.World g.K.Sink c.run-ran.new.world c.run-ran.new.sink in
    let none = g.met.W.World.log_is c.args.world.now [] c.requires.begun in
    let ran = subst (λ (p : Prepared). RunsTo c.run-ran.result u v (run p.scenario p.turns p.moves) c.run-ran.new.hub) c.self.view_is c.run-ran.ensures.ran in
    ran_ahead u v (run c.args.self.scenario c.args.self.turns c.args.self.moves) c.run-ran.result c.run-ran.new.hub (sym none.1) ran

pub returns-clause-handed : goal.returns-clause-handed
returns-clause-handed g c waits =
    let u = outside g.W.World g.K.Sink c.args.world.now c.args.sink.now in
    let v = outside g.W.World g.K.Sink c.run-ran.new.world c.run-ran.new.sink in
    let none = g.met.W.World.log_is c.args.world.now [] c.requires.begun in
    let ran = subst (λ (p : Prepared). RunsTo c.run-ran.result u v (run p.scenario p.turns p.moves) c.run-ran.new.hub) c.self.view_is c.run-ran.ensures.ran in
    subst (λ (b : Bool). WroteAhead (run c.args.self.scenario c.args.self.turns c.args.self.moves) (g.W.World.meaning c.run-ran.new.world).answers (g.K.Sink.written c.args.sink.now)
    (out_of b (g.K.Sink.written c.run-ran.new.sink) (g.K.Sink.handed c.run-ran.new.sink))) waits
    (ran_out u v (run c.args.self.scenario c.args.self.turns c.args.self.moves) c.run-ran.result c.run-ran.new.hub (sym none.1) ran)

pub returns-clause-numbers : goal.returns-clause-numbers
returns-clause-numbers g c =
    let u = outside g.W.World g.K.Sink c.args.world.now c.args.sink.now in
    let v = outside g.W.World g.K.Sink c.run-ran.new.world c.run-ran.new.sink in
    let none = g.met.W.World.log_is c.args.world.now [] c.requires.begun in
    let ran = subst (λ (p : Prepared). RunsTo c.run-ran.result u v (run p.scenario p.turns p.moves) c.run-ran.new.hub) c.self.view_is c.run-ran.ensures.ran in
    let came : Ran = record { end = c.ended_as.result; greenlets = c.greenlets_len.result; turns = c.turns.result; moves = c.moves.result; moment = c.moment.result } in
    let counts : CountsOf came c.run-ran.new.hub = record { greenlets = c.greenlets_len.ensures; turns = c.turns.ensures; moves = c.moves.ensures; moment = c.moment.ensures } in
    subst (λ (e : EngineEnd). HasNumbersAt e came (run c.args.self.scenario c.args.self.turns c.args.self.moves (g.W.World.meaning c.run-ran.new.world).answers).state) (sym c.ended_as.ensures)
    (ran_numbers u v (run c.args.self.scenario c.args.self.turns c.args.self.moves) c.run-ran.result c.run-ran.new.hub came (sym none.1) ran counts)

pub returns-clause-log : goal.returns-clause-log
returns-clause-log g c =
    let u = outside g.W.World g.K.Sink c.args.world.now c.args.sink.now in
    let v = outside g.W.World g.K.Sink c.run-ran.new.world c.run-ran.new.sink in
    let none = g.met.W.World.log_is c.args.world.now [] c.requires.begun in
    let ran = subst (λ (p : Prepared). RunsTo c.run-ran.result u v (run p.scenario p.turns p.moves) c.run-ran.new.hub) c.self.view_is c.run-ran.ensures.ran in
    subst (λ (e : EngineEnd). HasLogged e (run c.args.self.scenario c.args.self.turns c.args.self.moves (g.W.World.meaning c.run-ran.new.world).answers).log (g.W.World.meaning c.run-ran.new.world).answers (g.W.World.stands_for c.run-ran.new.world)) (sym c.ended_as.ensures)
    (ran_logged u v (run c.args.self.scenario c.args.self.turns c.args.self.moves) c.run-ran.result c.run-ran.new.hub (sym none.1) c.requires.begun ran)

pub returns-clause-legal : goal.returns-clause-legal
returns-clause-legal g c =
    let u = outside g.W.World g.K.Sink c.args.world.now c.args.sink.now in
    let v = outside g.W.World g.K.Sink c.run-ran.new.world c.run-ran.new.sink in
    let none = g.met.W.World.log_is c.args.world.now [] c.requires.begun in
    let ran = subst (λ (p : Prepared). RunsTo c.run-ran.result u v (run p.scenario p.turns p.moves) c.run-ran.new.hub) c.self.view_is c.run-ran.ensures.ran in
    ran_legal u v c.args.self.scenario c.args.self.turns c.args.self.moves c.run-ran.result c.run-ran.new.hub (sym none.0) (sym none.1) ran

pub returns-clause-lawful : goal.returns-clause-lawful
returns-clause-lawful g c =
    let u = outside g.W.World g.K.Sink c.args.world.now c.args.sink.now in
    let v = outside g.W.World g.K.Sink c.run-ran.new.world c.run-ran.new.sink in
    let none = g.met.W.World.log_is c.args.world.now [] c.requires.begun in
    let ran = subst (λ (p : Prepared). RunsTo c.run-ran.result u v (run p.scenario p.turns p.moves) c.run-ran.new.hub) c.self.view_is c.run-ran.ensures.ran in
    c.runs_are_lawful.ensures c.args.self.scenario (Source.Given (g.W.World.meaning c.run-ran.new.world).answers) c.args.self.turns c.args.self.moves
    (subst (λ (p : Prepared). IsWellFormed p.scenario) c.self.view_is c.self.invariant.prepared.may_run.well_formed)
    (ran_legal u v c.args.self.scenario c.args.self.turns c.args.self.moves c.run-ran.result c.run-ran.new.hub (sym none.0) (sym none.1) ran)

pub returns-clause-quiet : goal.returns-clause-quiet
returns-clause-quiet g c =
    c.blocks_are_quiet.ensures c.args.self.scenario (Source.Given (g.W.World.meaning c.run-ran.new.world).answers) c.args.self.turns c.args.self.moves
    (subst (λ (p : Prepared). IsWellFormed p.scenario) c.self.view_is c.self.invariant.prepared.may_run.well_formed)
