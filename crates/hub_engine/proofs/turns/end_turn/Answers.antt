use Rattle.std.proofs.Common.{rules, sym}
use Rattle.std.specs.Prelude.{Ok, Err}
use Rattle.hub_engine.specs.Outside.{outside}
use Rattle.hub_engine.proofs.Running.{ask_broken, asked_at_end, none_asked}
use Rattle.hub_engine.proofs.turns.end_turn.Goals as goal

pub ask_world-requires : goal.ask_world-requires
ask_world-requires g c = record { tied = c.requires.tied; asked = sym c.in-Some.ensures }

pub returns-in_err-ask_world-in-Some-clause-ran : goal.returns-in_err-ask_world-in-Some-clause-ran
returns-in_err-ask_world-in-Some-clause-ran g c = λ go.
    let broken = ask_broken (outside g.W.World g.K.Sink c.args.world.now c.args.sink.now) (outside g.W.World g.K.Sink c.ask_world.new.world c.ask_world.new.sink) go c.args.budget c.in-Some.question c.args.hub.now c.in-Some.ensures (c.in_err-ask_world-in-Some.ensures.ran go c.args.budget) in
    search (rules, broken)

pub returns-in_ok-ask_world-in-Some-clause-ran : goal.returns-in_ok-ask_world-in-Some-clause-ran
returns-in_ok-ask_world-in-Some-clause-ran g c = λ go.
    asked_at_end (outside g.W.World g.K.Sink c.args.world.now c.args.sink.now) (outside g.W.World g.K.Sink c.ask_world.new.world c.ask_world.new.sink) go c.args.budget c.in-Some.question c.args.hub.now c.ask_world.new.hub c.in-Some.ensures (c.in_ok-ask_world-in-Some.ensures.ran go c.args.budget)

pub returns-in_err-throw_loop_exit-in-None-clause-ran : goal.returns-in_err-throw_loop_exit-in-None-clause-ran
returns-in_err-throw_loop_exit-in-None-clause-ran g c = λ go.
    let broken = none_asked (outside g.W.World g.K.Sink c.args.world.now c.args.sink.now) (outside g.W.World g.K.Sink c.throw_loop_exit.new.world c.throw_loop_exit.new.sink) go c.args.budget (Err c.in_err-throw_loop_exit-in-None.field-0.0) c.args.hub.now c.throw_loop_exit.new.hub c.in-None.ensures (c.in_err-throw_loop_exit-in-None.ensures.ran go) in
    search (rules, broken)

pub returns-in_ok-throw_loop_exit-in-None-clause-ran : goal.returns-in_ok-throw_loop_exit-in-None-clause-ran
returns-in_ok-throw_loop_exit-in-None-clause-ran g c = λ go.
    none_asked (outside g.W.World g.K.Sink c.args.world.now c.args.sink.now) (outside g.W.World g.K.Sink c.throw_loop_exit.new.world c.throw_loop_exit.new.sink) go c.args.budget (Ok c.in_ok-throw_loop_exit-in-None.field-0) c.args.hub.now c.throw_loop_exit.new.hub c.in-None.ensures (c.in_ok-throw_loop_exit-in-None.ensures.ran go)
