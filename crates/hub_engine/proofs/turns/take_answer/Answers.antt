use Rattle.std.proofs.Common.{rules, refl, true, false}
use Rattle.machine.specs.Questions.{take_answer}
use Rattle.hub_engine.specs.declared.stand.Stand.{Stand}
use Rattle.gv_io.proofs.StreamLaws.{Extends-nothing}
use Rattle.hub_engine.specs.Outside.{outside}
use Rattle.hub_engine.proofs.Giving.{done_nothing, none_done}
use Rattle.hub_engine.proofs.Running.{answered_broken, answered_on, asked_refused}
use Rattle.hub_engine.proofs.Trying.{tried-nothing}
use Rattle.hub_engine.proofs.Tying.{may_be_asked, posts_taken, postable_at, rest_settles, tied_answered, tied_at_rest}
use Rattle.hub_engine.proofs.turns.take_answer.Goals as goal

pub ask-requires : goal.ask-requires
ask-requires g c = record { runs = c.requires.tied.runs; asks = may_be_asked _ c.args.question c.args.hub.now c.requires.tied c.requires.asked }

pub returns-in_err-answer-clause-ran : goal.returns-in_err-answer-clause-ran
returns-in_err-answer-clause-ran g c = λ go.
    let broken = asked_refused (outside g.W.World g.K.Sink c.args.world.now c.args.sink.now) (outside g.W.World g.K.Sink c.ask.new.self c.args.sink.now) go c.args.question c.args.hub.now refl refl c.in_err-answer.ensures.refused (λ l. (c.in_err-answer.ensures.refused_log l).0) in
    search (rules, broken)

pub take-requires : goal.take-requires
take-requires g c = record { room = rest_settles true _ _ c.args.hub.now c.requires.tied; moment = c.in_ok-answer.ensures.legal.2 }

pub returns-in_err-take-clause-ran : goal.returns-in_err-take-clause-ran
returns-in_err-take-clause-ran g c = λ go.
    let after = outside g.W.World g.K.Sink c.ask.new.self c.args.sink.now in
    let broken = answered_broken (outside g.W.World g.K.Sink c.args.world.now c.args.sink.now) after after go c.args.question c.in_ok-answer.answer c.args.hub.now (take_answer c.in_ok-answer.answer c.args.hub.now) refl refl c.requires.out
    c.in_ok-answer.ensures.legal c.in_ok-answer.ensures.stored c.in_ok-answer.ensures.log refl (tried-nothing _ _) (Extends-nothing _) (done_nothing after) in
    search (rules, broken)

pub give_out_once-requires : goal.give_out_once-requires
give_out_once-requires g c =
    let tied = tied_answered _ _ _ c.args.question c.in_ok-answer.answer c.args.hub.now c.take.new.self c.requires.tied c.in_ok-answer.ensures.legal c.in_ok-answer.ensures.stored c.in_ok-take.ensures in
    record { runs = tied.runs; new = postable_at _ Stand.Resting c.take.new.self tied }

pub returns-in_err-give_out_once-clause-ran : goal.returns-in_err-give_out_once-clause-ran
returns-in_err-give_out_once-clause-ran g c = λ go.
    let u = outside g.W.World g.K.Sink c.args.world.now c.args.sink.now in
    let v = outside g.W.World g.K.Sink c.ask.new.self c.args.sink.now in
    let w = outside g.W.World g.K.Sink c.give_out_once.new.world c.give_out_once.new.sink in
    let none = posts_taken _ c.in_ok-answer.answer c.args.hub.now c.take.new.self c.requires.tied c.in_ok-take.ensures in
    let broken = answered_broken u v w go c.args.question c.in_ok-answer.answer c.args.hub.now c.take.new.self refl refl c.requires.out
    c.in_ok-answer.ensures.legal c.in_ok-answer.ensures.stored c.in_ok-answer.ensures.log c.in_ok-take.ensures c.in_err-give_out_once.ensures.given.text c.in_err-give_out_once.ensures.given.out
    (none_done v w _ _ none c.in_err-give_out_once.ensures.given) in
    search (rules, broken)

pub returns-clause-ran : goal.returns-clause-ran
returns-clause-ran g c = λ go.
    let none = posts_taken _ c.in_ok-answer.answer c.args.hub.now c.take.new.self c.requires.tied c.in_ok-take.ensures in
    answered_on (outside g.W.World g.K.Sink c.args.world.now c.args.sink.now) (outside g.W.World g.K.Sink c.ask.new.self c.args.sink.now) (outside g.W.World g.K.Sink c.give_out_once.new.world c.give_out_once.new.sink) go c.args.question c.in_ok-answer.answer c.args.hub.now c.take.new.self c.give_out_once.new.hub refl refl c.requires.out
    c.in_ok-answer.ensures.legal c.in_ok-answer.ensures.stored c.in_ok-answer.ensures.log c.in_ok-take.ensures none c.in_ok-give_out_once.ensures.given c.in_ok-give_out_once.ensures.silent

pub returns-clause-tied : goal.returns-clause-tied
returns-clause-tied g c =
    let tied = tied_answered _ _ _ c.args.question c.in_ok-answer.answer c.args.hub.now c.take.new.self c.requires.tied c.in_ok-answer.ensures.legal c.in_ok-answer.ensures.stored c.in_ok-take.ensures in
    tied_at_rest false c.args.hub.now.turns (outside g.W.World g.K.Sink c.ask.new.self c.args.sink.now) (outside g.W.World g.K.Sink c.give_out_once.new.world c.give_out_once.new.sink) Stand.Resting c.take.new.self c.give_out_once.new.hub refl tied c.in_ok-give_out_once.ensures.given c.in_ok-give_out_once.ensures.silent
