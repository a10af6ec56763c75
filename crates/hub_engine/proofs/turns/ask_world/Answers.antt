use Rattle.std.proofs.Common.{rules, refl, ap, ◌∙◌, Some, true, false, ℕ, subst}
use Rattle.machine.specs.Run.{Source, after_question, asks}
use Rattle.machine.specs.State.{State}
use Rattle.hub_engine.specs.declared.stand.Stand.{Stand}
use Rattle.hub_engine.specs.Outside.{outside}
use Rattle.hub_engine.proofs.Running.{blocked_broken, blocked_on, broken_first, running_broken, running_then}
use Rattle.hub_engine.specs.Tied.{IsTied}
use Rattle.hub_engine.proofs.Tying.{asked_blocked, postable_at, posts_blocked, tied_at_rest, tied_blocked, tied_now, turns_are}
use Rattle.hub_engine.proofs.turns.ask_world.Goals as goal

pub returns-in_err-block-clause-ran : goal.returns-in_err-block-clause-ran
returns-in_err-block-clause-ran g c = λ go b.
    let broken = broken_first (outside g.W.World g.K.Sink c.args.world.now c.args.sink.now) (λ later. after_question go b (Some c.args.question) (Source.Given later) c.args.hub.now) in
    search (rules, broken)

pub give_out_before-requires : goal.give_out_before-requires
give_out_before-requires g c =
    let tied = tied_blocked true _ _ c.args.hub.now c.block.new.self c.requires.tied c.in_ok-block.ensures in
    record { runs = tied.runs; new = postable_at _ Stand.Resting c.block.new.self tied }

pub returns-in_err-give_out_before-clause-ran : goal.returns-in_err-give_out_before-clause-ran
returns-in_err-give_out_before-clause-ran g c = λ go b.
    let none = ap (λ (x : State). x.posts) c.in_ok-block.ensures ∙ posts_blocked _ c.args.hub.now c.requires.tied in
    let broken = blocked_broken (outside g.W.World g.K.Sink c.args.world.now c.args.sink.now) (outside g.W.World g.K.Sink c.give_out_before.new.world c.give_out_before.new.sink) go b c.args.question c.args.hub.now c.block.new.self c.in_ok-block.ensures none c.in_err-give_out_before.ensures.given in
    search (rules, broken)

pub take_answer-requires : goal.take_answer-requires
take_answer-requires g c = record {
  tied = tied_now true c.args.hub.now.turns _ c.give_out_before.new.hub
      (tied_at_rest true c.args.hub.now.turns (outside g.W.World g.K.Sink c.args.world.now c.args.sink.now) (outside g.W.World g.K.Sink c.give_out_before.new.world c.give_out_before.new.sink) Stand.Resting c.block.new.self
      c.give_out_before.new.hub refl (tied_blocked true _ _ c.args.hub.now c.block.new.self c.requires.tied c.in_ok-block.ensures) c.in_ok-give_out_before.ensures.given c.in_ok-give_out_before.ensures.silent);
  out = c.in_ok-give_out_before.ensures.out;
  asked = asked_blocked c.args.question c.args.hub.now c.block.new.self c.give_out_before.new.hub c.requires.asked c.in_ok-block.ensures c.in_ok-give_out_before.ensures.silent;
}

pub returns-in_err-take_answer-clause-ran : goal.returns-in_err-take_answer-clause-ran
returns-in_err-take_answer-clause-ran g c = λ go b.
    let u = outside g.W.World g.K.Sink c.args.world.now c.args.sink.now in
    let v = outside g.W.World g.K.Sink c.give_out_before.new.world c.give_out_before.new.sink in
    let w = outside g.W.World g.K.Sink c.take_answer.new.world c.take_answer.new.sink in
    let none = ap (λ (x : State). x.posts) c.in_ok-block.ensures ∙ posts_blocked _ c.args.hub.now c.requires.tied in
    let first = blocked_on u v go b c.args.question c.args.hub.now c.block.new.self c.give_out_before.new.hub c.in_ok-block.ensures none c.in_ok-give_out_before.ensures.silent c.in_ok-give_out_before.ensures.given in
    let broken = running_broken u v w (λ later. after_question go b (Some c.args.question) (Source.Given later) c.args.hub.now)
    (λ later. asks go c.args.question (Source.Given later) c.give_out_before.new.hub) first (c.in_err-take_answer.ensures.ran go) in
    search (rules, broken)

pub returns-clause-ran : goal.returns-clause-ran
returns-clause-ran g c = λ go b.
    let u = outside g.W.World g.K.Sink c.args.world.now c.args.sink.now in
    let v = outside g.W.World g.K.Sink c.give_out_before.new.world c.give_out_before.new.sink in
    let w = outside g.W.World g.K.Sink c.take_answer.new.world c.take_answer.new.sink in
    let none = ap (λ (x : State). x.posts) c.in_ok-block.ensures ∙ posts_blocked _ c.args.hub.now c.requires.tied in
    let first = blocked_on u v go b c.args.question c.args.hub.now c.block.new.self c.give_out_before.new.hub c.in_ok-block.ensures none c.in_ok-give_out_before.ensures.silent c.in_ok-give_out_before.ensures.given in
    running_then u v w (λ later. after_question go b (Some c.args.question) (Source.Given later) c.args.hub.now)
    (λ later. asks go c.args.question (Source.Given later) c.give_out_before.new.hub) (λ later. go (Source.Given later) c.take_answer.new.hub) first (c.in_ok-take_answer.ensures.ran go)

pub returns-clause-tied : goal.returns-clause-tied
returns-clause-tied g c =
    let u = outside g.W.World g.K.Sink c.args.world.now c.args.sink.now in
    let v = outside g.W.World g.K.Sink c.give_out_before.new.world c.give_out_before.new.sink in
    let before = tied_at_rest true c.args.hub.now.turns u v Stand.Resting c.block.new.self c.give_out_before.new.hub refl (tied_blocked true _ _ c.args.hub.now c.block.new.self c.requires.tied c.in_ok-block.ensures)
    c.in_ok-give_out_before.ensures.given c.in_ok-give_out_before.ensures.silent in
    subst (λ (n : ℕ). IsTied false n (g.W.World.meaning c.take_answer.new.world) c.take_answer.new.hub) (turns_are true _ _ c.give_out_before.new.hub before) c.in_ok-take_answer.ensures.tied
