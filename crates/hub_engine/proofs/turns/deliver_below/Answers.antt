use Rattle.std.proofs.Common.{rules, ◌∙◌, refl, true, arith}
use Rattle.hub_engine.proofs.Delivering.{broke_off, is_below, none_below, none_delivered, none_left, went_on, went_over}
use Rattle.hub_engine.proofs.Passing.{passing}
use Rattle.hub_engine.proofs.Tying.{tied_after, tied_as, tied_now, turns_are}
use Rattle.hub_engine.proofs.turns.deliver_below.Goals as goal

pub loop-left-init : goal.loop-left-init
loop-left-init g c = (passing _ _, refl, c.requires.tied)

pub deliver_one-requires : goal.deliver_one-requires
deliver_one-requires g c = record {
  there = is_below c.args.due.mark c.loop-left.hub.items _ c.has_below.ensures c.if-not-has_below.false;
  tied = tied_now true _ _ c.loop-left.hub c.loop-left.invariant.2;
  few = c.requires.few;
}

pub returns-then-not-has_below-clause-given : goal.returns-then-not-has_below-clause-given
returns-then-not-has_below-clause-given g c =
    let none = none_below c.args.due.mark c.loop-left.hub.items _ c.has_below.ensures c.if-not-has_below.true in
    (none_delivered _ _ _ c.loop-left.left c.args.budget c.args.due.mark c.loop-left.hub c.loop-left-test.true c.loop-left.invariant.0 none).given

pub returns-then-not-has_below-clause-next : goal.returns-then-not-has_below-clause-next
returns-then-not-has_below-clause-next g c =
    let none = none_below c.args.due.mark c.loop-left.hub.items _ c.has_below.ensures c.if-not-has_below.true in
    (none_delivered _ _ _ c.loop-left.left c.args.budget c.args.due.mark c.loop-left.hub c.loop-left-test.true c.loop-left.invariant.0 none).next

pub returns-in_err-deliver_one-clause-given : goal.returns-in_err-deliver_one-clause-given
returns-in_err-deliver_one-clause-given g c =
    let broken = broke_off _ _ _ _ c.loop-left.left c.args.budget c.args.due.mark c.loop-left.hub c.loop-left-test.true c.loop-left.invariant.0 (is_below c.args.due.mark c.loop-left.hub.items _ c.has_below.ensures c.if-not-has_below.false) c.in_err-deliver_one.ensures.given in
    search (rules, broken)

pub loop-left-preserved : goal.loop-left-preserved
loop-left-preserved g c = (
  went_on _ _ _ _ c.loop-left.left c.args.budget c.args.due.mark _ c.loop-left.hub _ c.loop-left-test.true c.loop-left.invariant.0 (is_below c.args.due.mark c.loop-left.hub.items _ c.has_below.ensures c.if-not-has_below.false) c.in-ToRest.is
      c.in_ok-deliver_one.ensures.next c.in_ok-deliver_one.ensures.given,
  c.in_ok-deliver_one.ensures.counts.tells ∙ c.loop-left.invariant.1,
  tied_after true c.args.hub.now.turns _ _ c.deliver_one.new.hub c.in-ToRest.is
      (tied_as true c.in_ok-deliver_one.field-0 c.loop-left.hub.turns c.args.hub.now.turns (g.W.World.meaning c.deliver_one.new.world) c.deliver_one.new.hub (turns_are true _ _ c.loop-left.hub c.loop-left.invariant.2) c.in_ok-deliver_one.ensures.tied),
)

pub returns-in-ToAnEnd-clause-given : goal.returns-in-ToAnEnd-clause-given
returns-in-ToAnEnd-clause-given g c =
    (went_over _ _ _ _ c.loop-left.left c.args.budget c.args.due.mark _ _ c.loop-left.hub c.deliver_one.new.hub c.loop-left-test.true c.loop-left.invariant.0 (is_below c.args.due.mark c.loop-left.hub.items _ c.has_below.ensures c.if-not-has_below.false) c.in-ToAnEnd.is
    c.in_ok-deliver_one.ensures.next c.in_ok-deliver_one.ensures.given).given

pub returns-in-ToAnEnd-clause-next : goal.returns-in-ToAnEnd-clause-next
returns-in-ToAnEnd-clause-next g c =
    (went_over _ _ _ _ c.loop-left.left c.args.budget c.args.due.mark _ _ c.loop-left.hub c.deliver_one.new.hub c.loop-left-test.true c.loop-left.invariant.0 (is_below c.args.due.mark c.loop-left.hub.items _ c.has_below.ensures c.if-not-has_below.false) c.in-ToAnEnd.is
    c.in_ok-deliver_one.ensures.next c.in_ok-deliver_one.ensures.given).next

pub returns-clause-given : goal.returns-clause-given
returns-clause-given g c =
    (none_left _ _ _ c.loop-left.left c.args.budget c.args.due.mark c.loop-left.hub (omega (arith, c.loop-left-test.false)) c.loop-left.invariant.0).given

pub returns-clause-next : goal.returns-clause-next
returns-clause-next g c =
    (none_left _ _ _ c.loop-left.left c.args.budget c.args.due.mark c.loop-left.hub (omega (arith, c.loop-left-test.false)) c.loop-left.invariant.0).next
