use Rattle.std.proofs.Common.{rules, ◌≡◌, ◌+◌, ◌<◌, ◌≤◌, ◌∙◌, refl, ap, subst, sym, arith}
use Rattle.gv_values.specs.declared.limits.TheConstants.{MOST_MOVES}
use Rattle.trace_text.specs.declared.line.StopCause.{StopCause}
use Rattle.machine.specs.declared.state.Frame.{Frame}
use Rattle.machine.specs.declared.state.Phase.{Phase}
use Rattle.machine.specs.Greenlets.{with_phase}
use Rattle.machine.specs.Run.{runs}
use Rattle.machine.specs.State.{State}
use Rattle.hub_engine.specs.declared.stand.Came.{Came}
use Rattle.hub_engine.specs.Ready.{IsReadyToMove}
use Rattle.hub_engine.specs.Stands.{next_at}
use Rattle.hub_engine.specs.Within.{IsWithinToMove}
use Rattle.hub_engine.specs.Written.{CameTo}
use Rattle.hub_engine.proofs.LegByLeg.{has_stepped}
use Rattle.hub_engine.proofs.Passing.{ended, move_given_up, moved_on, out_of_budget, passing, rested, runs_broken}
use Rattle.hub_engine.proofs.Tying.{counted_moved, postable_at, runs_at, tied_at_rest, tied_moved, to_move, to_within}
use Rattle.hub_engine.proofs.turns.run_greenlet.Goals as goal

pub loop-text-init : goal.loop-text-init
loop-text-init g c = (passing _ _, refl, λ may turns h. h, c.requires.few)

pub give_out-requires : goal.give_out-requires
give_out-requires g c =
    let first = c.requires.tied in
    let tied = c.loop-text.invariant.2 first.may first.turns first.tied in
    record { runs = runs_at _ c.loop-text.at c.loop-text.hub tied; new = postable_at _ c.loop-text.at c.loop-text.hub tied }

pub step_greenlet-requires : goal.step_greenlet-requires
step_greenlet-requires g c =
    let first = c.requires.tied in
    let tied = c.loop-text.invariant.2 first.may first.turns first.tied in
    let same : c.give_out.new.hub.moves ≡ c.loop-text.hub.moves = ap (λ (s : State). s.moves) c.in_ok-give_out.ensures.silent in
    let most : c.loop-text.hub.moves + c.loop-text.left ≤ MOST_MOVES = c.loop-text.invariant.3 in
    let body = sym c.of-running.ensures.same in
    record {
      stays = refl;
      some = omega (arith, c.if-left-eq0.false);
      few = omega (arith, same, most);
      moving = c.of-running.ensures.moving;
      within = subst (λ (b : Frame). IsWithinToMove c.in-Going.g (with_phase c.in-Going.g (Phase.Live b) c.give_out.new.hub)) body
          (to_within first.may first.turns _ c.loop-text.at _ _ c.loop-text.hub c.give_out.new.hub c.in-Going.is tied c.in_ok-give_out.ensures.silent);
      ready = subst (λ (b : Frame). IsReadyToMove c.in-Going.g (with_phase c.in-Going.g (Phase.Live b) c.give_out.new.hub)) body
          (to_move first.may first.turns _ c.loop-text.at _ _ c.loop-text.hub c.give_out.new.hub c.in-Going.is tied c.in_ok-give_out.ensures.silent);
    }

pub finish-requires : goal.finish-requires
finish-requires g c = c.in_ok-before-in-Going.ensures.ends.may

pub returns-in_err-give_out-clause-given : goal.returns-in_err-give_out-clause-given
returns-in_err-give_out-clause-given g c =
    let broken = runs_broken _ _ _ _ c.loop-text.left c.loop-text.at c.loop-text.hub c.loop-text.invariant.0 c.in_err-give_out.ensures.given in search (rules, broken)

pub returns-in-Resting-clause-given : goal.returns-in-Resting-clause-given
returns-in-Resting-clause-given g c =
    (rested _ _ _ _ c.loop-text.left c.loop-text.at c.loop-text.hub c.in-Resting.is c.loop-text.invariant.0 c.in_ok-give_out.ensures.given).given

pub returns-in-Resting-clause-next : goal.returns-in-Resting-clause-next
returns-in-Resting-clause-next g c =
    subst (λ (x : State). CameTo Came.ToRest (runs c.args.moves (next_at c.args.at c.args.hub.now)).next x) (sym c.in_ok-give_out.ensures.silent)
    (rested _ _ _ _ c.loop-text.left c.loop-text.at c.loop-text.hub c.in-Resting.is c.loop-text.invariant.0 c.in_ok-give_out.ensures.given).next

pub returns-in-Resting-clause-tied : goal.returns-in-Resting-clause-tied
returns-in-Resting-clause-tied g c = λ may turns h.
    tied_at_rest may turns _ _ c.loop-text.at c.loop-text.hub c.give_out.new.hub c.in-Resting.is (c.loop-text.invariant.2 may turns h) c.in_ok-give_out.ensures.given c.in_ok-give_out.ensures.silent

pub returns-in-Over-clause-tied : goal.returns-in-Over-clause-tied
returns-in-Over-clause-tied g c = λ may turns h. tt

pub returns-then-left-eq0-clause-tied : goal.returns-then-left-eq0-clause-tied
returns-then-left-eq0-clause-tied g c = λ may turns h. tt

pub returns-in-Over-clause-given : goal.returns-in-Over-clause-given
returns-in-Over-clause-given g c =
    (ended _ _ _ _ c.loop-text.left c.loop-text.at _ c.loop-text.hub c.in-Over.is c.loop-text.invariant.0 c.in_ok-give_out.ensures.given).given

pub returns-then-left-eq0-clause-given : goal.returns-then-left-eq0-clause-given
returns-then-left-eq0-clause-given g c =
    (out_of_budget _ _ _ _ c.loop-text.left c.loop-text.at _ _ c.loop-text.hub c.if-left-eq0.true c.in-Going.is c.loop-text.invariant.0 c.in_ok-give_out.ensures.given).given

pub returns-in_err-before-in-Going-clause-given : goal.returns-in_err-before-in-Going-clause-given
returns-in_err-before-in-Going-clause-given g c =
    let some : 0 < c.loop-text.left = omega (arith, c.if-left-eq0.false) in
    let broken = move_given_up _ _ _ _ c.loop-text.left c.loop-text.at _ _ c.loop-text.hub some c.in-Going.is c.loop-text.invariant.0 c.in_ok-give_out.ensures.given in
    search (rules, broken)

pub returns-in_err-at-in-Going-clause-given : goal.returns-in_err-at-in-Going-clause-given
returns-in_err-at-in-Going-clause-given g c =
    let some : 0 < c.loop-text.left = omega (arith, c.if-left-eq0.false) in
    let broken = move_given_up _ _ _ _ c.loop-text.left c.loop-text.at _ _ c.loop-text.hub some c.in-Going.is c.loop-text.invariant.0 c.in_ok-give_out.ensures.given in
    search (rules, broken)

pub returns-in-Over-clause-next : goal.returns-in-Over-clause-next
returns-in-Over-clause-next g c =
    subst (λ (x : State). CameTo (Came.ToAnEnd c.in-Over.cause) (runs c.args.moves (next_at c.args.at c.args.hub.now)).next x) (sym c.in_ok-give_out.ensures.silent)
    (ended _ _ _ _ c.loop-text.left c.loop-text.at _ c.loop-text.hub c.in-Over.is c.loop-text.invariant.0 c.in_ok-give_out.ensures.given).next

pub returns-then-left-eq0-clause-next : goal.returns-then-left-eq0-clause-next
returns-then-left-eq0-clause-next g c =
    subst (λ (x : State). CameTo (Came.ToAnEnd StopCause.NoMoves) (runs c.args.moves (next_at c.args.at c.args.hub.now)).next x) (sym c.in_ok-give_out.ensures.silent)
    (out_of_budget _ _ _ _ c.loop-text.left c.loop-text.at _ _ c.loop-text.hub c.if-left-eq0.true c.in-Going.is c.loop-text.invariant.0 c.in_ok-give_out.ensures.given).next

pub loop-text-preserved : goal.loop-text-preserved
loop-text-preserved g c =
    let went = c.in_ok-before-in-Going in
    let there = c.in_ok-at-in-Going in
    let stepped = has_stepped c.step_greenlet.new.left c.in-Going.g went.before c.in-Going.body c.of-running.result c.step_greenlet.new.running c.give_out.new.hub c.step_greenlet.new.hub c.finish.new.hub there.at
    c.of-running.ensures.same went.ensures.ends there.ensures in
    let first = c.requires.tied in
    let same : c.give_out.new.hub.moves ≡ c.loop-text.hub.moves = ap (λ (s : State). s.moves) c.in_ok-give_out.ensures.silent in
    let most : c.loop-text.hub.moves + c.loop-text.left ≤ MOST_MOVES = c.loop-text.invariant.3 in
    let fewer : went.before < c.loop-text.left = went.ensures.few in
    let few : c.give_out.new.hub.moves + (went.before + 1) ≤ MOST_MOVES = omega (arith, same, most, fewer) in
    let counted = counted_moved first.may first.turns _ c.loop-text.at _ _ went.before _ c.loop-text.hub c.give_out.new.hub c.finish.new.hub (c.loop-text.invariant.2 first.may first.turns first.tied) c.in-Going.is
    c.in_ok-give_out.ensures.silent few stepped.moved in (
      moved_on _ _ _ _ c.loop-text.left went.before c.loop-text.at _ _ _ c.loop-text.hub c.give_out.new.hub c.finish.new.hub went.ensures.few c.in-Going.is c.loop-text.invariant.0
          c.in_ok-give_out.ensures.given c.in_ok-give_out.ensures.silent stepped.moved,
      c.in_ok-give_out.ensures.counts.tells ∙ c.loop-text.invariant.1,
      λ may turns h.
          tied_moved may turns _ _ c.loop-text.at _ _ went.before _ c.loop-text.hub c.give_out.new.hub c.finish.new.hub (c.loop-text.invariant.2 may turns h) c.in-Going.is c.in_ok-give_out.ensures.given
          c.in_ok-give_out.ensures.silent few stepped.moved stepped.ready,
      omega (arith, same, counted, most, fewer),
    )
