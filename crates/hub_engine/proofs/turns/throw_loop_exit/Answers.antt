use Rattle.std.proofs.Common.{rules, ◌≡◌, ◌-◌, ap, ◌∙◌, None, true, false, arith}
use Rattle.machine.specs.Run.{Source, after_question}
use Rattle.machine.specs.State.{State}
use Rattle.machine_reached.proofs.Rooms.{blocked-counted}
use Rattle.hub_engine.specs.Outside.{outside}
use Rattle.hub_engine.proofs.Running.{broken_first, exit_broken_at, exited_at}
use Rattle.hub_engine.proofs.Tying.{counted_exit, declared_blocked, exit_settles, tied_exit, tied_unanswered}
use Rattle.hub_engine.proofs.turns.throw_loop_exit.Goals as goal

pub returns-in_err-block-clause-ran : goal.returns-in_err-block-clause-ran
returns-in_err-block-clause-ran g c = λ go.
    let broken = broken_first (outside g.W.World g.K.Sink c.args.world.now c.args.sink.now) (λ later. after_question go c.args.budget None (Source.Given later) c.args.hub.now) in
    search (rules, broken)

pub throw_into-requires : goal.throw_into-requires
throw_into-requires g c = record {
  declared = declared_blocked _ c.args.hub.now c.block.new.self c.requires.tied c.in_ok-block.ensures;
  settles = exit_settles true _ _ c.args.hub.now c.block.new.self c.requires.tied c.in_ok-block.ensures;
}

pub returns-in_err-at-clause-ran : goal.returns-in_err-at-clause-ran
returns-in_err-at-clause-ran g c = λ go.
    let broken = broken_first (outside g.W.World g.K.Sink c.args.world.now c.args.sink.now) (λ later. after_question go c.args.budget None (Source.Given later) c.args.hub.now) in
    search (rules, broken)

pub run_greenlet-requires : goal.run_greenlet-requires
run_greenlet-requires g c =
    let turns = c.args.hub.now.turns in
    let left : c.saturating_sub-left.result ≡ c.args.budget - c.block.new.self.moves = omega (arith, c.saturating_sub-left.ensures, c.moves.ensures) in
    let block = blocked-counted c.args.hub.now in
    let none = block.moves in
    let said : c.block.new.self.moves ≡ c.args.hub.now.moves = ap (λ (s : State). s.moves) c.in_ok-block.ensures ∙ omega (arith, none) in
    let same = counted_exit true turns _ c.args.hub.now c.block.new.self c.throw_into.new.hub c.in_ok-at.at c.requires.tied c.in_ok-block.ensures c.in_ok-at.ensures in
    record {
      tied = record { may = true; turns = turns; tied = tied_exit true turns _ c.args.hub.now c.block.new.self c.throw_into.new.hub c.in_ok-at.at c.requires.tied c.in_ok-block.ensures c.in_ok-at.ensures };
      few = let most = c.requires.tied.within.few_moves in omega (arith, left, said, same, most, c.requires.few);
    }

pub returns-clause-tied : goal.returns-clause-tied
returns-clause-tied g c =
    let turns = c.args.hub.now.turns in
    c.in_ok-run_greenlet.ensures.tied false turns
    (tied_unanswered turns _ _ (tied_exit true turns _ c.args.hub.now c.block.new.self c.throw_into.new.hub c.in_ok-at.at c.requires.tied c.in_ok-block.ensures c.in_ok-at.ensures))

pub returns-in_err-run_greenlet-clause-ran : goal.returns-in_err-run_greenlet-clause-ran
returns-in_err-run_greenlet-clause-ran g c = λ go.
    let left : c.saturating_sub-left.result ≡ c.args.budget - c.block.new.self.moves = omega (arith, c.saturating_sub-left.ensures, c.moves.ensures) in
    let broken = exit_broken_at (outside g.W.World g.K.Sink c.args.world.now c.args.sink.now) (outside g.W.World g.K.Sink c.run_greenlet.new.world c.run_greenlet.new.sink) go c.args.budget c.saturating_sub-left.result c.in_ok-at.at c.args.hub.now c.block.new.self c.throw_into.new.hub
    c.in_ok-block.ensures left c.in_ok-at.ensures c.in_err-run_greenlet.ensures.given in
    search (rules, broken)

pub returns-clause-ran : goal.returns-clause-ran
returns-clause-ran g c = λ go.
    let left : c.saturating_sub-left.result ≡ c.args.budget - c.block.new.self.moves = omega (arith, c.saturating_sub-left.ensures, c.moves.ensures) in
    exited_at (outside g.W.World g.K.Sink c.args.world.now c.args.sink.now) (outside g.W.World g.K.Sink c.run_greenlet.new.world c.run_greenlet.new.sink) go c.args.budget c.saturating_sub-left.result c.in_ok-at.at _ c.args.hub.now c.block.new.self c.throw_into.new.hub c.run_greenlet.new.hub
    c.in_ok-block.ensures left c.in_ok-at.ensures c.in_ok-run_greenlet.ensures.next c.in_ok-run_greenlet.ensures.given
