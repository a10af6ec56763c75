use Rattle.std.proofs.Common.{◌∙◌, arith}
use Rattle.machine.specs.Bodies.{around}
use Rattle.machine.specs.Expressions.{Look}
use Rattle.body_frames.specs.Runs.{HasStayed}
use Rattle.body_frames.specs.Standings.{frame_of}
use Rattle.body_frames.proofs.Leading.{asked_few, asked_runs, leads_at_once, no_look, ran_asked, ran_on, ran_out, stayed_at_once}
use Rattle.body_frames.proofs.runs.run_moves.Goals as goal

pub returns-then-not-branch-clause-runs : goal.returns-then-not-branch-clause-runs
returns-then-not-branch-clause-runs c =
    asked_runs c.args.blocks.now (around c.args.code.now no_look) c.moves.stack c.make_primitive_move.new.stack c.ask_quickly.new.stack c.in_ok-make_primitive_move.field-0 c.in_ok-ask_quickly.field-0
    c.halt_of.result c.if-not-branch.true c.in_ok-make_primitive_move.ensures.made (c.in_ok-ask_quickly.ensures.asked no_look) c.halt_of.ensures c.moves.invariant.runs

pub returns-then-not-branch-clause-few : goal.returns-then-not-branch-clause-few
returns-then-not-branch-clause-few c =
    asked_few c.args.blocks.now (around c.args.code.now no_look) c.moves.stack c.make_primitive_move.new.stack c.ask_quickly.new.stack c.in_ok-make_primitive_move.field-0 c.in_ok-ask_quickly.field-0
    c.in_ok-make_primitive_move.ensures.made (c.in_ok-ask_quickly.ensures.asked no_look) c.moves.invariant.few

pub returns-then-not-branch-clause-ran : goal.returns-then-not-branch-clause-ran
returns-then-not-branch-clause-ran c = λ look.
    ran_asked c.args.blocks.now (around c.args.code.now look) c.moves.moves (frame_of c.args.blocks.now c.args.stack.now) c.moves.stack c.make_primitive_move.new.stack c.ask_quickly.new.stack
    c.in_ok-make_primitive_move.field-0 c.in_ok-ask_quickly.field-0 c.halt_of.result c.if-not-branch.true c.in_ok-make_primitive_move.ensures.made (c.in_ok-ask_quickly.ensures.asked look) c.halt_of.ensures
    (c.moves.invariant.ran look) (c.moves.invariant.leads look)

pub returns-then-not-is_at_move-clause-ran : goal.returns-then-not-is_at_move-clause-ran
returns-then-not-is_at_move-clause-ran c = λ look.
    ran_out c.args.blocks.now c.args.code.now look c.moves.moves (frame_of c.args.blocks.now c.args.stack.now) c.moves.stack c.make_primitive_move.new.stack c.in_ok-make_primitive_move.field-0
    c.tell_names.ensures c.if-not-branch.false c.in_ok-make_primitive_move.ensures.made (c.moves.invariant.leads look)

pub moves-preserved : goal.moves-preserved
moves-preserved c =
    let t = c.args.blocks.now in
    let old = c.moves.stack in
    let new = c.make_primitive_move.new.stack in
    let runs = c.is_at_move.ensures c.if-not-is_at_move.false in
    let stayed : (look : Look) → HasStayed t (around c.args.code.now look) old new =
    λ look. stayed_at_once t c.args.code.now look old c.in_ok-make_primitive_move.field-0 new c.tell_names.ensures c.moves.invariant.few (c.moves.invariant.told ∙ c.requires.told)
    c.if-not-branch.false c.in_ok-make_primitive_move.ensures.made runs in
    let less = c.moves-test.true in
    record {
      counted = omega (arith, less);
      told = c.in_ok-make_primitive_move.ensures.left ∙ c.moves.invariant.told;
      runs = runs;
      few = (stayed no_look).1;
      leads = λ look. leads_at_once t (around c.args.code.now look) c.moves.moves (frame_of t c.args.stack.now) old new (c.moves.invariant.leads look) (stayed look);
      ran = λ look. ran_on t (around c.args.code.now look) c.moves.moves (frame_of t c.args.stack.now) old new (c.moves.invariant.leads look) (stayed look);
    }
