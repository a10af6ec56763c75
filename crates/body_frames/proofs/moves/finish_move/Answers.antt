use Rattle.machine.specs.Bodies.{around}
use Rattle.body_frames.specs.declared.stack.Made.{Made}
use Rattle.body_frames.proofs.Leading.{come_by, come_by_any}
use Rattle.body_frames.proofs.PrimitiveMoves.{primitive_made}
use Rattle.body_frames.proofs.moves.finish_move.Goals as goal

pub returns-then-is_made : goal.returns-then-is_made
returns-then-is_made g c = λ old was few told.
    let t = c.args.context.now.blocks.now in
    let at = c.in_ok-go_inwards.field-0 in
    come_by t (around c.args.context.now.code.now (g.L.Look.answers c.args.context.now.look.now)) old (Made.Further at) c.go_inwards.new.stack few c.in_ok-go_inwards.ensures.moves
    (primitive_made c.args.is_made t old c.args.stack.now c.go_inwards.new.stack at c.args.context.now.code.now (g.L.Look.answers c.args.context.now.look.now) c.tell_names.ensures c.if-is_made.true was
    told c.in_ok-go_inwards.ensures.left)

pub returns : goal.returns
returns g c = λ old was few told.
    come_by_any c.args.context.now.blocks.now (around c.args.context.now.code.now (g.L.Look.answers c.args.context.now.look.now)) old c.args.stack.now c.args.is_made
    c.in_ok-make_any_move.field-0 c.make_any_move.new.stack c.if-is_made.false was few c.in_ok-make_any_move.ensures.steady c.in_ok-make_any_move.ensures.made
