use Rattle.std.proofs.Common.{refl, ap, subst, ◌∙◌, ◌∷◌, true, false, drop}
use Rattle.gv_values.specs.declared.value.Value.{Value}
use Rattle.body_names.specs.declared.expression.FlatExpression.{FlatExpression}
use Rattle.body_primitives.specs.Primitives.{Means}
use Rattle.body_entries.specs.declared.entry.Entry.{Entry}
use Rattle.body_frames.specs.declared.stack.Stack.{Stack}
use Rattle.body_frames.proofs.PrimitiveMoves.{means_so, while_in, while_out}
use Rattle.body_frames.proofs.primitive_moves.make_primitive_move.Goals as goal

pub returns-in-Some-false-clause-made : goal.returns-in-Some-false-clause-made
returns-in-Some-false-clause-made c =
    let old = c.args.stack.now in
    let new : Stack = record { locals = old.locals; todo = c.drop_first.new.self; left = old.left } in
    let means : Means c.in-Some-Again.test.value old.locals (Value.Bool false) =
    subst (λ (e : FlatExpression). Means e old.locals (Value.Bool false)) c.deref.ensures
    (means_so c.deref.result.now old.locals c.in-Some-false.field-0 false c.in-Some-false.field-0-test c.in-Some-false.ensures) in
    while_out c.args.blocks.now c.in-Some-Again.test c.in-Some-Again.body old new
    (c.in-Some-Again.ensures ∙ ap (λ (e : Entry). e ∷ drop 1 old.todo) c.in-Some-Again.field-0-is) means refl refl c.drop_first.ensures

pub returns-in_ok-push-in-Some-true-clause-made : goal.returns-in_ok-push-in-Some-true-clause-made
returns-in_ok-push-in-Some-true-clause-made c =
    let old = c.args.stack.now in
    let new : Stack = record { locals = old.locals; todo = c.push.new.self; left = old.left } in
    let means : Means c.in-Some-Again.test.value old.locals (Value.Bool true) =
    subst (λ (e : FlatExpression). Means e old.locals (Value.Bool true)) c.deref.ensures
    (means_so c.deref.result.now old.locals c.in-Some-true.field-0 true c.in-Some-true.field-0-test c.in-Some-true.ensures) in
    while_in c.args.blocks.now c.in-Some-Again.test c.in-Some-Again.body old new
    (c.in-Some-Again.ensures ∙ ap (λ (e : Entry). e ∷ drop 1 old.todo) c.in-Some-Again.field-0-is) means refl refl c.in_ok-push-in-Some-true.ensures
