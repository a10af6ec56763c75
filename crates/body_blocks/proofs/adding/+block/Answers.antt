use Rattle.std.proofs.Common.{◌∙◌, Some, None, ap, arith, sym}
use Rattle.scenario_tree.proofs.tree.Except.TheLaws as except
use Rattle.scenario_tree.proofs.tree.Statement.TheLaws as statement
use Rattle.scenario_tree.specs.declared.tree.Action.TheVariants as A
use Rattle.body_blocks.specs.Making.{IsMaking, made}
use Rattle.body_blocks.specs.Trees.{Grows, Stands, block_at, except_of, joined, statement_of}
use Rattle.body_blocks.proofs.Growing.{all_left, all_taken, grown, if_grown, nothing, pushed_block, pushed_grow, same_grow, stand_own, taken_within}
use Rattle.body_blocks.proofs.Standing.{IsTest, block_later, except_stands, if_action_stands, if_stands, made_more, was_made, while_stands}
use Rattle.body_blocks.proofs.adding.+block.Goals as goal

pub add_action-returns-in_ok-no-in-Some-clause-grows : goal.add_action-returns-in_ok-no-in-Some-clause-grows
add_action-returns-in_ok-no-in-Some-clause-grows t c =
    if_grown c.add_if-in-Some.result (made c.args.making.now) (made c.add_block.new.making) (made c.add_if-in-Some.new.making) c.in_ok-no-in-Some.ensures.grows c.add_if-in-Some.ensures.grows

pub add_action-returns-in_ok-no-in-Some-clause-same : goal.add_action-returns-in_ok-no-in-Some-clause-same
add_action-returns-in_ok-no-in-Some-clause-same t c =
    if_action_stands c.add_if-in-Some.result (λ e. A.If c.in-If.test c.in-If.yes (Some (block_at c.in_ok-no-in-Some.no e))) (made c.add_block.new.making) (made c.add_if-in-Some.new.making)
    c.args.action
    (λ more.
    ap (λ z. A.If c.in-If.test c.in-If.yes (Some z)) (c.in_ok-no-in-Some.ensures.same more) ∙ sym (c.in-If.is ∙ ap (A.If c.in-If.test c.in-If.yes) c.in-Some.is))
    c.add_if-in-Some.ensures.grows c.add_if-in-Some.ensures.same

pub add_action-returns-in-None-finally-clause-grows : goal.add_action-returns-in-None-finally-clause-grows
add_action-returns-in-None-finally-clause-grows t c =
    if_grown c.add_try.result (made c.args.making.now) (made c.add_block-in-Try.new.making) (made c.add_try.new.making) c.in_ok-body-in-Try.ensures.grows c.add_try.ensures.grows

pub add_action-returns-in-None-finally-clause-same : goal.add_action-returns-in-None-finally-clause-same
add_action-returns-in-None-finally-clause-same t c =
    if_action_stands c.add_try.result (λ e. A.Try (block_at c.in_ok-body-in-Try.body e) c.in-Try.excepts None) (made c.add_block-in-Try.new.making) (made c.add_try.new.making) c.args.action
    (λ more.
    ap (λ z. A.Try z c.in-Try.excepts None) (c.in_ok-body-in-Try.ensures.same more) ∙ sym (c.in-Try.is ∙ ap (A.Try c.in-Try.body c.in-Try.excepts) c.in-None-finally.is))
    c.add_try.ensures.grows c.add_try.ensures.same

pub add_action-returns-in_ok-finally-in-Some-finally-clause-grows : goal.add_action-returns-in_ok-finally-in-Some-finally-clause-grows
add_action-returns-in_ok-finally-in-Some-finally-clause-grows t c =
    if_grown c.add_try-in-Some-finally.result (made c.args.making.now) (made c.add_block-in-Some-finally.new.making) (made c.add_try-in-Some-finally.new.making)
    (grown (made c.args.making.now) (made c.add_block-in-Try.new.making) (made c.add_block-in-Some-finally.new.making) c.in_ok-body-in-Try.ensures.grows
    c.in_ok-finally-in-Some-finally.ensures.grows)
    c.add_try-in-Some-finally.ensures.grows

pub add_action-returns-in_ok-finally-in-Some-finally-clause-same : goal.add_action-returns-in_ok-finally-in-Some-finally-clause-same
add_action-returns-in_ok-finally-in-Some-finally-clause-same t c =
    if_action_stands c.add_try-in-Some-finally.result
    (λ e. A.Try (block_at c.in_ok-body-in-Try.body e) c.in-Try.excepts (Some (block_at c.in_ok-finally-in-Some-finally.finally e)))
    (made c.add_block-in-Some-finally.new.making) (made c.add_try-in-Some-finally.new.making) c.args.action
    (λ more.
    ap (λ z. A.Try z c.in-Try.excepts (Some (block_at c.in_ok-finally-in-Some-finally.finally (joined (made c.add_block-in-Some-finally.new.making) more))))
    (block_later (made c.add_block-in-Try.new.making) (made c.add_block-in-Some-finally.new.making) c.in_ok-body-in-Try.body c.in-Try.body c.in_ok-finally-in-Some-finally.ensures.grows
    c.in_ok-body-in-Try.ensures.same more)
    ∙ ap (λ z. A.Try c.in-Try.body c.in-Try.excepts (Some z)) (c.in_ok-finally-in-Some-finally.ensures.same more)
    ∙ sym (c.in-Try.is ∙ ap (A.Try c.in-Try.body c.in-Try.excepts) c.in-Some-finally.is))
    c.add_try-in-Some-finally.ensures.grows c.add_try-in-Some-finally.ensures.same

pub add_if-returns-clause-grows : goal.add_if-returns-clause-grows
add_if-returns-clause-grows t c =
    grown (made c.args.making.now) (made c.add_block.new.making) (made c.expression.new.self) c.in_ok-yes.ensures.grows c.in_ok-test.ensures.grows

pub add_if-returns-clause-same : goal.add_if-returns-clause-same
add_if-returns-clause-same t c =
    if_stands (made c.add_block.new.making) (made c.expression.new.self) c.in_ok-test.test c.in_ok-yes.yes c.args.no c.args.test c.args.yes c.in_ok-test.ensures.grows
    c.in_ok-yes.ensures.same c.in_ok-test.ensures.same

pub add_while-returns-clause-grows : goal.add_while-returns-clause-grows
add_while-returns-clause-grows t c =
    grown (made c.args.making.now) (made c.add_block.new.making) (made c.expression.new.self) c.in_ok-body.ensures.grows
    (was_made c.expression.result c.in_ok-test.test.value (λ _. Grows (made c.add_block.new.making) (made c.expression.new.self)) c.in_ok-test.ensures c.expression.ensures.grows)

pub add_while-returns-clause-same : goal.add_while-returns-clause-same
add_while-returns-clause-same t c =
    while_stands (made c.add_block.new.making) (made c.expression.new.self) c.in_ok-test.test.value c.in_ok-body.body c.args.test c.args.body
    (was_made c.expression.result c.in_ok-test.test.value (λ _. Grows (made c.add_block.new.making) (made c.expression.new.self)) c.in_ok-test.ensures c.expression.ensures.grows)
    c.in_ok-body.ensures.same
    (was_made c.expression.result c.in_ok-test.test.value (λ e. IsTest (made c.expression.new.self) e c.args.test) c.in_ok-test.ensures c.expression.ensures.same)

pub add_block-loop-statement-init : goal.add_block-loop-statement-init
add_block-loop-statement-init t c = record {
  kept = c.requires;
  grows = same_grow (made c.args.making.now);
  taken = all_left statement_of (made c.args.making.now) c.in_ok-statements.statements.items c.args.block c.in_ok-statements.ensures.items;
}

pub add_block-add_statement-requires : goal.add_block-add_statement-requires
add_block-add_statement-requires t c =
    let within = taken_within statement.the_size c.loop-statement.left c.pop.new.self _ c.args.block c.in-Some.statement (c.loop-statement.invariant.taken nothing) c.in-Some.ensures in
    (omega (arith, within), c.loop-statement.invariant.kept)

pub add_block-loop-statement-preserved : goal.add_block-loop-statement-preserved
add_block-loop-statement-preserved t c = record {
  kept = was_made c.add_statement.result c.in_ok-push_made.ensures.0 (λ _. IsMaking c.add_statement.new.making) c.in_ok-push_made.ensures.1 c.add_statement.ensures.kept;
  grows =
      grown (made c.args.making.now) (made c.loop-statement.making) (made c.add_statement.new.making) c.loop-statement.invariant.grows
      (was_made c.add_statement.result c.in_ok-push_made.ensures.0 (λ _. Grows (made c.loop-statement.making) (made c.add_statement.new.making)) c.in_ok-push_made.ensures.1 c.add_statement.ensures.grows);
  taken =
      made_more statement_of (made c.loop-statement.making) (made c.add_statement.new.making) c.loop-statement.left c.pop.new.self c.loop-statement.statements.items c.push_made.new.others.items
      c.add_statement.result c.in-Some.statement c.args.block c.loop-statement.invariant.taken c.add_statement.ensures.grows c.add_statement.ensures.same c.in-Some.ensures
      c.in_ok-push_made.ensures;
}

pub add_block-push-requires-clause-stands : goal.add_block-push-requires-clause-stands
add_block-push-requires-clause-stands t c =
    let stands : Stands (made c.loop-statement.making) c.turned.result c.args.block =
    all_taken statement_of (made c.loop-statement.making) c.loop-statement.left c.loop-statement.statements.items c.turned.result c.args.block
    c.loop-statement.invariant.taken c.in_default.ensures.0 c.turned.ensures in
    stand_own (made c.loop-statement.making) c.turned.result c.args.block stands

pub add_block-returns-clause-grows : goal.add_block-returns-clause-grows
add_block-returns-clause-grows t c =
    pushed_grow (made c.args.making.now) (made c.loop-statement.making) (made c.push.new.self) c.turned.result c.loop-statement.invariant.grows c.in_ok-push.ensures.grows

pub add_block-returns-clause-same : goal.add_block-returns-clause-same
add_block-returns-clause-same t c =
    let stands : Stands (made c.loop-statement.making) c.turned.result c.args.block =
    all_taken statement_of (made c.loop-statement.making) c.loop-statement.left c.loop-statement.statements.items c.turned.result c.args.block
    c.loop-statement.invariant.taken c.in_default.ensures.0 c.turned.ensures in
    pushed_block (made c.loop-statement.making) (made c.push.new.self) c.turned.result c.args.block c.in_ok-push.field-0 stands c.in_ok-push.ensures.grows
    c.in_ok-push.ensures.number

pub add_except-returns-clause-grows : goal.add_except-returns-clause-grows
add_except-returns-clause-grows t c =
    grown (made c.args.making.now) (made c.slot.new.self) (made c.add_block.new.making) c.in_ok-name.ensures.grows c.in_ok-body.ensures.grows

pub add_except-returns-clause-same : goal.add_except-returns-clause-same
add_except-returns-clause-same t c =
    except_stands (made c.slot.new.self) (made c.add_block.new.making) c.args.except c.in_ok-name.name c.in_ok-body.body c.in_ok-body.ensures.grows c.in_ok-name.ensures.same
    c.in_ok-body.ensures.same

pub add_excepts-loop-except-init : goal.add_excepts-loop-except-init
add_excepts-loop-except-init t c = record {
  kept = c.requires;
  grows = same_grow (made c.args.making.now);
  taken = all_left except_of (made c.args.making.now) c.in_ok-flat.flat.items c.args.excepts c.in_ok-flat.ensures.items;
}

pub add_excepts-add_except-requires : goal.add_excepts-add_except-requires
add_excepts-add_except-requires t c =
    let within = taken_within except.the_size c.loop-except.left c.pop.new.self _ c.args.excepts c.in-Some.except (c.loop-except.invariant.taken nothing) c.in-Some.ensures in
    (omega (arith, within), c.loop-except.invariant.kept)

pub add_excepts-loop-except-preserved : goal.add_excepts-loop-except-preserved
add_excepts-loop-except-preserved t c = record {
  kept = was_made c.add_except.result c.in_ok-push_made.ensures.0 (λ _. IsMaking c.add_except.new.making) c.in_ok-push_made.ensures.1 c.add_except.ensures.kept;
  grows =
      grown (made c.args.making.now) (made c.loop-except.making) (made c.add_except.new.making) c.loop-except.invariant.grows
      (was_made c.add_except.result c.in_ok-push_made.ensures.0 (λ _. Grows (made c.loop-except.making) (made c.add_except.new.making)) c.in_ok-push_made.ensures.1 c.add_except.ensures.grows);
  taken =
      made_more except_of (made c.loop-except.making) (made c.add_except.new.making) c.loop-except.left c.pop.new.self c.loop-except.flat.items c.push_made.new.others.items
      c.add_except.result c.in-Some.except c.args.excepts c.loop-except.invariant.taken c.add_except.ensures.grows c.add_except.ensures.same c.in-Some.ensures
      c.in_ok-push_made.ensures;
}

pub add_excepts-returns-clause-same : goal.add_excepts-returns-clause-same
add_excepts-returns-clause-same t c =
    all_taken except_of (made c.loop-except.making) c.loop-except.left c.loop-except.flat.items c.turned.result c.args.excepts c.loop-except.invariant.taken c.in_default.ensures.0
    c.turned.ensures
