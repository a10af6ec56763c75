use Rattle.std.proofs.Common.{rules, ◌≡◌, refl, to_z, of_z, w64, sym}
use Rattle.scenario_tree.specs.declared.tree.Expression.TheViews as v
use Rattle.scenario_grammar.specs.declared.keyword.Keyword.TheVariants as k
use Rattle.scenario_grammar.specs.Expressions.{binary_keyword, query_keyword, tokens_within, unary_keyword}
use Rattle.scenario_print.proofs.Layers.{asked, broken_expression, broken_expressions, layer, next_expression, one_operand, some_operands, truth, two_operands}
use Rattle.scenario_print.proofs.Words.{through}
use Rattle.scenario_print.proofs.expression.+expression.Goals as goal

pub push_operand-returns-in-Nothing : goal.push_operand-returns-in-Nothing
push_operand-returns-in-Nothing t c = rw c.in-Nothing.is (layer _ v.outs-Nothing (λ depth. c.push_fixed.ensures))

pub push_operand-returns-in-Bool : goal.push_operand-returns-in-Bool
push_operand-returns-in-Bool t c = rw c.in-Bool.is (layer _ (v.outs-Bool _) (λ depth. truth (tokens_within depth) c.in-Bool.value c.truth_word.ensures c.push_fixed-in-Bool.ensures))

pub push_operand-returns-in-Int : goal.push_operand-returns-in-Int
push_operand-returns-in-Int t c = let same : to_z w64 (of_z w64 c.in-Int.integer) ≡ c.in-Int.integer = search rules in rw c.in-Int.is (layer _ (v.outs-Int _) (λ depth. rw (sym same) c.push_integer.ensures))

pub push_operand-returns-in-Local : goal.push_operand-returns-in-Local
push_operand-returns-in-Local t c = rw c.in-Local.is (layer _ (v.outs-Local _) (λ depth. c.push_name.ensures))

pub push_operand-returns-in-Current : goal.push_operand-returns-in-Current
push_operand-returns-in-Current t c = rw c.in-Current.is (layer _ v.outs-Current (λ depth. c.push_fixed-in-Current.ensures))

pub push_operand-returns-in-Fault : goal.push_operand-returns-in-Fault
push_operand-returns-in-Fault t c = rw c.in-Fault.is (layer _ (v.outs-Fault _) (λ depth. c.push_fault.ensures))

pub push_operand-returns-in_ok-push_fixed-in-Unary : goal.push_operand-returns-in_ok-push_fixed-in-Unary
push_operand-returns-in_ok-push_fixed-in-Unary t c =
    rw c.in-Unary.is (layer _ (v.outs-Unary _ _) (one_operand (unary_keyword c.in-Unary.operator) c.unary_word.result _ c.get.result.now c.unary_word.ensures c.get.ensures c.in_ok-push_fixed-in-Unary.ensures c.push_operand.ensures))

pub push_operand-returns-in_ok-push_operand-in-Binary : goal.push_operand-returns-in_ok-push_operand-in-Binary
push_operand-returns-in_ok-push_operand-in-Binary t c =
    rw c.in-Binary.is
    (layer _ (v.outs-Binary _ _ _)
    (two_operands (binary_keyword c.in-Binary.operator) c.binary_word.result _ _ c.get-in-Binary.result.now c.get-in-Binary-2.result.now c.binary_word.ensures c.get-in-Binary.ensures c.get-in-Binary-2.ensures
    c.in_ok-push_fixed-in-Binary.ensures c.in_ok-push_operand-in-Binary.ensures c.push_operand-in-Binary-2.ensures))

pub push_operand-returns-in_ok-push_operand-in-And : goal.push_operand-returns-in_ok-push_operand-in-And
push_operand-returns-in_ok-push_operand-in-And t c =
    rw c.in-And.is
    (layer _ (v.outs-And _ _)
    (two_operands k.And k.And _ _ c.get-in-And.result.now c.get-in-And-2.result.now refl c.get-in-And.ensures c.get-in-And-2.ensures c.in_ok-push_fixed-in-And.ensures c.in_ok-push_operand-in-And.ensures c.push_operand-in-And-2.ensures))

pub push_operand-returns-in_ok-push_operand-in-Or : goal.push_operand-returns-in_ok-push_operand-in-Or
push_operand-returns-in_ok-push_operand-in-Or t c =
    rw c.in-Or.is
    (layer _ (v.outs-Or _ _)
    (two_operands k.Or k.Or _ _ c.get-in-Or.result.now c.get-in-Or-2.result.now refl c.get-in-Or.ensures c.get-in-Or-2.ensures c.in_ok-push_fixed-in-Or.ensures c.in_ok-push_operand-in-Or.ensures c.push_operand-in-Or-2.ensures))

pub push_operand-returns-in_ok-push_number-in-List : goal.push_operand-returns-in_ok-push_number-in-List
push_operand-returns-in_ok-push_number-in-List t c =
    rw c.in-List.is
    (layer _ (v.outs-List _) (some_operands k.List c.len.result _ c.as_slice.result.now c.len.ensures c.as_slice.ensures c.in_ok-push_fixed-in-List.ensures c.in_ok-push_number-in-List.ensures c.push_operands.ensures))

pub push_operand-returns-in_ok-push_fixed-in-Query : goal.push_operand-returns-in_ok-push_fixed-in-Query
push_operand-returns-in_ok-push_fixed-in-Query t c =
    rw c.in-Query.is (layer _ (v.outs-Query _ _) (λ depth. asked (query_keyword c.in-Query.asked) c.query_word.result _ c.query_word.ensures c.in_ok-push_fixed-in-Query.ensures c.push_name-in-Query.ensures))

pub push_operands-loop-item-preserved : goal.push_operands-loop-item-preserved
push_operands-loop-item-preserved t c = next_expression c.loop-item.item-index c.args.items.now c.item-item.result c.loop-item-test.true c.item-item.is c.loop-item.invariant c.in_ok-push_operand.ensures

pub push_operand-returns-in_err-push_fixed-in-Unary : goal.push_operand-returns-in_err-push_fixed-in-Unary
push_operand-returns-in_err-push_fixed-in-Unary t c = broken_expression c.from_residual.ensures.0 c.in_err-push_fixed-in-Unary.ensures.front

pub push_operand-returns-in_err-push_fixed-in-Binary : goal.push_operand-returns-in_err-push_fixed-in-Binary
push_operand-returns-in_err-push_fixed-in-Binary t c = broken_expression c.from_residual-in_err-push_fixed-in-Binary.ensures.0 c.in_err-push_fixed-in-Binary.ensures.front

pub push_operand-returns-in_err-push_operand-in-Binary : goal.push_operand-returns-in_err-push_operand-in-Binary
push_operand-returns-in_err-push_operand-in-Binary t c =
    broken_expression c.from_residual-in_err-push_operand-in-Binary.ensures.0 (through _ _ _ c.in_err-push_operand-in-Binary.ensures.front c.in_ok-push_fixed-in-Binary.ensures.front)

pub push_operand-returns-in_err-push_fixed-in-And : goal.push_operand-returns-in_err-push_fixed-in-And
push_operand-returns-in_err-push_fixed-in-And t c = broken_expression c.from_residual-in_err-push_fixed-in-And.ensures.0 c.in_err-push_fixed-in-And.ensures.front

pub push_operand-returns-in_err-push_operand-in-And : goal.push_operand-returns-in_err-push_operand-in-And
push_operand-returns-in_err-push_operand-in-And t c =
    broken_expression c.from_residual-in_err-push_operand-in-And.ensures.0 (through _ _ _ c.in_err-push_operand-in-And.ensures.front c.in_ok-push_fixed-in-And.ensures.front)

pub push_operand-returns-in_err-push_fixed-in-Or : goal.push_operand-returns-in_err-push_fixed-in-Or
push_operand-returns-in_err-push_fixed-in-Or t c = broken_expression c.from_residual-in_err-push_fixed-in-Or.ensures.0 c.in_err-push_fixed-in-Or.ensures.front

pub push_operand-returns-in_err-push_operand-in-Or : goal.push_operand-returns-in_err-push_operand-in-Or
push_operand-returns-in_err-push_operand-in-Or t c =
    broken_expression c.from_residual-in_err-push_operand-in-Or.ensures.0 (through _ _ _ c.in_err-push_operand-in-Or.ensures.front c.in_ok-push_fixed-in-Or.ensures.front)

pub push_operand-returns-in_err-push_fixed-in-List : goal.push_operand-returns-in_err-push_fixed-in-List
push_operand-returns-in_err-push_fixed-in-List t c = broken_expression c.from_residual-in_err-push_fixed-in-List.ensures.0 c.in_err-push_fixed-in-List.ensures.front

pub push_operand-returns-in_err-push_number-in-List : goal.push_operand-returns-in_err-push_number-in-List
push_operand-returns-in_err-push_number-in-List t c =
    broken_expression c.from_residual-in_err-push_number-in-List.ensures.0 (through _ _ _ c.in_err-push_number-in-List.ensures.front c.in_ok-push_fixed-in-List.ensures.front)

pub push_operand-returns-in_err-push_fixed-in-Query : goal.push_operand-returns-in_err-push_fixed-in-Query
push_operand-returns-in_err-push_fixed-in-Query t c = broken_expression c.from_residual-in_err-push_fixed-in-Query.ensures.0 c.in_err-push_fixed-in-Query.ensures.front

pub push_operands-returns-in_err-push_operand : goal.push_operands-returns-in_err-push_operand
push_operands-returns-in_err-push_operand t c = broken_expressions c.from_residual.ensures.0 (through _ _ _ c.in_err-push_operand.ensures.front c.loop-item.invariant.front)
