use Rattle.std.proofs.Common.{◌<◌, ◌∙◌, arith}
use Rattle.scenario_lines.proofs.Counted.{count_next, nested_next}
use Rattle.scenario_grammar.specs.Reading.{nested_at}
use Rattle.scenario_grammar.specs.declared.token.Token.TheVariants as token
use Rattle.scenario_lines.proofs.expression.+expression.Goals as goal

pub counted-loop-preserved : goal.counted-loop-preserved
counted-loop-preserved t c =
    count_next (nested_at c.args.depth) c.args.count c.loop.counter c.loop.items c.push_part.new.parts c.loop.cursor c.nested.new.cursor c.nested.result c.loop-test.true c.nested.ensures c.in_ok-push_part.ensures ∙ c.loop.invariant

pub nested-returns-in-Fixed : goal.nested-returns-in-Fixed
nested-returns-in-Fixed t c =
    let more : 0 < c.args.depth = omega (arith, c.if-depth-eq0.false) in
    let step = nested_next c.args.depth (token.Fixed c.in-Fixed.word) c.next.new.self more in
    rw (c.in-Some.ensures, c.in-Fixed.is, step, ← c.expression_head.ensures) c.headed.ensures
