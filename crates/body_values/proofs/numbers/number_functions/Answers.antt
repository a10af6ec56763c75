use Rattle.std.proofs.Common.{map, take}
use Rattle.body_values.specs.Numbers.{numbered}
use Rattle.body_values.proofs.Numbered.{number_given}
use Rattle.body_values.proofs.numbers.number_functions.Goals as goal

pub loop-i-preserved : goal.loop-i-preserved
loop-i-preserved c =
    number_given (λ f. f.name) c.give.new.self c.args.functions.now c.loop-i.i c.index-functions-i.result c.bytes.result.now c.loop-i-test.true c.bytes.ensures.same
    (c.in_ok-give.ensures.holds (numbered 0 (map (λ f. f.name) (take c.loop-i.i c.args.functions.now))) c.loop-i.invariant)
