use Rattle.std.proofs.Common.{map, take}
use Rattle.body_values.specs.Numbers.{numbered}
use Rattle.body_values.proofs.Numbered.{number_given}
use Rattle.body_values.proofs.numbers.number_objects.Goals as goal

pub loop-i-preserved : goal.loop-i-preserved
loop-i-preserved c =
    number_given (λ d. d.name) c.give.new.self c.args.objects.now c.loop-i.i c.index-objects-i.result c.bytes.result.now c.loop-i-test.true c.bytes.ensures.same
    (c.in_ok-give.ensures.holds (numbered 0 (map (λ d. d.name) (take c.loop-i.i c.args.objects.now))) c.loop-i.invariant)
