use Rattle.body_values.proofs.Named.{names_more}
use Rattle.body_values.proofs.numbers.tell_object_names.Goals as goal

pub loop-i-preserved : goal.loop-i-preserved
loop-i-preserved c = names_more (λ d. d.name) c.args.objects.now c.loop-i.i c.index-objects-i.result c.loop-i-test.true c.loop-i.invariant c.bytes-name.ensures.name
