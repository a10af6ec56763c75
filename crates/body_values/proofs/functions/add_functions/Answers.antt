use Rattle.body_blocks.specs.Making.{made}
use Rattle.body_blocks.proofs.Growing.{all_left, all_made, taken_more}
use Rattle.body_values.specs.Codes.{function_of}
use Rattle.body_values.proofs.functions.add_functions.Goals as goal

pub loop-function-init : goal.loop-function-init
loop-function-init c = record {
  kept = c.requires;
  taken = all_left function_of (made c.args.making.now) c.in_ok-flat.flat.items c.args.functions c.in_ok-flat.ensures.items;
}

pub loop-function-preserved : goal.loop-function-preserved
loop-function-preserved c = record {
  kept = c.in_ok-one.ensures.kept;
  taken =
      taken_more function_of (made c.loop-function.making) (made c.add_function.new.making) c.loop-function.left c.pop.new.self c.loop-function.flat.items c.in_ok-one.one
      c.in-Some.function c.args.functions c.loop-function.invariant.taken c.in_ok-one.ensures.grows c.in_ok-one.ensures.same c.in-Some.ensures c.push.new.self.items
      c.in_ok-push.ensures.items;
}

pub returns-clause-same : goal.returns-clause-same
returns-clause-same c =
    all_made function_of (made c.loop-function.making) c.loop-function.left c.loop-function.flat.items c.turned.result c.args.functions c.loop-function.invariant.taken
    c.in_default.ensures.0 c.turned.ensures
