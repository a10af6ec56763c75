use Rattle.std.proofs.Common.{◌≡◌, ◌∙◌, get_or}
use Rattle.body_blocks.specs.Making.{made}
use Rattle.body_blocks.proofs.Growing.{grown, same_grow}
use Rattle.body_values.proofs.Parameters.{more_numbers, no_numbers}
use Rattle.body_values.proofs.functions.number_names.Goals as goal

pub loop-name-init : goal.loop-name-init
loop-name-init c = record {
  kept = c.requires;
  grows = same_grow (made c.args.making.now);
  same = no_numbers (made c.args.making.now) c.from_vec-numbers.result (c.from_vec-numbers.ensures ∙ c.in_ok-with_capacity.ensures.items);
}

pub loop-name-preserved : goal.loop-name-preserved
loop-name-preserved c = let here : c.name-item.result ≡ get_or c.args.names.now c.loop-name.name-index c.name-item.result = cc in record {
  kept = c.in_ok-number.ensures.kept;
  grows = grown (made c.args.making.now) (made c.loop-name.making) (made c.number.new.self) c.loop-name.invariant.grows c.in_ok-number.ensures.grows;
  same =
      more_numbers (made c.loop-name.making) (made c.number.new.self) c.loop-name.numbers c.push.new.self c.in_ok-number.number c.args.names.now c.loop-name.name-index c.name-item.result
      c.in_ok-number.ensures.grows c.loop-name.invariant.same (λ more. c.in_ok-number.ensures.same more ∙ here) c.in_ok-push.ensures.ok c.loop-name-test.true;
}
