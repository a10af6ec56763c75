use Rattle.std.proofs.Common.{◌≡◌, take}
use Rattle.std.specs.List.{flat_map}
use Rattle.wsgi_core.specs.Shipped.{pair_text}
use Rattle.wsgi_core.proofs.shipped.environ_text.Given as goal

abbrev pub invariant-loop-pair : goal.invariant-loop-pair
invariant-loop-pair l = l.text.items ≡ flat_map pair_text (take l.pair-index l.pair-items)
