use Rattle.std.proofs.Common.{◌≡◌, drop}
use Rattle.http_messages.specs.Environ.{pair_value}
use Rattle.http_messages.proofs.environ.Environ.get.Given as goal

abbrev pub invariant-loop-pair : goal.invariant-loop-pair
invariant-loop-pair l = pair_value l.key l.self ≡ pair_value l.key (drop l.pair-index l.pair-items)
