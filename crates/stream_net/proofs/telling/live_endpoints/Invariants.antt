use Rattle.std.proofs.Common.{◌≡◌, not, take}
use Rattle.std.specs.List.{count_by}
use Rattle.stream_net.proofs.telling.live_endpoints.Given as goal

abbrev pub invariant-loop-endpoint : goal.invariant-loop-endpoint
invariant-loop-endpoint l = l.count ≡ count_by (λ x. not x.account.closed) (take l.endpoint-index l.endpoints)
