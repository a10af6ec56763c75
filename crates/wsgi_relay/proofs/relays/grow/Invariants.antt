use Rattle.std.proofs.Common.{◌≡◌, ℕ, ◌+◌, ◌-◌, length}
use Rattle.wsgi_relay.specs.Tied.{exchange_in}
use Rattle.wsgi_relay.proofs.relays.grow.Given as goal

abbrev pub invariant-loop-exchanges : goal.invariant-loop-exchanges
invariant-loop-exchanges l = (other : ℕ) → exchange_in l.exchanges.items other ≡ exchange_in l.fn.exchanges.items other

abbrev pub decreases-loop-exchanges : goal.decreases-loop-exchanges
decreases-loop-exchanges l = l.slot + 1 - length l.exchanges.items
