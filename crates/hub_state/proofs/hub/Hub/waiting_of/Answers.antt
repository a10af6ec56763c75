use Rattle.std.proofs.Common.{sym, subst, Option}
use Rattle.std.specs.Prelude.{IfSome}
use Rattle.machine.specs.declared.items.Waiting.{Waiting}
use Rattle.hub_items.specs.Short.{IsShort}
use Rattle.hub_items.proofs.Shorts.{short_wait}
use Rattle.held_items.specs.Entries.{flat}
use Rattle.hub_state.proofs.hub.Hub.waiting_of.Goals as goal

pub returns-clause-short : goal.returns-clause-short
returns-clause-short c = subst (λ (o : Option Waiting). IfSome o IsShort) (sym c.waiting_of.ensures) (short_wait c.args.g (flat c.self.inside.held.entries) c.self.invariant.kept.sound.short)
