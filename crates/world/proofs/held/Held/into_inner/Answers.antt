use Rattle.std.specs.Prelude.{nat_eq}
use Rattle.std.specs.HashMap.{get}
use Rattle.world.specs.Kept.{script_meaning}
use Rattle.world.proofs.Tying.{leads}
use Rattle.world.proofs.held.Held.into_inner.Goals as goal

pub returns-clause-leads : goal.returns-clause-leads
returns-clause-leads g c = let h = c.args.self in leads (g.W.World.meaning h.inner.now) (script_meaning h.script) (get nat_eq h.places) h.tied
