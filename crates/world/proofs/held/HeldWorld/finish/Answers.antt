use Rattle.std.proofs.Common.{ap, sym, subst, ◌<◌}
use Rattle.std.specs.Prelude.{nat_eq, false}
use Rattle.std.specs.HashMap.{get}
use Rattle.world.specs.Kept.{script_meaning}
use Rattle.world.specs.Outside.{WorldMeaning}
use Rattle.world.specs.declared.script.ScriptWorld.{ScriptWorld}
use Rattle.world.specs.Holding.{IsTied}
use Rattle.world.proofs.Tying.{tied_finished}
use Rattle.std.proofs.Math.Logic.{∥∥₁_map}
use Rattle.world.proofs.LegalLogs.{logged_same}
use Rattle.world.proofs.held.HeldWorld.finish.Goals as goal

pub invariant_of-self-clause-tied : goal.invariant_of-self-clause-tied
invariant_of-self-clause-tied g c = let h = c.args.self.now in let places = get nat_eq h.places in let inner = g.W.World.meaning h.inner.now in
    subst (λ (m : WorldMeaning). IsTied m (script_meaning c.stop.new.self) places) (sym c.finish.ensures.ended)
    (subst (λ (s : ScriptWorld). IsTied (record inner { runs = false }) (script_meaning s) places) (sym c.stop.ensures)
    (tied_finished inner (script_meaning h.script) places h.tied))

pub invariant_of-self-clause-logged : goal.invariant_of-self-clause-logged
invariant_of-self-clause-logged g c = λ some_. let h = c.args.self.now in
    ∥∥₁_map (h.logged (subst (λ (s : ScriptWorld). 0 < (script_meaning s).workers) c.stop.ensures some_)) (λ l.
    logged_same (g.W.World.meaning h.inner.now) (g.W.World.meaning c.finish.new.self) (g.W.World.stands_for h.inner.now) (g.W.World.stands_for c.finish.new.self)
    l (ap (λ (m : WorldMeaning). m.posts) c.finish.ensures.ended) (ap (λ (m : WorldMeaning). m.answers) c.finish.ensures.ended) c.finish.ensures.log)
