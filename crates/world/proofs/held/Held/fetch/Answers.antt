use Rattle.std.proofs.Common.{◌≡◌, sym, ap, subst, ◌∙◌}
use Rattle.std.specs.Prelude.{nat_eq, true, Option, Some}
use Rattle.std.specs.HashMap.{get}
use Rattle.gv_values.specs.declared.job.JobOutcome.{JobOutcome}
use Rattle.world_rules.specs.Legal.{is_posted}
use Rattle.world.specs.Kept.{script_meaning}
use Rattle.world.specs.declared.script.ScriptWorld.{ScriptWorld}
use Rattle.world.proofs.Tying.{owed_to, placed_there, takes_less, tied_after_take}
use Rattle.std.proofs.Math.Logic.{∥∥₁_map}
use Rattle.world.proofs.held.Held.fetch.Goals as goal

pub take_result-requires-clause-owed : goal.take_result-requires-clause-owed
take_result-requires-clause-owed g c = let h = c.loop-outcome.self in let same = c.loop-outcome.invariant.0 in
    owed_to (g.W.World.meaning h.inner.now) (script_meaning h.script) (get nat_eq h.places) c.args.number h.tied
    (subst (λ (s : ScriptWorld). (script_meaning s).runs ≡ true) (sym same) c.requires.runs)
    (subst (λ (s : ScriptWorld). is_posted c.args.number (script_meaning s).posts ≡ true) (sym same) c.requires.posted)
    (sym c.in-Some-None.ensures.value ∙ ap (λ (o : Option JobOutcome). Some o) c.in-Some-None.field-0-is)

pub take_result-requires-clause-placed : goal.take_result-requires-clause-placed
take_result-requires-clause-placed g c = let h = c.loop-outcome.self in let same = c.loop-outcome.invariant.0 in
    placed_there (g.W.World.meaning h.inner.now) (script_meaning h.script) (get nat_eq h.places) h.tied
    (subst (λ (s : ScriptWorld). (script_meaning s).runs ≡ true) (sym same) c.requires.runs)

pub invariant_of-self-clause-tied : goal.invariant_of-self-clause-tied
invariant_of-self-clause-tied g c = let h = c.loop-outcome.self in let same = c.loop-outcome.invariant.0 in
    tied_after_take (g.W.World.meaning h.inner.now) (g.W.World.meaning c.take_result.new.inner) (script_meaning h.script) (get nat_eq h.places) (get nat_eq c.take_result.new.places) c.take_result.result h.tied
    (subst (λ (s : ScriptWorld). (script_meaning s).runs ≡ true) (sym same) c.requires.runs)
    c.take_result.ensures.took c.take_result.ensures.refused c.take_result.ensures.kept

pub loop-outcome-smaller : goal.loop-outcome-smaller
loop-outcome-smaller g c = let h = c.loop-outcome.self in
    takes_less (g.W.World.meaning h.inner.now) (g.W.World.meaning c.take_result.new.inner) (get nat_eq h.places) (get nat_eq c.take_result.new.places) c.in_ok-take_result-in-Some-None.ensures.took

pub invariant_of-self-clause-logged : goal.invariant_of-self-clause-logged
invariant_of-self-clause-logged g c = λ some_. ∥∥₁_map (c.loop-outcome.self.logged some_) c.take_result.ensures.logged
