use Rattle.std.proofs.Common.{ap}
use Rattle.std.specs.Prelude.{nat_eq, ℕ, List, [], Option}
use Rattle.std.specs.Map.{lookup}
use Rattle.gv_values.specs.declared.job.JobOutcome.{JobOutcome}
use Rattle.std.specs.HashMap.{get}
use Rattle.world_rules.specs.Rules.{RuleState}
use Rattle.world.specs.Kept.{script_meaning}
use Rattle.world.proofs.Tying.{tied_anew}
use Rattle.world.proofs.held.Held.new.Goals as goal

pub invariant_of-result-clause-tied : goal.invariant_of-result-clause-tied
invariant_of-result-clause-tied g c = let state = c.new.ensures.state [] in
    tied_anew (g.W.World.meaning c.args.inner.now) (script_meaning c.new.result) (get nat_eq c.new-2.result) c.requires c.new.ensures.stopped c.new.ensures.workers
    (ap (λ (u : RuleState). u.posts) state) (ap (λ (u : RuleState). u.answers) state) (λ n. ap (λ (es : List (ℕ × Option JobOutcome)). lookup (nat_eq n) es) c.new-2.ensures.empty)
