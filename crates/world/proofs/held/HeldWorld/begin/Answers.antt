use Rattle.std.proofs.Common.{refl, sym, ap, subst}
use Rattle.std.specs.Prelude.{nat_eq, ℕ, List, [], Option}
use Rattle.std.specs.Map.{lookup}
use Rattle.gv_values.specs.declared.job.JobOutcome.{JobOutcome}
use Rattle.std.specs.HashMap.{get}
use Rattle.world_rules.specs.Rules.{RuleState}
use Rattle.world.proofs.Tying.{tied_after_begin}
use Rattle.std.proofs.Math.Logic.{∥∥₁_map}
use Rattle.world.specs.Holding.{IsTied}
use Rattle.world.specs.Kept.{script_meaning}
use Rattle.world.specs.Outside.{WorldMeaning}
use Rattle.world.proofs.LegalLogs.{logged_begun, logged_same}
use Rattle.world.proofs.held.HeldWorld.begin.Goals as goal

pub invariant_of-self-2-clause-tied : goal.invariant_of-self-2-clause-tied
invariant_of-self-2-clause-tied g c =
    tied_after_begin (g.W.World.meaning c.args.self.now.inner.now) (g.W.World.meaning c.begin.new.self) c.restart.new.self (get nat_eq c.clear.new.self) c.args.workers c.requires.some
    c.in_ok-begin.ensures.begins (c.restart.ensures.state []) c.restart.ensures.setting.1 c.restart.ensures.setting.2 (λ n. ap (λ (es : List (ℕ × Option JobOutcome)). lookup (nat_eq n) es) c.clear.ensures.empty)

pub returns-clause-begins : goal.returns-clause-begins
returns-clause-begins g c = let state = c.restart.ensures.state [] in let setting = c.restart.ensures.setting in record {
  posts = ap (λ (s : RuleState). s.posts) state;
  answers = ap (λ (s : RuleState). s.answers) state;
  moment = ap (λ (s : RuleState). s.moment) state;
  workers_are = setting.1;
  tick = setting.0;
  runs = setting.2;
  reference = refl;
}

pub returns-clause-log : goal.returns-clause-log
returns-clause-log g c = sym (c.restart.ensures.state [])

pub invariant_of-self-2-clause-logged : goal.invariant_of-self-2-clause-logged
invariant_of-self-2-clause-logged g c = λ some_.
    ∣ logged_begun (g.W.World.meaning c.args.self.now.inner.now) (g.W.World.meaning c.begin.new.self) (g.W.World.stands_for c.begin.new.self) c.args.workers
    c.in_ok-begin.ensures.begins c.in_ok-begin.ensures.log ∣₁

pub invariant_of-self : goal.invariant_of-self
invariant_of-self g c = let h = c.args.self.now in let same = c.in_err-begin.ensures.refused in record {
  no_tick = h.no_tick;
  tied = subst (λ (m : WorldMeaning). IsTied m (script_meaning h.script) (get nat_eq h.places)) (sym same) h.tied;
  logged = λ some_. ∥∥₁_map (h.logged some_) (λ l.
      logged_same (g.W.World.meaning h.inner.now) (g.W.World.meaning c.begin.new.self) (g.W.World.stands_for h.inner.now) (g.W.World.stands_for c.begin.new.self)
      l (ap (λ (m : WorldMeaning). m.posts) same) (ap (λ (m : WorldMeaning). m.answers) same) c.in_err-begin.ensures.refused_log);
}
