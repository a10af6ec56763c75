use Rattle.std.proofs.Common.{refl, sym, ap, subst, ℕ, [], ◌∷◌, ◌++◌, arith}
use Rattle.std.specs.Prelude.{nat_eq}
use Rattle.std.specs.HashMap.{get}
use Rattle.world_rules.specs.declared.question.LogEntry.{LogEntry}
use Rattle.world_rules.specs.Rules.{RuleState, start, Follows}
use Rattle.world_rules.proofs.Logs.{Follows-post}
use Rattle.world.specs.Kept.{rule_state}
use Rattle.world.proofs.Tying.{tied_after_post}
use Rattle.std.proofs.Math.Logic.{∥∥₁_map}
use Rattle.world.proofs.held.HeldWorld.post.Goals as goal

pub invariant_of-self-2-clause-tied : goal.invariant_of-self-2-clause-tied
invariant_of-self-2-clause-tied g c = let h = c.args.self.now in
    tied_after_post (g.W.World.meaning h.inner.now) (g.W.World.meaning c.add_beside.new.other) h.script c.add_beside.new.self (get nat_eq h.places) (get nat_eq c.insert.new.self)
    c.args.number c.args.job c.args.takes c.add_beside.result h.tied c.requires.runs c.requires.new c.in_ok-insert.ensures.updates.0
    c.add_beside.ensures.state c.add_beside.ensures.setting c.add_beside.ensures.refused c.add_beside.ensures.posted c.add_beside.ensures.refused_there

pub returns-clause-posted : goal.returns-clause-posted
returns-clause-posted g c = let state = c.in_ok-add_beside.ensures.state [] in let setting = c.in_ok-add_beside.ensures.setting in
    let same = ap (λ (s : RuleState). s.moment) state in let fits = c.args.self.now.script.sound.fits in record {
      posts = ap (λ (s : RuleState). s.posts) state;
      answers = ap (λ (s : RuleState). s.answers) state;
      moment = omega arith;
      fits = omega arith;
      rest = record { workers = setting.workers; tick = setting.tick; listed = refl; runs = setting.running; reference = refl };
    }

pub returns-clause-log : goal.returns-clause-log
returns-clause-log g c = λ log h. let s = c.args.self.now.script in let state = c.in_ok-add_beside.ensures.state [] in let tick = c.in_ok-add_beside.ensures.setting.tick in
    subst (λ (z : ℕ × RuleState). Follows z.0 (start []) (log ++ LogEntry.Post c.args.number c.args.job c.args.takes ∷ []) z.1) (λ i. (sym tick i, sym state i))
    (Follows-post log s.tick (start []) (rule_state s []) c.args.number c.args.job c.args.takes h)

pub invariant_of-self-2-clause-logged : goal.invariant_of-self-2-clause-logged
invariant_of-self-2-clause-logged g c = λ some_. let h = c.args.self.now in ∥∥₁_map (h.logged (h.tied.begun c.requires.runs)) c.add_beside.ensures.logged_there
