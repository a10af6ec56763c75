use Rattle.std.proofs.Common.{ℕ, [], ◌∷◌, ◌++◌, refl, sym, ap, subst, arith}
use Rattle.world_rules.specs.declared.question.LogEntry.{LogEntry}
use Rattle.world_rules.specs.Rules.{RuleState, start, Follows}
use Rattle.world_rules.proofs.Logs.{Follows-post}
use Rattle.world.specs.Kept.{rule_state}
use Rattle.world.proofs.script.ScriptWorldWorld.post.Goals as goal

pub returns-clause-posted : goal.returns-clause-posted
returns-clause-posted c = let state = c.in_ok-add.ensures.state [] in let setting = c.in_ok-add.ensures.setting in
    let same = ap (λ s. s.moment) state in let fits = c.args.self.now.sound.fits in record {
      posts = ap (λ s. s.posts) state;
      answers = ap (λ s. s.answers) state;
      moment = omega arith;
      fits = omega arith;
      rest = record { workers = setting.workers; tick = setting.tick; listed = refl; runs = setting.running; reference = refl };
    }

pub returns-clause-log : goal.returns-clause-log
returns-clause-log c = λ log h. let state = c.in_ok-add.ensures.state [] in let tick = c.in_ok-add.ensures.setting.tick in
    subst (λ (z : ℕ × RuleState). Follows z.0 (start []) (log ++ LogEntry.Post c.args.number c.args.job c.args.takes ∷ []) z.1) (λ i. (sym tick i, sym state i))
    (Follows-post log c.args.self.now.tick (start []) (rule_state c.args.self.now []) c.args.number c.args.job c.args.takes h)
