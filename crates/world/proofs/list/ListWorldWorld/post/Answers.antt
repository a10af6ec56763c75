use Rattle.std.proofs.Common.{ℕ, [], ◌∷◌, ◌++◌, refl, sym, ap, subst, arith}
use Rattle.world_rules.specs.declared.question.LogEntry.{LogEntry}
use Rattle.world_rules.specs.Rules.{RuleState, start, Follows}
use Rattle.world_rules.proofs.Logs.{Follows-post}
use Rattle.world.specs.Kept.{rule_state}
use Rattle.world.proofs.list.ListWorldWorld.post.Goals as goal

pub returns-clause-posted : goal.returns-clause-posted
returns-clause-posted c = let state = c.in_ok-add.ensures.state [] in let setting = c.in_ok-add.ensures.setting in
    let same = ap (λ (s : RuleState). s.moment) state in let fits = c.args.self.now.script.sound.fits in record {
      posts = ap (λ (s : RuleState). s.posts) state;
      answers = ap (λ (s : RuleState). s.answers) state;
      moment = omega arith;
      fits = omega arith;
      rest = record { workers = setting.workers; tick = setting.tick; listed = refl; runs = setting.running; reference = refl };
    }

pub returns-clause-log : goal.returns-clause-log
returns-clause-log c = λ log h. let w = c.args.self.now in let listed = w.listed.items in let state = c.in_ok-add.ensures.state listed in let tick = c.in_ok-add.ensures.setting.tick in
    subst (λ (z : ℕ × RuleState). Follows z.0 (start w.begun_with.value.items) (log ++ LogEntry.Post c.args.number c.args.job c.args.takes ∷ []) z.1) (λ i. (sym tick i, sym state i))
    (Follows-post log w.script.tick (start w.begun_with.value.items) (rule_state w.script listed) c.args.number c.args.job c.args.takes h)
