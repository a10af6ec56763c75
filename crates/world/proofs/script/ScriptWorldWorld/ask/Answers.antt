use Rattle.std.proofs.Common.{ℕ, [], ◌∷◌, ◌++◌, refl, sym, ap, subst}
use Rattle.world_rules.specs.declared.question.LogEntry.{LogEntry}
use Rattle.world_rules.specs.Rules.{RuleState, start, Follows}
use Rattle.world_rules.proofs.Logs.{Follows-asked}
use Rattle.world.specs.Kept.{rule_state}
use Rattle.world.proofs.script.ScriptWorldWorld.ask.Goals as goal

pub returns-clause-stored : goal.returns-clause-stored
returns-clause-stored c = let state = c.in_ok-store.ensures.state [] [] in let setting = c.in_ok-store.ensures.setting in record {
  posts = ap (λ s. s.posts) state;
  answers = ap (λ s. s.answers) state;
  at = ap (λ s. s.moment) state;
  moment = c.in_ok-store.ensures.moment;
  rest = record { workers = setting.workers; tick = setting.tick; listed = refl; runs = setting.running; reference = refl };
}

pub returns-clause-log : goal.returns-clause-log
returns-clause-log c = λ log h. let state = c.in_ok-store.ensures.state [] [] in let tick = c.in_ok-store.ensures.setting.tick in
    subst (λ (z : ℕ × RuleState). Follows z.0 (start []) (log ++ LogEntry.Asked c.args.question c.by_script-answer.result ∷ []) z.1) (λ i. (sym tick i, sym state i))
    (Follows-asked log c.args.self.now.tick (start []) (rule_state c.args.self.now []) c.args.question c.by_script-answer.result [] h (c.by_script-answer.ensures.script, refl))
