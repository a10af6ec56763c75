use Rattle.std.proofs.Common.{refl, sym, ap, ◌∙◌}
use Rattle.world_rules.specs.Rules.{RuleState, start}
use Rattle.world.proofs.list.ListWorldWorld.begin.Goals as goal

pub returns-clause-begins : goal.returns-clause-begins
returns-clause-begins c = let listed = c.args.self.now.listed.items in let state = c.restart.ensures.state listed in let setting = c.restart.ensures.setting in record {
  posts = ap (λ (s : RuleState). s.posts) state;
  answers = ap (λ (s : RuleState). s.answers) state;
  moment = ap (λ (s : RuleState). s.moment) state;
  workers_are = setting.1;
  tick = setting.0;
  runs = setting.2;
  reference = refl;
}

pub returns-clause-log : goal.returns-clause-log
returns-clause-log c = ap (λ v. start v.items) c.of.ensures ∙ sym (c.restart.ensures.state c.args.self.now.listed.items)
