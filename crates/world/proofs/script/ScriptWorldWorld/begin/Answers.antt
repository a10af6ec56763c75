use Rattle.std.proofs.Common.{[], refl, sym, ap}
use Rattle.world.proofs.script.ScriptWorldWorld.begin.Goals as goal

pub returns-clause-begins : goal.returns-clause-begins
returns-clause-begins c = let state = c.restart.ensures.state [] in let setting = c.restart.ensures.setting in record {
  posts = ap (λ s. s.posts) state;
  answers = ap (λ s. s.answers) state;
  moment = ap (λ s. s.moment) state;
  workers_are = setting.1;
  tick = setting.0;
  runs = setting.2;
  reference = refl;
}

pub returns-clause-log : goal.returns-clause-log
returns-clause-log c = sym (c.restart.ensures.state [])
