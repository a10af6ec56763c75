use Rattle.std.proofs.Common.{◌≡◌, ℕ, [], ◌∷◌, ◌++◌, List, drop, refl, sym, ap, subst, ◌∙◌}
use Rattle.gv_values.specs.declared.job.Answer.{Answer}
use Rattle.world_rules.specs.declared.question.LogEntry.{LogEntry}
use Rattle.world_rules.specs.Rules.{RuleState, start, Follows, Gives}
use Rattle.world_rules.proofs.Logs.{Follows-asked}
use Rattle.world.specs.Kept.{rule_state}
use Rattle.world.proofs.Listing.{gives_first, gives_script}
use Rattle.world.proofs.list.ListWorldWorld.ask.Goals as goal

pub returns-in_ok-store-in-Some-clause-stored : goal.returns-in_ok-store-in-Some-clause-stored
returns-in_ok-store-in-Some-clause-stored c = let state = c.in_ok-store-in-Some.ensures.state [] [] in let setting = c.in_ok-store-in-Some.ensures.setting in record {
  posts = ap (λ (s : RuleState). s.posts) state;
  answers = ap (λ (s : RuleState). s.answers) state;
  at = ap (λ (s : RuleState). s.moment) state;
  moment = c.in_ok-store-in-Some.ensures.moment;
  rest = record { workers = setting.workers; tick = setting.tick; listed = refl; runs = setting.running; reference = refl };
}

pub returns-in_ok-store-in-Some-clause-log : goal.returns-in_ok-store-in-Some-clause-log
returns-in_ok-store-in-Some-clause-log c = λ log h.
    let w = c.args.self.now in let listed = w.listed.items in let later = c.pop_front.new.self.items in let first = c.in-Some.ensures in
    let state = c.in_ok-store-in-Some.ensures.state listed later in let tick = c.in_ok-store-in-Some.ensures.setting.tick in
    let rest : first.0.0 ≡ later = sym (c.pop_front.ensures.rest ∙ ap (λ (l : List Answer). drop 1 l) first.0.1) in
    let gives : Gives w.script.tick (rule_state w.script listed) listed c.args.question c.in-Some.answer later =
    subst (λ (l : List Answer). Gives w.script.tick (rule_state w.script listed) listed c.args.question c.in-Some.answer l) rest (gives_first w.script.tick (rule_state w.script listed) listed first.0.0 c.args.question c.in-Some.answer first.0.1 first.1) in
    subst (λ (z : ℕ × RuleState). Follows z.0 (start w.begun_with.value.items) (log ++ LogEntry.Asked c.args.question c.in-Some.answer ∷ []) z.1) (λ i. (sym tick i, sym state i))
    (Follows-asked log w.script.tick (start w.begun_with.value.items) (rule_state w.script listed) c.args.question c.in-Some.answer later h gives)

pub returns-in_ok-store-in-None-clause-stored : goal.returns-in_ok-store-in-None-clause-stored
returns-in_ok-store-in-None-clause-stored c = let state = c.in_ok-store-in-None.ensures.state [] [] in let setting = c.in_ok-store-in-None.ensures.setting in record {
  posts = ap (λ (s : RuleState). s.posts) state;
  answers = ap (λ (s : RuleState). s.answers) state;
  at = ap (λ (s : RuleState). s.moment) state;
  moment = c.in_ok-store-in-None.ensures.moment;
  rest = record { workers = setting.workers; tick = setting.tick; listed = refl; runs = setting.running; reference = refl };
}

pub returns-in_ok-store-in-None-clause-log : goal.returns-in_ok-store-in-None-clause-log
returns-in_ok-store-in-None-clause-log c = λ log h.
    let w = c.args.self.now in let listed = w.listed.items in let answer = c.by_script-answer.result in
    let state = c.in_ok-store-in-None.ensures.state listed listed in let tick = c.in_ok-store-in-None.ensures.setting.tick in
    let gives : Gives w.script.tick (rule_state w.script listed) listed c.args.question answer listed =
    gives_script w.script.tick (rule_state w.script listed) listed c.args.question answer c.in-None.ensures c.by_script-answer.ensures.script in
    subst (λ (z : ℕ × RuleState). Follows z.0 (start w.begun_with.value.items) (log ++ LogEntry.Asked c.args.question answer ∷ []) z.1) (λ i. (sym tick i, sym state i))
    (Follows-asked log w.script.tick (start w.begun_with.value.items) (rule_state w.script listed) c.args.question answer listed h gives)
