use Rattle.std.proofs.Common.{ℕ, ◌<◌, [], ◌∷◌, ◌++◌, refl, sym, ap, subst, ◌∙◌}
use Rattle.std.specs.Prelude.{nat_eq}
use Rattle.std.specs.HashMap.{get}
use Rattle.world_rules.specs.declared.question.LogEntry.{LogEntry}
use Rattle.world_rules.specs.Legal.{IsLegal}
use Rattle.world_rules.specs.Script.{scripted}
use Rattle.world_rules.specs.Rules.{RuleState, rule_after_answer, start, Follows}
use Rattle.world_rules.proofs.Logs.{Follows-asked}
use Rattle.world.specs.Kept.{due_jobs, rule_state, script_meaning}
use Rattle.world.specs.Outside.{Stores}
use Rattle.world.specs.declared.script.ScriptWorld.{ScriptWorld}
use Rattle.world.proofs.Tying.{tied_stored}
use Rattle.world.proofs.held.HeldWorld.ask.Goals as goal

pub store-requires : goal.store-requires
store-requires g c =
    subst (λ (s : ScriptWorld). IsLegal s.posts.items s.answers.items c.args.question c.in_ok-answer.answer) (sym c.in_ok-answer.ensures.script) c.in_ok-answer.ensures.legal

pub invariant_of-self-2-clause-tied : goal.invariant_of-self-2-clause-tied
invariant_of-self-2-clause-tied g c =
    let h = c.answer_to.new.self in let state = c.in_ok-store.ensures.state [] [] in let setting = c.in_ok-store.ensures.setting in
    tied_stored (g.W.World.meaning h.inner.now) (script_meaning h.script) (script_meaning c.store.new.self) (get nat_eq h.places) (get nat_eq c.clear_place.new.places) c.in_ok-answer.answer h.tied c.in_ok-answer.ensures.came
    (ap (λ (s : RuleState). s.posts) state) (ap (λ (s : RuleState). s.answers) state) setting.workers setting.running c.clear_place.ensures

pub returns-clause-stored : goal.returns-clause-stored
returns-clause-stored g c =
    let h = c.answer_to.new.self in let state = c.in_ok-store.ensures.state [] [] in let setting = c.in_ok-store.ensures.setting in
    subst (λ (s : ScriptWorld). Stores (record (script_meaning s) { reference = c.args.self.now.inner.ghost_name }) (record (script_meaning c.store.new.self) { reference = h.inner.ghost_name }) c.in_ok-answer.answer)
    c.in_ok-answer.ensures.script record {
      posts = ap (λ (s : RuleState). s.posts) state;
      answers = ap (λ (s : RuleState). s.answers) state;
      at = ap (λ (s : RuleState). s.moment) state;
      moment = c.in_ok-store.ensures.moment;
      rest = record { workers = setting.workers; tick = setting.tick; listed = refl; runs = setting.running; reference = c.in_ok-answer.ensures.same_reference };
    }

pub returns-clause-log : goal.returns-clause-log
returns-clause-log g c = λ log h.
    let before = c.args.self.now in let s = before.script in let answer = c.in_ok-answer.answer in
    let state = c.in_ok-store.ensures.state [] [] ∙ ap (λ (s : ScriptWorld). rule_after_answer (rule_state s []) [] answer) c.in_ok-answer.ensures.script in
    let tick = c.in_ok-store.ensures.setting.tick ∙ ap (λ (s : ScriptWorld). s.tick) c.in_ok-answer.ensures.script in
    let gives = c.in_ok-answer.ensures.scripted ∙ ap (λ (t : ℕ). scripted t (due_jobs s) s.moment c.args.question) (sym before.no_tick) in
    subst (λ (z : ℕ × RuleState). Follows z.0 (start []) (log ++ LogEntry.Asked c.args.question answer ∷ []) z.1) (λ i. (sym tick i, sym state i))
    (Follows-asked log s.tick (start []) (rule_state s []) c.args.question answer [] h (gives, refl))

pub invariant_of-self-2-clause-logged : goal.invariant_of-self-2-clause-logged
invariant_of-self-2-clause-logged g c = λ some_. c.answer_to.new.self.logged (subst (λ n. 0 < n) c.in_ok-store.ensures.setting.workers some_)
