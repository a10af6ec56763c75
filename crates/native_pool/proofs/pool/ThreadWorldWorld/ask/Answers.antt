use Rattle.std.proofs.Common.{arith, ◌++◌, ◌∷◌, List, [], refl, sym, ap, subst, ◌∙◌}
use Rattle.std.proofs.lemmas.Grind.{common_steps}
use Rattle.std.specs.Prelude.{option_map}
use Rattle.gv_values.specs.declared.job.Answer.{Answer}
use Rattle.world_rules.specs.declared.question.PostedJob.{PostedJob}
use Rattle.world_rules.specs.Legal.{IsLegal}
use Rattle.world_rules.proofs.Logs.{posts_of-asked, answers_of-asked}
use Rattle.native_pool.specs.Views.{desk_view}
use Rattle.native_pool.proofs.AnswerSteps.{balances_as}
use Rattle.native_pool.proofs.PoolSteps.{sound_on, sound_running, starts_of}
use Rattle.native_pool.proofs.pool.ThreadWorldWorld.ask.Goals as goal

pub await_answer-requires-clause-jobs : goal.await_answer-requires-clause-jobs
await_answer-requires-clause-jobs g c =
    let d = desk_view c.in-Some.desk in let was = c.self.invariant.running d (ap (option_map desk_view) c.in-Some.is) in
    balances_as d _ _ _ _ c.in_ok-reserve.ensures.posts c.in_ok-reserve.ensures.answers was.jobs

pub invariant_of-self-2 : goal.invariant_of-self-2
invariant_of-self-2 g c =
    let d = desk_view c.in-Some.desk in let e = desk_view c.await_answer.new.desk in let was = c.self.invariant.running d (ap (option_map desk_view) c.in-Some.is) in
    sound_running _ e refl (grind (arith, common_steps)) (sound_on _ _ d e was c.await_answer.ensures.same c.await_answer.ensures.jobs refl refl)

pub returns-clause-legal : goal.returns-clause-legal
returns-clause-legal g c =
    let posts = c.in_ok-reserve.ensures.posts ∙ ap (λ p. p.posts) c.self.view_is in let answers = c.in_ok-reserve.ensures.answers ∙ ap (λ p. p.answers) c.self.view_is in
    subst (λ (l : List PostedJob). IsLegal l c.args.self.now.answers c.args.question c.await_answer.result) posts
    (subst (λ (l : List Answer). IsLegal c.reserve.new.self.posts.items l c.args.question c.await_answer.result) answers c.await_answer.ensures.legal)

pub returns-clause-log : goal.returns-clause-log
returns-clause-log g c = λ log h. let a = c.await_answer.result in (
  posts_of-asked log c.args.question a
      ∙ (h.0 ∙ (ap (λ p. p.posts) (sym c.self.view_is) ∙ (sym c.in_ok-reserve.ensures.posts ∙ sym c.await_answer.ensures.posts))),
  answers_of-asked log c.args.question a
      ∙ (ap (λ l. l ++ a ∷ []) (h.1 ∙ (ap (λ p. p.answers) (sym c.self.view_is) ∙ sym c.in_ok-reserve.ensures.answers)) ∙ sym c.await_answer.ensures.answers),
)

pub returns-clause-starts : goal.returns-clause-starts
returns-clause-starts g c =
    let d = desk_view c.in-Some.desk in let e = desk_view c.await_answer.new.desk in let was = c.self.invariant.running d (ap (option_map desk_view) c.in-Some.is) in
    starts_of _ e refl (sound_on _ _ d e was c.await_answer.ensures.same c.await_answer.ensures.jobs refl refl) c.await_answer.new.desk.used
