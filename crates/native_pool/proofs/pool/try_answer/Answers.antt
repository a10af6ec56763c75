use Rattle.std.proofs.Common.{rules, arith, ◌≤◌, ◌++◌, ◌∷◌, List, [], ap, subst, ◌∙◌}
use Rattle.gv_values.specs.declared.job.Answer.{Answer}
use Rattle.world_rules.specs.Legal.{last_answered_moment}
use Rattle.native_pool.specs.Desks.{Settles}
use Rattle.native_pool.specs.Views.{desk_view}
use Rattle.native_pool.proofs.AnswerSteps.{balances_as}
use Rattle.native_pool.proofs.pool.try_answer.Goals as goal

pub returns-in_default-clause-jobs : goal.returns-in_default-clause-jobs
returns-in_default-clause-jobs g c =
    let old = c.args.history.now in let settled : Settles (desk_view c.args.desk.now) (desk_view c.offered.new.desk) = search rules in
    balances_as (desk_view c.offered.new.desk) old.posts.items c.advance.new.self.posts.items old.answers.items c.advance.new.self.answers.items
    (ap (λ v. v.items) c.advance.ensures.posts) (ap (λ v. v.items) c.advance.ensures.answers) (settled.rests.jobs old.posts.items old.answers.items c.requires.jobs)

pub returns-clause-legal : goal.returns-clause-legal
returns-clause-legal g c =
    let old = c.args.history.now in let new = c.advance.new.self in let due = c.in-Some.ensures.due old.posts.items old.answers.items c.requires.jobs in
    let at = c.in-Some.ensures.at in let fits = new.fits in
    let timely = subst (λ (l : List Answer). last_answered_moment l ≤ new.moment) (ap (λ v. v.items) c.advance.ensures.answers) new.timely in
    (due.0, omega (arith, at, timely), omega (arith, at, fits))

pub returns-clause-jobs : goal.returns-clause-jobs
returns-clause-jobs g c =
    let old = c.args.history.now in let due = c.in-Some.ensures.due old.posts.items old.answers.items c.requires.jobs in
    balances_as (desk_view c.offered.new.desk) old.posts.items c.store.new.self.posts.items (old.answers.items ++ c.in-Some.answer ∷ []) c.store.new.self.answers.items
    (c.store.ensures.posts ∙ ap (λ v. v.items) c.advance.ensures.posts) (c.store.ensures.answers ∙ ap (λ v. v.items ++ c.in-Some.answer ∷ []) c.advance.ensures.answers) due.1
