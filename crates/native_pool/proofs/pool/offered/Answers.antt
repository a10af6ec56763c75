use Rattle.std.proofs.Common.{rules, ◌≡◌, ◌≤◌, Some, sym, subst}
use Rattle.world_rules.specs.declared.question.Question.{Question}
use Rattle.gv_values.specs.declared.job.Answer.{Answer}
use Rattle.native_pool.specs.Desks.{Settles, IsDue}
use Rattle.native_pool.specs.Views.{desk_view}
use Rattle.native_pool.proofs.AnswerSteps.{due_done, due_nothing, due_elapsed}
use Rattle.native_pool.proofs.pool.offered.Goals as goal

pub returns-in-Some-clause-due : goal.returns-in-Some-clause-due
returns-in-Some-clause-due c =
    due_done (desk_view c.args.desk.now) (desk_view c.next.new.self) c.in-Some.finished c.args.question c.args.moment c.in-Some.ensures.jobs

pub returns-in-Poll-clause-due : goal.returns-in-Poll-clause-due
returns-in-Poll-clause-due c = let d = desk_view c.args.desk.now in let e = desk_view c.next.new.self in
    let asked : c.args.question ≡ Question.Poll = search rules in let settled : Settles d e = search rules in
    subst (λ (q : Question). IsDue d e q (Answer.Nothing c.args.moment)) (sym asked) (due_nothing d e c.args.moment settled)

pub returns-in-Wait-Some-clause-due : goal.returns-in-Wait-Some-clause-due
returns-in-Wait-Some-clause-due c = let d = desk_view c.args.desk.now in let e = desk_view c.next.new.self in let until = c.in-Wait-Some.until in
    let asked : c.args.question ≡ Question.Wait (Some until) = search rules in let settled : Settles d e = search rules in let come : until ≤ c.args.moment = search rules in
    subst (λ (q : Question). IsDue d e q (Answer.Elapsed c.args.moment)) (sym asked) (due_elapsed d e until c.args.moment come settled)
