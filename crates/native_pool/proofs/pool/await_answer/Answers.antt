use Rattle.std.proofs.Common.{rules, arith, ◌∙◌, sym}
use Rattle.std.proofs.lemmas.Grind.{common_steps}
use Rattle.native_pool.specs.Desks.{Settles}
use Rattle.native_pool.specs.Views.{desk_view}
use Rattle.native_pool.proofs.DeskSteps.{rests_trans}
use Rattle.native_pool.proofs.AnswerSteps.{gives_after}
use Rattle.native_pool.proofs.pool.await_answer.Goals as goal

pub returns-in-Some-try_answer-clause-gives : goal.returns-in-Some-try_answer-clause-gives
returns-in-Some-try_answer-clause-gives g c =
    gives_after (desk_view c.args.desk.now) (desk_view c.loop.desk) (desk_view c.try_answer.new.desk) c.in-Some-try_answer.answer c.loop.invariant.rests c.in-Some-try_answer.ensures.gives

pub loop-preserved : goal.loop-preserved
loop-preserved g c =
    let settled : Settles (desk_view c.loop.desk) (desk_view c.try_answer.new.desk) = search rules in let was = c.loop.invariant in let same = c.try_answer.ensures.same in let timely = c.try_answer.ensures.timely in record {
      can = search rules;
      finite = search rules;
      posts = search rules;
      answers = search rules;
      room = search rules;
      later = search rules;
      began = search rules;
      timely = grind (arith, common_steps);
      rests = rests_trans _ _ _ was.rests settled.rests;
      made = same.made ∙ (was.made ∙ sym same.cells);
      jobs = c.try_answer.ensures.jobs;
    }
