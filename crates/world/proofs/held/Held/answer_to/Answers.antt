use Rattle.std.proofs.Common.{ℕ, sym, ap, subst, ◌∙◌}
use Rattle.std.specs.Prelude.{nat_eq}
use Rattle.std.specs.HashMap.{get}
use Rattle.gv_values.specs.declared.job.Answer.{Answer}
use Rattle.gv_values.specs.declared.job.JobOutcome.{JobOutcome}
use Rattle.world_rules.specs.Evaluate.{eval}
use Rattle.world_rules.specs.Legal.{IsLegal}
use Rattle.world_rules.specs.Script.{scripted}
use Rattle.world.specs.Kept.{due_jobs, script_meaning}
use Rattle.world.specs.declared.script.ScriptWorld.{ScriptWorld}
use Rattle.world.proofs.Tying.{right_is}
use Rattle.world.proofs.held.Held.answer_to.Goals as goal

pub returns-in_ok-outcome-in-Ends-clause-scripted : goal.returns-in_ok-outcome-in-Ends-clause-scripted
returns-in_ok-outcome-in-Ends-clause-scripted g c =
    let h = c.args.self.now in let after = c.fetch.new.self in let job = c.in-Ends.job in let at = c.in-Ends.at in
    let legal = subst (λ (s : ScriptWorld). IsLegal s.posts.items s.answers.items c.args.question (Answer.Done job.number (eval job.job) at)) (sym c.in_ok-outcome-in-Ends.ensures.script) c.in-Ends.ensures.legal in
    let right = right_is (g.W.World.meaning after.inner.now) (script_meaning after.script) (get nat_eq after.places) c.args.question job at c.in_ok-outcome-in-Ends.outcome after.tied legal c.in_ok-outcome-in-Ends.ensures.fetched in
    ap (λ (o : JobOutcome). Answer.Done job.number o at) right
    ∙ (c.in-Ends.ensures.script ∙ ap (λ (t : ℕ). scripted t (due_jobs h.script) h.script.moment c.args.question) h.no_tick)

pub returns-in_ok-outcome-in-Ends-clause-legal : goal.returns-in_ok-outcome-in-Ends-clause-legal
returns-in_ok-outcome-in-Ends-clause-legal g c =
    let h = c.args.self.now in let after = c.fetch.new.self in let job = c.in-Ends.job in let at = c.in-Ends.at in
    let legal = subst (λ (s : ScriptWorld). IsLegal s.posts.items s.answers.items c.args.question (Answer.Done job.number (eval job.job) at)) (sym c.in_ok-outcome-in-Ends.ensures.script) c.in-Ends.ensures.legal in
    let right = right_is (g.W.World.meaning after.inner.now) (script_meaning after.script) (get nat_eq after.places) c.args.question job at c.in_ok-outcome-in-Ends.outcome after.tied legal c.in_ok-outcome-in-Ends.ensures.fetched in
    subst (λ (o : JobOutcome). IsLegal h.script.posts.items h.script.answers.items c.args.question (Answer.Done job.number o at)) (sym right) c.in-Ends.ensures.legal
