use Rattle.std.proofs.Common.{refl, ◌∙◌}
use Rattle.serve_command.proofs.Ends.{none_told}
use Rattle.gv_top.proofs.Servings.{nobody_served_natively, served_natively}
use Rattle.gv_top.proofs.serving.serve_natively.Goals as goal

pub returns-in_default-clause-serves : goal.returns-in_default-clause-serves
returns-in_default-clause-serves g c = nobody_served_natively _ _ _ _ _ _ _ _ _ c.requires.fresh c.in_default.ensures.refused refl

pub returns-in_default-clause-told : goal.returns-in_default-clause-told
returns-in_default-clause-told g c = none_told _ (g.N.Net.meaning c.args.net.now) _ _ c.requires.fresh.none

pub returns-clause-serves : goal.returns-clause-serves
returns-clause-serves g c = served_natively _ _ _ _ _ _ (g.W.World.meaning c.serve_jobs_command-end.new.world) _ _ _ _ _ c.finish.ensures.ended c.finish.ensures.log c.serve_jobs_command-end.ensures.in_order c.serve_jobs_command-end.ensures.posted
    (c.serve_jobs_command-end.ensures.workers ∙ c.in-Ok.ensures.begins.workers_are) c.serve_jobs_command-end.ensures.serves
