use Rattle.std.proofs.Common.{sym, subst}
use Rattle.std.specs.Prelude.{nat_eq}
use Rattle.std.specs.HashMap.{get}
use Rattle.gv_values.specs.declared.job.Answer.{Answer}
use Rattle.world_rules.specs.Legal.{IsLegal}
use Rattle.world.proofs.Finding.{first_is}
use Rattle.world.proofs.Sound.{scripted_legal}
use Rattle.world.specs.Kept.{due_jobs}
use Rattle.world.proofs.script.ScriptWorld.decide.Goals as goal

pub returns-clause-script : goal.returns-clause-script
returns-clause-script c = let w = c.args.self.now in
    c.decide.ensures (due_jobs w) (first_is (get nat_eq w.outstanding.by_number) w.posts.items c.first.result w.outstanding.named w.posted c.first.ensures)

pub returns-clause-legal : goal.returns-clause-legal
returns-clause-legal c = let w = c.args.self.now in
    subst (λ (a : Answer). IsLegal w.posts.items w.answers.items c.args.question a)
    (sym (c.decide.ensures (due_jobs w) (first_is (get nat_eq w.outstanding.by_number) w.posts.items c.first.result w.outstanding.named w.posted c.first.ensures)))
    (scripted_legal _ _ _ _ _ _ w.sound c.requires)
