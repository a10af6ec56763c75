use Rattle.std.specs.Prelude.{nat_eq}
use Rattle.std.specs.HashMap.{get}
use Rattle.world.proofs.Sound.{legal_now}
use Rattle.world.proofs.Finding.{finds_posted}
use Rattle.world.specs.Kept.{due_jobs}
use Rattle.world.proofs.script.ScriptWorld.is_legal.Goals as goal

pub returns : goal.returns
returns c = let w = c.args.self.now in let same = legal_now w.posts.items w.answers.items (due_jobs w) w.moment c.args.question c.args.answer w.sound in
    let is = c.is_legal.ensures (due_jobs w) (finds_posted (get nat_eq w.outstanding.by_number) w.posts.items w.outstanding.named w.posted) in
    (λ h. same.0 (is.0 h), λ h. is.1 (same.1 h))
