use Rattle.std.specs.Prelude.{nat_eq}
use Rattle.std.specs.HashMap.{get}
use Rattle.world.proofs.Sound.{sound_answer}
use Rattle.world.proofs.Finding.{due_less, less_posted}
use Rattle.world.proofs.script.ScriptWorld.store.Goals as goal

pub invariant_of-self-2 : goal.invariant_of-self-2
invariant_of-self-2 c = let w = c.args.self.now in
    let f = get nat_eq w.outstanding.by_number in let g = get nat_eq c.take_off.new.self.by_number in
    let due = due_less f g w.posts.items c.args.answer w.outstanding.named c.take_off.ensures in
    record {
      posted = less_posted f g w.posts.items c.args.answer c.take_off.ensures w.posted;
      sound = rw (c.in_ok-push.ensures.items, c.moment_of-self.ensures, due) (sound_answer _ _ _ _ _ _ w.sound c.requires);
    }

pub returns-clause-state : goal.returns-clause-state
returns-clause-state c = λ old later. let w = c.args.self.now in
    let f = get nat_eq w.outstanding.by_number in let g = get nat_eq c.take_off.new.self.by_number in
    let due = due_less f g w.posts.items c.args.answer w.outstanding.named c.take_off.ensures in
    λ i. record { listed = later; posts = w.posts.items; answers = c.in_ok-push.ensures.items i; jobs = due i; moment = c.moment_of-self.ensures i }
