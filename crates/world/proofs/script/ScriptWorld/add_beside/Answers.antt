use Rattle.std.proofs.Common.{sym, ap, ◌∙◌, subst, refl, arith, List, [], ◌∷◌, ◌++◌}
use Rattle.std.specs.Prelude.{nat_eq}
use Rattle.std.specs.HashMap.{get}
use Rattle.std.proofs.lemmas.Result.{err_from_is_err_and}
use Rattle.world_rules.specs.declared.question.PostedJob.{PostedJob}
use Rattle.world_rules.specs.declared.question.DueJob.{DueJob}
use Rattle.world_rules.specs.Legal.{posted}
use Rattle.world_rules.specs.Script.{due_job}
use Rattle.world.specs.Kept.{due_jobs}
use Rattle.world.specs.Ruled.{IsSound}
use Rattle.world.specs.Outstanding.{still_due, ArePosted}
use Rattle.world.proofs.Sound.{sound_post}
use Rattle.world.proofs.Finding.{due_more, more_posted, same_due}
use Rattle.world.proofs.LegalLogs.{logged_post}
use Rattle.world.proofs.Ranking.{at_ok}
use Rattle.world.proofs.script.ScriptWorld.add_beside.Goals as goal

pub returns-in_err-add-clause-refused : goal.returns-in_err-add-clause-refused
returns-in_err-add-clause-refused g c = let w = c.args.self.now in
    let f = get nat_eq w.outstanding.by_number in let g = get nat_eq c.add.new.self.by_number in
    let posts = c.in_ok-reserve.ensures.items in
    let p = err_from_is_err_and c.from_residual-in_err-add.result c.from_residual-in_err-add.ensures.1 in rw p.1 (record {
      setting = record { tick = refl; workers = refl; running = refl };
      posts = posts;
      answers = refl;
      jobs = ap (still_due g) posts ∙ same_due f g w.posts.items c.in_err-add.ensures.refused;
      moment = refl;
    })

pub invariant_of-self-2 : goal.invariant_of-self-2
invariant_of-self-2 g c = let w = c.args.self.now in
    let f = get nat_eq w.outstanding.by_number in let g = get nat_eq c.add.new.self.by_number in
    let due = c.due_at-due.result in let is_due = c.due_at-due.ensures in let job = due_job c.args.number c.args.job due in
    let posts = c.push_reserved.ensures.items ∙ ap (λ (l : List PostedJob). l ++ posted c.args.number c.args.job ∷ []) c.in_ok-reserve.ensures.items in
    let jobs = ap (still_due g) posts ∙ due_more f g job w.posts.items c.in_ok-add.ensures.added c.requires.new in
    record {
      posted = subst (ArePosted g) (sym posts) (more_posted f g job w.posts.items c.in_ok-add.ensures.added w.posted);
      sound = subst (λ (z : List PostedJob × List DueJob). IsSound z.0 w.answers.items z.1 w.moment) (λ i. (sym posts i, sym jobs i))
          (sound_post w.posts.items w.answers.items (due_jobs w) w.moment c.args.number c.args.job due w.sound c.requires.new (omega arith));
    }

pub returns-clause-state : goal.returns-clause-state
returns-clause-state g c = λ listed. let w = c.args.self.now in
    let f = get nat_eq w.outstanding.by_number in let g = get nat_eq c.add.new.self.by_number in
    let job = due_job c.args.number c.args.job c.due_at-due.result in
    let posts = c.push_reserved.ensures.items ∙ ap (λ (l : List PostedJob). l ++ posted c.args.number c.args.job ∷ []) c.in_ok-reserve.ensures.items in
    let jobs = ap (still_due g) posts ∙ (due_more f g job w.posts.items c.in_ok-add.ensures.added c.requires.new
    ∙ ap (λ due. due_jobs w ++ due_job c.args.number c.args.job due ∷ []) c.due_at-due.ensures) in
    λ i. record { listed = listed; posts = posts i; answers = w.answers.items; jobs = jobs i; moment = w.moment }

pub returns-clause-logged_there : goal.returns-clause-logged_there
returns-clause-logged_there g c = λ h.
    logged_post (g.W.World.meaning c.args.other.now) (g.W.World.meaning c.post.new.self) (g.W.World.stands_for c.args.other.now) (g.W.World.stands_for c.post.new.self)
    c.args.number c.args.job h (at_ok c.post.result c.if-is_err.ensures.value c.post.ensures.posted) (at_ok c.post.result c.if-is_err.ensures.value c.post.ensures.log)
