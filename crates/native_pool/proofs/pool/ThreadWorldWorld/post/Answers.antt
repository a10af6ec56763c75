use Rattle.std.proofs.Common.{arith, ◌≡◌, ◌++◌, ◌∷◌, List, [], Option, Some, false, refl, sym, ap, subst, ◌∙◌}
use Rattle.std.proofs.lemmas.Grind.{common_steps}
use Rattle.std.specs.Prelude.{option_map}
use Rattle.world_rules.specs.Legal.{posted, is_posted}
use Rattle.world_rules.proofs.Logs.{posts_of-post, answers_of-post}
use Rattle.world_rules.specs.declared.question.PostedJob.{PostedJob}
use Rattle.native_pool.specs.Desks.{DeskView, IsLater, WaitsBehind, KeepsResults}
use Rattle.native_pool.specs.Pools.{Between}
use Rattle.native_pool.specs.Views.{desk_view}
use Rattle.native_pool.proofs.DeskSteps.{keeps_results}
use Rattle.native_pool.proofs.PoolSteps.{sound_post, sound_running, starts_of}
use Rattle.native_pool.proofs.pool.ThreadWorldWorld.post.Goals as goal

pub invariant_of-self-2 : goal.invariant_of-self-2
invariant_of-self-2 g c =
    let n = c.args.number in let j = c.args.job in let d = desk_view c.in-Some.desk in let was = c.self.invariant.running d (ap (option_map desk_view) c.in-Some.is) in
    let new : is_posted n c.self.inside.history.posts.items ≡ false = ap (λ p. is_posted n p.posts) c.self.view_is ∙ c.requires.new in
    let posts = ap (λ v. v.items) c.advance.ensures.posts ∙ (c.add-2.ensures.posts ∙ ap (λ l. l ++ posted n j ∷ []) c.in_ok-reserve_post.ensures.posts) in
    let answers = ap (λ v. v.items) c.advance.ensures.answers ∙ (c.add-2.ensures.answers ∙ c.in_ok-reserve_post.ensures.answers) in
    sound_running _ (desk_view c.fill.new.self) refl (grind (arith, common_steps))
    (sound_post _ _ d (desk_view c.add.new.self) (desk_view c.fill.new.self) n j was new c.in_ok-add.ensures.added c.fill.ensures.fills posts answers refl refl)

pub returns-clause-log : goal.returns-clause-log
returns-clause-log g c = λ log h.
    let n = c.args.number in let j = c.args.job in
    let posts = ap (λ v. v.items) c.advance.ensures.posts ∙ (c.add-2.ensures.posts ∙ ap (λ l. l ++ posted n j ∷ []) c.in_ok-reserve_post.ensures.posts) in
    let answers = ap (λ v. v.items) c.advance.ensures.answers ∙ (c.add-2.ensures.answers ∙ c.in_ok-reserve_post.ensures.answers) in (
      posts_of-post log n j c.args.takes ∙ (ap (λ l. l ++ posted n j ∷ []) (h.0 ∙ ap (λ p. p.posts) (sym c.self.view_is)) ∙ sym posts),
      answers_of-post log n j c.args.takes ∙ (h.1 ∙ (ap (λ p. p.answers) (sym c.self.view_is) ∙ sym answers)),
    )

pub returns-clause-starts : goal.returns-clause-starts
returns-clause-starts g c =
    let n = c.args.number in let j = c.args.job in let d = desk_view c.in-Some.desk in let was = c.self.invariant.running d (ap (option_map desk_view) c.in-Some.is) in
    let new : is_posted n c.self.inside.history.posts.items ≡ false = ap (λ p. is_posted n p.posts) c.self.view_is ∙ c.requires.new in
    let posts = ap (λ v. v.items) c.advance.ensures.posts ∙ (c.add-2.ensures.posts ∙ ap (λ l. l ++ posted n j ∷ []) c.in_ok-reserve_post.ensures.posts) in
    let answers = ap (λ v. v.items) c.advance.ensures.answers ∙ (c.add-2.ensures.answers ∙ c.in_ok-reserve_post.ensures.answers) in
    starts_of _ (desk_view c.fill.new.self) refl
    (sound_post _ _ d (desk_view c.add.new.self) (desk_view c.fill.new.self) n j was new c.in_ok-add.ensures.added c.fill.ensures.fills posts answers refl refl) c.fill.new.self.used

-- the job waits behind the others until a cell is filled
pub returns-clause-waits : goal.returns-clause-waits
returns-clause-waits g c =
    let e = desk_view c.fill.new.self in
    let there = sym (ap (option_map desk_view) c.in-Some.is) ∙ ap (λ p. p.desk) c.self.view_is in
    subst (λ (o : Option DeskView). Between (WaitsBehind c.args.number c.args.job) o (Some e)) there
    (subst (λ (l : List PostedJob). IsLater l e.waiting) (ap (λ (v : DeskView). v.waiting) c.in_ok-add.ensures.added) c.fill.ensures.fills.rests.order)

-- no result is handed on, and none is found
pub returns-clause-held : goal.returns-clause-held
returns-clause-held g c =
    let d = desk_view c.in-Some.desk in let e = desk_view c.fill.new.self in
    let there = sym (ap (option_map desk_view) c.in-Some.is) ∙ ap (λ p. p.desk) c.self.view_is in
    subst (λ (o : Option DeskView). Between KeepsResults o (Some e)) there (keeps_results d (desk_view c.add.new.self) e (d.waiting ++ posted c.args.number c.args.job ∷ []) c.in_ok-add.ensures.added c.fill.ensures.fills)
