use Rattle.std.proofs.Common.{arith, ◌≡◌, [], sym, ◌∙◌}
use Rattle.std.proofs.lemmas.Grind.{common_steps}
use Rattle.native_pool.specs.Views.{desk_view}
use Rattle.native_pool.proofs.DeskSteps.{due_held, due_swept, due_evaluated, settles, hands_held, hands_swept}
use Rattle.native_pool.proofs.desk.Desk.next.Goals as goal

pub returns-then-not-is_empty-clause-jobs : goal.returns-then-not-is_empty-clause-jobs
returns-then-not-is_empty-clause-jobs c = let t = c.take_first in
    due_held (desk_view c.args.self.now) (desk_view t.new.self) t.result t.ensures.waiting t.ensures.hub t.ensures.first

pub returns-then-not-is_empty-2-clause-jobs : goal.returns-then-not-is_empty-2-clause-jobs
returns-then-not-is_empty-2-clause-jobs c = let t = c.take_first-then-not-is_empty-2 in let m = desk_view c.refill.new.self in
    due_swept (desk_view c.args.self.now) m (desk_view t.new.self) t.result c.refill.ensures.refills
    (due_held m (desk_view t.new.self) t.result t.ensures.waiting t.ensures.hub t.ensures.first)

pub returns-clause-jobs : goal.returns-clause-jobs
returns-clause-jobs c = let t = c.evaluate_oldest in
    due_evaluated (desk_view c.args.self.now) (desk_view c.refill.new.self) (desk_view t.new.self) t.result c.refill.ensures.refills t.ensures.held t.ensures.hub t.ensures.some

pub returns-clause-none : goal.returns-clause-none
returns-clause-none c = λ none. let t = c.evaluate_oldest in let empty = t.ensures.none none in
    let was : c.args.self.now.held.items ≡ [] = grind (arith, common_steps) in let still : c.refill.new.self.held.items ≡ [] = grind (arith, common_steps) in
    settles (desk_view c.args.self.now) (desk_view c.refill.new.self) (desk_view t.new.self) was c.refill.ensures.refills still t.ensures.hub t.ensures.started t.ensures.held
    (empty.1 ∙ sym empty.0) (λ h. empty.0)

pub returns-then-not-is_empty-2-clause-some : goal.returns-then-not-is_empty-2-clause-some
returns-then-not-is_empty-2-clause-some c = let t = c.take_first-then-not-is_empty-2 in
    let was : c.args.self.now.held.items ≡ [] = grind (arith, common_steps) in
    hands_swept (desk_view c.args.self.now) (desk_view c.refill.new.self) (desk_view t.new.self) t.result was c.refill.ensures.refills t.ensures.hub t.ensures.started t.ensures.first t.ensures.waiting

pub returns-then-not-is_empty-clause-some : goal.returns-then-not-is_empty-clause-some
returns-then-not-is_empty-clause-some c = let t = c.take_first in
    hands_held (desk_view c.args.self.now) (desk_view t.new.self) t.result t.ensures.hub t.ensures.started t.ensures.first t.ensures.waiting
