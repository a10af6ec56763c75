use Rattle.std.proofs.Common.{ap, arith, length, sym, subst, ◌≡◌, ◌≤◌, ◌<◌, ◌∙◌, List}
use Rattle.std.specs.List.{All}
use Rattle.due_timers.specs.declared.heap.Timer.{Timer}
use Rattle.due_timers.specs.Heap.{timer, timer_at}
use Rattle.due_timers.specs.SeenTimers.{IsNotAfter}
use Rattle.due_timers.proofs.Tying.{default_free}
use Rattle.due_timers.proofs.Timing.{first_is_least, first_due}
use Rattle.due_timers.proofs.heap.Timers.least.Goals as goal

pub returns-clause-least : goal.returns-clause-least
returns-clause-least c =
    let xs = c.self.inside.heap.items in
    let x = c.index-first.result.now in
    let some : 0 < length xs = (let e = c.if-len-eq0.false in let l = c.len.ensures in omega arith) in
    let first : x ≡ timer_at xs 0 = c.index-first.ensures ∙ default_free xs 0 x (timer 0 0 0) some in
    let least : All (IsNotAfter x) xs = subst (λ (t : Timer). All (IsNotAfter t) xs) (sym first) (first_is_least xs c.self.invariant.ordered c.self.invariant.in_range some) in
    subst (λ (l : List Timer). All (λ t. x.deadline ≤ t.deadline) l) (ap (λ v. v.timers) c.self.view_is) (first_due xs x least)
