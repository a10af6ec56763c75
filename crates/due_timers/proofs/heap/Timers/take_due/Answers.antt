use Rattle.std.proofs.Common.{ap, arith, ◌^◌, sym, subst, ◌≡◌, ◌<◌, ◌∷◌, List, Contains, refl}
use Rattle.std.specs.List.Sorted.{IsPermutation}
use Rattle.std.proofs.lemmas.List.Elements.{All-tail}
use Rattle.std.proofs.lemmas.List.Sorted.{All-permutation}
use Rattle.due_timers.specs.declared.heap.Timer.{Timer}
use Rattle.std.specs.List.{All}
use Rattle.due_timers.specs.SeenTimers.{deadlines_in, IsNotAfter}
use Rattle.due_timers.proofs.Timing.{first_is_least, due_first, some_due, contains_some}
use Rattle.due_timers.proofs.heap.Timers.take_due.Goals as goal

pub invariant_of-self : goal.invariant_of-self
invariant_of-self c =
    let n = c.take_at-timer.ensures.len in
    let cap = c.take_at-timer.ensures.capacity in
    let f = c.self.invariant.fits in
    record {
      ordered = c.take_at-timer.ensures.ordered;
      tied = c.take_at-timer.ensures.tied;
      within = let a = c.self.invariant.within in omega arith;
      fits = omega arith;
      most = c.self.invariant.most;
      in_range = All-tail (λ t. t.since < 2 ^ 64) c.take_at-timer.result c.take_at-timer.new.heap.items (All-permutation (λ t. t.since < 2 ^ 64) c.self.inside.heap.items (c.take_at-timer.result ∷ c.take_at-timer.new.heap.items) c.take_at-timer.ensures.same c.self.invariant.in_range);
    }

pub returns-in-Some-clause-none : goal.returns-in-Some-clause-none
returns-in-Some-clause-none c =
    (λ e. absurd (cc (e)), λ late. absurd (some_due c.args.self.now.timers c.in-Some.deadline c.args.now c.in-Some.ensures.some c.if-deadline-now.true late))

pub returns-in-Some-clause-taken : goal.returns-in-Some-clause-taken
returns-in-Some-clause-taken c =
    let xs = c.self.inside.heap.items in
    let seen : xs ≡ c.args.self.now.timers = ap (λ v. v.timers) c.self.view_is in
    let there : Contains (deadlines_in xs) c.in-Some.deadline = subst (λ (l : List Timer). Contains (deadlines_in l) c.in-Some.deadline) (sym seen) c.in-Some.ensures.some in
    let least = first_is_least xs c.self.invariant.ordered c.self.invariant.in_range (contains_some xs c.in-Some.deadline there) in
    let first : All (IsNotAfter c.take_at-timer.result) xs = subst (λ (t : Timer). All (IsNotAfter t) xs) (sym c.take_at-timer.ensures.timer) least in
    record {
      timer = c.take_at-timer.result;
      item_is = refl;
      rest = subst (λ l. IsPermutation l (c.take_at-timer.result ∷ c.take_at-timer.new.heap.items)) seen c.take_at-timer.ensures.same;
      holds = (
        let due = due_first xs c.take_at-timer.result c.in-Some.deadline first there in let le = c.if-deadline-now.true in omega arith,
        subst (λ (l : List Timer). All (IsNotAfter c.take_at-timer.result) l) seen first,
      );
    }

pub returns-in-Some-clause-spare : goal.returns-in-Some-clause-spare
returns-in-Some-clause-spare c =
    let n = c.take_at-timer.ensures.len in
    let v = ap (λ v. v.spare) c.self.view_is in
    let w = c.self.invariant.within in
    omega arith
