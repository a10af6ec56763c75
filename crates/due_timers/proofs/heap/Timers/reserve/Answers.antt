use Rattle.std.proofs.Common.{ap, sym, subst, arith, length, ◌≡◌, ◌<◌, ◌≤◌, ◌+◌, ◌^◌}
use Rattle.std.specs.List.{All}
use Rattle.due_timers.specs.declared.limits.TheConstants.{MOST_TIMERS}
use Rattle.due_timers.specs.SeenTimers.{SeenTimers}
use Rattle.due_timers.proofs.Timing.{tied_same, ordered_same}
use Rattle.due_timers.proofs.heap.Timers.reserve.Goals as goal

pub invariant_of-self-in_err-reserve-2 : goal.invariant_of-self-in_err-reserve-2
invariant_of-self-in_err-reserve-2 c =
    let e : c.reserve.new.self.items ≡ c.self.inside.heap.items = c.reserve.ensures.items in
    let n = ap length e in
    let cap = c.reserve.ensures.capacity in
    let was = c.self.invariant.fits in
    record {
      ordered = ordered_same c.self.inside.heap.items c.reserve.new.self.items e c.self.invariant.ordered;
      tied = tied_same c.self.inside.heap.items c.reserve.new.self.items c.self.inside.places c.reserve-2.new.self e c.self.invariant.tied c.reserve-2.ensures.same;
      within = let a = c.self.invariant.within in omega arith;
      fits = omega arith;
      most = c.self.invariant.most;
      in_range = subst (λ l. All (λ t. t.since < 2 ^ 64) l) (sym e) c.self.invariant.in_range;
    }

pub invariant_of-self-2 : goal.invariant_of-self-2
invariant_of-self-2 c =
    let e : c.reserve.new.self.items ≡ c.self.inside.heap.items = c.reserve.ensures.items in
    let n = ap length e in
    let cap = c.reserve.ensures.capacity in
    let ok = c.in_ok-reserve.ensures.ok in
    let len = c.len-len.ensures in
    let few = subst (λ (t : SeenTimers). length t.timers + c.args.n ≤ MOST_TIMERS) (sym c.self.view_is) c.requires in
    let most = c.max-self-inside.ensures in
    let is = c.self.invariant in
    record {
      ordered = ordered_same c.self.inside.heap.items c.reserve.new.self.items e is.ordered;
      tied = tied_same c.self.inside.heap.items c.reserve.new.self.items c.self.inside.places c.reserve-2.new.self e is.tied c.reserve-2.ensures.same;
      within = let a = is.within in omega arith;
      fits = let a = is.fits in omega arith;
      most = let a = is.most in omega arith;
      in_range = subst (λ l. All (λ t. t.since < 2 ^ 64) l) (sym e) is.in_range;
    }
