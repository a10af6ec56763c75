use Rattle.std.proofs.Common.{ap, arith, ◌^◌, sym, subst, ◌≡◌, ◌∙◌, ◌∷◌, ◌<◌, Contains, List, ℕ}
use Rattle.std.specs.Prelude.{slice_index_or}
use Rattle.std.specs.List.Sorted.{IsPermutation}
use Rattle.std.proofs.lemmas.List.Elements.{All-tail}
use Rattle.std.proofs.lemmas.List.Sorted.{All-permutation}
use Rattle.due_timers.specs.declared.heap.Timer.{Timer}
use Rattle.due_timers.specs.declared.limits.TheConstants.{MOST_TIMERS}
use Rattle.due_timers.specs.Heap.{IsTied}
use Rattle.due_timers.specs.Places.{Has}
use Rattle.due_timers.specs.SeenTimers.{items_in}
use Rattle.due_timers.proofs.Placing.{has_within}
use Rattle.due_timers.proofs.Timing.{item_of_contains}
use Rattle.due_timers.proofs.heap.Timers.cancel.Goals as goal

-- where the item stands
standing : (xs : List Timer) (places : List ℕ) (q at : ℕ) → IsTied xs places → Contains (items_in xs) q → at ≡ slice_index_or places q MOST_TIMERS → Has places q at
standing xs places q at tied there is =
    let k = item_of_contains xs q there in
    let h : Has places q k.0 = subst (λ p. Has places p k.0) k.2 (tied.placed k.0 k.1) in
    subst (λ j. Has places q j) (sym (is ∙ h.1)) h

pub at-at-requires : goal.at-at-requires
at-at-requires c =
    let xs = c.self.inside.heap.items in
    let there : Contains (items_in xs) c.args.item = subst (λ l. Contains (items_in l) c.args.item) (sym (ap (λ v. v.timers) c.self.view_is)) c.requires in
    let k = item_of_contains xs c.args.item there in
    has_within c.self.inside.places c.args.item k.0 (subst (λ q. Has c.self.inside.places q k.0) k.2 (c.self.invariant.tied.placed k.0 k.1))

pub take_at-requires-clause-within : goal.take_at-requires-clause-within
take_at-requires-clause-within c =
    let xs = c.self.inside.heap.items in
    let there : Contains (items_in xs) c.args.item = subst (λ l. Contains (items_in l) c.args.item) (sym (ap (λ v. v.timers) c.self.view_is)) c.requires in
    (c.self.invariant.tied.listed c.args.item c.at-at.result (standing xs c.self.inside.places c.args.item c.at-at.result c.self.invariant.tied there c.at-at.ensures)).0

pub invariant_of-self : goal.invariant_of-self
invariant_of-self c =
    let n = c.take_at.ensures.len in
    let cap = c.take_at.ensures.capacity in
    let f = c.self.invariant.fits in
    record {
      ordered = c.take_at.ensures.ordered;
      tied = c.take_at.ensures.tied;
      within = let a = c.self.invariant.within in omega arith;
      fits = omega arith;
      most = c.self.invariant.most;
      in_range = All-tail (λ t. t.since < 2 ^ 64) c.take_at.result c.take_at.new.heap.items (All-permutation (λ t. t.since < 2 ^ 64) c.self.inside.heap.items (c.take_at.result ∷ c.take_at.new.heap.items) c.take_at.ensures.same c.self.invariant.in_range);
    }

pub returns-clause-taken : goal.returns-clause-taken
returns-clause-taken c =
    let xs = c.self.inside.heap.items in
    let there : Contains (items_in xs) c.args.item = subst (λ l. Contains (items_in l) c.args.item) (sym (ap (λ v. v.timers) c.self.view_is)) c.requires in
    let stands = standing xs c.self.inside.places c.args.item c.at-at.result c.self.invariant.tied there c.at-at.ensures in record {
      timer = c.take_at.result;
      item_is = ap (λ t. t.item) c.take_at.ensures.timer ∙ (c.self.invariant.tied.listed c.args.item c.at-at.result stands).1;
      rest = subst (λ l. IsPermutation l (c.take_at.result ∷ c.take_at.new.heap.items)) (ap (λ v. v.timers) c.self.view_is) c.take_at.ensures.same;
      holds = tt;
    }

pub returns-clause-spare : goal.returns-clause-spare
returns-clause-spare c =
    let n = c.take_at.ensures.len in
    let v = ap (λ v. v.spare) c.self.view_is in
    let w = c.self.invariant.within in
    omega arith
