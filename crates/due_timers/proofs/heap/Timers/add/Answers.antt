use Rattle.std.proofs.Common.{ap, arith, length, sym, subst, ◌≡◌, ◌∙◌, ◌∷◌, ◌++◌, [], List, ℕ, Contains, ◌<◌, ◌^◌, length-append}
use Rattle.std.specs.List.Sorted.{IsPermutation}
use Rattle.std.specs.List.{All}
use Rattle.std.specs.Vec.{with_items}
use Rattle.std.proofs.lemmas.List.Elements.{All-push}
use Rattle.std.proofs.lemmas.List.Sorted.{All-permutation, length_permutation, IsPermutation-trans, IsPermutation-sym, IsPermutation-to_front}
use Rattle.due_timers.specs.Places.{Has, Moves}
use Rattle.due_timers.specs.declared.heap.Timer.{Timer}
use Rattle.due_timers.specs.Heap.{timer, rank_at, IsNear, IsTied}
use Rattle.due_timers.specs.declared.limits.TheConstants.{MOST_TIMERS}
use Rattle.due_timers.specs.SeenTimers.{SeenTimers, items_in}
use Rattle.due_timers.proofs.Sifting.{ordered_last}
use Rattle.due_timers.proofs.Tying.{take_own}
use Rattle.due_timers.proofs.Timing.{ordered_same, near_pushed, tied_pushed, contains_item}
use Rattle.due_timers.proofs.heap.Timers.add.Goals as goal

pub set-requires-clause-place : goal.set-requires-clause-place
set-requires-clause-place c =
    let room = subst (λ (t : SeenTimers). 0 < t.spare) (sym c.self.view_is) c.requires.room in
    let n = c.len-at.ensures in
    let most = c.self.invariant.most in
    omega (arith, room, n, most)

pub sift_up-requires-clause-near : goal.sift_up-requires-clause-near
sift_up-requires-clause-near c =
    let xs = c.self.inside.heap.items in
    let t = timer c.args.item c.args.since c.args.deadline in
    let e : c.deref_mut.result.now ≡ xs ++ t ∷ [] = c.deref_mut.ensures.value ∙ c.push_reserved.ensures.items in
    let n : c.len-at.result ≡ length xs = (let l = c.len-at.ensures in omega arith) in
    subst (λ (m : ℕ). IsNear (rank_at c.deref_mut.result.now) (length c.deref_mut.result.now) m) (sym n) (subst (λ (l : List Timer). IsNear (rank_at l) (length l) (length xs)) (sym e) (near_pushed xs t c.self.invariant.ordered))

pub sift_up-requires-clause-tied : goal.sift_up-requires-clause-tied
sift_up-requires-clause-tied c =
    let xs = c.self.inside.heap.items in
    let t = timer c.args.item c.args.since c.args.deadline in
    let e : c.deref_mut.result.now ≡ xs ++ t ∷ [] = c.deref_mut.ensures.value ∙ c.push_reserved.ensures.items in
    let n : c.len-at.result ≡ length xs = (let l = c.len-at.ensures in omega arith) in
    let moves : Moves c.self.inside.places c.set.new.self t.item (length xs) = subst (λ m. Moves c.self.inside.places c.set.new.self c.args.item m) n c.set.ensures.moves in
    let absent : (k : ℕ) → Has c.self.inside.places c.args.item k → ⊥ = λ k h. (
    let l = c.self.invariant.tied.listed c.args.item k h in
    c.requires.absent (subst (λ ys. Contains (items_in ys) c.args.item) (ap (λ v. v.timers) c.self.view_is) (subst (λ q. Contains (items_in xs) q) l.1 (contains_item xs k l.0)))) in
    let room = subst (λ (t : SeenTimers). 0 < t.spare) (sym c.self.view_is) c.requires.room in
    let most = c.self.invariant.most in
    let more : length xs < MOST_TIMERS = omega (arith, room, most) in
    subst (λ (l : List Timer). IsTied l c.set.new.self) (sym e) (tied_pushed xs t c.self.inside.places c.set.new.self c.self.invariant.tied absent moves more)

pub returns-clause-added : goal.returns-clause-added
returns-clause-added c =
    let xs = c.self.inside.heap.items in
    let t = timer c.args.item c.args.since c.args.deadline in
    let e : c.deref_mut.result.now ≡ xs ++ t ∷ [] = c.deref_mut.ensures.value ∙ c.push_reserved.ensures.items in
    let a : IsPermutation (t ∷ xs) (xs ++ t ∷ []) = IsPermutation-sym (xs ++ t ∷ []) (t ∷ xs) (IsPermutation-to_front xs t) in
    let b : IsPermutation (xs ++ t ∷ []) c.sift_up.new.heap = subst (λ l. IsPermutation l c.sift_up.new.heap) e c.sift_up.ensures.same in
    let all : IsPermutation (t ∷ xs) c.sift_up.new.heap = IsPermutation-trans (t ∷ xs) (xs ++ t ∷ []) c.sift_up.new.heap a b in
    let seen : IsPermutation (t ∷ c.args.self.now.timers) c.sift_up.new.heap = subst (λ l. IsPermutation (t ∷ l) c.sift_up.new.heap) (ap (λ v. v.timers) c.self.view_is) all in
    subst (λ (l : List Timer). IsPermutation (t ∷ c.args.self.now.timers) l) (sym (take_own c.sift_up.new.heap _ c.push_reserved.new.self.len (omega arith))) seen

pub invariant_of-self : goal.invariant_of-self
invariant_of-self c =
    let xs = c.self.inside.heap.items in
    let t = timer c.args.item c.args.since c.args.deadline in
    let ys = c.sift_up.new.heap in
    let e : c.deref_mut.result.now ≡ xs ++ t ∷ [] = c.deref_mut.ensures.value ∙ c.push_reserved.ensures.items in
    let whole = (with_items c.push_reserved.new.self ys).items in
    let own : whole ≡ ys = take_own ys _ c.push_reserved.new.self.len (omega arith) in
    let moved : IsPermutation (xs ++ t ∷ []) ys = subst (λ l. IsPermutation l ys) e c.sift_up.ensures.same in
    let all : All (λ x. x.since < 2 ^ 64) (xs ++ t ∷ []) = All-push (λ x. x.since < 2 ^ 64) xs t c.self.invariant.in_range (let r = c.ranges.since.fits in omega arith) in
    let long = length-append xs (t ∷ []) in
    let same = length_permutation (xs ++ t ∷ []) ys moved in
    let cap = c.push_reserved.ensures.capacity in
    let fits = c.self.invariant.fits in
    let last = ordered_last (rank_at ys) (length ys) c.len-at.result (let l = c.len-at.ensures in omega arith) c.sift_up.ensures.down in
    let n = ap length own in
    let seen = ap (λ v. v.spare) c.self.view_is in
    record {
      ordered = ordered_same ys whole own last;
      tied = subst (λ l. IsTied l c.sift_up.new.places) (sym own) c.sift_up.ensures.tied;
      within = omega arith;
      fits = omega arith;
      most = c.self.invariant.most;
      in_range = subst (λ l. All (λ x. x.since < 2 ^ 64) l) (sym own) (All-permutation (λ x. x.since < 2 ^ 64) (xs ++ t ∷ []) ys moved all);
    }
