use Rattle.std.proofs.Common.{List, false, ap, arith, length, subst, sym, ℕ, ◌+◌, ◌≤◌, ◌^◌, ◌∙◌}
use Rattle.std.proofs.lemmas.List.Sorted.{length_permutation}
use Rattle.machine_settling.specs.Numbers.{gives_all, takes_all}
use Rattle.hub_state.specs.Found.{AreReady, Numbers, SeenFound, sinces_in}
use Rattle.hub_state.specs.Over.{with_held}
use Rattle.hub_state.proofs.Numbering.{ready_moved}
use Rattle.hub_state.proofs.found.Found.number.Goals as goal

pub number_all-requires-clause-ready : goal.number_all-requires-clause-ready
number_all-requires-clause-ready c =
    subst (AreReady false c.unnumber_all.new.held.entries) (sym c.deref-2.ensures.value)
    (ready_moved false c.unnumber_all.new.held.entries c.self.inside.gained.items c.sort.new.gained.items c.sort.ensures.moved
    (c.unnumber_all.ensures.kept c.self.inside.gained.items (subst (λ (f : SeenFound). AreReady false c.args.held.now.entries f.gained) (sym c.self.view_is) c.requires.gained)))

pub number_all-requires-clause-count : goal.number_all-requires-clause-count
number_all-requires-clause-count c =
    let same = length_permutation c.self.inside.gained.items c.sort.new.gained.items c.sort.ensures.moved in
    let all = ap length c.deref-2.ensures.value in
    let next = c.unnumber_all.ensures.next in
    let count = subst (λ (f : SeenFound). c.args.held.now.next + length f.gained ≤ 2 ^ 63) (sym c.self.view_is) c.requires.count in
    omega (arith, same, all, next, count)

pub returns : goal.returns
returns c =
    let lost = c.self.inside.lost.items in
    let gained = c.sort.new.gained.items in
    record {
      numbers = subst (λ (f : SeenFound). Numbers f (record { lost = lost; gained = gained; room = c.self.inside.room }) c.args.held.now c.number_all.new.held) c.self.view_is (record {
        moved = c.sort.ensures.moved;
        sorted = c.sort.ensures.sorted;
        is = λ s.
            c.number_all.ensures s
            ∙ ap (λ (ps : List (ℕ × ℕ)). gives_all (sinces_in ps) (with_held c.unnumber_all.new.held s)) c.deref-2.ensures.value
            ∙ ap (gives_all (sinces_in gained)) (c.unnumber_all.ensures.taken s ∙ ap (λ (ps : List (ℕ × ℕ)). takes_all (sinces_in ps) (with_held c.args.held.now s)) c.deref.ensures.value);
      });
      room = ap (λ (f : SeenFound). f.room) c.self.view_is;
    }
